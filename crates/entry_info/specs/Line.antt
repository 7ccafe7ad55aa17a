-- The content of a line: `mode SP type SP sha1 TAB path`, `mode SP sha1 SP stage TAB path` or `mode SP sha1 TAB path`
-- (git-update-index, "USING --INDEX-INFO").
use Rattle.std.specs.Prelude.{ℕ, ◌+◌, ◌*◌, ◌==◌, ◌&&◌, nat_eq, not, Bool, List, codes, length, take, drop}
use Rattle.std.specs.Prelude.{Option, Some, None, option_map, position, Result, Ok, Err, if◌then◌else◌}
use Rattle.std.specs.List.{starts_with}
use Rattle.std.specs.Str.{byte, bytes_eq}
use Rattle.hex.specs.Hex.{decode_sized}
use Rattle.hex.specs.declared.error.FromHexError.{FromHexError}
use Rattle.index_parts.specs.Id.{id_len, make_id}
use Rattle.index_parts.specs.Octal.{octal_number}
use Rattle.index_parts.specs.declared.hash.Kind.{Kind}
use Rattle.index_parts.specs.declared.hash.ObjectId.{ObjectId}
use Rattle.entry_list.specs.declared.Pathless.{Pathless}
use Rattle.entry_fields.specs.Flags.{stage_code}
use Rattle.entry_fields.specs.declared.entry.flags.Stage.{Stage}
use Rattle.entry_fields.specs.declared.entry.flags.Stage.TheVariants as stages
use Rattle.entry_fields.specs.declared.entry.stat.Stat.{Stat}
use Rattle.entry_info.specs.Mode.{kept_mode}
use Rattle.entry_info.specs.Quoting.{unquoted}
use Rattle.entry_info.specs.declared.error.Fault.{Fault}
use Rattle.entry_info.specs.declared.error.Fault.TheVariants as faults

-- a change that a line requests: an entry that is staged, or None if the path is removed
pub record ChangeValue : Type 0 where
  pub entry : Option Pathless
  pub path : List ℕ

-- a part of a line, or the error in it
abbrev pub Read : Type 0 → Type 0
Read A = Result A Fault

infixl 10 ◌>>=◌
abbrev pub ◌>>=◌ : {A B : Type 0} → Read A → (A → Read B) → Read B
Ok x >>= f = f x
Err e >>= f = Err e

abbrev pub map_read : {A B : Type 0} → (A → B) → Read A → Read B
map_read f (Ok x) = Ok (f x)
map_read f (Err e) = Err e

-- a value that is required
abbrev pub or_else : {A : Type 0} → Fault → Option A → Read A
or_else fault (Some x) = Ok x
or_else fault None = Err fault

-- the text before and after the first byte of this value
abbrev pub split_at_first : ℕ → List ℕ → Option (List ℕ × List ℕ)
split_at_first b text = option_map (λ at. (take at text, drop (at + 1) text)) (position (λ x. x == b) text)

-- ---- before the tab

-- the stage with this digit
abbrev pub stage_given : List ℕ → Read Stage
stage_given text =
    if bytes_eq text (codes "0") then Ok stages.Unconflicted
    else (if bytes_eq text (codes "1") then Ok stages.Base
    else (if bytes_eq text (codes "2") then Ok stages.Ours
    else (if bytes_eq text (codes "3") then Ok stages.Theirs
    else Err faults.Stage)))

-- an id of this hash algorithm, from its number of digits of base 16
abbrev pub id_so : Kind → Result (List ℕ) FromHexError → Read ObjectId
id_so kind (Ok bytes) = Ok (make_id kind bytes)
id_so kind (Err e) = Err (faults.Id (2 * id_len kind))

abbrev pub id_given : Kind → List ℕ → Read ObjectId
id_given kind text = id_so kind (decode_sized text (id_len kind))

-- If two fields follow the mode, a second one of one character is the stage after the id. Otherwise the first is the
-- type, which is ignored. An id alone is of stage 0.
abbrev pub type_and_id : List ℕ → Option (List ℕ × List ℕ) → Read (List ℕ × List ℕ)
type_and_id id None = Ok (id, codes "0")
type_and_id id (Some p) = Err faults.Words

abbrev pub two_words : List ℕ → List ℕ → Read (List ℕ × List ℕ)
two_words first second =
    if length second == 1 then Ok (first, second) else type_and_id second (split_at_first (byte " ") second)

abbrev pub id_and_stage_of : List ℕ → Option (List ℕ × List ℕ) → Read (List ℕ × List ℕ)
id_and_stage_of text None = Ok (text, codes "0")
id_and_stage_of text (Some p) = two_words p.0 p.1

-- stat numbers of zero: an entry that is staged so was not compared with the work tree
abbrev pub unseen : Stat
unseen = record {
  mtime = record { secs = 0; nsecs = 0 };
  ctime = record { secs = 0; nsecs = 0 };
  dev = 0;
  ino = 0;
  uid = 0;
  gid = 0;
  size = 0;
}

-- the entry with this mode, None if the mode is 0
abbrev pub entry_so : ℕ → Stage → ObjectId → Option Pathless
entry_so mode stage id =
    if mode == 0 then None
    else Some (record {
      stat = unseen;
      id = id;
      flags = record { 0 = stage_code stage * 4096 };
      mode = record { 0 = kept_mode mode };
    })

-- the entry of the text before the tab
unfoldable pub entry_given : Kind → List ℕ → Read (Option Pathless)
entry_given kind head = do
  p ← or_else faults.NoId (split_at_first (byte " ") head)
  q ← id_and_stage_of p.1 (split_at_first (byte " ") p.1)
  mode ← or_else faults.Mode (octal_number p.0)
  stage ← stage_given q.1
  id ← id_given kind q.0
  Ok (entry_so mode stage id)

-- ---- a complete line

-- the path; if it begins with a double quote it is quoted, except if lines end in a NUL
abbrev pub path_given : Bool → List ℕ → Read (List ℕ)
path_given nul text =
    if not nul && starts_with nat_eq text (codes "\"") then or_else faults.Quoting (unquoted (drop 1 text)) else Ok text

-- the change that a line requests, or the first error in it
unfoldable pub change_of : Bool → Kind → List ℕ → Read ChangeValue
change_of nul kind line = do
  p ← or_else faults.NoTab (split_at_first (byte "\t") line)
  entry ← entry_given kind p.0
  path ← path_given nul p.1
  Ok (record { entry = entry; path = path })
