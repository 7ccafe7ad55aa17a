-- The readable remains of a file that may be damaged: the front of its entries, its first error, and the link to a
-- shared index if that is complete (gitformat-index, "Split index", "Sparse Directory Entries").
use Rattle.std.specs.Prelude.{◌≡◌, ℕ, ◌-◌, nat_eq, ◌||◌, Bool, true, false, List, [], ◌∷◌, length, codes, drop, take}
use Rattle.std.specs.Prelude.{slice_get, Option, Some, None, IfSome, Ok, Err, if◌then◌else◌}
use Rattle.std.specs.Cmp.Lexicographic.{pointwise}
use Rattle.std.specs.List.{list_any}
use Rattle.std.specs.Option.{option_map}
use Rattle.gix_index.specs.Contents.{Contents}
use Rattle.gix_index.specs.DecodeError.{Error}
use Rattle.gix_index.specs.DecodeError.TheVariants as errors
use Rattle.gix_index.specs.Edits.{empty_contents, with_records}
use Rattle.gix_index.specs.ExtensionError.TheVariants as extensions
use Rattle.gix_index.specs.ExtensionValue.{IsValue, option_or}
use Rattle.gix_index.specs.Header.{count_of, header_of}
use Rattle.gix_index.specs.HeaderErrors.{header_fault}
use Rattle.gix_index.specs.Id.{id_bytes, is_null}
use Rattle.gix_index.specs.Kind.{Kind}
use Rattle.gix_index.specs.Link.{IsLink, LinkValue, link_of}
use Rattle.gix_index.specs.ObjectId.{ObjectId}
use Rattle.gix_index.specs.Record.{has_directory}
use Rattle.gix_index.specs.State.{PathsInStorage, contents, records}
use Rattle.gix_index.specs.StateType.{State}
use Rattle.gix_index.specs.Storable.{IsStorable}
use Rattle.view_salvage.specs.Division.{Divides}
use Rattle.view_layout.specs.declared.part.Part.{Part}
use Rattle.view_layout.specs.declared.part.What.{What}
use Rattle.view_layout.specs.declared.part.What.TheVariants as whats
use Rattle.view_salvage.specs.declared.remains.Error.{Error as RemainsError}
use Rattle.view_salvage.specs.declared.remains.Error.TheVariants as refusals
use Rattle.view_salvage.specs.declared.remains.Remains.{Remains}

-- ---- the offset of the first error, and whether a shared index has entries too

abbrev pub begin_or_zero : Option Part → ℕ
begin_or_zero None = 0
begin_or_zero (Some p) = p.offset

-- The offset of the last part, which begins with the first error, if there is one.
abbrev pub last_begin : List Part → ℕ
last_begin parts = begin_or_zero (slice_get parts (length parts - 1))

-- Whether it is the head of a link to a shared index.
abbrev pub is_link_head : What → Bool
is_link_head (whats.ExtensionHead signature) = pointwise nat_eq signature (codes "link")
is_link_head what = false

-- Whether the error is that of a link.
abbrev pub is_link_fault : Option Error → Bool
is_link_fault (Some (errors.Extension (extensions.Link e))) = true
is_link_fault e = false

-- Whether a link is among the parts, or has the first error.
abbrev pub has_link : List Part → Option Error → Bool
has_link parts e = list_any (λ p. is_link_head p.what) parts || is_link_fault e

-- ---- the complete link

-- Whether it is the content of a link to a shared index.
abbrev pub is_link_content : What → Bool
is_link_content (whats.ExtensionContent signature) = pointwise nat_eq signature (codes "link")
is_link_content what = false

-- The last of the parts that is the content of a link. All entries are before it, and no error is.
abbrev pub last_link : List Part → Option Part
last_link [] = None
last_link (p ∷ parts) = option_or (last_link parts) (if is_link_content p.what then Some p else None)

-- The bytes of a file in a part.
abbrev pub part_bytes : List ℕ → Part → List ℕ
part_bytes bytes p = take p.len (drop p.offset bytes)

abbrev pub link_content : List ℕ → List Part → Option (List ℕ)
link_content bytes parts = option_map (part_bytes bytes) (last_link parts)

-- The complete link among the parts of these bytes, or none.
abbrev pub IsLinkAmong : Kind → List ℕ → List Part → Option LinkValue → Type 0
IsLinkAmong kind bytes parts link = IsValue (IsLink kind) (link_content bytes parts) link

-- The id of the shared index that a link names, unless it is null.
abbrev pub wanted_id : Option LinkValue → Option ObjectId
wanted_id None = None
wanted_id (Some l) = if is_null (id_bytes l.shared) then None else Some l.shared

-- ---- the result

-- The contents marked as a sparse index, or not marked. Everything else stays.
abbrev pub with_mark : Contents → Bool → Contents
with_mark c sparse = record c { extensions = record c.extensions { sparse = sparse } }

-- An index has only its entries, and is marked as sparse if an entry is a sparse directory. A file can store it.
pub record IsPlainIndex (s : State) : Type 0 where
  pub alone : contents s ≡ with_mark (with_records (empty_contents (contents s).kind (contents s).time) (records s))
      (has_directory (records s))
  pub placed : PathsInStorage s
  pub storable : IsStorable (contents s)

-- The readable entries of a file with a header, up to its first error, its link, and the other facts about them.
pub record Remain (kind : Kind) (bytes : List ℕ) (r : Remains) : Type 0 where
  pub header : header_of kind bytes ≡ Ok r.version
  pub parts : List Part
  pub divides : Divides kind bytes (records r.front) parts (option_map (λ f. f.error) r.fault)
  pub declared : r.declared ≡ count_of bytes
  pub offset : IfSome r.fault (λ f. f.offset ≡ last_begin parts)
  pub has_link : r.has_link ≡ has_link parts (option_map (λ f. f.error) r.fault)
  pub link : IsValue (IsLink kind) (link_content bytes parts) (option_map link_of r.link)

-- The header has this error. Nothing is stated about an allocation failure.
abbrev pub RemainsCause : Kind → List ℕ → RemainsError → Type 0
RemainsCause kind bytes (refusals.Header e) = header_of kind bytes ≡ Err (header_fault e)
RemainsCause kind bytes refusals.Memory = Unit {0}
