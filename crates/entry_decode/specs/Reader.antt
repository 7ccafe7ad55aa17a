-- The state of a reader of entries, and the result of a step (gitformat-index, "Index entry").
use Rattle.std.specs.Prelude.{◌≡◌, ℕ, ◌+◌, List, length, Option, Some}
use Rattle.std.specs.Option.{option_map}
use Rattle.index_parts.specs.declared.hash.Kind.{Kind}
use Rattle.entry_list.specs.declared.Version.{Version}
use Rattle.entry_decode.specs.Lent.{HasNoEntry, IsBorrowedEntry}
use Rattle.entry_decode.specs.declared.entry.Lent.{Lent}

-- the bytes after the entries, and the length of the path before them, if there is one
pub record LeftToRead : Type 0 where
  pub version : Version
  pub kind : Kind
  pub room : Option ℕ
  pub rest : List ℕ

-- the result is the entry at the start; the bytes after it are left, after its path
abbrev pub Lends : LeftToRead → Lent → LeftToRead → Type 0
Lends old lent new =
    IsBorrowedEntry old.version old.kind old.room old.rest lent new.rest
    × (new ≡ record {
      version = old.version;
      kind = old.kind;
      room = Some (lent.shared + length lent.path.now);
      rest = new.rest;
    })

-- the bytes begin with no entry, and the state is unchanged
abbrev pub LendsNone : LeftToRead → LeftToRead → Type 0
LendsNone old new = HasNoEntry old.version old.kind old.room old.rest × (new ≡ old)

-- the bytes that are left are after this path, or after no path
pub record IsBehind (version : Version) (kind : Kind) (previous : Option (List ℕ)) (left : LeftToRead) : Type 0 where
  pub version_is : left.version ≡ version
  pub kind_is : left.kind ≡ kind
  pub room_is : option_map length previous ≡ left.room
