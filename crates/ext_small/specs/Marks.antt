-- The values that the offset table and the end marker of a file encode (gitformat-index, "Index Entry Offset Table" and
-- "End of Index Entry"), correct or not.
use Rattle.std.specs.Prelude.{◌≡◌, ℕ, ◌<◌, List, [], ◌++◌, codes, length}
use Rattle.std.specs.Option.{option_map}
use Rattle.index_extensions.specs.ExtensionValue.{IsValue, first_content, last_content}
use Rattle.index_parts.specs.Id.{id_len, make_id}
use Rattle.index_parts.specs.declared.hash.Kind.{Kind}
use Rattle.index_parts.specs.Numbers.{be}
use Rattle.ext_small.specs.OffsetTable.{IsTable}
use Rattle.index_extensions.specs.Walk.{Item, IsWalk}
use Rattle.ext_small.specs.declared.marks.EndMark.{EndMark}
use Rattle.ext_small.specs.declared.marks.MarkBytes.{MarkBytes}
use Rattle.ext_small.specs.declared.marks.Marks.{Marks}

-- the content of an end marker: the offset in four bytes, and the digest
pub record IsEndMark (kind : Kind) (content : List ℕ) (m : EndMark) : Type 0 where
  pub offset : List ℕ
  pub digest : List ℕ
  pub parts : content ≡ offset ++ digest
  pub offset_len : length offset ≡ 4
  pub digest_len : length digest ≡ id_len kind
  pub is_offset : m.offset ≡ be offset
  pub is_digest : m.digest ≡ make_id kind digest

-- The extensions at the end of a file, which are followed by its trailer. There are none if the bytes are fewer than a
-- trailer has.
pub data HasExtensions (kind : Kind) (ending : List ℕ) (items : List Item) : Type 0 where
  short : length ending < id_len kind → items ≡ [] → HasExtensions kind ending items
  walked : (extensions trailer tail : List ℕ) → ending ≡ extensions ++ trailer → length trailer ≡ id_len kind
      → IsWalk extensions items tail → HasExtensions kind ending items

-- the content of the first table, and that of the last marker
pub record HasMarkBytes (items : List Item) (c : MarkBytes) : Type 0 where
  pub table : option_map (λ b. b.now) c.table ≡ first_content (codes "IEOT") items
  pub end : option_map (λ b. b.now) c.end ≡ last_content (codes "EOIE") items

-- The value of each, if these bytes follow the entries. It is None if the content encodes no value, and if the file
-- lacks the extension.
pub record AreMarks (kind : Kind) (ending : List ℕ) (m : Marks) : Type 0 where
  pub items : List Item
  pub has : HasExtensions kind ending items
  pub table : IsValue IsTable (first_content (codes "IEOT") items) (option_map (λ v. v.items) m.table)
  pub end : IsValue (IsEndMark kind) (last_content (codes "EOIE") items) m.end
