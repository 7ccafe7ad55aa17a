-- The values that a file can store, so that reading what was written gives them again (gitformat-index, "Index entry",
-- "Cache tree").
use Rattle.std.specs.Prelude.{◌≡◌, ◌≢◌, ◌<◌, ◌≤◌, ◌^◌, All, IfSome, length, true, false, None}
use Rattle.index_parts.specs.Id.{id_kind}
use Rattle.index_parts.specs.declared.hash.Kind.TheVariants.{Sha1}
use Rattle.index_extensions.specs.EndMarker.{IsMarker}
use Rattle.ext_tree.specs.StoredTree.{IsStorableTree}
use Rattle.entry_list.specs.declared.write.VersionChoice.{VersionChoice}
use Rattle.entry_list.specs.declared.write.VersionChoice.TheVariants as choices
use Rattle.entry_list.specs.EntryImage.{LackNul}
use Rattle.entry_list.specs.Record.{IsSized}
use Rattle.ext_encode.specs.ResolveUndoImage.{AreSpellablePaths}
use Rattle.index_model.specs.declared.write.Options.{Options}
use Rattle.index_model.specs.Image.{image, is_kept, marks_extensions, unmarked}
use Rattle.index_model.specs.Keepable.{AreKeepable}
use Rattle.index_model.specs.Contents.{Contents}

-- The ids of all entries, also of those that a file omits, are of the value's hash algorithm, and all numbers fit their
-- bits. A path that the length field can't count contains no NUL. The cache tree, if there is one, can be encoded.
pub record IsStorable (v : Contents) : Type 0 where
  pub ids : All (λ r. id_kind r.id ≡ v.kind) v.records
  pub paths : All (λ r. 4095 ≤ length r.path → All (λ b. b ≢ 0) r.path) v.records
  pub fits : All IsSized v.records
  pub tree : IfSome v.extensions.tree (IsStorableTree v.kind)

-- in version 4 no path that is written contains a NUL
abbrev pub CanEncode : VersionChoice → Contents → Type 0
CanEncode choices.Smallest v = Unit {0}
CanEncode choices.V4 v = LackNul v.records

-- the limits of a file are not exceeded, and its version can encode all paths: the value isn't rejected by the writer
pub record IsWritable (v : Contents) (options : Options) : Type 0 where
  pub few : length v.records < 2 ^ 32
  pub paths : CanEncode options.version v
  pub small : length (unmarked v options) < 2 ^ 32

-- a file of SHA-1 that has no end marker after other extensions doesn't end as if it had one
abbrev pub IsUnmistakable : Contents → Options → Type 0
IsUnmistakable v options = v.kind ≡ Sha1 → marks_extensions v options ≡ false → IsMarker v.kind (image v options) None

-- resolve-undo, if there is any, can be encoded
abbrev pub CanKeepUndo : Contents → Type 0
CanKeepUndo v = IfSome v.extensions.resolve_undo (AreSpellablePaths v.kind)

-- if all extensions that match are written, resolve-undo, an untracked cache and a monitor's answer can be encoded
abbrev pub IsKeepable : Contents → Options → Type 0
IsKeepable v options = is_kept options.extensions ≡ true → AreKeepable v.kind v.extensions
