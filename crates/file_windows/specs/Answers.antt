-- The results of the calls that read an index file from the disk (the library's own).
use Rattle.std.specs.Prelude.{◌≡◌, ℕ, Bool, List, Ok, Option, IfSome, true}
use Rattle.entry_list.specs.Record.{AreBytes, IdsAreOf, Record}
use Rattle.file_place.specs.World.{Stored}
use Rattle.index_model.specs.Answer.{IsAnswer, IsEnding}
use Rattle.index_model.specs.Contents.{ExtensionIdsAreOf, PartsInStorage, parts_contents, parts_entries}
use Rattle.index_model.specs.Storable.{IsStorable}
use Rattle.index_decode.specs.ReadParts.{AreOfKind}
use Rattle.index_decode.specs.Behind.{FollowEntries}
use Rattle.file_windows.specs.Intact.{IsIntact}
use Rattle.file_windows.specs.declared.ReadOptions.{ReadOptions}
use Rattle.file_windows.specs.declared.plan.Plan.{Plan}
use Rattle.file_windows.specs.declared.windows.WindowedIndex.{WindowedIndex}

-- These are all bytes of the file, if it is known.
abbrev pub IsAllOf : Option Stored → List ℕ → Type 0
IsAllOf stored bytes = IfSome stored (λ whole. bytes ≡ whole.bytes)

-- These are all remaining bytes of the file, if they are known.
abbrev pub IsAllLeft : Option (List ℕ) → List ℕ → Type 0
IsAllLeft remaining bytes = IfSome remaining (λ left. bytes ≡ left) × AreBytes bytes

-- The index is the one in some bytes, for which `Held` holds. Its paths are in its storage, and it can be stored. Its
-- ids have its hash algorithm.
pub record IsWindowed (reading : ReadOptions) (keeps_ending : Bool) (Held : List ℕ → Type 0) (x : WindowedIndex)
    : Type 0 where
  pub read : (bytes : List ℕ) × Held bytes × IsIntact reading.skip_hash reading.object_hash bytes
      × IsAnswer reading.object_hash reading.timestamp reading.options bytes (Ok (parts_contents x.parts, x.checksum))
      × (keeps_ending ≡ true → FollowEntries reading.object_hash bytes x.ending.items)
  pub placed : PartsInStorage x.parts
  pub ids : IdsAreOf reading.object_hash (parts_entries x.parts)
  pub storable : IsStorable (parts_contents x.parts)
  pub extension_ids : ExtensionIdsAreOf reading.object_hash (parts_contents x.parts).extensions

-- The index for these entries and the bytes that follow them. Its paths are in its storage, and its ids have the plan's
-- hash algorithm.
pub record IsEndingBy (plan : Plan) (reading : ReadOptions) (records : List Record) (bytes : List ℕ) (x : WindowedIndex)
    : Type 0 where
  pub ending : IsEnding plan.kind reading.timestamp reading.options plan.version records bytes
      (Ok (parts_contents x.parts, x.checksum))
  pub behind : x.ending.items ≡ bytes
  pub parts : AreOfKind plan.kind x.parts
