-- The time of an index that was read is that for which it was read.
use Rattle.std.proofs.Common.{◌≡◌, ℕ, Bool, List, Option, Some, None, Ok, sym, ap, subst, ◌∙◌}
use Rattle.index_parts.specs.declared.hash.Kind.{Kind}
use Rattle.index_parts.specs.declared.hash.ObjectId.{ObjectId}
use Rattle.entry_fields.specs.declared.entry.stat.FileTime.{FileTime}
use Rattle.index_model.specs.declared.decode.Options.{Options}
use Rattle.ext_split.specs.Link.{BitmapPair}
use Rattle.index_state.specs.Dissolve.{MergesBy}
use Rattle.index_state.specs.Edits.{without_link}
use Rattle.index_model.specs.Contents.{Contents}
use Rattle.index_model.proofs.ReadValues.{value_is}
use Rattle.gix_index.proofs.Joined.{answer_read}
use Rattle.gix_index.specs.Checked.{IsFileAnswer}
use Rattle.file_place.specs.World.{MayBe}
use Rattle.gix_index.specs.Disk.{Disk}
use Rattle.gix_index.specs.Linked.{IsOnDisk, IsOnDiskSince, own, joined}

module _ (skip : Bool) (kind : Kind) (options : Options) where
  answer_time : (time : FileTime) (bytes : List ℕ) (v : Contents) (c : Option ObjectId)
      → IsFileAnswer skip kind time options bytes (Ok (v, c)) → v.time ≡ time
  answer_time time bytes v c h =
      ap (λ (w : Contents). w.time) (value_is kind time options bytes v c (answer_read skip kind time options bytes v c h)).is

  merged_time : (b : Option BitmapPair) (shared old new : Contents) → MergesBy b shared old new → new.time ≡ old.time
  merged_time None shared old new h = ap (λ (v : Contents). v.time) h
  merged_time (Some b) shared old new h = ap (λ (v : Contents). v.time) h.others

  pub disk_time : (disk : Disk) (time : FileTime) (v : Contents) (c : Option ObjectId)
      → IsOnDisk disk skip kind time options v c → v.time ≡ time
  disk_time disk time v c (own h) =
      ap (λ (w : Contents). w.time) h.is ∙ answer_time time h.read.bytes h.split c h.read.read
  disk_time disk time v c (joined h) =
      merged_time h.link.bitmaps h.shared (without_link h.split) v h.dissolved.merged
      ∙ answer_time time h.is_split.read.bytes h.split c h.is_split.read.read

  -- with the time of the file
  pub since : (disk : Disk) (time : FileTime) (v : Contents) (c : Option ObjectId)
      → MayBe disk.own (λ file. time ≡ file.time) → IsOnDisk disk skip kind time options v c
      → IsOnDiskSince disk skip kind options v c
  since disk time v c m h = record {
    read = subst (λ t. IsOnDisk disk skip kind t options v c) (sym (disk_time disk time v c h)) h;
    since = subst (λ t. MayBe disk.own (λ file. t ≡ file.time)) (sym (disk_time disk time v c h)) m;
  }
