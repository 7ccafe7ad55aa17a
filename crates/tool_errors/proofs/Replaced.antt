-- What was read or made under the lock of a file, and then replaced that file.
use Rattle.std.proofs.Common.{◌≡◌, ℕ, Bool, true, List, Option, Result, Ok, Err, Some, [], subst, ◌∙◌}
use Rattle.std.specs.Prelude.{IfErr, OnOk}
use Rattle.gix_index.specs.Contents.{Contents}
use Rattle.gix_index.specs.File.{state_of}
use Rattle.gix_index.specs.InPlace.{IsPutSince}
use Rattle.gix_index.specs.InPlace.Locks.{asked_of}
use Rattle.gix_index.specs.InPlace.Place.{Place}
use Rattle.gix_index.specs.State.{contents}
use Rattle.gix_index.specs.Disk.World.{World}
use Rattle.gix_index.specs.WriteOptions.{Options}
use Rattle.gix_index.specs.WrittenFile.{IsWrittenTo}
use Rattle.gix_index.specs.declared.file.File.{File}
use Rattle.tool_errors.specs.Storing.{FailsCommitting, FailsStoring, IsReplaced, IsUnderLock, unwritten}
use Rattle.tool_errors.specs.declared.failure.Failure.{Failure}

module _ (guards : Bool) (old mid : World) (to : List ℕ) (place : Place) (locked : IsUnderLock guards old mid to place) where
  module _ (alone before : Bool) (new : World) (index : File) (options : Options) (known : Option (List ℕ))
      (Read : World → File → Type 0) (chosen : File → Options) (same : alone ≡ before)
      (empty : before ≡ true → known ≡ Some []) (read : Read mid index) (is : options ≡ chosen index) where
    pub replaced : ((written : File) × IsWrittenTo (asked_of place) index written options)
        → (alone ≡ true → known ≡ Some [] → IsPutSince mid new place (contents (state_of index)) options)
        → IsReplaced before guards old new to Read chosen
    replaced h p = record {
      place = place;
      mid = mid;
      locked = locked;
      index = index;
      read = read;
      written = h.0;
      is_written = subst (λ (o : Options). IsWrittenTo to index h.0 o) is
          (subst (λ (l : List ℕ). IsWrittenTo l index h.0 options) locked.asked h.1);
      put = λ e. subst (λ (o : Options). IsPutSince mid new place (contents (state_of index)) o) is
          (p (same ∙ e) (empty e));
    }

    pub replaced_on_ok : {T E : Type 0} (r : Result T E)
        → OnOk r ((written : File) × IsWrittenTo (asked_of place) index written options)
        → OnOk r (alone ≡ true → known ≡ Some [] → IsPutSince mid new place (contents (state_of index)) options)
        → OnOk r (IsReplaced before guards old new to Read chosen)
    replaced_on_ok (Ok x) h p = replaced h p
    replaced_on_ok (Err e) h p = tt

  pub unwritten_on_err : {T : Type 0} (works before : Bool) (Fault : World → Failure → Type 0) (value : Contents)
      (options : Options) (r : Result T Failure) → works ≡ before
      → IfErr r (FailsCommitting works place value options to) → IfErr r (FailsStoring before guards old to Fault)
  unwritten_on_err works before Fault value options (Ok x) same h = tt
  unwritten_on_err works before Fault value options (Err f) same h = unwritten place mid locked value options
      (subst (λ (b : Bool). FailsCommitting b place value options to f) same h)
