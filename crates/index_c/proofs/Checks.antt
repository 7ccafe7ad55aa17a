-- What a status of a check states about bytes, by what is reported of it.
use Rattle.std.proofs.Common.{◌≡◌, ◌⊎◌, ℕ, List, Bool, None, Ok, Err, inl, inr}
use Rattle.std.specs.Prelude.{Result, IfErr, IfOk}
use Rattle.gix_index.specs.Kind.{Kind}
use Rattle.index_c.specs.Checking.{AreUnsoundBoth, IsCheckResult, IsUnsoundIndex, CheckCodes}
use Rattle.index_c.specs.Joined.{AreRefusedBoth, LackMemory}
use Rattle.index_c.specs.Summaries.{IsRefusedIndex, IsUnread}
use Rattle.index_c.specs.declared.check.Found.{Found}
use Rattle.index_c.specs.declared.summary.Summary.{Summary}
use Rattle.capi_table.specs.Joining.{AreReadSo, FailBoth}
use Rattle.capi_table.specs.Reading.{FailsOwn, IsReadSo}
use Rattle.capi_table.specs.declared.fault.Failure.{Failure}
use Rattle.capi_table.proofs.Joins.{both_weaker, read_weaker}
use Rattle.capi_table.proofs.Refusals.{lacks_from}
use Rattle.index_c.proofs.Refusals.{lack_both, refused_both, refused_from, unread_from}
use Rattle.index_c.proofs.Tellings.{memory_by, unsound_by}

module _ (skip : Bool) (kind : Kind) (bytes : List ℕ) (status : ℕ) (s : Summary) where
  -- ---- of an index alone

  pub check_refused : (r : Result Found Failure) → IfOk r (λ found. IsReadSo skip kind bytes (IsCheckResult found))
      → IfErr r (FailsOwn skip kind bytes) → CheckCodes r status s → status ≡ 1
      → IsRefusedIndex skip kind bytes s ⊎ IsUnsoundIndex skip kind bytes s
  check_refused (Ok found) h q t is =
      inr (read_weaker skip kind bytes _ _
      (λ v f. unsound_by found.judged found.sizes status s t is v f.sizes_are f.judged) h)
  check_refused (Err failure) h q t is = inl (refused_from skip kind bytes failure status s t q is)

  pub check_unread : (r : Result Found Failure) → IfOk r (λ found. IsReadSo skip kind bytes (IsCheckResult found))
      → IfErr r (FailsOwn skip kind bytes) → CheckCodes r status s → status ≡ 2 → IsUnread skip kind bytes s
  check_unread (Ok found) h q t is = record {
    lacks = lacks_from None skip kind bytes h.value h.checksum h.read;
    tells = memory_by found.judged found.sizes status s t is;
  }
  check_unread (Err failure) h q t is = unread_from skip kind bytes failure status s t q is

  -- ---- of both

  pub both_refused : (shared : List ℕ) (r : Result Found Failure)
      → IfOk r (λ found. AreReadSo skip kind bytes shared (IsCheckResult found))
      → IfErr r (FailBoth skip kind bytes shared) → CheckCodes r status s → status ≡ 1
      → AreRefusedBoth skip kind bytes shared s ⊎ AreUnsoundBoth skip kind bytes shared s
  both_refused shared (Ok found) h q t is =
      inr (both_weaker skip kind bytes shared _ _
      (λ v f. unsound_by found.judged found.sizes status s t is v f.sizes_are f.judged) h)
  both_refused shared (Err failure) h q t is = inl (refused_both skip kind bytes failure status s t shared q is)

  pub both_lack : (shared : List ℕ) (r : Result Found Failure)
      → IfOk r (λ found. AreReadSo skip kind bytes shared (IsCheckResult found))
      → IfErr r (FailBoth skip kind bytes shared) → CheckCodes r status s → status ≡ 2
      → LackMemory skip kind bytes shared s
  both_lack shared (Ok found) h q t is = record {
    own = lacks_from None skip kind bytes h.value h.checksum h.read;
    whose = inl (memory_by found.judged found.sizes status s t is);
  }
  both_lack shared (Err failure) h q t is = lack_both skip kind bytes failure status s t shared q is
