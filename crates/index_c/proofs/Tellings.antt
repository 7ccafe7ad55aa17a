-- What a status states about what was read, by what is reported of it.
use Rattle.std.proofs.Common.{◌≡◌, ℕ, Option, Some, None, Ok, Err, arith, sym, ap, ◌∙◌}
use Rattle.std.specs.Prelude.{Result, IfErr, IfOk, IfSome, IsSomeAnd, MatchOption}
use Rattle.gix_index.specs.Contents.{Contents}
use Rattle.gix_index.specs.Kind.{Kind}
use Rattle.index_c.specs.Checking.{HasCheckFault, IsCheckResult, IsFoundSound, IsFoundUnsound, IsJudged, CheckCodes}
use Rattle.index_c.specs.Checking.{FoundCodes, checked_sizes, flaw_number, flaw_place, unsound_summary}
use Rattle.index_c.specs.Numbers.{kind_numbered}
use Rattle.index_c.specs.Summaries.{IsSummaryWith, ReadCodes, FailureCodes, MemoryCodes, size_summary}
use Rattle.index_c.specs.declared.check.Flaw.{Flaw}
use Rattle.index_c.specs.declared.check.Found.{Found}
use Rattle.index_c.specs.declared.summary.Summary.{Summary}
use Rattle.capi_table.specs.Reading.{HasSizes, IfFailed, IfNoRoom}
use Rattle.capi_table.specs.declared.fault.Failure.{Failure}
use Rattle.capi_table.specs.declared.read.Sizes.{Sizes}
use Rattle.capi_table.specs.declared.read.Unread.{Unread}
use Rattle.capi_table.specs.declared.read.Unread.TheVariants.{NoRoom, Failed}
use Rattle.index_c.proofs.Refusals.{never_done, never_no_room}

-- what a number asks for
pub with_kind : (n : ℕ) (P : Kind → Type 0) (kind : Kind) → Some kind ≡ kind_numbered n → P kind
    → IsSomeAnd (kind_numbered n) P
with_kind n P kind e h = rw (sym e) h

-- a way to read bytes as a value of which something holds, and that less holds then
abbrev pub Weakens : ((Contents → Type 0) → Type 0) → Type 1
Weakens Read = (P Q : Contents → Type 0) → ((v : Contents) → P v → Q v) → Read P → Read Q

-- ---- tables

told_with : (sizes : Sizes) (F : Contents → Type 0) (s : Summary) → s ≡ size_summary sizes
    → (v : Contents) → HasSizes sizes F v → IsSummaryWith s F v
told_with sizes F s e v h = record { told = e ∙ ap size_summary h.sizes_are; holds = h.holds }

pub done_told : (Read : (Contents → Type 0) → Type 0) → Weakens Read
    → (r : Result Sizes Unread) (F : Contents → Type 0) (status : ℕ) (s : Summary)
    → IfOk r (λ sizes. Read (HasSizes sizes F)) → ReadCodes r status s → status ≡ 0 → Read (IsSummaryWith s F)
done_told Read weaken (Ok sizes) F status s h t is = weaken _ _ (told_with sizes F s t.1) h
done_told Read weaken (Err (NoRoom sizes)) F status s h t is = absurd (omega (arith, t.0, is))
done_told Read weaken (Err (Failed failure)) F status s h t is =
    absurd (never_done failure.error (sym t.status_is ∙ is))

pub no_room_told : (Read : (Contents → Type 0) → Type 0) → Weakens Read
    → (r : Result Sizes Unread) (F : Contents → Type 0) (status : ℕ) (s : Summary)
    → IfNoRoom r (λ sizes. Read (HasSizes sizes F)) → ReadCodes r status s → status ≡ 3 → Read (IsSummaryWith s F)
no_room_told Read weaken (Ok sizes) F status s h t is = absurd (omega (arith, t.0, is))
no_room_told Read weaken (Err (NoRoom sizes)) F status s h t is = weaken _ _ (told_with sizes F s t.1) h
no_room_told Read weaken (Err (Failed failure)) F status s h t is =
    absurd (never_no_room failure.error (sym t.status_is ∙ is))

-- with another status than of a table or of too small a room, a failure is reported
pub failure_told : (r : Result Sizes Unread) (Q : Failure → Type 0) (status : ℕ) (s : Summary) → IfFailed r Q
    → ReadCodes r status s → (status ≡ 0 → ⊥) → (status ≡ 3 → ⊥)
    → (failure : Failure) × Q failure × FailureCodes failure status s
failure_told (Ok sizes) Q status s h t a b = absurd (a t.0)
failure_told (Err (NoRoom sizes)) Q status s h t a b = absurd (b t.0)
failure_told (Err (Failed failure)) Q status s h t a b = (failure, h, t)

-- what is as it was if there is no table
pub kept_told : (r : Result Sizes Unread) (K : Type 0) (status : ℕ) (s : Summary) → IfErr r (λ _. K)
    → ReadCodes r status s → (status ≡ 0 → ⊥) → K
kept_told (Ok sizes) K status s h t a = absurd (a t.0)
kept_told (Err e) K status s h t a = h

-- ---- checks

sound_by : (r : Result (Unit {0}) Flaw) (sizes : Sizes) (status : ℕ) (s : Summary) → FoundCodes r sizes status s
    → status ≡ 0
    → (v : Contents) → sizes ≡ checked_sizes v → IsJudged r v → IsFoundSound s v
sound_by (Ok done) sizes status s t is v e judged = record { told = t.1 ∙ ap size_summary e; sound = judged }
sound_by (Err flaw) sizes status s t is v e judged = absurd (by (flaw_place flaw) t)
  where
    by : (o : Option ℕ)
        → MatchOption o ((status ≡ 2) × MemoryCodes 0 s)
        (λ place. (status ≡ 1) × (s ≡ unsound_summary sizes (flaw_number flaw) place s.text_bytes)) → ⊥
    by None t = omega (arith, t.0, is)
    by (Some place) t = omega (arith, t.0, is)

pub unsound_by : (r : Result (Unit {0}) Flaw) (sizes : Sizes) (status : ℕ) (s : Summary) → FoundCodes r sizes status s
    → status ≡ 1
    → (v : Contents) → sizes ≡ checked_sizes v → IsJudged r v → IsFoundUnsound s v
unsound_by (Ok done) sizes status s t is v e judged = absurd (omega (arith, t.0, is))
unsound_by (Err flaw) sizes status s t is v e judged = by (flaw_place flaw) t judged
  where
    by : (o : Option ℕ)
        → MatchOption o ((status ≡ 2) × MemoryCodes 0 s)
        (λ place. (status ≡ 1) × (s ≡ unsound_summary sizes (flaw_number flaw) place s.text_bytes))
        → IfSome o (λ place. HasCheckFault v (flaw_number flaw) place) → IsFoundUnsound s v
    by None t judged = absurd (omega (arith, t.0, is))
    by (Some place) t judged =
        let number : s.fault ≡ flaw_number flaw = ap (λ (x : Summary). x.fault) t.1 in
        let at : s.fault_place ≡ place = ap (λ (x : Summary). x.fault_place) t.1 in
        record {
          told = t.1 ∙ ap (λ (x : Sizes). unsound_summary x (flaw_number flaw) place s.text_bytes) e
              ∙ ap (λ (n : ℕ). unsound_summary (checked_sizes v) n place s.text_bytes) (sym number)
              ∙ ap (λ (n : ℕ). unsound_summary (checked_sizes v) s.fault n s.text_bytes) (sym at);
          fault = rw (number, at) judged;
        }

pub sound_told : (Read : (Contents → Type 0) → Type 0) → Weakens Read
    → (r : Result Found Failure) (status : ℕ) (s : Summary) → IfOk r (λ found. Read (IsCheckResult found))
    → CheckCodes r status s → status ≡ 0 → Read (IsFoundSound s)
sound_told Read weaken (Ok found) status s h t is =
    weaken _ _ (λ v f. sound_by found.judged found.sizes status s t is v f.sizes_are f.judged) h
sound_told Read weaken (Err failure) status s h t is =
    absurd (never_done failure.error (sym t.status_is ∙ is))

pub memory_by : (r : Result (Unit {0}) Flaw) (sizes : Sizes) (status : ℕ) (s : Summary) → FoundCodes r sizes status s
    → status ≡ 2 → MemoryCodes 0 s
memory_by (Ok done) sizes status s t is = absurd (omega (arith, t.0, is))
memory_by (Err flaw) sizes status s t is = by (flaw_place flaw) t
  where
    by : (o : Option ℕ)
        → MatchOption o ((status ≡ 2) × MemoryCodes 0 s)
        (λ place. (status ≡ 1) × (s ≡ unsound_summary sizes (flaw_number flaw) place s.text_bytes)) → MemoryCodes 0 s
    by None t = t.1
    by (Some place) t = absurd (omega (arith, t.0, is))
