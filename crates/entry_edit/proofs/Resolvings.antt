-- What a merged record leaves of its path.
use Rattle.std.proofs.Common.{◌≡◌, ◌/◌, arith, subst, ℕ, true, false, ◌&&◌, ◌||◌, ◌==◌, inl, inr, List, Result, Ok, Err, OnOk, ap, ◌∙◌, sym}
use Rattle.std.proofs.lemmas.List.Elements.{All-contains}
use Rattle.std.proofs.lemmas.Nat.{and_assoc, and_le_r}
use Rattle.std.specs.Int.Bits.{bit_and}
use Rattle.std.specs.List.{Contains}
use Rattle.entry_list.specs.Order.{record_stage}
use Rattle.entry_list.specs.Record.{Record}
use Rattle.entry_lookup.specs.Range.{is_at}
use Rattle.entry_fields.specs.Flags.{stage_number}
use Rattle.entry_edit.specs.Edits.{IsResolvedInto, IsStagedInto, have_df_conflict, is_displaced, staged}
use Rattle.entry_edit.proofs.Displacings.{number_to}
use Rattle.entry_edit.proofs.Stagings.{IsFrom, staged_each}

pub no_stage : (flags : ℕ) → stage_number (bit_and flags 0xffffcfff) ≡ 0
no_stage flags =
    let none : bit_and (bit_and flags 0xffffcfff) 0x3000 ≡ bit_and flags 0 = and_assoc 0x3000 flags 0xffffcfff in
    let zero : bit_and flags 0 ≡ 0 = omega (arith, and_le_r flags 0) in
    ap (λ n. n / 4096) (none ∙ zero)

pub on_ok : {T E : Type 0} (r : Result T E) (P Q : Type 0) → (P → Q) → OnOk r P → OnOk r Q
on_ok (Ok x) P Q f h = f h
on_ok (Err e) P Q f h = tt

pub resolved_into : (new : Record) (old now : List Record) → record_stage new ≡ 0 → IsStagedInto new old now
    → IsResolvedInto new old now
resolved_into new old now zero s = record {
  staged = s;
  merged = zero;
  alone = λ r c at. by r at (All-contains (IsFrom new old) (staged new old) r (staged_each new old)
      (subst (λ l. Contains l r) s.is c));
}
  where
    goes : (r : Record) → is_at new.path r ≡ true → is_displaced new r ≡ true
    goes r at =
        ap (λ a. (a && ((record_stage new == 0) || (record_stage r == record_stage new))) || have_df_conflict new r) at
        ∙ ap (λ m. (true && (m || (record_stage r == record_stage new))) || have_df_conflict new r)
        (number_to (record_stage new) 0 zero)

    by : (r : Record) → is_at new.path r ≡ true → IsFrom new old r → r ≡ new
    by r at (inl e) = e
    by r at (inr h) = let both : true ≡ false = sym (goes r at) ∙ h.1 in cc
