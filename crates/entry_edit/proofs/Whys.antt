-- The cause of a call's error, from that of its check.
use Rattle.std.proofs.Common.{◌≡◌, ℕ, Bool, List, Option, Some, None, Ok, Err, refl, sym, subst}
use Rattle.std.specs.Option.{option_or}
use Rattle.entry_list.specs.Order.{IsStrictlyOrdered}
use Rattle.entry_list.specs.Record.{Record}
use Rattle.entry_edit.specs.Changes.{IsApplyReason}
use Rattle.entry_edit.specs.Refusals.{IsReason}
use Rattle.entry_edit.specs.Wholes.{AnswersAmong, EditAmongCause, RejectionAmongCause, first_in_whole}
use Rattle.entry_edit.specs.Wholes.{lies_in_whole, whole_fault}
use Rattle.entry_edit.specs.declared.change.ApplyError.{ApplyError}
use Rattle.entry_edit.specs.declared.change.ApplyError.TheVariants as refusals
use Rattle.entry_edit.specs.declared.change.Change.{Change}
use Rattle.entry_edit.specs.declared.error.Error.{Error}
use Rattle.entry_edit.specs.declared.error.Error.TheVariants as errors

pub neither : {X : Type 0} (a b : Option X) → option_or a b ≡ None → (a ≡ None) × (b ≡ None)
neither None b h = (refl, h)
neither (Some x) b h = absurd cc

-- ---- one change

exactly : (path : List ℕ) (rs qs : List Record) → rs ≡ qs → (inside : Bool)
    → (IsStrictlyOrdered rs → inside ≡ lies_in_whole path rs) → IsStrictlyOrdered qs → inside ≡ lies_in_whole path qs
exactly path rs qs there inside h = subst (λ l. IsStrictlyOrdered l → inside ≡ lies_in_whole path l) there h

module _ {T U : Type 0} (fault : Option Error) (len m : ℕ) (path : List ℕ) (rs qs : List Record) (there : rs ≡ qs)
    (same : len ≡ m) where
  pub granted : (u : U) (t : T) → EditAmongCause fault len path rs (Ok u) → EditAmongCause fault m path qs (Ok t)
  granted u t h = record { inside = h.inside; exactly = exactly path rs qs there h.inside h.exactly; reason = h.reason }

  pub refused : (e : Error) → EditAmongCause {T = U} fault len path rs (Err e)
      → EditAmongCause {T = T} fault m path qs (Err e)
  refused e h = record {
    inside = h.inside;
    exactly = exactly path rs qs there h.inside h.exactly;
    reason = subst (λ n. IsReason (option_or fault (whole_fault h.inside)) n path e) same h.reason;
  }

  pub wanted : (u : U) → EditAmongCause fault len path rs (Ok u)
      → EditAmongCause {T = T} fault m path qs (Err errors.Memory)
  wanted u h = record {
    inside = h.inside;
    exactly = exactly path rs qs there h.inside h.exactly;
    reason = subst (λ o. IsReason o m path errors.Memory) (sym h.reason) tt;
  }

-- ---- several changes

exactly_first : (cs : List Change) (rs qs : List Record) → rs ≡ qs → (place : Option ℕ)
    → (IsStrictlyOrdered rs → place ≡ first_in_whole cs rs) → IsStrictlyOrdered qs → place ≡ first_in_whole cs qs
exactly_first cs rs qs there place h = subst (λ l. IsStrictlyOrdered l → place ≡ first_in_whole cs l) there h

module _ {T U : Type 0} (refusal : Option ApplyError) (cs : List Change) (rs qs : List Record) (there : rs ≡ qs) where
  pub all_granted : (u : U) (t : T) → AnswersAmong refusal cs rs (Ok u) → RejectionAmongCause refusal cs qs (Ok t)
  all_granted u t h =
      record { place = h.place; exactly = exactly_first cs rs qs there h.place h.exactly; reason = h.answer }

  pub first_refused : (e : ApplyError) → AnswersAmong {T = U} refusal cs rs (Err e)
      → RejectionAmongCause {T = T} refusal cs qs (Err e)
  first_refused e h = record {
    place = h.place;
    exactly = exactly_first cs rs qs there h.place h.exactly;
    reason = subst (λ o. IsApplyReason o e) (sym h.answer) refl;
  }

  pub all_wanted : (u : U) → AnswersAmong refusal cs rs (Ok u)
      → RejectionAmongCause {T = T} refusal cs qs (Err refusals.Memory)
  all_wanted u h = record {
    place = h.place;
    exactly = exactly_first cs rs qs there h.place h.exactly;
    reason = subst (λ o. IsApplyReason o refusals.Memory) (sym h.answer) refl;
  }
