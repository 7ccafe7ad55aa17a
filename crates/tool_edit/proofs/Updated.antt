-- Why the changes in a text aren't made.
use Rattle.std.proofs.Common.{◌≡◌, ◌∙◌, ℕ, List, Option, None, Some, Ok, Err, ap, sym}
use Rattle.std.specs.Option.{option_or}
use Rattle.gix_index.specs.Changing.Change.{Change}
use Rattle.gix_index.specs.Changing.Changes.{IsApplyReason}
use Rattle.gix_index.specs.Changing.ApplyError.{ApplyError}
use Rattle.gix_index.specs.Changing.ApplyError.TheVariants.{Refused}
use Rattle.gix_index.specs.Changing.Error.{Error}
use Rattle.gix_index.specs.Changing.Wholes.{RejectionAmongCause, first_in_whole, refusal_among, whole_refusal}
use Rattle.gix_index.specs.Order.{IsStrictlyOrdered}
use Rattle.gix_index.specs.Record.{Record}

-- a rejection is the first, as running out of memory isn't a rejection
pub refusal_is : (r : Option ApplyError) (at : ℕ) (cause : Error) → IsApplyReason r (Refused at cause)
    → r ≡ Some (Refused at cause)
refusal_is None at cause h = absurd cc
refusal_is (Some e) at cause h = ap (λ (x : ApplyError). Some x) (sym h)

module _ (refusal : Option ApplyError) (cs : List Change) (rs : List Record) (o : IsStrictlyOrdered rs) where
  first : (place : Option ℕ) → (IsStrictlyOrdered rs → place ≡ first_in_whole cs rs)
      → refusal_among refusal cs rs ≡ option_or refusal (whole_refusal place)
  first place h = ap (λ (p : Option ℕ). option_or refusal (whole_refusal p)) (sym (h o))

  module _ {T : Type 0} where
    -- among records in order, changes that are made are granted
    pub granted_among : (t : T) → RejectionAmongCause refusal cs rs (Ok t) → refusal_among refusal cs rs ≡ None
    granted_among t h = first h.place h.exactly ∙ h.reason

    -- and a refusal is the first
    pub refused_among : (at : ℕ) (cause : Error) → RejectionAmongCause {T = T} refusal cs rs (Err (Refused at cause))
        → refusal_among refusal cs rs ≡ Some (Refused at cause)
    refused_among at cause h = first h.place h.exactly ∙ refusal_is _ at cause h.reason
