-- What holds of the changes that rows represent, and why they make nothing.
use Rattle.std.proofs.Common.{◌≡◌, ◌∙◌, ℕ, List, Option, Some, None, Ok, Err, false, inl, refl, ap, sym}
use Rattle.std.specs.Option.{option_or}
use Rattle.gix_index.specs.Changing.ApplyError.{ApplyError}
use Rattle.gix_index.specs.Changing.ApplyError.TheVariants as applies
use Rattle.gix_index.specs.Changing.Change.{Change}
use Rattle.gix_index.specs.Changing.Changes.{IsApplyReason}
use Rattle.gix_index.specs.Changing.Error.{Error}
use Rattle.gix_index.specs.Changing.Wholes.{RejectionAmongCause, first_in_whole, refusal_among, whole_refusal}
use Rattle.gix_index.specs.Contents.{Contents}
use Rattle.gix_index.specs.Kind.{Kind}
use Rattle.gix_index.specs.Order.{IsStrictlyOrdered}
use Rattle.gix_index.specs.OrderError.{Error as OrderError}
use Rattle.gix_index.specs.OrderError.TheVariants as orders
use Rattle.gix_index.specs.Record.{Record}
use Rattle.gix_index.specs.SoundState.{OrderCause}
use Rattle.capi_table.specs.Joining.{AreReadSo}
use Rattle.capi_table.specs.Refusing.{IsUnmade, MakesNothing, order_reason}
use Rattle.capi_table.specs.Updating.{IsChangedBy, MakesOf, UpdatesTable}
use Rattle.capi_table.specs.Writing.{IfLacksRoom, IfTableRejected}
use Rattle.capi_table.specs.declared.row.Row.{Row}
use Rattle.capi_table.specs.declared.write.Image.{Image}
use Rattle.capi_table.specs.declared.write.Unwritten.{Unwritten}
use Rattle.capi_table.specs.declared.write.Unwritten.TheVariants.{NoRoom, Refused, Memory}
use Rattle.capi_table.proofs.Joins.{read_so}

-- a rejection is the first, as running out of memory isn't a rejection
pub refusal_is : (r : Option ApplyError) (at : ℕ) (cause : Error) → IsApplyReason r (applies.Refused at cause)
    → r ≡ Some (applies.Refused at cause)
refusal_is None at cause h = absurd cc
refusal_is (Some e) at cause h = ap (λ (x : ApplyError). Some x) (sym h)

module _ (refusal : Option ApplyError) (cs : List Change) (rs : List Record) (o : IsStrictlyOrdered rs) where
  first : (place : Option ℕ) → (IsStrictlyOrdered rs → place ≡ first_in_whole cs rs)
      → refusal_among refusal cs rs ≡ option_or refusal (whole_refusal place)
  first place h = ap (λ (p : Option ℕ). option_or refusal (whole_refusal p)) (sym (h o))

  module _ {T : Type 0} where
    -- among records in order, changes that are made are granted
    pub granted_among : (t : T) → RejectionAmongCause refusal cs rs (Ok t) → refusal_among refusal cs rs ≡ None
    granted_among t h = first h.place h.exactly ∙ h.reason

    -- and a refusal is the first
    pub refused_among : (at : ℕ) (cause : Error)
        → RejectionAmongCause {T = T} refusal cs rs (Err (applies.Refused at cause))
        → refusal_among refusal cs rs ≡ Some (applies.Refused at cause)
    refused_among at cause h = first h.place h.exactly ∙ refusal_is _ at cause h.reason

module _ (kind : Kind) (paths : List ℕ) (rows : List Row) (room : ℕ) (v : Contents) where
  pub fallen : (e : OrderError) → OrderCause v.records e → MakesNothing kind paths rows room v (order_reason e)
  fallen (orders.OutOfOrder index path stage previous_path previous_stage) h =
      inl (record { place = index; fall = h.0; fault_is = refl })
  fallen orders.Memory h = tt

  -- the reason that nothing is made isn't a lack of room
  pub none_passed : (e : Unwritten) (P : Image → Type 0) → MakesNothing kind paths rows room v e
      → IfLacksRoom (Err e) P
  none_passed (NoRoom told) P h = absurd h
  none_passed (Refused fault) P h = tt
  none_passed Memory P h = tt

  pub none_made : (e : Unwritten) → MakesNothing kind paths rows room v e
      → IfTableRejected (Err e) (λ fault. IsUnmade kind paths rows room fault v)
  none_made (NoRoom told) h = absurd h
  none_made (Refused fault) h = h
  none_made Memory h = tt

-- what holds of what the rows make of the value that was read
pub made : (kind : Kind) (bytes shared paths : List ℕ) (rows : List Row) (room : ℕ) (before v : Contents)
    (P : Contents → Type 0) → AreReadSo false kind bytes shared (λ w. w ≡ before)
    → IsChangedBy kind paths rows room before v → P v → UpdatesTable kind bytes shared paths rows P
made kind bytes shared paths rows room before v P read changed h =
    read_so false kind bytes shared (MakesOf kind paths rows P) before read
    (record { value = v; room = room; changed = changed; holds = h })
