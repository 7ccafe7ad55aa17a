-- Naming the first place that doesn't increase.
use Rattle.std.proofs.Common.{◌≡◌, ℕ, ◌-◌, ◌<◌, Bool, true, false, not, List, [], ◌∷◌, length, get_or, Option, None}
use Rattle.std.proofs.Common.{refl, sym, ap, ◌∙◌, arith, Some}
use Rattle.std.specs.Prelude.{◌↔◌, ◌&&◌, is_some, IsTrue}
use Rattle.std.proofs.lemmas.Bool.{false≢true}
use Rattle.std.proofs.lemmas.List.{length-map}
use Rattle.entry_list.specs.declared.Entry.{Entry}
use Rattle.entry_list.specs.Order.{IsStrictlyOrdered}
use Rattle.entry_list.specs.Record.{Record, record_in, records_in}
use Rattle.entry_list.specs.Sorted.{IsFall, IsFirstFall}
use Rattle.entry_list.proofs.Sorting.{record_at}
use Rattle.index_state.specs.declared.verify.entries.Error.{Error}
use Rattle.index_state.specs.declared.verify.entries.Error.TheVariants.{OutOfOrder, Memory}
use Rattle.index_state.specs.SoundState.{NamesBoth, OrderCause}

pub not_ordered : (rs : List Record) (place : ℕ) → IsFall rs place → IsStrictlyOrdered rs → ⊥
not_ordered [] place f o = absurd (omega (arith, f.in_range))
not_ordered (r ∷ rs) place f o = f.falls r (o.less (place - 1) place r (omega (arith, f.behind_one)) f.in_range)

pub says_fall : (storage : List ℕ) (es : List Entry) (place : ℕ) (a b : Entry) (e : Error)
    → IsFirstFall (records_in storage es) (Some place) → a ≡ get_or es (place - 1) a → b ≡ get_or es place b
    → NamesBoth place (record_in storage a) (record_in storage b) e → OrderCause (records_in storage es) e
says_fall storage es place a b (OutOfOrder index path stage previous_path previous_stage) fall ea eb named =
    rw named.0 (
      fall,
      λ d.
          let inside : place < length es = omega (arith, fall.0.in_range, length-map es (record_in storage)) in
          let before : place - 1 < length es = omega arith in
          let at : get_or (records_in storage es) place d ≡ record_in storage b =
          record_at storage es place b d inside ∙ ap (record_in storage) (sym eb) in
          let above : get_or (records_in storage es) (place - 1) d ≡ record_in storage a =
          record_at storage es (place - 1) a d before ∙ ap (record_in storage) (sym ea) in
          rw (at, above) (refl, named.1, named.2, named.3, named.4),
    )
says_fall storage es place a b Memory fall ea eb named = absurd named

-- whether there is no fall
pub order_told : (rs : List Record) (fall : Option ℕ) (none : Bool) → IsFirstFall rs fall → is_some fall ≡ not none
    → IsTrue none ↔ IsStrictlyOrdered rs
order_told rs None true h e = (λ t. h, λ o. refl)
order_told rs None false h e = absurd cc
order_told rs (Some place) true h e = absurd cc
order_told rs (Some place) false h e = (λ t. absurd (false≢true t), λ o. absurd (not_ordered rs place h.0 o))

-- extensions fit records in order as they did
pub fit_stays : (fit in_order : Bool) → in_order ≡ true → (fit && in_order) ≡ fit
fit_stays true in_order e = e
fit_stays false in_order e = refl

pub unfit : (fit in_order : Bool) → (IsTrue in_order → ⊥) → (fit && in_order) ≡ false
unfit true true h = absurd (h refl)
unfit true false h = refl
unfit false in_order h = refl
