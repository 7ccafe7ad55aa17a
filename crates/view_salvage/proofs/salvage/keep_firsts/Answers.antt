use Rattle.std.proofs.Common.{◌≡◌, ℕ, ◌+◌, ◌<◌, true, false, All, List, Vec, length, arith, ap, refl, sym}
use Rattle.std.proofs.Common.{subst, ◌∙◌}
use Rattle.std.specs.List.{swap}
use Rattle.std.specs.declared.alloc.Global.{Global}
use Rattle.std.proofs.lemmas.List.{length-map}
use Rattle.std.proofs.lemmas.List.Edits.{length-swap}
use Rattle.gix_index.specs.EntryType.{Entry}
use Rattle.gix_index.specs.Record.{IsPlaced, Record, record_in, records_in}
use Rattle.view_salvage.specs.SalvageSteps.{AreKept, IsAbove}
use Rattle.view_salvage.proofs.Keeping.{keeps_more, keeps_same, kept_all, kept_none, swap_all, swap_map}
use Rattle.view_salvage.proofs.salvage.keep_firsts.Goals as goal
use Rattle.view_salvage.proofs.salvage.keep_firsts.Goals.{then-is_above, else-is_above}

pub loop-place-init : goal.loop-place-init
loop-place-init c = record { few = omega arith; same_length = refl; placed = λ h. h; kept = λ up. kept_none _ }

pub loop-place-preserved : goal.loop-place-preserved
loop-place-preserved c =
    let storage = c.args.storage.now in
    let old = c.args.entries.now.items in
    let items = c.loop-place.entries.items in
    let kept = c.loop-place.kept in
    let place = c.loop-place.place in
    let inv = c.loop-place.invariant in
    let rs = records_in storage old in
    let now = records_in storage items in
    let P : List Entry → Type 0 = λ es. All (IsPlaced (length storage)) es in
    let lt : place < length rs = omega (arith, length-map old (record_in storage)) in
    let near : place < length items = omega (arith, inv.same_length) in
    let next = c.if-is_above.entries.items in
    elim c.if-is_above.branch [
      | then-is_above w ↦ (
          let above : IsAbove now kept place =
          rw c.deref.ensures.value at (rw c.new.ensures at (c.is_above.ensures.0 w.if-is_above.true)) in
          let moved : next ≡ swap items kept place =
          ap (λ (v : Vec Entry Global). v.items) w.entries-is ∙ w.swap.ensures.items in
          let is = ap (records_in storage) moved
          ∙ swap_map (record_in storage) items kept place (omega (arith, inv.few, near)) near in
          record {
            few = omega (arith, w.kept-is, inv.few);
            same_length = ap length moved ∙ length-swap items kept place ∙ inv.same_length;
            placed = λ h. subst P (sym moved)
                (swap_all (IsPlaced (length storage)) items kept place (omega (arith, inv.few, near)) near
                (inv.placed h));
            kept = λ up. subst (λ (n : ℕ). AreKept rs (place + 1) (records_in storage next) n) (sym w.kept-is)
                (subst (λ (l : List Record). AreKept rs (place + 1) l (kept + 1)) (sym is)
                (keeps_more rs now place kept up lt (inv.kept up) above));
          }
          )
      | else-is_above w ↦ (
          let moved : next ≡ items = ap (λ (v : Vec Entry Global). v.items) w.entries-is in
          record {
            few = omega (arith, w.kept-is, inv.few);
            same_length = ap length moved ∙ inv.same_length;
            placed = λ h. subst P (sym moved) (inv.placed h);
            kept = λ up. subst (λ (n : ℕ). AreKept rs (place + 1) (records_in storage next) n) (sym w.kept-is)
                (subst (λ (es : List Entry). AreKept rs (place + 1) (records_in storage es) kept) (sym moved)
                (keeps_same rs now place kept up lt (inv.kept up) (λ above.
                let is : c.is_above.result ≡ true =
                c.is_above.ensures.1 (rw (c.new.ensures, c.deref.ensures.value) above) in
                let not : c.is_above.result ≡ false = w.if-is_above.false in
                absurd cc)));
          }
          )
    ]

pub returns-clause-saved : goal.returns-clause-saved
returns-clause-saved c = λ up.
    let storage = c.args.storage.now in
    let old = c.args.entries.now.items in
    rw c.truncate.ensures.items (kept_all storage (records_in storage old) c.loop-place.entries.items
    c.loop-place.place c.loop-place.kept (omega (arith, length-map old (record_in storage)))
    (c.loop-place.invariant.kept up))
