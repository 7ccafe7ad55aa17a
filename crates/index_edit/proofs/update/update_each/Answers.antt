use Rattle.std.proofs.Common.{rules, ◌≡◌, ◌∙◌, ◌+◌, ◌++◌, [], All, ap, append-nil, arith, drop, length, subst, sym, take}
use Rattle.std.proofs.lemmas.List.{take_all}
use Rattle.std.proofs.lemmas.List.Elements.{All-append, All-drop, same_from_all_zip}
use Rattle.entry_list.specs.Order.{IsStrictlyOrdered}
use Rattle.entry_list.specs.Record.{IsPlaced, records_in}
use Rattle.entry_edit.specs.Ahead.{entries_ahead}
use Rattle.entry_edit.specs.Changes.{IsAppliedTo}
use Rattle.entry_edit.proofs.Applied.{applied_none, grown_twice}
use Rattle.entry_edit.proofs.Passes.{all_made, back_placed, one_more, placed_wider, same_entry}
use Rattle.entry_edit.proofs.Stagings.{All-front}
use Rattle.index_edit.specs.Undone.{undo_paths, undone}
use Rattle.index_edit.proofs.Nexts.{one_clear, one_more_undone, undone_none}
use Rattle.index_edit.proofs.update.update_each.Goals as goal

pub loop-place-init : goal.loop-place-init
loop-place-init c =
    let s = c.args.storage.now.items in
    let es = c.args.entries.now in
    let none : c.in_ok-done.done.items ≡ [] = c.in_ok-done.ensures.items in
    let is : c.in_ok-done.done.items ++ entries_ahead c.new-ahead.result ≡ es =
    ap (λ l. l ++ entries_ahead c.new-ahead.result) none ∙ c.new-ahead.ensures in
    record {
      placed = λ placed. subst (All (IsPlaced (length s))) (sym is) placed;
      applied = λ _ o. subst (λ l. IsAppliedTo [] (records_in s es) (records_in s l)) (sym is) (applied_none _ o);
      undone = λ _ o. undone_none (records_in s es) _;
      rising = c.are_rising-rising.ensures;
      storage = ([], sym (append-nil s));
    }

pub loop-place-preserved : goal.loop-place-preserved
loop-place-preserved c =
    let inv = c.loop-place.invariant in
    let told = c.in_ok-count.ensures in
    let changes = c.args.changes.now in
    let i = c.loop-place.place in
    let s = c.args.storage.now.items in
    let t = c.loop-place.storage.items in
    let u = c.update_next.new.storage.items in
    let es = c.args.entries.now in
    let done = c.go_back.new.done.items in
    let rest = c.entries-rest.result.now in
    let now = c.update_next.new.done.items in
    let next = drop c.in_ok-count.count rest in
    let same : done ++ rest ≡ c.loop-place.done.items ++ entries_ahead c.loop-place.ahead =
    ap (λ l. done ++ l) c.entries-rest.ensures ∙ c.go_back.ensures in
    let left : entries_ahead c.pass.new.self ≡ next =
    c.pass.ensures ∙ ap (drop c.in_ok-count.count) (sym c.entries-rest.ensures) in
    let before = λ (placed : All (IsPlaced (length s)) es) (o : IsStrictlyOrdered (records_in s es)). subst (λ l. IsAppliedTo (take i changes) (records_in s es) (records_in t l)) (sym same)
    (inv.applied placed o) in
    let both = λ (placed : All (IsPlaced (length s)) es).
    subst (All (IsPlaced (length t))) (sym same) (inv.placed placed) in
    let here = λ (placed : All (IsPlaced (length s)) es). All-front (IsPlaced (length t)) done rest (both placed) in
    let behind = λ (placed : All (IsPlaced (length s)) es). back_placed (length t) done rest (both placed) in
    record {
      placed = λ placed. All-append (IsPlaced (length u)) now (entries_ahead c.pass.new.self)
          (told.applied.placed (here placed) (behind placed))
          (subst (All (IsPlaced (length u))) (sym left) (All-drop (IsPlaced (length u)) c.in_ok-count.count rest
          (placed_wider t told.applied.storage.0 u rest told.applied.storage.1 (behind placed))));
      applied = λ placed o. subst (λ l. IsAppliedTo (take (i + 1) changes) (records_in s es) (records_in u (now ++ l)))
          (sym left) (one_more changes i _ t done rest (before placed o) _ u now next (omega (arith, c.loop-place-test.true))
          (λ w. told.applied.applied (here placed) (behind placed) w
          (one_clear changes i _ t done rest (before placed o) _ c.known_at-known.result
          (c.known_at-known.ensures _ _))));
      undone = λ placed o. one_more_undone changes i _ t done rest (before placed o) _ (undo_paths c.in_ok-undo.undo)
          (undo_paths c.loop-place.undo) (undo_paths c.update_next.new.undo) (omega (arith, c.loop-place-test.true)) (inv.undone placed o) told.undone;
      rising = told.rising;
      storage = grown_twice _ _ _ inv.storage told.applied.storage;
    }

pub returns : goal.returns
returns c = record {
  made = record {
    applied = λ placed o.
        let more = c.in_ok-extend_from_slice.ensures.items in
        let done = c.loop-place.done.items in
        all_made c.args.changes.now c.loop-place.place _ c.loop-place.storage.items done
        (entries_ahead c.loop-place.ahead) (c.loop-place.invariant.applied placed o) _
        (omega (arith, c.loop-place-test.false))
        (more.1 ∙ ap (λ l. done ++ l) (same_from_all_zip _ _ more.0 more.2 same_entry ∙ c.entries.ensures));
    undone = λ placed o.
        let old = records_in c.args.storage.now.items c.args.entries.now in
        c.loop-place.invariant.undone placed o
        ∙ ap (λ l. undone l old (undo_paths c.in_ok-undo.undo))
        (take_all c.loop-place.place c.args.changes.now (omega (arith, c.loop-place-test.false)))
        ∙ ap (undone c.args.changes.now old) c.in_ok-undo.ensures;
    placed = λ placed.
        let more = c.in_ok-extend_from_slice.ensures.items in
        let is = more.1 ∙ ap (λ l. c.loop-place.done.items ++ l)
        (same_from_all_zip _ _ more.0 more.2 same_entry ∙ c.entries.ensures) in
        subst (All (IsPlaced (length c.loop-place.storage.items))) (sym is) (c.loop-place.invariant.placed placed);
  };
  storage = search rules;
}
