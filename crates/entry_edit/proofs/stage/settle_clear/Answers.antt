use Rattle.std.proofs.Common.{rules, ◌≡◌, ◌+◌, ◌-◌, ◌∙◌, ◌&&◌, ◌==◌, length, sym, ap, subst, arith}
use Rattle.std.proofs.lemmas.List.{length-map}
use Rattle.std.specs.List.{filter, list_any}
use Rattle.std.specs.Prelude.{not}
use Rattle.entry_list.specs.Order.{IsStrictlyOrdered, record_stage}
use Rattle.entry_list.specs.Record.{record_in, records_in, with_path}
use Rattle.entry_edit.specs.Edits.{IsStagedInto, displaced}
use Rattle.entry_edit.specs.EntryEdits.{ChangesPlaced}
use Rattle.entry_edit.specs.EditSteps.{IsClearUpto, is_other, is_side_at}
use Rattle.entry_edit.proofs.Displacings.{conflict_told}
use Rattle.entry_edit.proofs.Stagings.{left_staged, none_staged, now_ordered, staged_count, staged_into}
use Rattle.entry_edit.proofs.stage.settle_clear.Goals as goal
use Rattle.entry_edit.proofs.stage.settle_clear.Goals.{then-way, else-way}

there : (c : goal.After-takes_conflict-conflict) → c.new.result ≡ records_in c.args.storage.now.items c.args.entries.now.items
there c =
    c.new.ensures ∙ ap (λ x. records_in x c.deref.result.now) c.deref-2.ensures.value
    ∙ ap (records_in c.args.storage.now.items) c.deref.ensures.value

made : (c : goal.After-takes_conflict-conflict)
    → ChangesPlaced (λ old now. IsClearUpto c.args.checked_len c.args.path.now c.args.entry old
    → IsStagedInto (with_path c.args.path.now c.args.entry) old now) c.args.storage.now.items c.args.entries.now.items
    c.put.new.storage.items c.if-way.entries.items
made c = λ placed o clear.
    let new = with_path c.args.path.now c.args.entry in
    let old = records_in c.args.storage.now.items c.args.entries.now.items in
    let t = c.put.new.storage.items in
    let now = records_in t c.put.new.entries.items in
    let p = c.in_ok-put.ensures.put.made placed o in
    let others = subst (λ rs. IsStrictlyOrdered rs → IsClearUpto c.args.checked_len c.args.path.now c.args.entry rs
    → c.in_the_way-way.result.others ≡ list_any (is_other new) rs)
    (there c) c.in_the_way-way.ensures.others o clear in
    staged_into new old now _ o p (elim c.if-way.branch [
      | then-way w ↦ rw w.entries-is (left_staged new old now p _
          (subst (λ s. IsStrictlyOrdered (records_in s c.put.new.entries.items)
          → records_in s w.remove_others.new.entries.items
          ≡ filter (λ r. not (is_other new r)) (records_in s c.put.new.entries.items))
          w.deref-then-way.ensures.value w.remove_others.ensures.left (now_ordered new old now p o)))
      | else-way w ↦ rw w.entries-is (none_staged new old now p (sym others ∙ w.if-way.false))
    ])

pub returns : goal.returns
returns c = record {
  staged = record {
    made = made c;
    placed = search rules;
    storage = search rules;
    err_entries = search rules;
    err_storage = search rules;
  };
  told = λ clear placed o.
      let new = with_path c.args.path.now c.args.entry in
      let s = c.args.storage.now.items in
      let old = records_in s c.args.entries.now.items in
      let t = c.put.new.storage.items in
      let is = (made c placed o clear).is in
      let p = c.in_ok-put.ensures.put.made placed o in
      let count : c.len-before.result + 1 - c.len.result ≡ length (displaced new old) =
      omega (
        arith,
        c.len.ensures,
        c.len-before.ensures,
        ap length is,
        length-map c.if-way.entries.items (record_in t),
        length-map c.args.entries.now.items (record_in s),
        staged_count new old _ p,
        c.if-way.entries.ok.0,
        c.args.entries.now.ok.0,
      ) in
      let sides = subst (λ rs. IsStrictlyOrdered rs
      → c.in_the_way-way.result.sides ≡ ((record_stage new == 0) && list_any (is_side_at new.path) rs))
      (there c) c.in_the_way-way.ensures.sides o in
      record {
        count = count;
        conflict = conflict_told new old c.in_the_way-way.result.sides _ _ sides count
            c.takes_conflict-conflict.ensures.merged c.takes_conflict-conflict.ensures.unmerged;
      };
}
