use Rattle.std.proofs.Common.{rules, ◌∙◌, ◌||◌, refl, sym, ap}
use Rattle.std.specs.List.{list_any}
use Rattle.entry_list.specs.Record.{with_path}
use Rattle.entry_edit.specs.Edits.{have_df_conflict}
use Rattle.entry_edit.proofs.Displacings.{others_told}
use Rattle.entry_edit.proofs.stage.in_the_way.Goals as goal

pub returns-then-sides : goal.returns-then-sides
returns-then-sides c = record {
  sides = search rules;
  others = λ o clear.
      let new = with_path c.args.path.now c.args.entry in
      let rs = c.args.entries.now in
      c.if-sides.true ∙ rw c.if-sides.true at (others_told new rs c.ends_conflict-sides.result (list_any (have_df_conflict new) rs)
      (c.ends_conflict-sides.ensures o) refl);
}

pub returns-else-sides : goal.returns-else-sides
returns-else-sides c = record {
  sides = search rules;
  others = λ o clear.
      let new = with_path c.args.path.now c.args.entry in
      let rs = c.args.entries.now in
      ap (λ b. b || c.has_df_conflict-others.result) (sym c.if-sides.false)
      ∙ others_told new rs c.ends_conflict-sides.result c.has_df_conflict-others.result (c.ends_conflict-sides.ensures
      o)
      (c.has_df_conflict-others.ensures o clear);
}
