use Rattle.std.proofs.Common.{◌≡◌, ◌∙◌, refl, sym, ap, subst, take, ◌||◌}
use Rattle.std.specs.List.{list_any}
use Rattle.std.specs.Prelude.{is_some}
use Rattle.entry_list.specs.Order.{record_stage}
use Rattle.entry_list.specs.Record.{with_path}
use Rattle.entry_lookup.proofs.Lookup.{ordered_by_path}
use Rattle.entry_fields.specs.Flags.{stage_code}
use Rattle.entry_edit.specs.EditSteps.{IsClear, stands_above, stands_below}
use Rattle.entry_edit.proofs.Anys.{any_placed}
use Rattle.entry_edit.proofs.Stages.{stage_is}
use Rattle.entry_edit.proofs.Ways.{odds_told}
use Rattle.entry_edit.proofs.df_conflicts.has_df_conflict.Goals as goal

pub returns-then-has_below : goal.returns-then-has_below
returns-then-has_below c = λ o clear.
    let new = with_path c.args.path.now c.args.entry in
    let rs = c.args.entries.now in
    let below = c.if-has_below.true in
    let told = odds_told new rs c.has_below.result _
    (c.has_below.ensures (ordered_by_path rs o) ∙ ap (λ n. list_any (stands_below c.args.path.now n) rs) c.stage_raw.ensures) refl in
    c.if-has_below.true ∙ rw c.if-has_below.true at told

pub returns-else-has_below : goal.returns-else-has_below
returns-else-has_below c = λ o clear.
    let path = c.args.path.now in
    let new = with_path path c.args.entry in
    let rs = c.args.entries.now in
    let code = ap stage_code c.stage.ensures ∙ stage_is c.args.entry.flags.0 in
    let first = c.first_above.ensures.first o (subst (λ n. IsClear (take c.args.checked_len path) n rs) (sym code)
    clear) in
    let above : c.is_some.result ≡ list_any (stands_above path (record_stage new)) rs =
    c.is_some.ensures ∙ ap is_some first ∙ any_placed (stands_above path (stage_code c.stage.result)) rs
    ∙ ap (λ n. list_any (stands_above path n) rs) code in
    let told = odds_told new rs c.has_below.result c.is_some.result
    (c.has_below.ensures (ordered_by_path rs o) ∙ ap (λ n. list_any (stands_below path n) rs) c.stage_raw.ensures) above in
    ap (λ b. b || c.is_some.result) (sym c.if-has_below.false) ∙ told
