use Rattle.std.proofs.Common.{◌<◌, ◌∙◌, List, arith, length, subst, sym, take}
use Rattle.std.proofs.lemmas.List.{length-map}
use Rattle.gix_index.specs.EntryImage.{written}
use Rattle.gix_index.specs.Order.{IsStrictlyOrdered}
use Rattle.gix_index.specs.Record.{Record}
use Rattle.capi_table.specs.Table.{records_of, spelled}
use Rattle.capi_table.proofs.WrittenRows.{EndsIn, falls_at, rises_at, row_more, row_skipped}
use Rattle.capi_table.proofs.spell.first_fallen.Goals as goal

pub loop-place-preserved-then-is_left_out : goal.loop-place-preserved-then-is_left_out
loop-place-preserved-then-is_left_out c =
    let e = row_skipped c.args.paths.now c.args.rows.now c.loop-place.place _ c.loop-place-test.true
    (sym c.is_left_out.ensures ∙ c.if-is_left_out.true) in
    record {
      ordered = subst IsStrictlyOrdered (sym e) c.loop-place.invariant.ordered;
      ends = subst (λ (rs : List Record). EndsIn c.args.paths.now rs c.loop-place.before) (sym e)
          c.loop-place.invariant.ends;
    }

pub returns-then-falls : goal.returns-then-falls
returns-then-falls c =
    let inside : c.loop-place.place < length (records_of c.args.paths.now c.args.rows.now) =
    omega (arith, c.loop-place-test.true, length-map c.args.rows.now (spelled c.args.paths.now)) in (
      inside,
      c.loop-place.invariant.ordered,
      falls_at c.args.paths.now c.args.rows.now c.loop-place.place _ c.loop-place.before c.loop-place-test.true
          (sym c.is_left_out.ensures ∙ c.if-is_left_out.false) c.loop-place.invariant.ends
          (sym c.falls.ensures ∙ c.if-falls.true),
    )

pub loop-place-preserved : goal.loop-place-preserved
loop-place-preserved c =
    let kept = sym c.is_left_out.ensures ∙ c.if-is_left_out.false in
    record {
      ordered = rises_at c.args.paths.now c.args.rows.now c.loop-place.place _ c.loop-place.before
          c.loop-place-test.true kept c.loop-place.invariant.ordered c.loop-place.invariant.ends
          (sym c.falls.ensures ∙ c.if-falls.false);
      ends = (
        written (take c.loop-place.place (records_of c.args.paths.now c.args.rows.now)),
        row_more c.args.paths.now c.args.rows.now c.loop-place.place _ c.loop-place-test.true kept,
      );
    }
