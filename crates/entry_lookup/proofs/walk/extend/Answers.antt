use Rattle.std.proofs.Common.{List, Vec, ap, arith, get_or, map, sym, ◌≡◌, ◌∙◌}
use Rattle.std.specs.declared.alloc.Global.{Global}
use Rattle.std.proofs.lemmas.List.{length-map}
use Rattle.entry_lookup.specs.WalkSteps.{extended, span_value}
use Rattle.entry_lookup.specs.declared.walk.Span.{Span}
use Rattle.entry_lookup.proofs.OpenSpans.{stayed, went_on, widened_is, widened_not}
use Rattle.entry_lookup.proofs.walk.extend.Goals as goal
use Rattle.entry_lookup.proofs.walk.extend.Goals.{then-is_parent, else-is_parent}

pub loop-i-preserved : goal.loop-i-preserved
loop-i-preserved c =
    let go = extended c.args.own c.args.path.now c.args.place in
    let old : List Span = c.args.live.now.items in
    let live : List Span = c.loop-i.live.items in
    let i = c.loop-i.i in
    let s : Span = c.index-span.result.now in
    let read : go (span_value c.index-span.result.now) ≡ go (span_value (get_or live i c.index-span.result.now)) =
    ap (λ (x : Span). go (span_value x)) c.index-span.ensures in
    elim c.if-is_parent.branch [
      | then-is_parent w ↦ went_on go (map span_value old) live c.if-is_parent.live.items i c.loop-i.invariant
          (omega (arith, c.loop-i-test.true, c.len-i-end.ensures, length-map old span_value, c.args.live.now.ok.0)) s _
          (ap (λ (v : Vec Span Global). v.items) w.live-is) (widened_is _ c.args.place (span_value s) _ _
          (sym c.is_parent.ensures ∙ w.if-is_parent.true) w.min.ensures w.max.ensures ∙ read)
      | else-is_parent w ↦ stayed go (map span_value old) live c.if-is_parent.live.items i c.loop-i.invariant
          (omega (arith, c.loop-i-test.true, c.len-i-end.ensures, length-map old span_value, c.args.live.now.ok.0)) s
          (ap (λ (v : Vec Span Global). v.items) w.live-is) (sym read ∙ widened_not _ c.args.place (span_value s)
          (sym c.is_parent.ensures ∙ w.if-is_parent.false) ∙ ap span_value c.index-span.ensures)
    ]
