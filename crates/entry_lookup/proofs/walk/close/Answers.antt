use Rattle.std.proofs.Common.{List, ap, arith, get_or, length, ℕ, sym, suc, ◌-◌, ◌≤◌, ◌≡◌, ◌∙◌}
use Rattle.std.proofs.lemmas.List.{get_or_default}
use Rattle.entry_lookup.specs.declared.walk.Span.{Span}
use Rattle.entry_lookup.proofs.OpenSpans.{left_one, long_one, moved_one}
use Rattle.entry_lookup.proofs.walk.close.Goals as goal

pub loop-live-preserved : goal.loop-live-preserved
loop-live-preserved c =
    let old : List Span = c.args.live.now.items in
    let live : List Span = c.loop-live.live.items in
    let new : List Span = c.truncate.new.self.items in
    let s : Span = c.index-in-loop-live.result.now in
    let before = c.loop-live.invariant in
    let m = c.len-last.result - 1 in
    let len : suc (c.len-last.result - 1) ≡ length live = omega (arith, c.loop-live-test.true, c.loop-live.live.ok.0) in
    let level : c.len-in-loop-live.result - 1 ≡ m = omega arith in
    let same : c.index.result.now ≡ s = c.index.ensures ∙ ap (λ (i : ℕ). get_or live i c.index.result.now) level
    ∙ get_or_default live m c.index.result.now s (omega arith) ∙ sym c.index-in-loop-live.ensures in
    let long : c.args.len ≤ length s.name.now =
    omega (arith, c.if-index-len.true, ap (λ (x : Span). length x.name.now) same) in
    record {
      within = omega (arith, c.truncate.ensures.len, c.truncate.new.self.ok.0, c.loop-live.live.ok.0, before.within);
      left = left_one old live new c.args.closed.now.items c.loop-live.closed.items c.push.new.self.items s m len
          before.within before.left c.index-in-loop-live.ensures c.truncate.ensures.items c.in_ok-push.ensures.items
          before.moved;
      moved = moved_one old live new c.args.closed.now.items c.loop-live.closed.items c.push.new.self.items s m len
          before.within before.left c.index-in-loop-live.ensures c.truncate.ensures.items c.in_ok-push.ensures.items
          before.moved;
      long = long_one old live new c.args.closed.now.items c.loop-live.closed.items c.push.new.self.items s m len
          before.within before.left c.index-in-loop-live.ensures c.truncate.ensures.items c.in_ok-push.ensures.items
          before.moved c.args.len long before.long;
    }
