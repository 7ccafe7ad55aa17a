use Rattle.std.proofs.Common.{◌<◌, ◌+◌, drop, ap, sym, ◌∙◌}
use Rattle.std.specs.Prelude.{slice_range}
use Rattle.entry_list.specs.Record.{Record}
use Rattle.base_search.specs.Prefix.{prefix_cmp}
use Rattle.base_search.proofs.Places.{mapped_at}
use Rattle.tree_encode.proofs.RunEnds.{range_at, range_inside}
use Rattle.tree_encode.proofs.ends.TailsOrdered.compare.Goals as goal

pub returns : goal.returns
returns c =
    let s = c.args.self.now in
    let rs = s.entries.now in
    let answer : _ = λ (r : Record). prefix_cmp s.shown.now (drop s.prefix_len r.path) in
    let inside : s.start + c.args.place < s.end = range_inside answer rs s.start s.end c.args.place c.requires in
    mapped_at answer (slice_range rs s.start s.end) c.args.place c.compare_tail.result c.requires
    (λ d. ap answer (range_at rs s.start s.end c.args.place d inside)
    ∙ ap (λ p. prefix_cmp s.shown.now (drop s.prefix_len p)) (c.path-path.ensures d) ∙ sym c.compare_tail.ensures)
