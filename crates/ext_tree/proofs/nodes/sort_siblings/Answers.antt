use Rattle.std.proofs.Common.{arith, ◌≡◌, ◌<◌, ◌-◌, length, List, map, slice_index_or, rules, false, sym, ap, subst}
use Rattle.std.proofs.Common.{◌∙◌}
use Rattle.std.specs.Ordering.{is_lt}
use Rattle.std.specs.declared.cmp.Ordering.TheVariants.{Less}
use Rattle.std.proofs.lemmas.List.{length-map}
use Rattle.std.proofs.lemmas.List.Sorted.{IsPermutation-map, all_adjacent_more}
use Rattle.ext_tree.specs.Tree.{node_of, name_cmp, NamesRise}
use Rattle.ext_tree.proofs.Sorted.{read_map, less_from, rise_from_adjacent, sorted_at, no_order}
use Rattle.ext_tree.proofs.nodes.sort_siblings.Goals as goal

pub returns-then-not-is_lt-clause-same : goal.returns-then-not-is_lt-clause-same
returns-then-not-is_lt-clause-same c = IsPermutation-map node_of c.args.siblings.now.items
    c.sort_unstable_by.new.self.items c.sort_unstable_by.ensures.permutation

pub loop-i-preserved : goal.loop-i-preserved
loop-i-preserved c =
    let xs = c.as_slice-sorted.result.now in
    let i = c.loop-i.i in
    let less : name_cmp (node_of c.index-sorted-i.result) (node_of c.index-sorted-i-in-loop-i.result) ≡ Less =
    sym c.compare_names.ensures ∙ less_from c.compare_names.result (sym c.is_lt.ensures ∙ c.if-not-is_lt.false) in
    all_adjacent_more (map node_of xs) (λ t u. name_cmp t u ≡ Less) i (omega arith) c.loop-i.invariant (λ d.
    let a : slice_index_or (map node_of xs) (i - 1) d ≡ node_of c.index-sorted-i.result =
    read_map node_of xs (i - 1) c.index-sorted-i.result d (omega arith) c.index-sorted-i.is in
    let b : slice_index_or (map node_of xs) i d ≡ node_of c.index-sorted-i-in-loop-i.result =
    read_map node_of xs i c.index-sorted-i-in-loop-i.result d c.loop-i-test.true c.index-sorted-i-in-loop-i.is in
    rw (a, b) less)

pub returns-clause-same : goal.returns-clause-same
returns-clause-same c = IsPermutation-map node_of c.args.siblings.now.items c.sort_unstable_by.new.self.items
    c.sort_unstable_by.ensures.permutation

pub returns-clause-apart : goal.returns-clause-apart
returns-clause-apart c = λ _.
    let xs = c.as_slice-sorted.result.now in
    let P : List _ → Type 0 = λ ys. NamesRise (map node_of ys) in
    subst P c.as_slice-sorted.ensures.value
    (rise_from_adjacent (map node_of xs) (λ k d l. c.loop-i.invariant k d (omega (arith, length-map xs node_of))))

pub returns-then-not-is_lt-clause-refused : goal.returns-then-not-is_lt-clause-refused
returns-then-not-is_lt-clause-refused c = λ _.
    let xs = c.as_slice-sorted.result.now in
    let i = c.loop-i.i in
    let new = c.sort_unstable_by.new.self.items in
    let e : xs ≡ new = c.as_slice-sorted.ensures.value in
    let l : i < length new = rw (← e) c.loop-i-test.true in
    let ra = rw e at c.index-sorted-i.is in
    let rb = rw e at c.index-sorted-i-in-loop-i.is in
    let k : is_lt (name_cmp (node_of c.index-sorted-i.result) (node_of c.index-sorted-i-in-loop-i.result)) ≡ false =
    ap is_lt (sym c.compare_names.ensures) ∙ sym c.is_lt.ensures ∙ c.if-not-is_lt.true in
    let h = sorted_at _ _ new c.sort_unstable_by.ensures.sorted
    (λ a r f' q. search rules) i c.index-sorted-i.result c.index-sorted-i-in-loop-i.result (omega arith) l ra rb in
    no_order (map node_of c.args.siblings.now.items) new i c.index-sorted-i.result c.index-sorted-i-in-loop-i.result
    (IsPermutation-map node_of c.args.siblings.now.items new c.sort_unstable_by.ensures.permutation)
    (omega arith) l ra rb h k
