use Rattle.std.proofs.Common.{arith, ◌≡◌, ◌-◌, ◌+◌, [], ◌∷◌, ◌++◌, add-one, map, sym}
use Rattle.std.specs.List.Sorted.{IsPermutation}
use Rattle.ext_tree.specs.NodeSteps.{lent_node_head}
use Rattle.ext_tree.specs.Tree.{node_of}
use Rattle.index_extensions.proofs.Errors.{at_err}
use Rattle.ext_tree.proofs.NodeHeads.{node_head_there}
use Rattle.ext_tree.proofs.Rows.{IsRow, none_at, row_of, row_push, first_of, others_of, same_row, node_from}
use Rattle.ext_tree.proofs.nodes.+push_node.Goals as goal

pub returns-in_default-clause-none : goal.returns-in_default-clause-none
returns-in_default-clause-none t c =
    none_at c.args.kind c.args.limit c.args.levels c.args.bytes.now (sym c.in_default.ensures)

pub returns-then-levels-eq0-clause-none : goal.returns-then-levels-eq0-clause-none
returns-then-levels-eq0-clause-none t c = λ u rest p.
    let r = row_of c.args.kind c.args.limit c.args.levels c.args.bytes.now c.in-Some.tail.now rest
    (lent_node_head c.in-Some.head) u (sym c.in-Some.ensures) p in
    let g = c.loop-i.invariant.1 r.nodes rest r.row in
    let f = first_of c.args.kind c.args.limit c.args.levels
    (c.in-Some.head.number - c.loop-i.i) c.loop-i.rest.now rest g.0 (omega arith) g.1 in
    omega (arith, f.level)

pub returns-in_default-2-clause-none : goal.returns-in_default-2-clause-none
returns-in_default-2-clause-none t c = λ u rest p.
    let r = row_of c.args.kind c.args.limit c.args.levels c.args.bytes.now c.in-Some.tail.now rest
    (lent_node_head c.in-Some.head) u (sym c.in-Some.ensures) p in
    let g = c.loop-i.invariant.1 r.nodes rest r.row in
    let f = first_of c.args.kind c.args.limit c.args.levels
    (c.in-Some.head.number - c.loop-i.i) c.loop-i.rest.now rest g.0 (omega arith) g.1 in
    let none = rw c.in_default-2.is at c.in_ok-after.ensures.none in
    none f.first f.after f.is_first

pub loop-i-preserved : goal.loop-i-preserved
loop-i-preserved t c =
    let some = rw c.in-Some-2.is at c.in_ok-after.ensures.some in
    let child = some.0 in
    let number = c.in-Some.head.number in
    let i = c.loop-i.i in
    let before = c.loop-i.rest.now in
    let after = c.in-Some-2.after.now in
    let longer : IsRow c.args.kind c.args.limit c.args.levels (i + 1) c.in-Some.tail.now
    (map node_of c.loop-i.children.items ++ child ∷ []) after =
    rw add-one (row_push c.args.kind c.args.limit c.args.levels i c.in-Some.tail.now before after
    (map node_of c.loop-i.children.items) child (omega arith) c.loop-i.invariant.0 some.2) in (
      rw some.1 longer,
      λ ts end p.
          let g = c.loop-i.invariant.1 ts end p in
          let o = others_of c.args.kind c.args.limit c.args.levels (number - i) before after end g.0 child
          (omega arith) g.1 some.2 in
          let fewer : number - (i + 1) ≡ number - i - 1 = omega arith in
          (o.0, rw fewer o.1),
    )

pub returns-then-not-branch-clause-none : goal.returns-then-not-branch-clause-none
returns-then-not-branch-clause-none t c = λ u rest p.
    let children = map node_of c.loop-i.children.items in
    let r = row_of c.args.kind c.args.limit c.args.levels c.args.bytes.now c.in-Some.tail.now rest
    (lent_node_head c.in-Some.head) u (sym c.in-Some.ensures) p in
    let all : c.loop-i.i ≡ c.in-Some.head.number = omega arith in
    let row : IsRow c.args.kind c.args.limit c.args.levels c.in-Some.head.number c.in-Some.tail.now children
    c.loop-i.rest.now = rw (← all) c.loop-i.invariant.0 in
    let same : r.nodes ≡ children = same_row c.args.kind c.args.limit c.args.levels c.in-Some.head.number
    c.in-Some.tail.now rest c.loop-i.rest.now r.nodes children r.row row in
    let order : IsPermutation children r.ordered = rw (← same) r.order in
    c.in_ok-push_tree.ensures.refused c.if-not-branch.true r.ordered order r.rise

pub returns-clause-some : goal.returns-clause-some
returns-clause-some t c =
    let children = map node_of c.loop-i.children.items in
    let made = c.in_ok-push_tree.ensures.pushed c.if-not-branch.false in
    let all : c.loop-i.i ≡ c.in-Some.head.number = omega arith in
    let row : IsRow c.args.kind c.args.limit c.args.levels c.in-Some.head.number c.in-Some.tail.now children
    c.loop-i.rest.now = rw (← all) c.loop-i.invariant.0 in (
      _,
      made.3,
      node_from c.args.kind c.args.limit c.args.levels c.args.bytes.now c.in-Some.tail.now c.loop-i.rest.now
          (lent_node_head c.in-Some.head) children made.0 (sym c.in-Some.ensures) row made.1 made.2,
    )

pub returns-in_err-after-clause-memory : goal.returns-in_err-after-clause-memory
returns-in_err-after-clause-memory t c = at_err c.from_residual.result (node_head_there c.args.kind c.args.limit
    c.args.bytes.now (lent_node_head c.in-Some.head) c.in-Some.tail.now (sym c.in-Some.ensures))

pub returns-in_err-push_tree-clause-memory : goal.returns-in_err-push_tree-clause-memory
returns-in_err-push_tree-clause-memory t c = at_err c.from_residual-in_err-push_tree.result (node_head_there c.args.kind
    c.args.limit c.args.bytes.now (lent_node_head c.in-Some.head) c.in-Some.tail.now (sym c.in-Some.ensures))
