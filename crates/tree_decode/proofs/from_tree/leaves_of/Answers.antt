use Rattle.std.proofs.Common.{rules, ◌≡◌, ◌-◌, ◌+◌, suc, Ok, Err, subst, arith}
use Rattle.std.proofs.lemmas.Result.{err_from_is_err_and}
use Rattle.tree_decode.proofs.LeavesOrder.{leaves_ordered}
use Rattle.tree_decode.proofs.Listings.{says_also}
use Rattle.tree_decode.proofs.Trees.{way_begins, way_ends, way_fails, way_limit, way_reaches, way_sound, way_unread}
use Rattle.tree_decode.specs.Leaves.{AreLeaves, IsUnreadTree}
use Rattle.tree_decode.specs.LeafSteps.{Ends, WalkHasFault, Reaches, EndsOrReaches}
use Rattle.tree_decode.proofs.from_tree.leaves_of.Goals as goal

pub loop-init : goal.loop-init
loop-init g c = record {
  within = omega arith;
  way = way_begins (g.F.Find.found c.args.objects.now) (g.C.ComponentCheck.refusal c.args.check.now) c.kind-kind.result
      c.args.tree.now c.args.max_objects c.kind-kind.ensures (c.args.max_objects - 0) (omega arith)
      c.new-walk.result c.new-walk.ensures.levels c.new-walk.ensures.path c.new-walk.ensures.records
      c.new-walk.ensures.packed;
}

pub returns : goal.returns
returns g c =
    record {
      leaves = search rules;
      packed = search rules;
      ordered = search rules;
      fault = way_limit (g.F.Find.found c.args.objects.now) (g.C.ComponentCheck.refusal c.args.check.now) c.kind-kind.result
          c.args.tree.now c.args.max_objects c.kind-kind.ensures
          (c.args.max_objects - c.loop.counter) c.loop.walk c.loop.next c.loop.invariant.way
          (omega (arith, c.loop-test.false));
    }

pub returns-in_err-bytes : goal.returns-in_err-bytes
returns-in_err-bytes g c =
    let find = g.F.Find.found c.args.objects.now in
    let check = g.C.ComponentCheck.refusal c.args.check.now in
    let kind = c.kind-kind.result in
    let left : c.args.max_objects - c.loop.counter ≡ suc (c.args.max_objects - (c.loop.counter + 1)) =
    omega (arith, c.loop-test.true) in
    let p = err_from_is_err_and c.from_residual.result c.from_residual.ensures.1 in
    record {
      leaves = rw p.1 tt;
      packed = rw p.1 tt;
      ordered = rw p.1 tt;
      fault = rw (p.1, p.2) (says_also c.in_err-bytes.field-0.0 (IsUnreadTree find kind c.loop.next)
          (λ f. AreLeaves find check c.args.tree.now c.args.max_objects (Err f))
          (λ f u. way_unread find check kind c.args.tree.now c.args.max_objects c.kind-kind.ensures
          (c.args.max_objects - c.loop.counter) c.loop.walk c.loop.next c.loop.invariant.way _ left f u)
          c.in_err-bytes.ensures.fault);
    }

pub next_tree-requires : goal.next_tree-requires
next_tree-requires g c =
    let left : c.args.max_objects - c.loop.counter ≡ suc (c.args.max_objects - (c.loop.counter + 1)) =
    omega (arith, c.loop-test.true) in
    way_sound (g.F.Find.found c.args.objects.now) (g.C.ComponentCheck.refusal c.args.check.now) c.kind-kind.result
    c.args.tree.now c.args.max_objects c.kind-kind.ensures
    (c.args.max_objects - c.loop.counter) c.loop.walk c.loop.next c.loop.invariant.way _ left c.begin.new.self
    c.in_ok-bytes.bytes.items c.in_ok-bytes.ensures.found c.in_ok-bytes.ensures.whole c.in_ok-begin.ensures.begins

pub returns-in_err-id : goal.returns-in_err-id
returns-in_err-id g c =
    let find = g.F.Find.found c.args.objects.now in
    let check = g.C.ComponentCheck.refusal c.args.check.now in
    let kind = c.kind-kind.result in
    let left : c.args.max_objects - c.loop.counter ≡ suc (c.args.max_objects - (c.loop.counter + 1)) =
    omega (arith, c.loop-test.true) in
    let p = err_from_is_err_and c.from_residual-in_err-id.result c.from_residual-in_err-id.ensures.1 in
    record {
      leaves = rw p.1 tt;
      packed = rw p.1 tt;
      ordered = rw p.1 tt;
      fault = rw (p.1, p.2) (says_also c.in_err-id.field-0.0 (WalkHasFault check kind c.begin.new.self)
          (λ f. AreLeaves find check c.args.tree.now c.args.max_objects (Err f))
          (λ f u. way_fails find check kind c.args.tree.now c.args.max_objects c.kind-kind.ensures
          (c.args.max_objects - c.loop.counter) c.loop.walk c.loop.next c.loop.invariant.way _ left
          c.begin.new.self c.in_ok-bytes.bytes.items c.in_ok-bytes.ensures.found c.in_ok-bytes.ensures.whole
          c.in_ok-begin.ensures.begins f u)
          c.in_err-id.ensures.fault);
    }

pub returns-in-None : goal.returns-in-None
returns-in-None g c =
    let find = g.F.Find.found c.args.objects.now in
    let check = g.C.ComponentCheck.refusal c.args.check.now in
    let kind = c.kind-kind.result in
    let left : c.args.max_objects - c.loop.counter ≡ suc (c.args.max_objects - (c.loop.counter + 1)) =
    omega (arith, c.loop-test.true) in
    let ends : Ends check kind c.begin.new.self c.next_tree.new.self =
    subst (EndsOrReaches check kind c.begin.new.self c.next_tree.new.self) c.in-None.is c.in_ok-id.ensures.steps in
    let leaves : AreLeaves find check c.args.tree.now c.args.max_objects (Ok c.into_leaves.result.records) =
    rw c.into_leaves.ensures
    (way_ends find check kind c.args.tree.now c.args.max_objects c.kind-kind.ensures
    (c.args.max_objects - c.loop.counter) c.loop.walk c.loop.next c.loop.invariant.way _ left
    c.begin.new.self c.in_ok-bytes.bytes.items c.in_ok-bytes.ensures.found c.in_ok-bytes.ensures.whole
    c.in_ok-begin.ensures.begins c.next_tree.new.self ends) in
    record {
      leaves = leaves;
      packed = search rules;
      ordered = λ sorted. leaves_ordered find check c.args.tree.now c.args.max_objects _ sorted leaves;
      fault = search rules;
    }

pub loop-preserved : goal.loop-preserved
loop-preserved g c =
    let find = g.F.Find.found c.args.objects.now in
    let check = g.C.ComponentCheck.refusal c.args.check.now in
    let kind = c.kind-kind.result in
    let left : c.args.max_objects - c.loop.counter ≡ suc (c.args.max_objects - (c.loop.counter + 1)) =
    omega (arith, c.loop-test.true) in
    let reaches : Reaches check kind c.begin.new.self c.next_tree.new.self c.in-Some.id =
    subst (EndsOrReaches check kind c.begin.new.self c.next_tree.new.self) c.in-Some.is c.in_ok-id.ensures.steps in
    record {
      within = omega (arith, c.loop-test.true);
      way = way_reaches find check kind c.args.tree.now c.args.max_objects c.kind-kind.ensures
          (c.args.max_objects - c.loop.counter) c.loop.walk c.loop.next c.loop.invariant.way _ left
          c.begin.new.self c.in_ok-bytes.bytes.items c.in_ok-bytes.ensures.found c.in_ok-bytes.ensures.whole
          c.in_ok-begin.ensures.begins c.next_tree.new.self c.in-Some.id reaches;
    }
