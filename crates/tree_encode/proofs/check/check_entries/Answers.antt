use Rattle.std.proofs.Common.{◌≡◌, ◌⊎◌, [], ◌<◌, ◌^◌, ◌+◌, List, length, map, take, sym, ap, subst, arith}
use Rattle.std.proofs.lemmas.Result.{err_from_is_err_and}
use Rattle.tree_encode.specs.ApartSteps.{EndsWith}
use Rattle.tree_encode.specs.Refusals.{AreRefused, too_many}
use Rattle.tree_encode.specs.Staged.{staged_in, staged_of}
use Rattle.tree_encode.specs.declared.leaf.Leaf.{Leaf}
use Rattle.tree_encode.proofs.Checked.{both_fault, first_fault, fit_more, kept_leaf, kept_none_more, says_weaker}
use Rattle.tree_encode.proofs.Ranges.{no_record}
use Rattle.tree_encode.proofs.Aparts.{MayBegin}
use Rattle.tree_encode.proofs.SharedPaths.{last_passed}
use Rattle.tree_encode.proofs.check.check_entries.Goals as goal
use Rattle.tree_encode.proofs.check.check_entries.Goals.{in-Some+in_ok-check_apart, in_default}

pub returns-then-len-clause-fault : goal.returns-then-len-clause-fault
returns-then-len-clause-fault g c = too_many (omega (arith, c.if-len.true, c.len.ensures))

pub returns-in_err-check_entry-clause-fault : goal.returns-in_err-check_entry-clause-fault
returns-in_err-check_entry-clause-fault g c =
    let p = err_from_is_err_and c.from_residual.result c.from_residual.ensures.1 in
    let check = g.C.ComponentCheck.refusal c.args.check.now in
    let rs = c.args.entries.now in
    let i = c.loop-place.place in
    let few : length rs < 2 ^ 31 = omega (arith, c.if-len.false, c.len.ensures) in
    rw (p.1, p.2) (says_weaker c.in_err-check_entry.field-0.0 (λ n. ⊥) _ (AreRefused check c.args.kind rs)
    (λ f h. first_fault check c.args.kind rs i (omega arith) (map staged_of c.loop-place.files.items) f few
    c.loop-place.invariant.each c.loop-place.invariant.kept (h no_record (staged_in (take i rs))))
    c.in_err-check_entry.ensures.fault)

pub returns-in_err-check_apart-clause-fault : goal.returns-in_err-check_apart-clause-fault
returns-in_err-check_apart-clause-fault g c =
    let p =
    err_from_is_err_and c.from_residual-in_err-check_apart.result c.from_residual-in_err-check_apart.ensures.1 in
    let check = g.C.ComponentCheck.refusal c.args.check.now in
    let rs = c.args.entries.now in
    let i = c.loop-place.place in
    let few : length rs < 2 ^ 31 = omega (arith, c.if-len.false, c.len.ensures) in
    rw (p.1, p.2) (says_weaker c.in_err-check_apart.field-0.0 (λ n. ⊥) _ (AreRefused check c.args.kind rs)
    (λ f h. first_fault check c.args.kind rs i (omega arith)
    (map staged_of c.loop-place.files.items) f few c.loop-place.invariant.each c.loop-place.invariant.kept
    (both_fault check c.args.kind rs i (omega arith) c.loop-place.files.items c.leaf_at.result c.in-Some.leaf f
    c.in-Some.is c.leaf_at.ensures c.in_ok-check_entry.ensures.fit c.loop-place.invariant.kept h))
    c.in_err-check_apart.ensures.fault)

pub loop-place-preserved : goal.loop-place-preserved
loop-place-preserved g c =
    let check = g.C.ComponentCheck.refusal c.args.check.now in
    let kind = c.args.kind in
    let rs = c.args.entries.now in
    let i = c.loop-place.place in
    let lt : i < length rs = omega arith in
    let fit = c.in_ok-check_entry.ensures.fit in
    record {
      each = fit_more check kind rs i lt c.loop-place.invariant.each fit;
      kept = elim c.match-leaf_at.branch [
        | in-Some+in_ok-check_apart w ↦
            let k = w.in_ok-check_apart.ensures.beginnings in
            subst (λ (l : List Leaf). MayBegin (staged_in (take (i + 1) rs)) (map staged_of l))
            (sym (ap (λ v. v.items) w.files-is))
            (kept_leaf check kind rs i lt c.requires c.loop-place.invariant.each fit c.loop-place.files.items
            c.leaf_at.result w.in-Some.leaf w.in-Some.is c.leaf_at.ensures c.loop-place.invariant.kept k.0
            w.check_apart.new.files.items k.1 k.2)
        | in_default w ↦
            subst (λ (l : List Leaf). MayBegin (staged_in (take (i + 1) rs)) (map staged_of l))
            (sym (ap (λ v. v.items) w.files-is))
            (kept_none_more check kind rs i lt c.loop-place.files.items c.leaf_at.result w.in_default.is
            c.leaf_at.ensures c.loop-place.invariant.kept)
      ];
    }

pub check_entry-requires-clause-passed : goal.check_entry-requires-clause-passed
check_entry-requires-clause-passed g c =
    let path = c.last_path.result.now in
    last_passed (g.C.ComponentCheck.refusal c.args.check.now) c.args.kind (take c.loop-place.place c.args.entries.now)
    c.loop-place.files.items path c.loop-place.invariant.each c.loop-place.invariant.kept
    (subst (λ (l : List Leaf). (path ≡ []) ⊎ EndsWith l (λ f. f.path.now ≡ path)) c.deref.ensures.value
    c.last_path.ensures)
