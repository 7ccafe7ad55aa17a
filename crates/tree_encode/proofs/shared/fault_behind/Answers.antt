use Rattle.std.proofs.Common.{◌≡◌, ℕ, ◌-◌, List, take, drop, ap, subst, ◌∙◌, arith, IfSome}
use Rattle.std.specs.Prelude.{count_by}
use Rattle.tree_encode.specs.Refusals.{IsMisnamed, IsTreePath}
use Rattle.tree_encode.proofs.SharedPaths.{count_fits, is_slash, right_whole, wrong_some}
use Rattle.tree_encode.proofs.shared.fault_behind.Goals as goal

pub overflow_cast-slashes : goal.overflow_cast-slashes
overflow_cast-slashes g c =
    let n = c.shared_front.result in
    let is : c.slashes.result ≡ count_by is_slash (take n c.args.path.now) =
    c.slashes.ensures ∙ ap (count_by is_slash) c.split_at.ensures.front in
    omega (
      arith,
      is,
      c.ranges.levels.fits,
      count_fits (g.C.ComponentCheck.refusal c.args.check.now) c.args.levels n c.args.before.now c.args.path.now
          c.requires c.shared_front.ensures.same c.shared_front.ensures.slash,
    )

pub overflow_sub-levels : goal.overflow_sub-levels
overflow_sub-levels g c =
    let n = c.shared_front.result in
    let is : c.slashes.result ≡ count_by is_slash (take n c.args.path.now) =
    c.slashes.ensures ∙ ap (count_by is_slash) c.split_at.ensures.front in
    omega (
      arith,
      is,
      count_fits (g.C.ComponentCheck.refusal c.args.check.now) c.args.levels n c.args.before.now c.args.path.now
          c.requires c.shared_front.ensures.same c.shared_front.ensures.slash,
    )

pub returns-clause-none : goal.returns-clause-none
returns-clause-none g c = λ none.
    let check = g.C.ComponentCheck.refusal c.args.check.now in
    let n = c.shared_front.result in
    let is : c.slashes.result ≡ count_by is_slash (take n c.args.path.now) =
    c.slashes.ensures ∙ ap (count_by is_slash) c.split_at.ensures.front in
    right_whole check c.args.levels n c.args.before.now c.args.path.now c.requires c.shared_front.ensures.same
    c.shared_front.ensures.slash c.args.kind
    (subst (λ (m : ℕ). IsTreePath check (c.args.levels - m) c.args.kind (drop n c.args.path.now)) is
    (subst (λ (p : List ℕ). IsTreePath check (c.args.levels - c.slashes.result) c.args.kind p)
    c.split_at.ensures.back (c.fault_of.ensures.none none)))

pub returns-clause-some : goal.returns-clause-some
returns-clause-some g c =
    let check = g.C.ComponentCheck.refusal c.args.check.now in
    let n = c.shared_front.result in
    let is : c.slashes.result ≡ count_by is_slash (take n c.args.path.now) =
    c.slashes.ensures ∙ ap (count_by is_slash) c.split_at.ensures.front in
    wrong_some check c.args.levels n c.args.before.now c.args.path.now c.requires c.shared_front.ensures.same
    c.shared_front.ensures.slash c.args.kind c.fault_of.result
    (subst (λ (m : ℕ). IfSome c.fault_of.result (IsMisnamed check (c.args.levels - m) c.args.kind
    (drop n c.args.path.now))) is
    (subst (λ (p : List ℕ). IfSome c.fault_of.result (IsMisnamed check (c.args.levels - c.slashes.result)
    c.args.kind p)) c.split_at.ensures.back c.fault_of.ensures.some))
