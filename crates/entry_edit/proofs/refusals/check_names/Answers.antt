use Rattle.std.proofs.Common.{◌≡◌, ◌+◌, ◌∙◌, Option, Some, None, MatchResult, sym, ap, refl, subst, drop}
use Rattle.std.proofs.lemmas.Result.{err_from_is_err_and}
use Rattle.std.specs.Option.{is_some, option_or}
use Rattle.index_parts.specs.declared.object.tree.EntryKind.TheVariants as kinds
use Rattle.entry_edit.specs.Refusals.{name_fault, names_fault, names_of}
use Rattle.entry_edit.specs.declared.error.Error.{Error}
use Rattle.entry_edit.proofs.Names.{first_name, last_name}
use Rattle.entry_edit.proofs.refusals.check_names.Goals as goal

pub returns-in_err-check_name : goal.returns-in_err-check_name
returns-in_err-check_name g c =
    let check = g.C.ComponentCheck.refusal c.args.check.now in
    let rest = c.loop-at.rest.now in
    let some = c.in-Some.ensures.some in
    let p = err_from_is_err_and c.from_residual.result c.from_residual.ensures.1 in
    rw (p.1, p.2) (c.loop-at.invariant ∙ first_name check c.args.kind rest c.in-Some.at some.0 some.1 some.2
    ∙ ap (λ x. option_or (name_fault check kinds.Tree x) (names_fault check c.args.kind
    (names_of (drop (c.in-Some.at + 1) rest)))) (sym c.split_at.ensures.front) ∙ rw c.in_err-check_name.ensures refl)

pub loop-at-preserved : goal.loop-at-preserved
loop-at-preserved g c =
    let check = g.C.ComponentCheck.refusal c.args.check.now in
    let rest = c.loop-at.rest.now in
    let some = c.in-Some.ensures.some in
    c.loop-at.invariant ∙ first_name check c.args.kind rest c.in-Some.at some.0 some.1 some.2
    ∙ ap (λ x. option_or (name_fault check kinds.Tree x) (names_fault check c.args.kind
    (names_of (drop (c.in-Some.at + 1) rest)))) (sym c.split_at.ensures.front)
    ∙ ap (λ x. option_or x (names_fault check c.args.kind (names_of (drop (c.in-Some.at + 1) rest))))
    c.in_ok-check_name.ensures
    ∙ ap (λ x. names_fault check c.args.kind (names_of x)) (sym c.split_at-in-Some.ensures.back)

pub returns : goal.returns
returns g c =
    let check = g.C.ComponentCheck.refusal c.args.check.now in
    let rest = c.loop-at.rest.now in
    let P : Option Error → Type 0 =
    λ x. MatchResult c.check_name-2.result (λ _. x ≡ None) (λ e. x ≡ Some e) in
    subst P (sym (c.loop-at.invariant ∙ last_name check c.args.kind rest (c.first_of.ensures.none (ap is_some c.in_default.is))))
    c.check_name-2.ensures
