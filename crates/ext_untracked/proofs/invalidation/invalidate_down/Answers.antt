use Rattle.std.proofs.Common.{◌≡◌, ◌∙◌, List, None, Some, ap, map, refl, sym}
use Rattle.ext_untracked.specs.Blocks.{directory_value}
use Rattle.ext_untracked.specs.UntrackedEdits.{invalidated_from, sub_named}
use Rattle.ext_untracked.specs.declared.Directory.{Directory}
use Rattle.ext_untracked.proofs.Invalidating.{ended, missed, passed, went_on}
use Rattle.ext_untracked.proofs.invalidation.invalidate_down.Goals as goal

pub returns-in_default-sub_named : goal.returns-in_default-sub_named
returns-in_default-sub_named c =
    let wholes = c.args.wholes in
    let ds = map directory_value c.loop-slash.directories.items in
    let place = c.loop-slash.place in
    let name = c.split_at.result.0.now in
    let none : sub_named (passed wholes place ds) _ place ≡ None =
    ap (λ n. sub_named (passed wholes place ds) n place) (sym c.split_at.ensures.front)
    ∙ ap (λ l. sub_named l name place) (sym c.pass_by.ensures)
    ∙ ap (λ (l : List Directory). sub_named (map directory_value l) name place) (sym c.deref.ensures.value)
    ∙ sym c.sub_named.ensures ∙ c.in_default-sub_named.is in
    c.pass_by.ensures ∙ missed c.loop-slash.rest.now place ds c.in-Some.slash (sym c.slash_of.ensures.value ∙ c.in-Some.is)
    wholes none ∙ sym c.loop-slash.invariant

pub loop-slash-preserved : goal.loop-slash-preserved
loop-slash-preserved c =
    let wholes = c.args.wholes in
    let ds = map directory_value c.loop-slash.directories.items in
    let place = c.loop-slash.place in
    let next = c.in-Some-sub_named.sub in
    let name = c.split_at.result.0.now in
    let some : sub_named (passed wholes place ds) _ place ≡ Some next =
    ap (λ n. sub_named (passed wholes place ds) n place) (sym c.split_at.ensures.front)
    ∙ ap (λ l. sub_named l name place) (sym c.pass_by.ensures)
    ∙ ap (λ (l : List Directory). sub_named (map directory_value l) name place) (sym c.deref.ensures.value)
    ∙ sym c.sub_named.ensures ∙ c.in-Some-sub_named.is in
    c.loop-slash.invariant
    ∙ went_on c.loop-slash.rest.now place ds c.in-Some.slash (sym c.slash_of.ensures.value ∙ c.in-Some.is) wholes next some
    ∙ ap (λ p. invalidated_from wholes p next (passed wholes place ds)) (sym c.split_at-in-Some.ensures.back)
    ∙ ap (invalidated_from wholes c.split_at-in-Some.result.1.now next) (sym c.pass_by.ensures)

pub returns : goal.returns
returns c =
    c.unlist.ensures
    ∙ ended c.loop-slash.rest.now c.loop-slash.place (map directory_value c.loop-slash.directories.items) c.args.wholes
    (c.in_default.ensures.none refl) ∙ sym c.loop-slash.invariant
