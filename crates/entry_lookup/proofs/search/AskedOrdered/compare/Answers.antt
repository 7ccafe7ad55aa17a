use Rattle.std.proofs.Common.{◌≡◌, ℕ, ap, sym, subst, ◌∙◌}
use Rattle.std.specs.List.{HoldsAt}
use Rattle.std.specs.Ordering.{nat_cmp}
use Rattle.std.specs.declared.cmp.Ordering.{Ordering}
use Rattle.entry_fields.specs.Flags.{stage_code}
use Rattle.entry_lookup.specs.SearchSteps.{asked_cmp}
use Rattle.base_search.proofs.Places.{mapped_at}
use Rattle.entry_lookup.proofs.Wanted.{asked_key, asked_path, stage_tag}
use Rattle.entry_lookup.proofs.search.AskedOrdered.compare.Goals as goal

pub returns-in-None : goal.returns-in-None
returns-in-None c =
    let s = c.args.self.now in
    let rs = s.entries.now in
    mapped_at (asked_cmp s.path.now s.stage) rs c.args.place c.cmp_filepaths-by_path.result c.requires
    (asked_path s.path.now s.stage rs c.args.place c.path.result.now c.cmp_filepaths-by_path.result c.path.ensures
    c.cmp_filepaths-by_path.ensures.order c.in-None.is)

pub returns-in-Some : goal.returns-in-Some
returns-in-Some c =
    let s = c.args.self.now in
    let rs = s.entries.now in
    let P : Ordering → Type 0 = λ o. HoldsAt (λ r. asked_cmp s.path.now s.stage r ≡ o) rs c.args.place in
    mapped_at (asked_cmp s.path.now s.stage) rs c.args.place c.then.result c.requires
    (subst P (sym c.then.ensures) (asked_key s.path.now s.stage rs c.args.place c.path.result.now
    c.cmp_filepaths-by_path.result c.cmp-by_stage.result c.path.ensures c.cmp_filepaths-by_path.ensures.order
    c.in-Some.stage c.in-Some.is c.entry.result.now c.entry.ensures
    (c.cmp-by_stage.ensures ∙ ap (nat_cmp c.stage_raw.result) (stage_tag c.in-Some.stage)
    ∙ ap (λ (n : ℕ). nat_cmp n (stage_code c.in-Some.stage)) c.stage_raw.ensures)))
