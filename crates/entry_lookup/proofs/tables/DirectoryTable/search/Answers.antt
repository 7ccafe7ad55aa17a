use Rattle.std.proofs.Common.{List, ◌+◌, ◌-◌, arith, sym, subst}
use Rattle.entry_list.specs.Record.{Record}
use Rattle.entry_lookup.specs.SearchSteps.{AskedAnswer}
use Rattle.entry_lookup.specs.SpanSteps.{IsWindow}
use Rattle.entry_lookup.specs.Tables.{IsBounded}
use Rattle.entry_lookup.proofs.SearchAnswers.{asked_of}
use Rattle.entry_lookup.proofs.SpanTable.{bounded_less}
use Rattle.entry_lookup.proofs.TableSearch.{quarter_small}
use Rattle.entry_lookup.proofs.tables.DirectoryTable.search.Goals as goal

pub overflow_add-result : goal.overflow_add-result
overflow_add-result c =
    let w = c.window-count.result.0 in
    omega (
      arith,
      c.window-count.ensures.few,
      c.search_within-result.ensures.count,
      quarter_small (w.end - w.start),
    )

pub returns : goal.returns
returns c =
    let rs = c.self.inside.entries in
    let path = c.args.path.now in
    let w = c.window-count.result.0 in
    let found = c.search_within-result in
    let window : IsWindow path rs w =
    subst (λ (xs : List Record). IsWindow path xs w) (sym c.self.view_is) c.window-count.ensures.window in
    let few = bounded_less c.args.self.now path _ (c.window-count.result.1 + found.result.1)
    c.window-count.ensures.count (omega (arith, found.ensures.count))
    (λ some. omega (arith, found.ensures.at_least_one (c.window-count.ensures.some some))) in
    let P : List Record → Type 0 = λ xs. AskedAnswer (IsBounded c.args.self.now path) path c.args.stage xs
    (found.result.0, c.window-count.result.1 + found.result.1) in
    subst P c.self.view_is (asked_of (IsBounded c.args.self.now path) path rs _ c.args.stage w.start w.end
    (window.bracket c.args.stage) window.in_range found.ensures.found
    found.ensures.first found.ensures.in_range found.ensures.absent few)
