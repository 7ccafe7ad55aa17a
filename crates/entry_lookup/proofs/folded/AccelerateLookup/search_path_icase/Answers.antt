use Rattle.std.proofs.Common.{Bool, true, false, List, sym, subst}
use Rattle.entry_list.specs.Record.{Record}
use Rattle.entry_lookup.specs.NameSteps.{IsPathTable}
use Rattle.entry_lookup.specs.Searches.{SearchesFolded}
use Rattle.entry_lookup.specs.declared.names.Named.{Named}
use Rattle.entry_lookup.proofs.SearchAnswers.{folded_answer}
use Rattle.entry_lookup.proofs.folded.AccelerateLookup.search_path_icase.Goals as goal

pub returns-then-ignore_case : goal.returns-then-ignore_case
returns-then-ignore_case c =
    let rs = c.self.inside.entries in
    let name = c.args.path.now in
    let T : List Named → Type 0 = λ names. IsPathTable true rs names in
    let table = subst T (sym c.deref.ensures.value) c.self.invariant.folded_paths_is in
    let Q : Bool → List Record → Type 0 = λ b xs. SearchesFolded b name xs c.find.result in
    subst (λ (b : Bool). Q b c.args.self.now) (sym c.if-ignore_case.true) (subst (Q true) c.self.view_is
    (folded_answer true name rs c.deref.result.now c.find.result c.find.ensures.count table
    c.find.ensures.answer))

pub returns-else-ignore_case : goal.returns-else-ignore_case
returns-else-ignore_case c =
    let rs = c.self.inside.entries in
    let name = c.args.path.now in
    let T : List Named → Type 0 = λ names. IsPathTable false rs names in
    let table = subst T (sym c.deref-else-ignore_case.ensures.value) c.self.invariant.paths_is in
    let Q : Bool → List Record → Type 0 = λ b xs. SearchesFolded b name xs c.find-else-ignore_case.result in
    subst (λ (b : Bool). Q b c.args.self.now) (sym c.if-ignore_case.false) (subst (Q false) c.self.view_is
    (folded_answer false name rs c.deref-else-ignore_case.result.now c.find-else-ignore_case.result
    c.find-else-ignore_case.ensures.count table
    c.find-else-ignore_case.ensures.answer))
