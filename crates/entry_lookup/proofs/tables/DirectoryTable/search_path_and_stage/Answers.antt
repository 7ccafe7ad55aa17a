use Rattle.entry_lookup.specs.Tables.{IsBounded}
use Rattle.entry_lookup.proofs.SearchAnswers.{staged_answer}
use Rattle.entry_lookup.proofs.tables.DirectoryTable.search_path_and_stage.Goals as goal

pub returns : goal.returns
returns c =
    let rs = c.args.self.now in
    let path = c.args.path.now in
    staged_answer (IsBounded rs path) path rs c.search.result c.args.stage c.search.ensures
