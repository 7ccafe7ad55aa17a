use Rattle.entry_lookup.specs.Tables.{IsBounded}
use Rattle.entry_lookup.proofs.SearchAnswers.{path_answer}
use Rattle.entry_lookup.proofs.tables.DirectoryTable.search_path.Goals as goal

pub returns : goal.returns
returns c =
    let rs = c.args.self.now in
    let path = c.args.path.now in
    path_answer (IsBounded rs path) path rs c.search.result c.search.ensures
