use Rattle.std.proofs.Common.{length}
use Rattle.entry_lookup.specs.Searches.{IsHalving}
use Rattle.entry_lookup.proofs.SearchAnswers.{staged_answer}
use Rattle.entry_lookup.proofs.search.search_path_and_stage.Goals as goal

pub returns : goal.returns
returns c =
    let rs = c.args.entries.now in
    staged_answer (IsHalving (length rs)) c.args.path.now rs c.search.result c.args.stage c.search.ensures
