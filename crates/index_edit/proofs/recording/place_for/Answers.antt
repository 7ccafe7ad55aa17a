use Rattle.ext_small.specs.ResolveUndo.{path_stages}
use Rattle.index_edit.proofs.Searches.{place_found, rising_names}
use Rattle.index_edit.proofs.recording.place_for.Goals as goal

pub returns-then-rising : goal.returns-then-rising
returns-then-rising c =
    let path = c.args.path.now in
    let xs = c.args.paths.now in
    place_found path_stages path xs c.first_near_end.result
    (c.first_near_end.ensures.parts (rising_names path_stages path xs (c.requires c.if-rising.true)))
