use Rattle.entry_fields.specs.Flags.{stage_code}
use Rattle.index_state.specs.State.{entries_of, storage_of}
use Rattle.entry_lookup.specs.Lookup.{HasKey}
use Rattle.entry_lookup.proofs.Lookup.{entry_place}
use Rattle.index_state.proofs.Given.{entry_with}
use Rattle.index_state.proofs.State.entry_by_path_and_stage.Goals as goal

pub returns-clause-found : goal.returns-clause-found
returns-clause-found c =
    let found = c.in_ok-idx.ensures.found in
    entry_with (HasKey c.args.path.now (stage_code c.args.stage)) c.args.self.now c.in_ok-idx.idx c.index.result.now
    c.index.ensures (found.in_range, found.here)

pub returns-clause-answer : goal.returns-clause-answer
returns-clause-answer c =
    λ o. entry_place c.args.path.now (stage_code c.args.stage) (storage_of c.args.self.now) (entries_of c.args.self.now)
    c.in_ok-idx.idx c.index.result.now c.in_ok-idx.ensures.found c.index.ensures _ (c.in_ok-idx.ensures.answer o)
