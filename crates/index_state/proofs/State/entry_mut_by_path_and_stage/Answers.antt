use Rattle.std.proofs.Common.{◌<◌, length, refl, sym, arith}
use Rattle.std.proofs.lemmas.List.{length-map}
use Rattle.entry_fields.specs.Flags.{stage_code}
use Rattle.entry_list.specs.Record.{record_in}
use Rattle.index_state.specs.Edits.{IsUnchanged}
use Rattle.index_state.specs.State.{entries_of, storage_of}
use Rattle.entry_lookup.proofs.Lookup.{entry_key, entry_place}
use Rattle.index_state.proofs.State.entry_mut_by_path_and_stage.Goals as goal

pub returns : goal.returns
returns c =
    let storage = storage_of c.args.self.now in
    let es = entries_of c.args.self.now in
    let i = c.in_ok-idx.idx in
    let found = c.in_ok-idx.ensures.found in
    let inside : i < length es = omega (arith, found.in_range, length-map es (record_in storage)) in
    let unchanged : IsUnchanged c.args.self.now c.args.self.now =
    record { same_entries = refl; same_storage = refl; same_contents = refl } in (
      (refl, λ w. (i, found, c.entry_mut.ensures.value, refl), unchanged),
      record {
        writes_back = tt;
        found = record {
          found = (i, inside, sym c.entry_mut.ensures.value);
          key = entry_key c.args.path.now
              (stage_code c.args.stage) storage es i c.entry_mut.result.now found c.entry_mut.ensures.value;
        };
        answer = λ o. entry_place c.args.path.now (stage_code c.args.stage) storage es i c.entry_mut.result.now found
            c.entry_mut.ensures.value _ (c.in_ok-idx.ensures.answer o);
      },
    )
