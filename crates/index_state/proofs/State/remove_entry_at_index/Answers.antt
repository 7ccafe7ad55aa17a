use Rattle.std.proofs.Common.{refl, rules}
use Rattle.std.proofs.lemmas.Option.{slice_get_read}
use Rattle.index_state.specs.State.{contents, entries_of, storage_of}
use Rattle.index_state.proofs.Storables.{fewer_storable}
use Rattle.index_state.proofs.State.remove_entry_at_index.Goals as goal

pub returns : goal.returns
returns c = record {
  given = slice_get_read (entries_of c.args.self.now) _ c.args.index c.remove.result refl c.requires
      c.remove.ensures.value;
  removed = search rules;
  storage = search rules;
  others = search rules;
  placed = search rules;
  storable = λ h. rw c.remove.ensures.items (fewer_storable (contents c.args.self.now) (storage_of c.args.self.now)
      (entries_of c.args.self.now) c.args.index c.remove.result refl c.requires c.remove.ensures.value h);
}
