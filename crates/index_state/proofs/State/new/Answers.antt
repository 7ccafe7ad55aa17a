use Rattle.std.proofs.Common.{◌≡◌, rules, sym, subst, true}
use Rattle.index_state.specs.Edits.{empty_contents}
use Rattle.index_state.specs.State.{contents}
use Rattle.index_model.specs.Storable.{IsStorable}
use Rattle.entry_list.specs.declared.Version.TheVariants.{V2}
use Rattle.index_state.proofs.Storables.{empty_storable}
use Rattle.index_state.proofs.State.new.Goals as goal

pub returns-clause-storable : goal.returns-clause-storable
returns-clause-storable c =
    let empty : contents (record {
      parts = record {
        object_hash = c.args.object_hash;
        timestamp = c.args.now;
        version = V2;
        entries = c.new.result;
        path_backing = c.new-2.result;
        extensions = c.none.result;
        extensions_fit = true;
      };
    })
    ≡ empty_contents c.args.object_hash c.args.now = search rules in
    subst IsStorable (sym empty) (empty_storable c.args.object_hash c.args.now)
