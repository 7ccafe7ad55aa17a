use Rattle.std.proofs.Common.{◌≡◌, ◌∙◌, ap, rules, sym, subst}
use Rattle.index_parts.specs.Id.{id_kind}
use Rattle.index_parts.specs.declared.hash.Kind.{Kind}
use Rattle.index_state.specs.Edits.{empty_contents, with_records}
use Rattle.index_model.specs.Contents.{Contents}
use Rattle.index_state.specs.State.{contents, records}
use Rattle.index_model.specs.Storable.{IsStorable}
use Rattle.index_state.specs.declared.State.{State}
use Rattle.index_state.proofs.Storables.{fitting_storable}
use Rattle.tree_decode.proofs.Fits.{leaves_fit}
use Rattle.index_state.proofs.State.from_tree.Goals as goal

pub returns-clause-made : goal.returns-clause-made
returns-clause-made g c =
    let new = c.new-state.result in
    let s : State = record new {
      parts =
          record new.parts { entries = c.into_parts-entries.result.0; path_backing = c.into_parts-entries.result.1 };
    } in
    let others : contents s ≡ with_records (empty_contents (id_kind c.args.tree.now) c.args.now) (records s) =
    ap (λ (v : Contents). with_records v (records s)) c.new-state.ensures.empty
    ∙ ap (λ (k : Kind). with_records (empty_contents k c.args.now) (records s)) c.kind.ensures in
    record {
      leaves = search rules;
      others = others;
      storage = search rules;
      placed = search rules;
      storable = subst IsStorable (sym others)
          (fitting_storable (id_kind c.args.tree.now) c.args.now (records s)
          (leaves_fit (g.F.Find.found c.args.objects.now) (g.C.ComponentCheck.refusal c.args.check.now) c.args.tree.now
          c.args.max_objects (records s) (rw (← c.into_parts-entries.ensures.records) at c.in_ok-leaves.ensures.leaves)));
      ordered = search rules;
    }
