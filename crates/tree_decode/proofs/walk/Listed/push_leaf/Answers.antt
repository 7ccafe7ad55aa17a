use Rattle.std.proofs.Common.{◌≡◌, ◌++◌, ◌∷◌, [], List, ℕ, flat_map, refl, ap, ◌∙◌, sym}
use Rattle.std.proofs.lemmas.List.{flat_map_more}
use Rattle.entry_list.specs.Held.{Held}
use Rattle.entry_list.specs.Record.{Record}
use Rattle.tree_decode.proofs.Stats.{stat_of_zeros}
use Rattle.tree_decode.specs.LeafSteps.{last_leaf, listed_records}
use Rattle.tree_decode.proofs.walk.Listed.push_leaf.Goals as goal

pub returns-clause-pushed : goal.returns-clause-pushed
returns-clause-pushed c =
    let r : Record = record {
      path = c.as_slice.result.now;
      stat = c.default.result;
      id = c.args.id;
      flags = c.from_stage.result.0;
      mode = c.from.result.0;
    } in
    let is : r ≡ last_leaf c.args.self.now.path.items c.args.id c.args.kind = rw (
      c.as_slice.ensures.value,
      stat_of_zeros c.default.result c.default.ensures,
      c.from_stage.ensures.bits,
      c.from.ensures,
    ) refl in
    ap (λ (h : Held). h.records) c.in_ok-push.ensures.pushed
    ∙ ap (λ (x : Record). listed_records c.args.self.now ++ x ∷ []) is

pub returns-clause-packed : goal.returns-clause-packed
returns-clause-packed c =
    let p = c.args.self.now.path.items in
    let paths : List Record → List ℕ = flat_map (λ r. r.path) in
    ap (λ (h : Held). h.storage) c.in_ok-push.ensures.pushed
    ∙ ap (λ (l : List ℕ). c.args.self.now.leaves.storage ++ l) c.as_slice.ensures.value
    ∙ ap (λ (l : List ℕ). l ++ p) c.requires
    ∙ flat_map_more (λ (r : Record). r.path) [] (listed_records c.args.self.now) (last_leaf p c.args.id c.args.kind)
    ∙ ap paths (sym (returns-clause-pushed c))
