use Rattle.std.proofs.Common.{rules, ◌≡◌, None, refl, ap}
use Rattle.std.specs.Option.{option_map}
use Rattle.ext_split.specs.Link.{link_of, pair_of}
use Rattle.index_state.specs.State.{contents, entries_of, storage_of}
use Rattle.index_state.proofs.Merges.{dissolved_by, merged_ids, merged_storable, says_dissolve}
use Rattle.index_state.proofs.dissolve.merge_shared.Goals as goal

pub returns-in-Err : goal.returns-in-Err
returns-in-Err c =
    let none : c.args.shared.parts.extensions.link ≡ None = search rules in
    let h = rw (c.entries.ensures, c.path_backing.ensures) at c.in-Err.ensures.fault in
    record {
      dissolved = search rules;
      without_bitmaps = search rules;
      no_memory = search rules;
      placed = search rules;
      ids = search rules;
      storable = search rules;
      fault = rw c.from.ensures
          (says_dissolve c.in-Err.e (link_of c.args.link.now) (pair_of c.in-Some.bitmaps) (contents c.args.shared)
          (contents c.args.split.now) (ap (option_map link_of) none) (ap (option_map pair_of) c.in-Some.is) h);
      unchanged = search rules;
    }

pub returns : goal.returns
returns c =
    let none : c.args.shared.parts.extensions.link ≡ None = search rules in
    let merged = rw (c.entries.ensures, c.path_backing.ensures) at c.in_default-merge.ensures.merged in
    record {
      dissolved = λ placed. dissolved_by (link_of c.args.link.now) (pair_of c.in-Some.bitmaps) (contents c.args.shared)
          (contents c.args.split.now) _ (ap (option_map link_of) none) (ap (option_map pair_of) c.in-Some.is)
          (record { is = merged placed; others = refl });
      without_bitmaps = search rules;
      no_memory = search rules;
      placed = λ own placed. c.in_default-merge.ensures.placed placed;
      ids = λ placed kind mine theirs. merged_ids kind _ _ (storage_of c.args.shared) (storage_of c.args.split.now)
          c.merge.new.storage.items (entries_of c.args.shared) (entries_of c.args.split.now) c.merge.new.entries.items
          (merged placed) mine theirs;
      storable = λ placed mine theirs same. merged_storable (pair_of c.in-Some.bitmaps) (contents c.args.shared)
          (contents c.args.split.now) _ (record { is = merged placed; others = refl }) mine theirs same;
      fault = search rules;
      unchanged = search rules;
    }
