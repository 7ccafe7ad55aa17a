-- The range of indices that the library returns has exactly the entries below the directory. These entries are
-- borrowed.
use Rattle.std.proofs.Common.{rules, ◌≡◌, ◌++◌, ◌∷◌, List, [], Option, Some, None, refl, ap}
use Rattle.std.proofs.Common.{subst, ◌∙◌}
use Rattle.std.specs.Option.{option_copied, unwrap_or}
use denote.Ref.{Bor}
use Rattle.gix_index.specs.State.{entries_of, records, storage_of}
use Rattle.gix_index.specs.Record.{record_in}
use Rattle.gix_index.specs.Range.{IsPrefixRange, part_of}
use Rattle.gix_index.proofs.RunFilters.{directory_is_filter, lent_is_part, map_part}
use Rattle.examples.proofs.checkout.entries_below.Goals as goal

-- the slice that is borrowed, or the empty one
now_of : {X : Type 0} (lent : Option (Bor (List X))) (none : Bor (List X)) → none.now ≡ []
    → (unwrap_or lent none).now ≡ unwrap_or (option_copied lent) []
now_of None none e = e
now_of (Some b) none e = refl

pub returns : goal.returns
returns c = λ ordered.
    let directory = c.args.directory.now in
    let entries = entries_of c.args.state.now in
    let f = record_in (storage_of c.args.state.now) in
    let prefix : c.deref.result.now ≡ directory ++ 47 ∷ [] = search rules in
    let found = c.prefixed_entries.ensures.exactly ordered in
    let of_range = subst (λ p. IsPrefixRange p (records c.args.state.now) found.0) prefix found.1 in
    let same : c.unwrap_or.result.now ≡ part_of entries found.0 =
    ap (λ b. b.now) c.unwrap_or.ensures
    ∙ (now_of c.prefixed_entries.result _ refl ∙ lent_is_part entries found.0 _ found.2) in
    rw same (map_part f entries found.0 ∙ directory_is_filter directory (records c.args.state.now) found.0 of_range)
