use Rattle.std.proofs.Common.{arith, of_calls, ◌≡◌, ◌<◌, [], ◌∷◌, ◌++◌, length, refl, sym, ap, ◌∙◌}
use Rattle.std.proofs.lemmas.Fn.{FoldsTo-push}
use Rattle.std.proofs.lemmas.List.{nil_from_length, append-nil, append_assoc, length-append}
use Rattle.entry_list.specs.Record.{record_in}
use Rattle.entry_lookup.proofs.paths.FilterMapPathsIterator.next.Goals as goal

pub returns-clause-steps : goal.returns-clause-steps
returns-clause-steps g c =
    let inv = c.loop-entry.invariant in
    let over : c.loop-entry.self.entries.now ≡ [] = nil_from_length _ c.in_default.ensures.cases in (
      record {
        skipped = inv.2.0;
        then = c.loop-entry.self.filter_map;
        skips = inv.2.2;
        gives = (inv.2.1 ∙ ap (λ xs. inv.2.0 ++ xs) over ∙ append-nil inv.2.0, over, refl);
      },
      inv.1,
    )

pub loop-entry-preserved : goal.loop-entry-preserved
loop-entry-preserved g c =
    let inv = c.loop-entry.invariant in
    let e = c.in-Some.entry.now in
    let rest = c.in-Some.rest.now in
    let split : c.loop-entry.self.entries.now ≡ e ∷ rest = c.in-Some.ensures.cases.0 in
    let path : c.path_in-path.result.now ≡ (record_in c.args.self.now.backing.now e).path =
    c.path_in-path.ensures ∙ ap (λ s. (record_in s e).path) inv.1 in
    let none = rw c.in_default-filter_map.is at c.filter_map.ensures in
    let same : c.args.self.now.entries.now ≡ (inv.2.0 ++ e ∷ []) ++ rest =
    inv.2.1 ∙ ap (λ xs. inv.2.0 ++ xs) split ∙ sym (append_assoc inv.2.0 (e ∷ []) rest) in (
      search of_calls,
      inv.1,
      (
        inv.2.0 ++ e ∷ [],
        same,
        FoldsTo-push _ c.args.self.now.filter_map inv.2.0 c.loop-entry.self.filter_map e
            c.filter_map.new.self inv.2.2 (c.path_in-path.result, c.in-Some.entry, path, refl, none),
      ),
    )

pub returns-in-Some-filter_map-clause-goes : goal.returns-in-Some-filter_map-clause-goes
returns-in-Some-filter_map-clause-goes g c =
    let inv = c.loop-entry.invariant in
    let e = c.in-Some.entry.now in
    let rest = c.in-Some.rest.now in
    let split : c.loop-entry.self.entries.now ≡ e ∷ rest = c.in-Some.ensures.cases.0 in
    let fewer : length rest < length c.args.self.now.entries.now =
    omega (arith, ap length inv.2.1, length-append inv.2.0 c.loop-entry.self.entries.now, ap length split) in
    record { on = λ _. (search of_calls, tt, fewer); keeps = search of_calls; rests = λ _. tt }
