use Rattle.std.proofs.Common.{arith, of_calls, ◌≡◌, ◌<◌, ◌+◌, [], ◌∷◌, ◌++◌, length, take, drop, set, get_or, refl, sym}
use Rattle.std.proofs.Common.{ap, ◌∙◌}
use Rattle.std.proofs.lemmas.Fn.{FoldsTo-push}
use Rattle.std.proofs.lemmas.List.{get_or_read, length-set, drop-set-lt, get_or-set_same, take-set-le}
use Rattle.entry_list.specs.declared.Entry.{Entry}
use Rattle.entry_list.specs.Record.{record_in}
use Rattle.entry_list.specs.Removed.{Call}
use Rattle.entry_list.proofs.Removing.{same_at, drop_next, kept_below, kept_here, order_more, removed, seen_more}
use Rattle.entry_list.proofs.Removing.{stays}
use Rattle.entry_list.proofs.remove.remove_entries.Goals as goal
use Rattle.entry_list.proofs.remove.remove_entries.Goals.{then-not-remove, then-retained-i, else-retained-i}
use Rattle.entry_list.proofs.remove.remove_entries.Goals.{else-not-remove}

pub loop-i-preserved : goal.loop-i-preserved
loop-i-preserved g c =
    let inv = c.loop-i.invariant in
    let run = inv.4 in
    let i = c.loop-i.i in
    let at = c.loop-i.retained in
    let old = c.args.entries.now.items in
    let now = c.loop-i.entries.items in
    let after = c.remove.new.arg4 in
    let call : Call =
    record { place = i; before = c.index_mut.result.now; is_removed = c.remove.result; after = after } in
    let inside : i < length old = omega arith in
    let inside_now : i < length now = omega arith in
    let read : (d : Entry) → c.index_mut.result.now ≡ get_or old i d =
    λ d. get_or_read now i c.index_mut.result.now inside_now c.index_mut.ensures.value d
    ∙ same_at now old i d inv.3 in
    let same : c.index.result.now ≡ c.index_mut.result.now = c.index.ensures
    ∙ sym (get_or_read now i c.index_mut.result.now inside_now c.index_mut.ensures.value c.index.result.now) in
    let path : c.path_in-path.result.now ≡ (record_in c.args.backing.now c.index_mut.result.now).path =
    c.path_in-path.ensures ∙ ap (λ (e : Entry). (record_in c.args.backing.now e).path) same in
    let folds = FoldsTo-push _ c.args.remove.now run.0 c.loop-i.remove call c.remove.new.self run.1
    (_, _, _, path, refl, refl, c.remove.ensures) in
    let seen = seen_more run.0 old i inside run.2 call read in
    let order = order_more run.0 old i inside run.2 call refl run.3 in
    let set_there : length (set now i after) ≡ length old = length-set now i after ∙ inv.2 in
    let behind : drop (i + 1) (set now i after) ≡ drop (i + 1) old =
    drop-set-lt (i + 1) now i after (omega arith) ∙ drop_next now old i inv.3 in
    elim c.if-not-remove.branch [
      | then-not-remove w ↦
          let more = stays run.0 call (take at now) w.if-not-remove.true run.4 in
          elim w.if-retained-i.branch [
            | then-retained-i v ↦
                let copy : v.copy_of.result ≡ after = v.copy_of.ensures ∙ v.index-then-retained-i.ensures
                ∙ get_or-set_same now i after v.index-then-retained-i.result.now inside_now in
                rw (w.entries-is, v.entries-is, w.retained-is, copy) (
                  search of_calls,
                  omega arith,
                  length-set (set now i after) at after ∙ set_there,
                  drop-set-lt (i + 1) (set now i after) at after (omega arith) ∙ behind,
                  (run.0 ++ call ∷ [], folds, seen, order, kept_below now i at after (omega arith) inside_now ∙ more),
                )
            | else-retained-i v ↦
                let equal : at ≡ i = omega (arith, v.if-retained-i.false, inv.1) in
                rw (w.entries-is, v.entries-is, w.retained-is) (
                  search of_calls,
                  omega arith,
                  set_there,
                  behind,
                  (run.0 ++ call ∷ [], folds, seen, order, kept_here now i at after equal inside_now ∙ more),
                )
          ]
      | else-not-remove w ↦
          rw (w.entries-is, w.retained-is) (
            search of_calls,
            omega arith,
            set_there,
            behind,
            (
              run.0 ++ call ∷ [],
              folds,
              seen,
              order,
              take-set-le at now i after inv.1 ∙ removed run.0 call (take at now) w.if-not-remove.false run.4,
            ),
          )
    ]
