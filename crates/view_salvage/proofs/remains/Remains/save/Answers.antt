use Rattle.std.proofs.Common.{List, ap, inl, option_map, refl, subst, sym, length, ◌∙◌}
use Rattle.std.proofs.lemmas.List.{length-map}
use Rattle.std.proofs.lemmas.Result.{err_from_is_err_and}
use Rattle.gix_index.specs.Kind.{Kind}
use Rattle.gix_index.specs.Record.{Record}
use Rattle.gix_index.specs.Sorted.{IsOrdered}
use Rattle.gix_index.specs.State.{contents, records}
use Rattle.view_salvage.specs.Accepted.{AreAcceptable}
use Rattle.view_salvage.specs.Choice.{IsKept, IsFirstUnfitOrNone}
use Rattle.view_salvage.specs.Salvage.{looked_at}
use Rattle.view_salvage.proofs.Completing.{merged_or_own, merges_or_sorts}
use Rattle.view_salvage.proofs.Looking.{looked_ordered}
use Rattle.view_salvage.proofs.Saved.{index_itself, kind_is, stays_then}
use Rattle.view_salvage.proofs.remains.Remains.save.Goals as goal

pub chosen-requires : goal.chosen-requires
chosen-requires c =
    rw c.path_backing.ensures at (rw c.entries.ensures at (rw c.new.ensures at c.first_unfit-first.ensures))

pub returns-clause-kind : goal.returns-clause-kind
returns-clause-kind c =
    let own = c.in_ok-state.ensures.completed.index c.requires.plain in
    let kept = stays_then c.in_ok-state.field-0.state c.looked_at-state.result c.in_ok-state-2.state
    c.looked_at-state.ensures.index c.in_ok-state-2.ensures.index (index_itself _ _ _ own) in
    c.with_sparse_mark-state.ensures.kind ∙ kind_is _ _ _ kept ∙ c.in_ok-state.ensures.completed.same_kind

pub returns-clause-plain : goal.returns-clause-plain
returns-clause-plain c =
    let own = c.in_ok-state.ensures.completed.index c.requires.plain in
    let kept = stays_then c.in_ok-state.field-0.state c.looked_at-state.result c.in_ok-state-2.state
    c.looked_at-state.ensures.index c.in_ok-state-2.ensures.index (index_itself _ _ _ own) in
    c.with_sparse_mark-state.ensures.plain (index_itself _ _ _ kept)

pub returns-clause-acceptable : goal.returns-clause-acceptable
returns-clause-acceptable c =
    subst (λ (k : Kind). AreAcceptable k (records c.with_sparse_mark-state.result)) c.object_hash-kind.ensures
    (subst (AreAcceptable c.object_hash-kind.result) (sym c.with_sparse_mark-state.ensures.records)
    c.in_ok-state-2.ensures.acceptable)

pub returns-clause-saved : goal.returns-clause-saved
returns-clause-saved c =
    let own = c.in_ok-state.field-0.state in
    let looked = c.looked_at-state.result in
    let first = c.first_unfit-first.result in
    let fate = c.in_ok-state.field-0.shared in
    let seen : IsFirstUnfitOrNone c.object_hash-kind.result (records looked) first =
    rw c.path_backing.ensures at (rw c.entries.ensures at (rw c.new.ensures at c.first_unfit-first.ensures)) in
    let kept = c.in_ok-state-2.ensures.kept in
    record {
      all = records own;
      completed = c.in_ok-state.ensures.completed.is;
      first = subst (λ (k : Kind). IsFirstUnfitOrNone k (looked_at fate (records own)) first) c.object_hash-kind.ensures
          (subst (λ (l : List Record). IsFirstUnfitOrNone c.object_hash-kind.result l first)
          c.looked_at-state.ensures.records
          seen);
      kept = subst (λ (k : Kind). IsKept c.args.keep k (looked_at fate (records own)) first (records c.with_sparse_mark-state.result))
          c.object_hash-kind.ensures
          (subst (λ (l : List Record). IsKept c.args.keep c.object_hash-kind.result l first
          (records c.with_sparse_mark-state.result)) c.looked_at-state.ensures.records
          (subst (λ (l : List Record). IsKept c.args.keep c.object_hash-kind.result (records looked) first l)
          (sym c.with_sparse_mark-state.ensures.records) kept));
      version = refl;
      declared = refl;
      read = ap length c.entries-read.ensures ∙ sym (length-map _ _);
      fault = refl;
    }

pub returns-in_err-state-clause-memory : goal.returns-in_err-state-clause-memory
returns-in_err-state-clause-memory c =
    let p = err_from_is_err_and c.from_residual.result c.from_residual.ensures.1 in
    rw p.1 (inl c.in_err-state.ensures.memory)

pub returns-in_err-state-2-clause-memory : goal.returns-in_err-state-2-clause-memory
returns-in_err-state-2-clause-memory c =
    let p = err_from_is_err_and c.from_residual-in_err-state-2.result c.from_residual-in_err-state-2.ensures.1 in
    let own = c.in_ok-state.field-0.state in
    let m = c.in_err-state-2.ensures.memory in
    rw p.1 (merges_or_sorts c.args.keep c.args.self (option_map contents c.args.shared) (records own)
    (merged_or_own _ _ _ _ _ _ c.in_ok-state.ensures.completed.is) m.0
    (λ up. m.1 (subst IsOrdered (sym c.looked_at-state.ensures.records)
    (looked_ordered c.in_ok-state.field-0.shared (records own) up))))
