use Rattle.std.proofs.Common.{◌∙◌, inl, inr, List, [], ap, refl, ℕ, subst, sym}
use Rattle.std.proofs.lemmas.List.{append-nil}
use Rattle.std.specs.Prelude.{slice_range}
use Rattle.ext_tree.specs.Tree.{node_of}
use Rattle.tree_encode.specs.Directory.{HoldsFirst, objects_below}
use Rattle.tree_encode.specs.Staged.{Staged}
use Rattle.tree_encode.specs.WritingSteps.{IsReady, staged_below}
use Rattle.tree_encode.proofs.Begun.{finished_cached, begun_root}
use Rattle.tree_encode.proofs.Complete.{on_err}
use Rattle.tree_encode.proofs.Whole.{ready_whole, whole_below}
use Rattle.tree_encode.proofs.write.write_trees.Goals as goal

pub directory_of-requires-clause-ready : goal.directory_of-requires-clause-ready
directory_of-requires-clause-ready g c =
    let rs = c.args.entries.now in
    subst (λ (n : ℕ). IsReady c.args.kind 2048 (staged_below 0 (slice_range rs 0 n))) (sym c.len.ensures) (ready_whole
    (g.C.ComponentCheck.refusal c.args.check.now) c.args.kind rs c.requires c.in_ok-check_entries.ensures.fit)

pub returns-clause-written : goal.returns-clause-written
returns-clause-written g c =
    let rs = c.args.entries.now in
    let m = c.in_ok-made.made in
    let h = c.in_ok-made.ensures.made in
    let whole = ap (λ (n : ℕ). staged_below 0 (slice_range rs 0 n)) c.len.ensures ∙ whole_below rs in
    let staged = staged_below 0 (slice_range rs 0 c.len.result) in
    let old = g.S.Sink.stored c.args.sink.now in
    let new = g.S.Sink.stored c.directory_of.new.sink in (
      h.items,
      record { directory = record { made = h.made; ordered = h.ordered }; leaves = h.listed ∙ whole },
      finished_cached c.args.kind staged [] m old new h [] (node_of c.in_ok-root.root) c.in_ok-root.ensures.node,
      begun_root c.args.kind staged [] m old new h (g.S.Sink.stored c.finish.new.sink) c.in_ok-root.ensures.stored,
    )

pub returns-in_err-check_entries-clause-ended : goal.returns-in_err-check_entries-clause-ended
returns-in_err-check_entries-clause-ended g c = on_err c.from_residual.result (inl refl)

pub returns-in_err-made-clause-ended : goal.returns-in_err-made-clause-ended
returns-in_err-made-clause-ended g c =
    let rs = c.args.entries.now in
    let whole = ap (λ (n : ℕ). staged_below 0 (slice_range rs 0 n)) c.len.ensures ∙ whole_below rs in
    on_err c.from_residual-in_err-made.result (inr (subst (λ (l : List Staged). HoldsFirst c.args.kind l
    (g.S.Sink.stored c.args.sink.now) (g.S.Sink.stored c.directory_of.new.sink)) whole c.in_err-made.ensures.ended))

pub returns-in_err-root-clause-ended : goal.returns-in_err-root-clause-ended
returns-in_err-root-clause-ended g c =
    let rs = c.args.entries.now in
    let m = c.in_ok-made.made in
    let h = c.in_ok-made.ensures.made in
    let whole = ap (λ (n : ℕ). staged_below 0 (slice_range rs 0 n)) c.len.ensures ∙ whole_below rs in
    let staged = staged_below 0 (slice_range rs 0 c.len.result) in
    on_err c.from_residual-in_err-root.result (inr (record {
      items = h.items;
      is_tree = record { directory = record { made = h.made; ordered = h.ordered }; leaves = h.listed ∙ whole };
      first = objects_below c.args.kind h.items;
      others = [];
      parts = sym (append-nil (objects_below c.args.kind h.items));
      stored = c.in_err-root.ensures.ended ∙ h.stored;
    }))
