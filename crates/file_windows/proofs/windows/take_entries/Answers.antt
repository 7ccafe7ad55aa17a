use Rattle.std.proofs.Common.{rules, ◌≡◌, ◌-◌, ◌++◌, ℕ, List, None, length, take, drop, sym, ap, subst, ◌∙◌, arith}
use Rattle.std.proofs.Common.{length-drop, take_all}
use Rattle.index_parts.specs.Digest.{Holds}
use Rattle.entry_list.specs.Entries.{AreEntries}
use Rattle.entry_list.specs.Record.{AreBytes}
use Rattle.file_windows.proofs.Steps.{on_take}
use Rattle.file_windows.proofs.windows.take_entries.Goals as goal

pub returns : goal.returns
returns c = record {
  fit = search rules;
  read = λ left.
      let w = c.args.window.now.items in
      let plan = c.args.plan in
      let lent = c.deref.result.now in
      let start = c.args.start in
      let rest = c.in_ok-rest.rest.now in
      let done = c.saturating_sub-done.result in
      let undone : take (length lent - start) (drop start lent) ≡ drop start w =
      take_all (length lent - start) (drop start lent) (omega (arith, length-drop start lent))
      ∙ ap (drop start) c.deref.ensures.value in
      let end : c.saturating_sub-end.result ≡ length w - length rest = search rules in
      rw (c.remove_front.ensures, end) (on_take plan left c.args.hasher.now c.hash_piece.new.hasher w rest
      c.in_ok-rest.ensures.end.0 start done c.args.first.now.list.records c.entries_in.new.first.list.records
      (subst (λ (l : List ℕ). AreBytes (take done l)) c.deref-2.ensures.value c.hash_piece.ensures.are_bytes)
      (omega (arith, c.requires.start, c.args.window.now.ok.0))
      (sym undone ∙ c.in_ok-rest.ensures.end.1)
      (omega (arith, c.saturating_sub-done.ensures, end))
      c.hash_piece.ensures.kind
      (λ is m k. subst (λ (l : List ℕ). Holds c.hash_piece.new.hasher (m ++ take done l)) c.deref-2.ensures.value
      (c.hash_piece.ensures.more is m k))
      (λ all k. c.in_ok-rest.ensures.read all (subst
      (λ (l : List ℕ). AreEntries plan.version plan.kind None all c.args.first.now.list.records l) (sym undone) k)));
}
