use Rattle.std.proofs.Common.{rules, arith, ap, sym, ◌∙◌, ◌≡◌, [], append-nil, take}
use Rattle.std.proofs.lemmas.List.{take_all}
use Rattle.index_parts.proofs.Gatherings.{gathers_more, puts_held, puts_stopped_held}
use Rattle.index_parts.proofs.Puts.{puts_broken, puts_is}
use Rattle.entry_list.specs.EntryImage.{entries_in}
use Rattle.entry_list.proofs.Written.{entries_at, entries_push, last_push, length_at, length_push, room_at}
use Rattle.entry_list.proofs.Written.{written_of}
use Rattle.entry_list.proofs.write.put_entries.Goals as goal

pub put_behind-requires : goal.put_behind-requires
put_behind-requires g c = record {
  small = room_at c.args.version c.args.storage.now c.args.entries.now c.loop-entry.entry-index _ _ c.loop-entry.gone
      c.loop-entry.block.bytes c.loop-entry-test.true (sym c.is_removed.ensures ∙ c.if-is_removed.false)
      c.loop-entry.invariant.last c.loop-entry.invariant.counted c.requires.small;
}

pub returns-in_err-gone-clause-puts : goal.returns-in_err-gone-clause-puts
returns-in_err-gone-clause-puts g c =
    puts_stopped_held c.from_residual.result _ _ c.from_residual.ensures.0 (entries_at c.args.version c.args.storage.now
    c.args.entries.now c.loop-entry.entry-index _ _ c.loop-entry-test.true
    (search rules) c.loop-entry.invariant.last) c.loop-entry.invariant.so_far c.in_err-gone.ensures.fault

pub overflow_add-gone : goal.overflow_add-gone
overflow_add-gone g c = omega (
  arith,
  c.requires.small,
  c.loop-entry.invariant.counted,
  c.in_ok-gone.ensures.gone,
  length_at c.args.version c.args.storage.now c.args.entries.now c.loop-entry.entry-index _ _ c.loop-entry-test.true
      (sym c.is_removed.ensures ∙ c.if-is_removed.false) c.loop-entry.invariant.last,
)

pub loop-entry-preserved : goal.loop-entry-preserved
loop-entry-preserved g c =
    let kept = sym c.is_removed.ensures ∙ c.if-is_removed.false in
    record {
      so_far =
          gathers_more _ (entries_push c.args.version c.args.storage.now c.args.entries.now c.loop-entry.entry-index _ _
          c.loop-entry-test.true kept c.loop-entry.invariant.last)
          c.loop-entry.invariant.so_far c.in_ok-gone.ensures.gathered;
      counted = omega (
        arith,
        c.loop-entry.invariant.counted,
        c.in_ok-gone.ensures.gone,
        length_push c.args.version c.args.storage.now c.args.entries.now c.loop-entry.entry-index _ _
            c.loop-entry-test.true kept c.loop-entry.invariant.last,
      );
      last = c.path_in-previous.ensures ∙ last_push _ _ _ _ c.loop-entry-test.true kept;
    }

pub returns-in_err-put-clause-puts : goal.returns-in_err-put-clause-puts
returns-in_err-put-clause-puts g c =
    let r = c.from_residual-in_err-put.result in
    let whole : take c.loop-entry.entry-index c.args.entries.now ≡ c.args.entries.now =
    take_all c.loop-entry.entry-index c.args.entries.now (omega (arith, c.loop-entry-test.false)) in
    let last =
    puts_broken r [] c.from_residual-in_err-put.ensures.0 (append-nil c.as_slice.result.now ∙ c.as_slice.ensures)
    c.in_err-put.ensures.bytes c.in_err-put.ensures.has_failed c.in_err-put.ensures.loan in
    puts_is r (ap (λ es. entries_in c.args.version [] (written_of c.args.storage.now es)) whole)
    (puts_held r c.loop-entry.invariant.so_far last)
