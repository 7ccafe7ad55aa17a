use Rattle.std.proofs.Common.{◌≡◌, ◌+◌, ◌<◌, ◌∙◌, [], length, take, sym, ap, arith, rules}
use Rattle.std.specs.List.{list_any}
use Rattle.std.proofs.lemmas.List.{take_all}
use Rattle.entry_fields.specs.Flags.{is_extended}
use Rattle.entry_list.specs.Counted.{counted_in}
use Rattle.entry_list.specs.EntryImage.{chosen_version, version_by}
use Rattle.entry_list.specs.Record.{records_in}
use Rattle.entry_list.proofs.Counts.{counted_choice, counted_push, too_large_at}
use Rattle.entry_list.proofs.Written.{any_push, any_record, count_push, last_of, last_push, written_of}
use Rattle.entry_list.proofs.Written.{written_skip}
use Rattle.entry_list.proofs.write.totals_of.Goals as goal
use Rattle.entry_list.proofs.write.totals_of.Goals.{then-not-is_removed+else-most-from, else-not-is_removed}

pub returns-then-most-from-clause-none : goal.returns-then-most-from-clause-none
returns-then-most-from-clause-none c =
    let p = c.args.precision in
    let rs = written_of c.args.storage.now c.args.entries.now in
    let b = list_any (λ r. is_extended r.flags) (records_in c.args.storage.now c.args.entries.now) in
    let large : c.from.result < 12 + counted_in p c.version_by-counted.result [] rs =
    too_large_at p c.version_by-counted.result c.args.storage.now c.args.entries.now c.loop-entry.entry-index _ _ _ _
    _ c.counted_len-most.ensures.len c.loop-entry.invariant.path c.loop-entry.invariant.so_far c.loop-entry-test.true
    (search rules) c.if-most-from.true in
    let same : counted_in p (chosen_version c.args.choice (records_in c.args.storage.now c.args.entries.now)) [] rs
    ≡ counted_in p c.version_by-counted.result [] rs =
    counted_choice p c.args.choice b [] rs ∙ ap (λ v. counted_in p v [] rs) (sym c.version_by-counted.ensures) in
    omega (arith, large, same)

pub loop-entry-preserved : goal.loop-entry-preserved
loop-entry-preserved c =
    let h = c.loop-entry.invariant in
    let v = c.version_by-counted.result in
    let storage = c.args.storage.now in
    let es = c.args.entries.now in
    let i = c.loop-entry.entry-index in
    elim c.if-not-is_removed.branch [
      | then-not-is_removed+else-most-from w ↦
          let kept = sym c.is_removed.ensures ∙ w.if-not-is_removed.true in
          record {
            extended = any_push (λ e. is_extended e.flags.0) es i _ c.loop-entry-test.true h.extended
                (c.contains-is_extended.ensures tt);
            counted = omega (arith, w.count-is, h.counted, count_push storage es i _ c.loop-entry-test.true kept);
            few = omega (arith, w.count-is, h.few);
            so_far = omega (
              arith,
              w.most-is,
              h.so_far,
              w.counted_len-most.ensures.len,
              counted_push c.args.precision v storage es i _ c.loop-entry.last.now c.loop-entry-test.true kept h.path,
            );
            small = omega (arith, w.most-is, w.if-most-from.false, w.from.ensures);
            path = ap (λ p. p.now) w.last-is ∙ w.path_in-last.ensures
                ∙ last_push storage es i _ c.loop-entry-test.true kept;
          }
      | else-not-is_removed w ↦
          let skip : written_of storage (take (i + 1) es) ≡ written_of storage (take i es) = written_skip storage es i _
          c.loop-entry-test.true (sym c.is_removed.ensures ∙ w.if-not-is_removed.false) in
          record {
            extended = any_push (λ e. is_extended e.flags.0) es i _ c.loop-entry-test.true h.extended
                (c.contains-is_extended.ensures tt);
            counted = w.count-is ∙ h.counted ∙ sym (ap length skip);
            few = omega (arith, w.count-is, h.few);
            so_far = w.most-is ∙ h.so_far ∙ sym (ap (λ rs. 12 + counted_in c.args.precision v [] rs) skip);
            small = omega (arith, w.most-is, h.small);
            path = ap (λ p. p.now) w.last-is ∙ h.path ∙ sym (ap (last_of []) skip);
          }
    ]

pub returns-clause-version : goal.returns-clause-version
returns-clause-version c =
    let whole : take c.loop-entry.entry-index c.args.entries.now ≡ c.args.entries.now =
    take_all c.loop-entry.entry-index c.args.entries.now (omega (arith, c.loop-entry-test.false)) in
    let all : c.loop-entry.is_extended ≡ list_any (λ e. is_extended e.flags.0) c.args.entries.now =
    c.loop-entry.invariant.extended ∙ ap (list_any (λ e. is_extended e.flags.0)) whole in
    c.version_by.ensures ∙ ap (version_by c.args.choice) (all ∙ sym (any_record c.args.storage.now c.args.entries.now))
