use Rattle.std.proofs.Common.{◌≡◌, ◌∙◌, ◌<◌, ◌^◌, ap, arith, false, length, map, replicate, sym, true}
use Rattle.ext_bitmap.specs.Bitmap.{bitmap}
use Rattle.ext_bitmap.specs.Ranges.{set_places}
use Rattle.ext_encode.specs.MonitorPlaces.{are_below, monitor_is_within}
use Rattle.index_edit.specs.Dirty.{is_dirty}
use Rattle.index_edit.specs.DirtySteps.{either}
use Rattle.ext_small.specs.FsMonitor.{monitor_of}
use Rattle.index_edit.proofs.Markings.{all_dirty, cleared}
use Rattle.index_edit.proofs.Spellables.{bits_are}
use Rattle.index_edit.proofs.dirty.dirty_after.Goals as goal

pub returns-clause-is : goal.returns-clause-is
returns-clause-is c = λ o.
    let m = monitor_of c.args.monitor.now in
    let rs = c.args.entries.now in
    let old = c.args.old.now in
    let within : monitor_is_within (length old) m ≡ true =
    ap (λ n. monitor_is_within n m) (sym c.len.ensures) ∙ sym c.is_within.ensures ∙ c.if-not-is_within.false in
    let few : length rs < 2 ^ 32 = omega (arith, c.if-len-gt-MOST_ENTRIES.false, c.len-2.ensures) in
    let fit : length c.deref_mut.result.now ≡ length rs =
    omega (arith, c.deref_mut.ensures.len, c.in_ok-resize.ensures.len, c.len-3.ensures) in
    let none = cleared c.len-3.result _ c.new-bits.result.items c.resize.new.self.items c.new-bits.ensures.items
    c.new-bits.ensures.len c.in_ok-resize.ensures.items in
    all_dirty c.args.changes.now old rs m _ c.resize.new.self.len c.resize.new.self.items c.mark_dirty.new.bits
    c.deref.result.now within few (none ∙ ap (λ k. replicate k false) c.len-3.ensures)
    (c.mark_dirty.ensures.len ∙ ap length c.deref_mut.ensures.value) (sym c.deref_mut.ensures.len ∙ ap length c.deref_mut.ensures.value)
    (λ b. c.mark_dirty.ensures.marked fit o (ap (λ v. are_below (length old) (set_places (bitmap v))) c.entry_dirty.ensures ∙ b)
    ∙ ap (λ l. either l (map (is_dirty c.args.changes.now old (set_places (bitmap c.entry_dirty.result.now))) rs)) c.deref_mut.ensures.value
    ∙ ap (λ v. either c.resize.new.self.items (map (is_dirty c.args.changes.now old (set_places (bitmap v))) rs)) c.entry_dirty.ensures)
    c.deref.ensures.value c.in_ok-bitmap_of.ensures

pub returns-clause-spellable : goal.returns-clause-spellable
returns-clause-spellable c =
    let few : length c.deref.result.now < 2 ^ 32 = omega (
      arith,
      c.deref.ensures.len,
      c.in_ok-resize.ensures.len,
      c.len-3.ensures,
      c.len-2.ensures,
      c.if-len-gt-MOST_ENTRIES.false,
    ) in
    bits_are c.deref.result.now _ few c.in_ok-bitmap_of.ensures
