use Rattle.std.proofs.Common.{rules, ◌∙◌}
use Rattle.ext_bitmap.specs.Bitmap.{bitmap}
use Rattle.ext_bitmap.specs.Ranges.{set_places}
use Rattle.index_edit.proofs.Markings.{both_marked}
use Rattle.index_edit.proofs.dirty.mark_dirty.Goals as goal

pub returns : goal.returns
returns c = record {
  len = search rules;
  marked = λ e o b.
      both_marked c.args.changes.now c.args.old.now c.args.entries.now (set_places (bitmap c.args.places.now))
      c.args.bits.now _ _ (c.mark_places.ensures.marked e o b)
      (c.mark_changes.ensures.marked (c.mark_places.ensures.len ∙ e) o);
}
