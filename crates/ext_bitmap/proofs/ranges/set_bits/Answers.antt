use Rattle.std.proofs.Common.{◌∙◌}
use Rattle.ext_bitmap.specs.Bitmap.{bitmap}
use Rattle.ext_bitmap.proofs.RangeLoops.{all_breaks, all_ranges}
use Rattle.ext_bitmap.proofs.ranges.set_bits.Goals as goal

pub returns-clause-ranges : goal.returns-clause-ranges
returns-clause-ranges c =
    all_ranges (bitmap c.args.map.now) _ _ c.new-ranges.result.items c.take_places.new.ranges.items
    c.new-ranges.ensures.items (c.from-limit.ensures ∙ c.num_bits.ensures) c.positions.ensures.places
    c.in_ok-is_malformed.ensures.ranges

pub returns-clause-malformed : goal.returns-clause-malformed
returns-clause-malformed c = all_breaks (bitmap c.args.map.now) _ _ _ (c.from-limit.ensures ∙ c.num_bits.ensures)
    c.positions.ensures.places c.in_ok-is_malformed.ensures.malformed
