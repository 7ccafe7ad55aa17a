use Rattle.std.proofs.Common.{arith}
use Rattle.view_json.specs.Json.{range_value}
use Rattle.ext_bitmap.specs.declared.ranges.Range.{Range}
use Rattle.view_json.proofs.Listed.{listed_more}
use Rattle.view_json.proofs.data.append_ranges.Goals as goal

pub loop-place-preserved : goal.loop-place-preserved
loop-place-preserved c =
    listed_more range_value (λ (r : Range). r) c.args.ranges.now c.loop-place.place _
    c.append_piece.new.text.items c.loop-place.text.items c.append_separator.new.text.items
    c.append_range.new.text.items (omega (arith, c.loop-place-test.true)) c.loop-place.invariant
    c.in_ok-append_separator.ensures c.in_ok-append_range.ensures
