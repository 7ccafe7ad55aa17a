use Rattle.ext_bitmap.proofs.MarkedItems.{marks_count}
use Rattle.ext_bitmap.proofs.marks.MarksWords.count.Goals as goal

pub returns-clause-count : goal.returns-clause-count
returns-clause-count g c = marks_count (g.M.Marker.is_marked c.args.self.now.marker) c.args.self.now.items.now c.div_ceil.result
    c.div_ceil.ensures
