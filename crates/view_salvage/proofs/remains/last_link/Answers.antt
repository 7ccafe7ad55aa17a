use Rattle.view_salvage.proofs.LastLinks.{last_else, last_then}
use Rattle.view_salvage.proofs.remains.last_link.Goals.{else-is_link_content, then-is_link_content}
use Rattle.view_salvage.proofs.remains.last_link.Goals as goal

pub loop-part-preserved : goal.loop-part-preserved
loop-part-preserved c =
    let parts = c.args.parts.now in
    let i = c.loop-part.part-index in
    elim c.if-is_link_content.branch [
      | then-is_link_content w ↦ last_then parts i _ c.is_link_content.result _ c.loop-part-test.true
          c.is_link_content.ensures w.if-is_link_content.true w.found-is
      | else-is_link_content w ↦ last_else parts i _ c.is_link_content.result c.loop-part.found _
          c.loop-part-test.true c.is_link_content.ensures w.if-is_link_content.false c.loop-part.invariant w.found-is
    ]
