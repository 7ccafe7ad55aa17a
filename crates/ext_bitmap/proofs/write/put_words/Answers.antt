use Rattle.std.proofs.Common.{sym}
use Rattle.index_parts.proofs.Taking.{flat_map_at}
use Rattle.index_parts.proofs.Puts.{puts_stopped_after}
use Rattle.ext_bitmap.specs.BitmapImage.{be64}
use Rattle.ext_bitmap.proofs.write.put_words.Goals as goal

pub returns-in_err-put_word : goal.returns-in_err-put_word
returns-in_err-put_word g c = puts_stopped_after c.from_residual.result _ c.from_residual.ensures.0
    (sym (flat_map_at be64 c.args.words.now c.loop-word.word-index 0 c.loop-word-test.true)) c.loop-word.invariant.so_far
    c.loop-word.invariant.loan c.in_err-put_word.ensures
