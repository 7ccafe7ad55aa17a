use Rattle.std.proofs.Common.{sym}
use Rattle.index_parts.proofs.Readers.{number_takes}
use Rattle.ext_bitmap.proofs.Bitmaps.{reads_word}
use Rattle.ext_bitmap.proofs.ewah.reading.words_of.Goals as goal

pub loop-word-preserved : goal.loop-word-preserved
loop-word-preserved c =
    let word = number_takes 8 c.loop-word.rest.now (c.in-Some.word, c.in-Some.after.now) (sym c.in-Some.ensures) in
    rw c.in_ok-push.ensures.items (reads_word _ _ _ c.in-Some.word c.in-Some.after.now word c.loop-word.invariant)
