use Rattle.std.proofs.Common.{length}
use Rattle.ext_bitmap.proofs.Bitmaps.{ReadsWords}
use Rattle.ext_bitmap.proofs.ewah.reading.words_of.Given as goal

abbrev pub invariant-loop-word : goal.invariant-loop-word
invariant-loop-word l = ReadsWords l.bytes l.words.items l.rest

abbrev pub decreases-loop-word : goal.decreases-loop-word
decreases-loop-word l = length l.rest
