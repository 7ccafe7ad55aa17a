use Rattle.std.proofs.Common.{◌≡◌, ◌+◌, ◌≤◌, length}
use Rattle.ext_bitmap.specs.BitmapImage.{last_run}
use Rattle.ext_bitmap.proofs.write.last_run.Given as goal

-- the last run word of the rest is that of all words
abbrev pub invariant-loop-run_word : goal.invariant-loop-run_word
invariant-loop-run_word l = record {
  inside : l.place + length l.rest ≤ length l.words;
  so_far : l.place + last_run l.rest ≡ last_run l.words;
}

abbrev pub decreases-loop-run_word : goal.decreases-loop-run_word
decreases-loop-run_word l = length l.rest
