use Rattle.std.proofs.Common.{◌≡◌, ◌+◌, ◌-◌, ◌*◌, ◌≤◌, length, drop}
use Rattle.std.specs.List.{flat_map}
use Rattle.ext_bitmap.specs.EncodedBitmap.{as_runs, marked_words}
use Rattle.ext_bitmap.specs.EncodingSteps.{last_behind}
use Rattle.ext_bitmap.proofs.encoding.form_of_chunks.Given as goal

-- what is left is that of the words from this place on
abbrev pub invariant-loop-place : goal.invariant-loop-place
invariant-loop-place g l = record {
  inside : l.place ≤ length (g.B.Words.words l.bits);
  few : l.words ≤ 2 * l.place;
  words : l.words + length (flat_map marked_words (as_runs (drop l.place (g.B.Words.words l.bits))))
      ≡ length (flat_map marked_words (as_runs (g.B.Words.words l.bits)));
  last : last_behind l.words l.last_run (as_runs (drop l.place (g.B.Words.words l.bits)))
      ≡ last_behind 0 0 (as_runs (g.B.Words.words l.bits));
}

abbrev pub decreases-loop-place : goal.decreases-loop-place
decreases-loop-place g l = l.count - l.place
