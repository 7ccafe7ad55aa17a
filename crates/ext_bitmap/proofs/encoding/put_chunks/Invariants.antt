use Rattle.std.proofs.Common.{◌≡◌, ◌++◌, ◌-◌, ◌≤◌, List, ℕ, length, drop}
use Rattle.std.specs.List.{flat_map}
use Rattle.index_parts.specs.Taking.{Took}
use Rattle.ext_bitmap.specs.BitmapImage.{be64}
use Rattle.ext_bitmap.specs.EncodedBitmap.{as_runs, marked_words}
use Rattle.ext_bitmap.proofs.encoding.put_chunks.Given as goal

-- what was taken, and the bytes of the words from this place on, are those of all words
abbrev pub invariant-loop-place : goal.invariant-loop-place
invariant-loop-place g l = record {
  inside : l.place ≤ length (g.B.Words.words l.bits);
  going : g.W.Out.failed l.out ≡ g.W.Out.failed l.fn.out;
  loan : g.W.Out.loan l.out ≡ g.W.Out.loan l.fn.out;
  so_far : (done : List ℕ) × Took g.W.Out.taken g.W.Out.hashed l.fn.out l.out done
      × (done ++ flat_map be64 (flat_map marked_words (as_runs (drop l.place (g.B.Words.words l.bits))))
      ≡ flat_map be64 (flat_map marked_words (as_runs (g.B.Words.words l.bits))));
}

abbrev pub decreases-loop-place : goal.decreases-loop-place
decreases-loop-place g l = l.count - l.place
