use Rattle.std.proofs.Common.{◌≡◌, take}
use Rattle.std.specs.List.{flat_map}
use Rattle.index_parts.specs.Taking.{Took}
use Rattle.ext_bitmap.specs.BitmapImage.{be64}
use Rattle.ext_bitmap.proofs.write.put_words.Given as goal

-- the ones before this one were taken
abbrev pub invariant-loop-word : goal.invariant-loop-word
invariant-loop-word g l = record {
  going : g.W.Out.failed l.out ≡ g.W.Out.failed l.fn.out;
  loan : g.W.Out.loan l.out ≡ g.W.Out.loan l.fn.out;
  so_far : Took g.W.Out.taken g.W.Out.hashed l.fn.out l.out (flat_map be64 (take l.word-index l.words));
}
