use Rattle.std.proofs.Common.{arith, ap, sym, ◌∙◌, ◌≡◌, ◌++◌, List, ℕ, drop, take}
use Rattle.std.proofs.Math.Seq.{take-add}
use Rattle.std.specs.Int.{to_be_bytes, w64}
use Rattle.entry_list.proofs.paths.shared_words.Goals as goal

pub loop-len-preserved : goal.loop-len-preserved
loop-len-preserved c =
    let n = c.loop-len.len in
    let words : take 8 (drop n c.args.a.now) ≡ take 8 (drop n c.args.b.now) =
    sym c.word_at.ensures ∙ ap (to_be_bytes w64) c.if-word_at.true ∙ c.word_at-in-loop-len.ensures in
    record {
      within = omega (arith, c.loop-len-test.true);
      first = c.loop-len.invariant.first;
      second = c.loop-len.invariant.second;
      same = take-add n 8 c.args.a.now
          ∙ ap (λ (front : List ℕ). front ++ take 8 (drop n c.args.a.now)) c.loop-len.invariant.same
          ∙ ap (λ (word : List ℕ). take n c.args.b.now ++ word) words ∙ sym (take-add n 8 c.args.b.now);
    }
