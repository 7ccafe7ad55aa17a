use Rattle.std.proofs.Common.{◌*◌, ◌<◌, ◌≤◌, ◌++◌, length, ap, sym, ◌∙◌}
use Rattle.std.specs.Prelude.{replicate}
use Rattle.ext_bitmap.specs.Bits.{literal_count, repetitions, places, set}
use Rattle.ext_bitmap.specs.UnpackingSteps.{next_place}
use Rattle.ext_bitmap.proofs.Places.{run_set, run_clear}
use Rattle.ext_bitmap.proofs.Unpackings.{behind_whole, behind_broken}
use Rattle.ext_bitmap.proofs.ewah.iter.Positions.begin_chunk.Goals as goal
use Rattle.ext_bitmap.proofs.ewah.iter.Positions.begin_chunk.Goals.{then-run-eq1, else-run-eq1}

pub returns-then-literals-self-clause-left : goal.returns-then-literals-self-clause-left
returns-then-literals-self-clause-left c =
    let run = c.args.run in
    let words = c.args.self.now.words.now in
    let place = c.args.self.now.place in
    elim c.if-run-eq1.branch [
      | then-run-eq1 w ↦
          let fits : literal_count run ≤ length words = rw w.self-is at c.if-literals-self.true in
          let whole = sym (behind_whole run words fits) in
          let behind = ap (λ rest. places (next_place place) (replicate (64 * repetitions run) set ++ rest)) whole in
          rw w.self-is (rw (c.requires.1, c.requires.3)
          (behind ∙ run_set (next_place place) run words w.if-run-eq1.true))
      | else-run-eq1 w ↦
          let fits : literal_count run ≤ length words = rw w.self-is at c.if-literals-self.true in
          let behind = ap (λ rest. places (next_place w.skip-self.result) rest) (sym (behind_whole run words fits)) in
          rw w.self-is (rw (c.requires.0, c.requires.1, c.requires.3)
          (behind ∙ run_clear place w.skip-self.result run words w.if-run-eq1.false w.skip-self.ensures))
    ]

pub returns-else-literals-self-clause-left : goal.returns-else-literals-self-clause-left
returns-else-literals-self-clause-left c =
    let run = c.args.run in
    let words = c.args.self.now.words.now in
    let place = c.args.self.now.place in
    elim c.if-run-eq1.branch [
      | then-run-eq1 w ↦
          let few : length words < literal_count run = rw w.self-is at c.if-literals-self.false in
          let broken = sym (behind_broken run words few) in
          let behind = ap (λ rest. places (next_place place) (replicate (64 * repetitions run) set ++ rest)) broken in
          rw w.self-is (rw c.requires.1 (behind ∙ run_set (next_place place) run words w.if-run-eq1.true))
      | else-run-eq1 w ↦
          let few : length words < literal_count run = rw w.self-is at c.if-literals-self.false in
          let behind = ap (λ rest. places (next_place w.skip-self.result) rest) (sym (behind_broken run words few)) in
          rw w.self-is (rw (c.requires.0, c.requires.1)
          (behind ∙ run_clear place w.skip-self.result run words w.if-run-eq1.false w.skip-self.ensures))
    ]
