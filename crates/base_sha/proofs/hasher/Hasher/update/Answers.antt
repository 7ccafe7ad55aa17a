use Rattle.std.proofs.Common.{◌≡◌, ℕ, List, ◌++◌, ◌-◌, ◌%◌, length, arith, sym, ap, ◌∙◌, length-append}
use borrow.Rule.Slice.PartMut.{put_mid}
use Rattle.base_sha.specs.Hasher.{HasAbsorbed}
use Rattle.base_sha.proofs.Absorbing.{absorbed_short, absorbed_filled}
use Rattle.base_sha.proofs.hasher.Hasher.update.Goals as goal

pub returns-then-piece-room : goal.returns-then-piece-room
unfolding HasAbsorbed
returns-then-piece-room g c = λ m held. (
  omega (arith, length-append m c.args.piece.now),
  absorbed_short g.V.HashValue.compress g.V.HashValue.initial (g.V.HashValue.words c.args.self.now.hash) c.args.self.now.waiting m c.args.piece.now _ _ _ held.1 (omega arith) (omega arith) (omega arith) c.copy_from_slice.ensures.after,
)

pub returns : goal.returns
unfolding HasAbsorbed
returns g c = λ m held.
    let v = g.V.HashValue in
    let s = c.args.self.now in
    let filling : List ℕ = c.split_at.result.0.now in
    let groups : List ℕ = c.split_at-2.result.0.now in
    let rest : List ℕ = c.split_at-2.result.1.now in
    let cut : filling ++ (groups ++ rest) ≡ c.args.piece.now =
    sym (c.split_at.ensures.by_index.0 ∙ ap (λ (x : List ℕ). filling ++ x) c.split_at-2.ensures.by_index.0) in
    let used : ℕ = s.taken % 256 in
    let k : ℕ = 256 - used in
    let full : List ℕ = put_mid used k s.waiting c.copy_from_slice-2.new.self in
    let front = c.split_at.ensures.front_len in
    let front2 = c.split_at-2.ensures.front_len in
    let back2 = c.split_at-2.ensures.back_len in (
      omega (arith, length-append m c.args.piece.now),
      rw cut at (absorbed_filled v.compress v.initial (v.words s.hash) s.waiting m filling groups rest full (v.words c.compress_groups.new.hash) (v.words c.compress_groups-2.new.hash) c.copy_from_slice-3.new.self used k (length rest) held.1 (omega arith) (omega arith) (omega arith) (omega arith) (omega arith)
          (ap (λ (x : List ℕ). put_mid used k s.waiting x) c.copy_from_slice-2.ensures.after) (omega arith) c.compress_groups.ensures c.compress_groups-2.ensures
          c.copy_from_slice-3.ensures.after),
    )
