use Rattle.std.proofs.Common.{◌-◌, sym, arith}
use Rattle.entry_list.specs.Shared.{shared_len}
use Rattle.entry_list.proofs.SharedFronts.{shared_front}
use Rattle.tree_encode.proofs.SharedPaths.{fewer}
use Rattle.tree_encode.proofs.shared.shared_front.Goals as goal

pub loop-len-init : goal.loop-len-init
loop-len-init c =
    let xs = c.args.before.now in
    let ys = c.args.path.now in
    let n = c.min-len.result in
    record {
      same = sym (fewer (shared_len xs ys) n xs ys (omega (arith, c.min-len.ensures, c.shared_len.ensures.value))
          (shared_front xs ys));
      within = omega (arith, c.min-len.ensures, c.saturating_sub.ensures);
    }

pub loop-len-preserved : goal.loop-len-preserved
loop-len-preserved c =
    let n = c.loop-len.len in
    record {
      same = fewer n (n - 1) c.args.path.now c.args.before.now (omega arith) c.loop-len.invariant.same;
      within = omega (arith, c.loop-len.invariant.within);
    }
