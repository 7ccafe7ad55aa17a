use Rattle.std.proofs.Common.{refl, ◌∙◌, arith}
use Rattle.tree_decode.specs.declared.walk.Level.{Level}
use Rattle.tree_decode.proofs.walk.Walk.begin.Goals as goal

pub returns-clause-begins : goal.returns-clause-begins
returns-clause-begins c =
    let l : Level = record { bytes = c.args.bytes; at = 0; prefix_len = c.len.result } in
    record {
      level = l;
      levels = c.in_ok-push.ensures.items;
      listed = refl;
      prefix_len = c.len.ensures ∙ c.args.self.now.listed.path.ok.0;
      inside = omega arith;
      bytes = refl;
    }
