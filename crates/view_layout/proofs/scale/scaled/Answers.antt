use Rattle.std.proofs.Common.{sym}
use Rattle.view_layout.proofs.Scaled.{scaled_empty}
use Rattle.view_layout.proofs.scale.scaled.Goals as goal

pub returns-then-len-eq0-clause-value : goal.returns-then-len-eq0-clause-value
returns-then-len-eq0-clause-value c = rw c.if-len-eq0.true (sym (scaled_empty c.args.offset))
