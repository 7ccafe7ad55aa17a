use Rattle.std.proofs.Common.{◌==◌}
use Rattle.entry_info.proofs.Lines.{first_place}
use Rattle.entry_info.proofs.head.place_of.Goals as goal

pub returns : goal.returns
returns c = first_place (λ b. b == c.args.byte) c.args.text.now c.memchr.result c.memchr.ensures
