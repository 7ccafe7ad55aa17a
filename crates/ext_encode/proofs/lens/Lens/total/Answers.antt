use Rattle.std.proofs.Common.{arith}
use Rattle.ext_encode.specs.Chosen.{extensions_of}
use Rattle.ext_encode.proofs.Sizes.{items_len}
use Rattle.ext_encode.proofs.lens.Lens.total.Goals as goal

pub returns-clause-len : goal.returns-clause-len
returns-clause-len c =
    omega (
      arith,
      items_len c.args.kind (extensions_of c.args.chosen) c.args.self.now c.requires,
      c.whole_len.ensures.len,
      c.whole_len-2.ensures.len,
      c.whole_len-3.ensures.len,
      c.whole_len-4.ensures.len,
      c.sparse_len.ensures,
    )
