use Rattle.std.proofs.Common.{arith}
use Rattle.ext_bitmap.proofs.EncodedForms.{form_len}
use Rattle.ext_bitmap.proofs.encoding.content_len.Goals as goal

pub returns-clause-len : goal.returns-clause-len
returns-clause-len g c =
    λ num_bits. omega (arith, form_len num_bits (g.B.Words.words c.args.bits.now), c.form_of.ensures.words, c.from.ensures)
