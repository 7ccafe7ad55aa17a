use Rattle.std.specs.List.{flat_map}
use Rattle.index_parts.proofs.Puts.{puts_after, puts_is, puts_stopped}
use Rattle.ext_bitmap.specs.BitmapImage.{be64}
use Rattle.ext_bitmap.specs.EncodingSteps.{words_between}
use Rattle.ext_bitmap.proofs.WrittenForms.{chunk_parts}
use Rattle.ext_bitmap.proofs.encoding.put_chunk.Goals as goal

pub returns-in_err-put_word : goal.returns-in_err-put_word
returns-in_err-put_word g c =
    let words = g.B.Words.words c.args.bits.now in
    puts_stopped c.from_residual.result
    (flat_map be64 (words_between c.args.chunk.literals c.args.chunk.end words)) c.from_residual.ensures.0
    (chunk_parts words c.args.chunk c.requires.order c.requires.inside) c.in_err-put_word.ensures

pub returns : goal.returns
returns g c =
    let words = g.B.Words.words c.args.bits.now in
    puts_is c.put_literals.result (chunk_parts words c.args.chunk c.requires.order c.requires.inside)
    (puts_after c.put_literals.result c.in_ok-put_word.ensures c.put_literals.ensures)
