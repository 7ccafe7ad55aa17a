use Rattle.std.proofs.lemmas.Result.{err_from_is_err_and}
use Rattle.ext_bitmap.proofs.Bitmaps.{some_words}
use Rattle.ext_bitmap.proofs.ewah.reading.decode.Goals as goal

pub returns-in_err-words-clause-fault : goal.returns-in_err-words-clause-fault
returns-in_err-words-clause-fault c =
    let p = err_from_is_err_and c.from_residual-in_err-words.result c.from_residual-in_err-words.ensures.1 in
    let parts = c.in_ok-parts.parts in
    let some = some_words parts.len parts.words.now c.in_ok-parts.ensures.size in
    rw (p.1, p.2) (record {
      value = record { num_bits = parts.num_bits; words = some.0 };
      rest = parts.rest.now;
      is_bitmap = c.in_ok-parts.ensures.found some.0 some.1;
    })
