use Rattle.std.proofs.Common.{◌∙◌, ◌++◌, ap, sym, append-nil, drop, arith}
use Rattle.std.specs.List.{flat_map}
use Rattle.std.proofs.lemmas.List.{drop_all}
use Rattle.index_parts.proofs.Puts.{puts_is, puts_stopped_after}
use Rattle.index_parts.proofs.Taking.{Took-trans}
use Rattle.ext_bitmap.specs.BitmapImage.{be64}
use Rattle.ext_bitmap.specs.EncodedBitmap.{marked_words}
use Rattle.ext_bitmap.specs.EncodingSteps.{marked_at}
use Rattle.ext_bitmap.proofs.EncodedForms.{none_left}
use Rattle.ext_bitmap.proofs.WrittenForms.{chunk_rest}
use Rattle.ext_bitmap.proofs.encoding.put_chunks.Goals as goal

pub returns-in_err-put_chunk : goal.returns-in_err-put_chunk
returns-in_err-put_chunk g c =
    let words = g.B.Words.words c.args.bits.now in
    let chunk = c.chunk_at-chunk.result in
    let h = c.loop-place.invariant in
    puts_stopped_after c.from_residual.result _ c.from_residual.ensures.0
    (chunk_rest (drop c.loop-place.place words) (drop chunk.end words) h.so_far.0 _ (marked_at words chunk)
    c.chunk_at-chunk.ensures.chunk h.so_far.2) h.so_far.1 h.loan c.in_err-put_chunk.ensures

pub loop-place-preserved : goal.loop-place-preserved
loop-place-preserved g c =
    let words = g.B.Words.words c.args.bits.now in
    let chunk = c.chunk_at-chunk.result in
    let h = c.loop-place.invariant in
    record {
      inside = c.chunk_at-chunk.ensures.inside;
      going = c.in_ok-put_chunk.ensures.failed ∙ h.going;
      loan = c.in_ok-put_chunk.ensures.loan ∙ h.loan;
      so_far = (
        h.so_far.0 ++ flat_map be64 (marked_words (marked_at words chunk)),
        Took-trans h.so_far.1 c.in_ok-put_chunk.ensures.takes,
        chunk_rest (drop c.loop-place.place words) (drop chunk.end words) h.so_far.0 _ (marked_at words chunk)
            c.chunk_at-chunk.ensures.chunk h.so_far.2,
      );
    }

pub returns : goal.returns
returns g c =
    let words = g.B.Words.words c.args.bits.now in
    let h = c.loop-place.invariant in
    let none = none_left (drop c.loop-place.place words)
    (drop_all c.loop-place.place words (omega (arith, c.loop-place-test.false, c.count-count.ensures.count))) in
    let whole = sym (append-nil h.so_far.0)
    ∙ ap (λ l. h.so_far.0 ++ flat_map be64 (flat_map marked_words l)) (sym none) ∙ h.so_far.2 in
    puts_is _ whole (record { takes = h.so_far.1; failed = h.going; loan = h.loan })
