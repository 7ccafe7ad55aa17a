use Rattle.std.proofs.Common.{ap, ◌∙◌}
use Rattle.ext_bitmap.proofs.MadeBitmaps.{read_again}
use Rattle.ext_bitmap.proofs.marks.bitmap_of.Goals as goal

pub returns : goal.returns
returns c = read_again c.args.bits.now c.new-bytes.result.inner.items c.deref.result.now _ c.in-Ok-decode.field-0-1.now
    c.requires (ap (λ v. v.items) c.new-bytes.ensures.inner ∙ c.new.ensures.items)
    (c.deref.ensures.value ∙ c.in-Ok.ensures.written.takes.grew) c.in-Ok-decode.ensures.found
