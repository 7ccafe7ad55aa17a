use Rattle.std.proofs.Common.{rules, ◌≡◌, length, sym, ◌∙◌}
use Rattle.ext_bitmap.specs.Bitmap.{bitmap}
use Rattle.index_extensions.proofs.Errors.{at_err}
use Rattle.ext_small.proofs.Monitors.{no_bitmap, no_len, sized_from, wanted}
use Rattle.ext_small.proofs.fs_monitor.sized_bitmap_of.Goals as goal

pub returns-then-not-has_bitmap_len-clause-read : goal.returns-then-not-has_bitmap_len-clause-read
returns-then-not-has_bitmap_len-clause-read c =
    λ b s. no_len c.args.size c.args.bytes.now b (sym c.has_bitmap_len.ensures ∙ c.if-not-has_bitmap_len.true) s

pub returns-in-Ok-clause-read : goal.returns-in-Ok-clause-read
returns-in-Ok-clause-read c =
    let len : length c.args.bytes.now ≡ c.args.size = search rules in
    sized_from c.args.size c.args.bytes.now (bitmap c.in-Ok.bitmap) c.in-Ok.field-0-1.now len
    (sym c.has_bitmap_len.ensures ∙ c.if-not-has_bitmap_len.false) c.in-Ok.ensures.found

pub returns-in_err-check_memory-in-Err-clause-memory : goal.returns-in_err-check_memory-in-Err-clause-memory
returns-in_err-check_memory-in-Err-clause-memory c =
    let len : length c.args.bytes.now ≡ c.args.size = search rules in
    at_err c.from_residual.result (wanted c.in-Err.error c.args.size c.args.bytes.now c.in-Err.ensures.fault
    c.in_err-check_memory-in-Err.ensures.memory len (sym c.has_bitmap_len.ensures ∙ c.if-not-has_bitmap_len.false))

pub returns-in_ok-check_memory-in-Err-clause-read : goal.returns-in_ok-check_memory-in-Err-clause-read
returns-in_ok-check_memory-in-Err-clause-read c = λ b s. no_bitmap c.in-Err.error c.args.size c.args.bytes.now b
    c.in-Err.ensures.fault c.in_ok-check_memory-in-Err.ensures.other s
