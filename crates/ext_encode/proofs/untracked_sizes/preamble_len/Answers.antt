use Rattle.std.proofs.Common.{◌≡◌, ◌≤◌, ◌^◌, ◌+◌, length, arith, sym, ap, ◌∙◌}
use Rattle.index_parts.specs.Numbers.{within_32}
use Rattle.index_parts.specs.Offset.{offset_bytes}
use Rattle.ext_untracked.specs.Untracked.{cache_of}
use Rattle.ext_encode.specs.UntrackedImage.{file_id, preamble_bytes}
use Rattle.ext_bitmap.proofs.Lengths.{within_none, within_some}
use Rattle.ext_encode.proofs.WrittenSizes.{preamble_sum}
use Rattle.ext_encode.proofs.untracked_sizes.preamble_len.Goals as goal
use Rattle.ext_encode.proofs.untracked_sizes.preamble_len.Goals.{then-identifier-from-via-then-identifier-from, then-identifier-from-via-else-identifier-from+then-name-from}

pub returns-then-identifier-from : goal.returns-then-identifier-from
returns-then-identifier-from c =
    let p = (cache_of c.args.cache.now).preamble in
    let long : 2 ^ 32 ≤ length (preamble_bytes c.args.kind p) = elim c.then-identifier-from.branch [
      | then-identifier-from-via-then-identifier-from w ↦ omega (
        arith,
        preamble_sum c.args.kind p,
        ap length c.identifier.ensures,
        c.from.ensures,
        w.if-identifier-from.true,
      )
      | then-identifier-from-via-else-identifier-from+then-name-from w ↦ omega (
        arith,
        preamble_sum c.args.kind p,
        ap length c.exclude_filename_per_dir.ensures,
        w.from-else-identifier-from.ensures,
        w.if-name-from.true,
      )
    ] in
    sym (within_none (length (preamble_bytes c.args.kind p)) long)

pub returns-then-len-from : goal.returns-then-len-from
returns-then-len-from c =
    let p = (cache_of c.args.cache.now).preamble in
    let info = ap length (c.as_bytes.ensures.bytes ∙ c.file_id-info.ensures
    ∙ ap (file_id c.args.kind) (c.copied.ensures ∙ c.info_exclude.ensures)) in
    let excludes = ap length (c.as_bytes-2.ensures.bytes ∙ c.file_id-excludes.ensures
    ∙ ap (file_id c.args.kind) (c.copied-2.ensures ∙ c.excludes_file.ensures)) in
    sym (within_none (length (preamble_bytes c.args.kind p)) (omega (
      arith,
      preamble_sum c.args.kind p,
      ap length c.identifier.ensures,
      ap (λ l. length (offset_bytes (length l))) c.identifier.ensures,
      ap length c.exclude_filename_per_dir.ensures,
      info,
      excludes,
      c.number_len.ensures.len,
      c.from-2.ensures,
      c.if-len-from.true,
    )))

pub returns : goal.returns
returns c =
    let p = (cache_of c.args.cache.now).preamble in
    let info = ap length (c.as_bytes.ensures.bytes ∙ c.file_id-info.ensures
    ∙ ap (file_id c.args.kind) (c.copied.ensures ∙ c.info_exclude.ensures)) in
    let excludes = ap length (c.as_bytes-2.ensures.bytes ∙ c.file_id-excludes.ensures
    ∙ ap (file_id c.args.kind) (c.copied-2.ensures ∙ c.excludes_file.ensures)) in
    let all = c.number_len.result + length c.identifier.result.now + 77
    + (length c.as_bytes.result.now + length c.as_bytes-2.result.now) + length c.exclude_filename_per_dir.result.now in
    let len : all ≡ length (preamble_bytes c.args.kind p) = omega (
      arith,
      preamble_sum c.args.kind p,
      ap length c.identifier.ensures,
      ap (λ l. length (offset_bytes (length l))) c.identifier.ensures,
      ap length c.exclude_filename_per_dir.ensures,
      info,
      excludes,
      c.number_len.ensures.len,
    ) in
    sym (ap within_32 (sym len) ∙ within_some all (omega (arith, c.if-len-from.false, c.from-2.ensures)))
