use Rattle.std.proofs.Common.{◌≡◌, ◌+◌, length, map, arith, sym, ap, ◌∙◌}
use Rattle.std.proofs.lemmas.List.{length-map}
use Rattle.index_parts.specs.Numbers.{within_32}
use Rattle.index_parts.specs.Offset.{offset_bytes}
use Rattle.ext_untracked.specs.Blocks.{directory_value}
use Rattle.ext_untracked.specs.Untracked.{cache_of}
use Rattle.ext_encode.specs.UntrackedImage.{cache_bytes, directories_bytes, preamble_bytes}
use Rattle.ext_bitmap.proofs.Lengths.{none_within, some_within, within_none, within_some}
use Rattle.ext_encode.proofs.WrittenSizes.{cache_sum}
use Rattle.ext_encode.proofs.untracked_sizes.content_len.Goals as goal

pub returns-in_err-preamble : goal.returns-in_err-preamble
returns-in_err-preamble c =
    let u = cache_of c.args.cache.now in
    let long = none_within (length (preamble_bytes c.args.kind u.preamble)) c.in_err-preamble.ensures in
    c.from_residual.ensures
    ∙ sym (within_none (length (cache_bytes c.args.kind u)) (omega (arith, cache_sum c.args.kind u, long)))

pub returns-in_err-directories : goal.returns-in_err-directories
returns-in_err-directories c =
    let u = cache_of c.args.cache.now in
    let long = none_within (length (directories_bytes (map directory_value c.directories.result.now)))
    c.in_err-directories.ensures in
    let same = ap (λ l. length (directories_bytes l)) c.directories.ensures in
    c.from_residual-in_err-directories.ensures
    ∙ sym (within_none (length (cache_bytes c.args.kind u)) (omega (arith, cache_sum c.args.kind u, long, same)))

pub returns-then-len-from : goal.returns-then-len-from
returns-then-len-from c =
    let u = cache_of c.args.cache.now in
    let preamble = some_within (length (preamble_bytes c.args.kind u.preamble)) c.in_ok-preamble.preamble
    c.in_ok-preamble.ensures in
    let size = some_within (length (directories_bytes (map directory_value c.directories.result.now)))
    c.in_ok-directories.directories c.in_ok-directories.ensures in
    let same = ap (λ l. length (directories_bytes l)) c.directories.ensures in
    let count = sym (length-map c.directories-2.result.now directory_value) ∙ ap length c.directories-2.ensures in
    sym (within_none (length (cache_bytes c.args.kind u)) (omega (
      arith,
      cache_sum c.args.kind u,
      preamble.0,
      size.0,
      same,
      c.number_len-count.ensures.len,
      ap (λ n. length (offset_bytes n)) count,
      c.from.ensures,
      c.from-2.ensures,
      c.from-3.ensures,
      c.if-len-from.true,
    )))

pub returns : goal.returns
returns c =
    let u = cache_of c.args.cache.now in
    let preamble = some_within (length (preamble_bytes c.args.kind u.preamble)) c.in_ok-preamble.preamble
    c.in_ok-preamble.ensures in
    let size = some_within (length (directories_bytes (map directory_value c.directories.result.now)))
    c.in_ok-directories.directories c.in_ok-directories.ensures in
    let same = ap (λ l. length (directories_bytes l)) c.directories.ensures in
    let count = sym (length-map c.directories-2.result.now directory_value) ∙ ap length c.directories-2.ensures in
    let all = c.from.result + c.number_len-count.result + c.from-2.result in
    let len : all ≡ length (cache_bytes c.args.kind u) = omega (
      arith,
      cache_sum c.args.kind u,
      preamble.0,
      size.0,
      same,
      c.number_len-count.ensures.len,
      ap (λ n. length (offset_bytes n)) count,
      c.from.ensures,
      c.from-2.ensures,
    ) in
    sym (ap within_32 (sym len) ∙ within_some all (omega (arith, c.if-len-from.false, c.from-3.ensures)))
