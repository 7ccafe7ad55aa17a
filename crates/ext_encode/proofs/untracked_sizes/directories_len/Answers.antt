use Rattle.std.proofs.Common.{◌≡◌, ◌+◌, length, map, arith, sym, ap, ◌∙◌}
use Rattle.std.specs.List.{flat_map}
use Rattle.std.proofs.lemmas.Bool.{eqb-true, eqb-false}
use Rattle.index_parts.specs.Numbers.{within_32}
use Rattle.ext_untracked.specs.Blocks.{directory_value}
use Rattle.ext_encode.specs.UntrackedImage.{directories_bytes, known_bytes}
use Rattle.ext_bitmap.proofs.Lengths.{none_within, some_within, within_none, within_some}
use Rattle.ext_encode.proofs.WrittenDirectories.{no_directories}
use Rattle.ext_encode.proofs.WrittenSizes.{directories_sum, known_many}
use Rattle.ext_encode.proofs.untracked_sizes.directories_len.Goals as goal

pub returns-then-is_empty : goal.returns-then-is_empty
returns-then-is_empty c =
    let ds = c.args.directories.now in
    ap (λ l. within_32 (length l)) (no_directories ds (eqb-true (length ds) 0 (sym c.if-is_empty.ensures)))

pub returns-in_err-blocks : goal.returns-in_err-blocks
returns-in_err-blocks c =
    let ds = c.args.directories.now in
    let long = none_within (length (flat_map known_bytes (map directory_value ds))) c.in_err-blocks.ensures in
    let sum = directories_sum ds (eqb-false (length ds) 0 (sym c.if-is_empty.ensures)) in
    c.from_residual.ensures
    ∙ sym (within_none (length (directories_bytes (map directory_value ds))) (omega (arith, sum, long)))

pub content_len-requires : goal.content_len-requires
content_len-requires c =
    let ds = c.args.directories.now in
    let size = some_within (length (flat_map known_bytes (map directory_value ds))) c.in_ok-blocks.blocks
    c.in_ok-blocks.ensures in
    omega (arith, known_many ds, size.1)

pub content_len-requires-2 : goal.content_len-requires-2
content_len-requires-2 c =
    let ds = c.args.directories.now in
    let size = some_within (length (flat_map known_bytes (map directory_value ds))) c.in_ok-blocks.blocks
    c.in_ok-blocks.ensures in
    omega (arith, known_many ds, size.1)

pub content_len-requires-3 : goal.content_len-requires-3
content_len-requires-3 c =
    let ds = c.args.directories.now in
    let size = some_within (length (flat_map known_bytes (map directory_value ds))) c.in_ok-blocks.blocks
    c.in_ok-blocks.ensures in
    omega (arith, known_many ds, size.1)

pub returns-then-len-from : goal.returns-then-len-from
returns-then-len-from c =
    let ds = c.args.directories.now in
    let size = some_within (length (flat_map known_bytes (map directory_value ds))) c.in_ok-blocks.blocks
    c.in_ok-blocks.ensures in
    let sum = directories_sum ds (eqb-false (length ds) 0 (sym c.if-is_empty.ensures)) in
    sym (within_none (length (directories_bytes (map directory_value ds))) (omega (
      arith,
      sum,
      size.0,
      c.from.ensures,
      c.from-2.ensures,
      c.content_len.ensures.len,
      c.content_len-2.ensures.len,
      c.content_len-3.ensures.len,
      c.if-len-from.true,
    )))

pub returns : goal.returns
returns c =
    let ds = c.args.directories.now in
    let size = some_within (length (flat_map known_bytes (map directory_value ds))) c.in_ok-blocks.blocks
    c.in_ok-blocks.ensures in
    let sum = directories_sum ds (eqb-false (length ds) 0 (sym c.if-is_empty.ensures)) in
    let all = c.from.result + c.content_len.result + c.content_len-2.result + c.content_len-3.result + 1 in
    let len : all ≡ length (directories_bytes (map directory_value ds)) = omega (
      arith,
      sum,
      size.0,
      c.from.ensures,
      c.content_len.ensures.len,
      c.content_len-2.ensures.len,
      c.content_len-3.ensures.len,
    ) in
    sym (ap within_32 (sym len) ∙ within_some all (omega (arith, c.if-len-from.false, c.from-2.ensures)))
