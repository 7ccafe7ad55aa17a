use Rattle.std.proofs.Common.{ℕ, List, length, arith, sym, ap, ◌∙◌}
use Rattle.std.specs.List.{flat_map}
use Rattle.std.proofs.lemmas.List.{take_all}
use Rattle.index_parts.specs.Numbers.{within_32}
use Rattle.ext_untracked.specs.Blocks.{directory_value}
use Rattle.ext_untracked.specs.declared.Directory.{Directory}
use Rattle.ext_encode.specs.UntrackedImage.{known_bytes}
use Rattle.ext_bitmap.proofs.Lengths.{none_within, some_within, too_long_at, within_some}
use Rattle.ext_encode.proofs.WrittenSizes.{known_same}
use Rattle.ext_encode.proofs.untracked_sizes.blocks_len.Goals as goal

pub returns-in_err-directory_len : goal.returns-in_err-directory_len
returns-in_err-directory_len c =
    let ds = c.args.directories.now in
    let f : Directory → List ℕ = λ d. known_bytes (directory_value d) in
    let there = ap (λ d. length (f d)) c.directory-item.is in
    let long = none_within (length (f c.directory-item.result)) c.in_err-directory_len.ensures in
    c.from_residual.ensures ∙ sym (ap (λ l. within_32 (length l)) (sym (known_same ds))
    ∙ too_long_at f ds c.loop-directory.directory-index c.directory-item.result c.loop-directory-test.true
    (omega (arith, there, long)))

pub returns-then-longer-from : goal.returns-then-longer-from
returns-then-longer-from c =
    let ds = c.args.directories.now in
    let f : Directory → List ℕ = λ d. known_bytes (directory_value d) in
    let there = ap (λ d. length (f d)) c.directory-item.is in
    let size = some_within (length (f c.directory-item.result)) c.in_ok-directory_len.field-0
    c.in_ok-directory_len.ensures in
    sym (ap (λ l. within_32 (length l)) (sym (known_same ds))
    ∙ too_long_at f ds c.loop-directory.directory-index c.directory-item.result c.loop-directory-test.true (omega (
      arith,
      there,
      size.0,
      c.loop-directory.invariant.so_far,
      c.from.ensures,
      c.from-in-loop-directory.ensures,
      c.from-in-loop-directory-2.ensures,
      c.if-longer-from.true,
    )))

pub returns : goal.returns
returns c =
    let ds = c.args.directories.now in
    let f : Directory → List ℕ = λ d. known_bytes (directory_value d) in
    let all = ap (λ l. length (flat_map f l))
    (take_all c.loop-directory.directory-index ds c.loop-directory-test.false) in
    let len = c.loop-directory.invariant.so_far ∙ all ∙ ap length (known_same ds) in
    sym (ap within_32 (sym len) ∙ within_some c.loop-directory.len c.loop-directory.invariant.small)
