use Rattle.std.proofs.Common.{◌≡◌, ◌+◌, length, map, arith, sym, ap, ◌∙◌}
use Rattle.bstr.specs.Owned.{bstring_bytes}
use Rattle.index_parts.specs.Numbers.{within_32}
use Rattle.ext_untracked.specs.Blocks.{directory_value}
use Rattle.ext_encode.specs.UntrackedImage.{known_bytes, names_bytes}
use Rattle.ext_bitmap.proofs.Lengths.{none_within, some_within, within_none, within_some}
use Rattle.ext_encode.proofs.WrittenSizes.{known_len}
use Rattle.ext_encode.proofs.untracked_sizes.directory_len.Goals as goal

pub returns-in_err-names : goal.returns-in_err-names
returns-in_err-names c =
    let d = directory_value c.args.directory.now in
    let names = map bstring_bytes c.untracked_entries.result.now in
    let long = none_within (length (names_bytes names)) c.in_err-names.ensures in
    let same = ap (λ l. length (names_bytes l)) c.untracked_entries.ensures in
    c.from_residual.ensures ∙ sym (within_none (length (known_bytes d)) (omega (arith, known_len d, long, same)))

pub returns-then-len-from : goal.returns-then-len-from
returns-then-len-from c =
    let d = directory_value c.args.directory.now in
    let names = map bstring_bytes c.untracked_entries.result.now in
    let size = some_within (length (names_bytes names)) c.in_ok-names.names c.in_ok-names.ensures in
    let same = ap (λ l. length (names_bytes l)) c.untracked_entries.ensures in
    sym (within_none (length (known_bytes d)) (omega (
      arith,
      known_len d,
      size.0,
      same,
      c.start_len.ensures.len,
      c.stat_len.ensures.len,
      c.id_len.ensures.len,
      c.from.ensures,
      c.from-2.ensures,
      c.if-len-from.true,
    )))

pub returns : goal.returns
returns c =
    let d = directory_value c.args.directory.now in
    let names = map bstring_bytes c.untracked_entries.result.now in
    let size = some_within (length (names_bytes names)) c.in_ok-names.names c.in_ok-names.ensures in
    let same = ap (λ l. length (names_bytes l)) c.untracked_entries.ensures in
    let len : c.start_len.result + c.from.result + (c.stat_len.result + c.id_len.result) ≡ length (known_bytes d) = omega (
      arith,
      known_len d,
      size.0,
      same,
      c.start_len.ensures.len,
      c.stat_len.ensures.len,
      c.id_len.ensures.len,
      c.from.ensures,
    ) in
    sym (ap within_32 (sym len)
    ∙ within_some (c.start_len.result + c.from.result + (c.stat_len.result + c.id_len.result))
    (omega (arith, c.if-len-from.false, c.from-2.ensures)))
