use Rattle.std.proofs.Common.{ℕ, List, [], ◌∷◌, ◌++◌, length, length-append, arith, sym, ap, ◌∙◌}
use Rattle.bstr.specs.Owned.{bstring_bytes}
use Rattle.bstr.specs.declared.bstring.BString.{BString}
use Rattle.std.specs.List.{flat_map}
use Rattle.std.proofs.lemmas.List.{take_all}
use Rattle.index_parts.specs.Numbers.{within_32}
use Rattle.ext_bitmap.proofs.Lengths.{too_long_at, within_some}
use Rattle.ext_encode.proofs.WrittenDirectories.{names_same}
use Rattle.ext_encode.proofs.untracked_sizes.names_len.Goals as goal

pub returns-then-longer-from : goal.returns-then-longer-from
returns-then-longer-from c =
    let names = c.args.names.now in
    let f : BString → List ℕ = λ n. bstring_bytes n ++ 0 ∷ [] in
    let there = ap (λ n. length (f n)) c.name-item.is in
    sym (ap (λ l. within_32 (length l)) (sym (names_same names))
    ∙ too_long_at f names c.loop-name.name-index c.name-item.result c.loop-name-test.true (omega (
      arith,
      there,
      c.loop-name.invariant.so_far,
      ap length c.as_bytes.ensures,
      length-append (bstring_bytes c.name-item.result) (0 ∷ []),
      c.from.ensures,
      c.from-in-loop-name.ensures,
      c.if-longer-from.true,
    )))

pub returns : goal.returns
returns c =
    let names = c.args.names.now in
    let f : BString → List ℕ = λ n. bstring_bytes n ++ 0 ∷ [] in
    let all = ap (λ l. length (flat_map f l)) (take_all c.loop-name.name-index names c.loop-name-test.false) in
    let len = c.loop-name.invariant.so_far ∙ all ∙ ap length (names_same names) in
    sym (ap within_32 (sym len) ∙ within_some c.loop-name.len c.loop-name.invariant.small)
