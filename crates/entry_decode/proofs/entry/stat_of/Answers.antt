use Rattle.std.proofs.Common.{◌-◌, ℕ, List, length, drop, take, ap, ◌∙◌, arith, length-drop}
use Rattle.std.proofs.lemmas.List.{take_all}
use Rattle.entry_fields.specs.Stat.{stat_of}
use Rattle.entry_decode.proofs.entry.stat_of.Goals as goal

pub returns : goal.returns
returns c =
    let n = c.args.numbers.now in
    c.stat.ensures ∙ ap (λ (l : List ℕ). stat_of (take 24 n) l)
    (take_all (length n - 28) (drop 28 n) (omega (arith, length-drop 28 n)))
