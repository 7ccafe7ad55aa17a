use Rattle.std.proofs.Common.{rules, ◌≡◌, ◌++◌, List, ℕ, take, drop, sym, ap, ◌∙◌}
use Rattle.std.proofs.lemmas.List.{take-append-drop}
use Rattle.file_windows.proofs.extensions.extension_at.Goals as goal

pub returns : goal.returns
returns c =
    let b = c.args.bytes.now in
    let signature : c.split_at.result.0.now ≡ take 4 b = search rules in
    let rest : c.split_at.result.1.now ≡ drop 4 b = search rules in
    let size : c.split_at-2.result.0.now ≡ take 4 (drop 4 b) = search rules in (
      take 4 b,
      take 4 (drop 4 b),
      drop 4 (drop 4 b),
      sym (take-append-drop 4 b) ∙ ap (λ (l : List ℕ). take 4 b ++ l) (sym (take-append-drop 4 (drop 4 b))),
      search rules,
      search rules,
      search rules,
      search rules,
    )
