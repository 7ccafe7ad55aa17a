use Rattle.std.proofs.Common.{arith, ap, map, List, ℕ, ◌∙◌}
use Rattle.std.specs.Char.{to_ascii_lowercase}
use Rattle.std.specs.Int.{to_be_bytes, w64}
use Rattle.entry_list.specs.Order.{path_cmp}
use Rattle.entry_lookup.proofs.Words.{words_cmp}
use Rattle.entry_lookup.proofs.fold.compare_words.Goals as goal

pub returns : goal.returns
returns c =
    c.cmp.ensures ∙ words_cmp c.lower_word.result c.lower_word-2.result (omega arith) (omega arith)
    ∙ ap (λ (bs : List ℕ). path_cmp bs (to_be_bytes w64 c.lower_word-2.result))
    (c.lower_word.ensures ∙ ap (map to_ascii_lowercase) c.word_at.ensures)
    ∙ ap (path_cmp _) (c.lower_word-2.ensures ∙ ap (map to_ascii_lowercase) c.word_at-2.ensures)
