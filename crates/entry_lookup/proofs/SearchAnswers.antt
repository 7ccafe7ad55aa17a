-- What a search answers, put together from what it found and how often it compared.
use Rattle.std.proofs.Common.{◌≡◌, ℕ, ◌+◌, ◌<◌, ◌≤◌, Bool, true, false, List, length, map, ap, subst}
use Rattle.std.proofs.Common.{arith, Option, Some, None, Result, Ok, Err, IfOk, IfErr}
use Rattle.std.specs.List.{position}
use Rattle.base_search.specs.Digits.{digits}
use Rattle.base_search.specs.Halving.{IsBracket, IsEqualAt, IsGapAt, IsPartedAt, IsRising}
use Rattle.base_search.proofs.OrderedAnswers.{equal_at, gap_at, rising_of}
use Rattle.entry_fields.specs.Flags.{stage_code}
use Rattle.entry_fields.specs.declared.entry.flags.Stage.{Stage}
use Rattle.entry_list.specs.Record.{Record}
use Rattle.entry_lookup.specs.Folded.{is_at_folded, stands_in_folded}
use Rattle.entry_lookup.specs.NameSteps.{IsDirectoryTable, IsPathTable, IsTableOf, named_value}
use Rattle.entry_lookup.specs.SearchSteps.{AskedAnswer, asked_cmp}
use Rattle.entry_lookup.specs.Searches.{IsHalving, KeyAnswer, PathAnswer, SearchesDirectory, SearchesFolded}
use Rattle.entry_lookup.specs.declared.names.Named.{Named}
use Rattle.entry_lookup.proofs.Extents.{directories_named}
use Rattle.entry_lookup.proofs.Lookup.{key_answer, key_at, path_at, path_gap}

-- ---- how often it compared

pub halving_of : (m n count : ℕ) → m ≡ n → count ≤ digits m + 1 → (0 < n → 1 ≤ count) → IsHalving n count
halving_of m n count same few one = record {
  at_most = let e : digits m ≡ digits n = ap digits same in omega (arith, few, e);
  at_least_one = one;
}

-- ---- among records, by a path and maybe a stage

err_within : (r : Result ℕ ℕ) (end n : ℕ) → end ≤ n → IfErr r (λ i. i ≤ end) → IfErr r (λ i. i ≤ n)
err_within (Ok i) end n fits h = tt
err_within (Err i) end n fits h = omega (arith, fits, h)

module _ (few : ℕ → Type 0) (path : List ℕ) (rs : List Record) (r : Result ℕ ℕ × ℕ) where
  pub asked_of : (stage : Option Stage) (start end : ℕ) → IsBracket (map (asked_cmp path stage) rs) start end
      → end ≤ length rs → IfOk r.0 (IsEqualAt (λ o. o) (map (asked_cmp path stage) rs))
      → (IsRising (map (asked_cmp path stage) rs) → IsBracket (map (asked_cmp path stage) rs) start end
      → IfOk r.0 (IsPartedAt false (map (asked_cmp path stage) rs))) → IfErr r.0 (λ i. i ≤ end)
      → (IsRising (map (asked_cmp path stage) rs) → IsBracket (map (asked_cmp path stage) rs) start end
      → IfErr r.0 (IsGapAt (λ o. o) (map (asked_cmp path stage) rs))) → few r.1
      → AskedAnswer few path stage rs r
  asked_of stage start end bracket fits found first in_range absent count = record {
    found = equal_at (asked_cmp path stage) rs r.0 found;
    first = λ split. first (rising_of (asked_cmp path stage) rs split) bracket;
    in_range = err_within r.0 end (length rs) fits in_range;
    absent = gap_at (asked_cmp path stage) rs start end r.0 bracket absent;
    count = count;
  }

  pub path_answer : AskedAnswer few path None rs r → PathAnswer few path rs r
  path_answer h = record {
    place = record {
      found = path_at path rs r.0 h.found;
      in_range = h.in_range;
      absent = path_gap path rs r.0 h.in_range h.absent;
    };
    count = h.count;
  }

  pub staged_answer : (stage : Stage) → AskedAnswer few path (Some stage) rs r
      → KeyAnswer few path (stage_code stage) rs r
  staged_answer stage h = record {
    place = record {
      found = key_at path (stage_code stage) rs r.0 h.found;
      in_range = h.in_range;
      answer = key_answer path (stage_code stage) rs r.0 h.found h.in_range h.absent;
    };
    count = h.count;
  }

-- ---- among names

module _ (ignore_case : Bool) (name : List ℕ) (rs : List Record) (names : List Named) (r : Option ℕ × ℕ)
    (halving : IsHalving (length names) r.1) where
  pub folded_answer : IsPathTable ignore_case rs names
      → ((test : List ℕ → Record → Bool) (qs : List Record)
      → IsTableOf false ignore_case test qs (map named_value names) → r.0 ≡ position (test name) qs)
      → SearchesFolded ignore_case name rs r
  folded_answer table answer = record {
    answer = answer (is_at_folded ignore_case) rs table.0;
    count = subst (λ (n : ℕ). IsHalving n r.1) table.1 halving;
  }

  pub directory_answer : IsDirectoryTable ignore_case rs names
      → ((test : List ℕ → Record → Bool) (qs : List Record)
      → IsTableOf true ignore_case test qs (map named_value names) → r.0 ≡ position (test name) qs)
      → SearchesDirectory ignore_case name rs r
  directory_answer table answer = record {
    answer = answer (stands_in_folded ignore_case) rs table.0;
    count = directories_named (λ n. IsHalving n r.1) ignore_case rs names table halving;
  }
