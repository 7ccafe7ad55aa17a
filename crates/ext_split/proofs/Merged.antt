-- What all records have before a merge, they have after it.
use Rattle.std.proofs.Common.{◌≡◌, ℕ, ◌+◌, ◌||◌, eqb, Bool, true, false, cond, List, [], ◌∷◌, length, All, Option, Some}
use Rattle.std.proofs.Common.{None, drop, refl, subst, arith}
use Rattle.std.specs.Prelude.{slice_get, option_and_then}
use Rattle.std.specs.List.{position_from, list_any}
use Rattle.std.proofs.lemmas.List.Elements.{All-head, All-tail, All-drop, All-append, All-cons, All-get_or}
use Rattle.std.proofs.lemmas.List.Sorted.{All-permutation}
use Rattle.std.proofs.lemmas.Option.{slice_get_within, get_or_from_slice_get}
use Rattle.entry_list.specs.EntryImage.{is_removed}
use Rattle.ext_split.specs.Merge.{listed_places, replaced, candidate, candidates_from, candidates, retained_from}
use Rattle.ext_split.specs.Merge.{IsMerge}
use Rattle.entry_list.specs.Record.{Record}

module _ (P : Record → Type 0) (closed : (r s : Record) → P r → P s → P (replaced r (Some s))) (split : List Record)
    (others : All P split) where
  all_none : All P []
  all_none k d l = absurd (omega arith)

  taken : (r : Record) (o : Option ℕ) → P r → P (replaced r (option_and_then (slice_get split) o))
  taken r None p = p
  taken r (Some j) p = by (slice_get split j) refl
    where
      by : (o : Option Record) → slice_get split j ≡ o → P (replaced r o)
      by None e = p
      by (Some s) e = closed r s p
          (subst P (get_or_from_slice_get split j s s e) (All-get_or P split j s (slice_get_within split j s e) others))

  all_candidates : (replace : List ℕ) (i : ℕ) (rs : List Record) → All P rs → All P (candidates_from split replace i rs)
  all_candidates replace i [] h = all_none
  all_candidates replace i (r ∷ rs) h =
      All-cons P (candidate split replace i r) (candidates_from split replace (i + 1) rs)
      (taken r (position_from (λ p. eqb p i) 0 replace) (All-head P r rs h))
      (all_candidates replace (i + 1) rs (All-tail P r rs h))

  all_kept : (delete : List ℕ) (i : ℕ) (rs : List Record) → All P rs → All P (retained_from delete i rs)
  all_kept delete i [] h = all_none
  all_kept delete i (r ∷ rs) h =
      by (list_any (λ p. eqb p i) delete || is_removed r.flags) (all_kept delete (i + 1) rs (All-tail P r rs h))
    where
      by : (b : Bool) → All P (retained_from delete (i + 1) rs)
          → All P (cond b (retained_from delete (i + 1) rs) (r ∷ retained_from delete (i + 1) rs))
      by true a = a
      by false a = All-cons P r (retained_from delete (i + 1) rs) (All-head P r rs h) a

  pub all_merged : (delete_words replace_words : List ℕ) (shared merged : List Record) → All P shared
      → IsMerge delete_words replace_words shared split merged → All P merged
  all_merged delete_words replace_words shared merged h m =
      let replace = listed_places m.replace in
      let delete = listed_places m.delete in
      let front = all_candidates replace 0 shared h in
      let whole : All P (candidates shared split replace) = All-append P (candidates_from split replace 0 shared)
      (drop (length replace) split) front (All-drop P (length replace) split others) in
      All-permutation P (retained_from delete 0 (candidates shared split replace)) merged m.permutation
      (all_kept delete 0 (candidates shared split replace) whole)
