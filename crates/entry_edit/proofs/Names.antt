-- What is wrong with the names of a path, name by name.
use Rattle.std.proofs.Common.{◌≡◌, ℕ, suc, ◌+◌, ◌<◌, ◌==◌, true, false, List, [], ◌∷◌, ◌++◌, All, length, get_or}
use Rattle.std.proofs.Common.{take, drop, Option, Some, None, refl, sym, ap, ◌∙◌, arith}
use Rattle.std.proofs.Math.Seq.{drop-cons}
use Rattle.std.proofs.lemmas.Bool.Decides.{nat_tests}
use Rattle.std.proofs.lemmas.List.{take-append-drop}
use Rattle.std.proofs.lemmas.List.Splits.{length-slice_split, slice_split_at, slice_split_none}
use Rattle.std.specs.Option.{option_or}
use Rattle.index_parts.specs.declared.object.tree.EntryKind.{EntryKind}
use Rattle.index_parts.specs.declared.object.tree.EntryKind.TheVariants as kinds
use Rattle.entry_edit.specs.Refusals.{Check, kind_at, name_fault, names_fault, names_of}
use Rattle.entry_edit.specs.declared.error.Error.{Error}

or_none : (x : Option Error) → option_or x None ≡ x
or_none None = refl
or_none (Some e) = refl

some_left : (kind : EntryKind) (names : List (List ℕ)) → 0 < length names → kind_at kind names ≡ kinds.Tree
some_left kind [] h = absurd (omega arith)
some_left kind (name ∷ names) h = refl

module _ (check : Check) (kind : EntryKind) (rest : List ℕ) where
  pub last_name : All (λ b. (b == 47) ≡ false) rest → names_fault check kind (names_of rest) ≡ name_fault check kind rest
  last_name h =
      ap (names_fault check kind) (slice_split_none (λ b. b == 47) rest h) ∙ or_none (name_fault check kind rest)

  pub first_name : (at : ℕ) → at < length rest → get_or rest at 0 ≡ 47
      → All (λ b. (b == 47) ≡ false) (take at rest) → names_fault check kind (names_of rest)
      ≡ option_or (name_fault check kinds.Tree (take at rest)) (names_fault check kind (names_of (drop (at + 1) rest)))
  first_name at within slash h =
      let next : suc at ≡ at + 1 = omega arith in
      let behind = names_of (drop (at + 1) rest) in
      let is : (get_or rest at 0 == 47) ≡ true = grind (arith, nat_tests, slash) in
      let parts : rest ≡ take at rest ++ get_or rest at 0 ∷ drop (at + 1) rest =
      sym (take-append-drop at rest) ∙ ap (λ l. take at rest ++ l)
      (drop-cons rest at 0 within ∙ ap (λ n. get_or rest at 0 ∷ drop n rest) next) in
      let split : names_of rest ≡ take at rest ∷ behind =
      ap names_of parts ∙ slice_split_at (λ b. b == 47) (take at rest) (get_or rest at 0) (drop (at + 1) rest) h is in
      let some : 0 < length behind = omega (arith, length-slice_split (λ b. b == 47) (drop (at + 1) rest)) in
      ap (names_fault check kind) split
      ∙ ap (λ k. option_or (name_fault check k (take at rest)) (names_fault check kind behind)) (some_left kind behind some)
