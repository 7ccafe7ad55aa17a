-- A path that nothing is wrong with is made of names.
use Rattle.std.proofs.Common.{◌≡◌, ℕ, zero, suc, ◌+◌, ◌≤◌, ◌==◌, List, [], ◌∷◌, ◌++◌, All, Bool}
use Rattle.std.proofs.Common.{true, false, cond}
use Rattle.std.proofs.Common.{Option, Some, None, length, get_or, take, drop, refl, sym, ap, subst, ◌∙◌}
use Rattle.std.proofs.Common.{append_assoc, arith}
use Rattle.std.proofs.Common.{length-take}
use Rattle.std.specs.Prelude.{◌≢◌, count_by}
use Rattle.std.specs.Option.{option_map}
use Rattle.std.proofs.lemmas.Bool.{eqb-true}
use Rattle.std.proofs.lemmas.List.{append-nil, get_or-take}
use Rattle.std.proofs.lemmas.List.Elements.{All-drop, All-take}
use Rattle.std.proofs.lemmas.List.Quantifiers.{position-Some}
use Rattle.std.proofs.lemmas.List.Sums.{fails_before_first, sum_by-append, sum_by-cons}
use Rattle.index_parts.specs.NameCheck.{refusal_as}
use Rattle.index_parts.specs.declared.object.tree.EntryKind.{EntryKind}
use Rattle.index_parts.specs.declared.object.tree.EntryKind.TheVariants as kinds
use Rattle.entry_edit.specs.Refusals.{Check, name_fault, names_fault, names_of}
use Rattle.entry_edit.specs.declared.error.Error.TheVariants as errors
use Rattle.entry_edit.proofs.Names.{first_name, last_name}
use Rattle.entry_edit.proofs.Whys.{neither}
use Rattle.index_parts.specs.Path.{slash_of}
use Rattle.tree_encode.specs.Directory.{IsPathComponent}
use Rattle.tree_encode.specs.Refusals.{IsTreePath, of_file, beneath}
use Rattle.tree_encode.proofs.PathNames.{NoSlash}
use Rattle.index_edit_laws.proofs.FirstNames.{front_no_slash, no_slash, nowhere, split_at}

pub not_some : {X Y : Type 0} (f : X → Y) (o : Option X) → option_map f o ≡ None → o ≡ None
not_some f None h = refl
not_some f (Some x) h = absurd cc

-- ---- slashes

abbrev slashes : List ℕ → ℕ
slashes path = count_by (λ b. b == 47) path

counted_behind : (front rest : List ℕ) → slashes rest + 1 ≤ slashes (front ++ 47 ∷ rest)
counted_behind front rest =
    let one : ℕ → ℕ = λ b. cond (b == 47) 1 0 in
    omega (arith, sum_by-append one front (47 ∷ rest), sum_by-cons one 47 rest)

fewer : (path : List ℕ) (at : ℕ) → slash_of path ≡ Some at → slashes (drop (at + 1) path) + 1 ≤ slashes path
fewer path at s = subst (λ (l : List ℕ). slashes (drop (at + 1) path) + 1 ≤ slashes l) (sym (split_at path at s))
    (counted_behind (take at path) (drop (at + 1) path))

before_slash : (path : List ℕ) (at : ℕ) → slash_of path ≡ Some at → All (λ b. (b == 47) ≡ false) (take at path)
before_slash path at s i d within =
    let n = length-take at path in
    rw (get_or-take at path i d (omega (arith, within, n)))
    ((position-Some (λ b. b == 47) path at d s).2 i (omega (arith, within, n)))

none_slash : (path : List ℕ) → slash_of path ≡ None → All (λ b. (b == 47) ≡ false) path
none_slash path s k d within =
    fails_before_first (λ b. b == 47) path k d (omega (arith, nowhere (λ b. b == 47) path s, within))

-- ---- one name

-- a name that a check lets pass
abbrev Passes : Check → List ℕ → EntryKind → Type 0
Passes check name k = IsPathComponent name × (refusal_as check name k ≡ None)

some_bytes : (name : List ℕ) → (length name == 0) ≡ false → name ≢ []
some_bytes name e z = let clash : true ≡ false = sym (ap (λ (l : List ℕ). length l == 0) z) ∙ e in absurd cc

module _ (check pass : Check) (k : EntryKind)
    (weaker : (name : List ℕ) (j : EntryKind) → refusal_as check name j ≡ None → refusal_as pass name j ≡ None) where
  name_passes : (name : List ℕ) (j : EntryKind) → All (λ b. b ≢ 0) name → NoSlash name → name_fault check j name ≡ None
      → Passes pass name j
  name_passes name j a n h = by (length name == 0) refl h
    where
      by : (b : Bool) → (length name == 0) ≡ b
          → cond b (Some errors.EmptyName) (option_map (λ number. errors.Name number) (refusal_as check name j)) ≡ None
          → Passes pass name j
      by true e g = absurd cc
      by false e g = (
        record { some = some_bytes name e; apart = a; component = n },
        weaker name j (not_some (λ number. errors.Name number) (refusal_as check name j) g),
      )

  -- ---- names, one after another, and what follows the last of them

  module _ (more : ℕ) (tail : List ℕ)
      (last : (levels : ℕ) (name : List ℕ) → Passes pass name k
      → IsTreePath pass (levels + more) k (name ++ tail)) where
    abbrev Made : ℕ → List ℕ → Type 0
    Made levels path = IsTreePath pass (levels + more) k (path ++ tail)

    at_slash : (levels : ℕ) (path front rest : List ℕ) → path ≡ front ++ 47 ∷ rest → Passes pass front kinds.Tree
        → Made levels rest → Made (suc levels) path
    at_slash levels path front rest e p m =
        let next : suc (levels + more) ≡ suc levels + more = omega arith in
        subst (λ (n : ℕ). IsTreePath pass n k (path ++ tail)) next
        (subst (IsTreePath pass (suc (levels + more)) k)
        (sym (ap (λ (l : List ℕ). l ++ tail) e ∙ append_assoc front (47 ∷ rest) tail))
        (beneath (levels + more) k front (rest ++ tail) p.0 p.1 m))

    lone : (levels : ℕ) (path : List ℕ) → All (λ b. b ≢ 0) path → names_fault check k (names_of path) ≡ None
        → slash_of path ≡ None → Made levels path
    lone levels path a h s = last levels path (name_passes path k a (no_slash path s)
        (sym (last_name check k path (none_slash path s)) ∙ h))

    -- what is before the first slash passes, and the names after it are valid
    front_passes : (path : List ℕ) (at : ℕ) → All (λ b. b ≢ 0) path → names_fault check k (names_of path) ≡ None
        → slash_of path ≡ Some at
        → Passes pass (take at path) kinds.Tree × (names_fault check k (names_of (drop (at + 1) path)) ≡ None)
    front_passes path at a h s =
        let p = position-Some (λ b. b == 47) path at 0 s in
        let n = neither (name_fault check kinds.Tree (take at path))
        (names_fault check k (names_of (drop (at + 1) path)))
        (sym (first_name check k path at p.0 (eqb-true (get_or path at 0) 47 p.1) (before_slash path at s)) ∙ h) in
        (name_passes (take at path) kinds.Tree (All-take (λ b. b ≢ 0) at path a) (front_no_slash path at s) n.0, n.1)

    pub names_made : (levels : ℕ) (path : List ℕ) → All (λ b. b ≢ 0) path → slashes path ≤ levels
        → names_fault check k (names_of path) ≡ None → Made levels path
    names_made zero path a few h = by (slash_of path) refl
      where
        by : (o : Option ℕ) → slash_of path ≡ o → Made zero path
        by None s = lone zero path a h s
        by (Some at) s = absurd (omega (arith, few, fewer path at s))
    names_made (suc levels) path a few h = by (slash_of path) refl (λ rest b f g. names_made levels rest b f g)
      where
        by : (o : Option ℕ) → slash_of path ≡ o
            → ((rest : List ℕ) → All (λ b. b ≢ 0) rest → slashes rest ≤ levels
            → names_fault check k (names_of rest) ≡ None → Made levels rest)
            → Made (suc levels) path
        by None s behind = lone (suc levels) path a h s
        by (Some at) s behind =
            let n = front_passes path at a h s in
            at_slash levels path (take at path) (drop (at + 1) path) (split_at path at s) n.0
            (behind (drop (at + 1) path) (All-drop (λ b. b ≢ 0) (at + 1) path a)
            (omega (arith, few, fewer path at s)) n.1)

-- ---- a path

module _ (check pass : Check)
    (weaker : (name : List ℕ) (j : EntryKind) → refusal_as check name j ≡ None → refusal_as pass name j ≡ None) where
  pub file_made : (k : EntryKind) (path : List ℕ) → k ≢ kinds.Tree → All (λ b. b ≢ 0) path → slashes path ≤ 2048
      → names_fault check k (names_of path) ≡ None → IsTreePath pass 2048 k path
  file_made k path o a few h =
      subst (IsTreePath pass 2048 k) (append-nil path)
      (names_made check pass k weaker 0 []
      (λ levels name p. subst (IsTreePath pass (levels + 0) k) (sym (append-nil name))
      (of_file (levels + 0) k name o p.0 p.1)) 2048 path a few h)
