-- The trees that a walk has begun: one more, one less, and a path that keeps their prefixes.
use Rattle.std.proofs.Common.{◌≡◌, ℕ, suc, ◌≤◌, List, [], ◌∷◌, ◌++◌, length, Bool, Option, Ok, Err, take, refl, sym, ap}
use Rattle.std.proofs.Common.{subst, ◌∙◌, arith}
use Rattle.std.proofs.lemmas.List.{take-take, take-append-le, length-take-le, length-append}
use Rattle.index_parts.specs.Object.{Found, object}
use Rattle.index_parts.specs.declared.hash.Kind.{Kind}
use Rattle.index_parts.specs.declared.hash.ObjectId.{ObjectId}
use Rattle.index_parts.specs.declared.object.Kind.TheVariants.{Tree}
use Rattle.entry_list.specs.Record.{Record}
use Rattle.tree_decode.specs.Leaves.{LeavesAnswer, LeavesFault, Yields, with_leaves, whole_tree, opened}
use Rattle.tree_decode.specs.LeafSteps.{EntriesComeTo, LevelsComeTo, IsReadLevel, Rise, unlisted}
use Rattle.tree_decode.specs.declared.walk.Level.{Level}

-- ---- prefixes

-- another name after the prefix of a path
pub prefix_kept : (n : ℕ) (old new name : List ℕ) → n ≤ length old → new ≡ take n old ++ name
    → (take n new ≡ take n old) × (n ≤ length new)
prefix_kept n old new name le is =
    let len : length (take n old) ≡ n = length-take-le n old le in (
      ap (take n) is ∙ take-append-le n (take n old) name (omega (arith, len)) ∙ take-take n n old (omega arith),
      omega (arith, len, ap length is, length-append (take n old) name),
    )

-- prefixes that don't fall
module _ (kind : Kind) where
  pub rise_low : (low : ℕ) (ls : List Level) (high : ℕ) → Rise kind low ls high → low ≤ high
  rise_low low [] high h = h
  rise_low low (l ∷ ls) high h = omega (arith, h.0, rise_low l.prefix_len ls high h.2)

  pub rise_pop : (low : ℕ) (ls : List Level) (l : Level) (high : ℕ) → Rise kind low (ls ++ l ∷ []) high
      → Rise kind low ls l.prefix_len × IsReadLevel kind l × (l.prefix_len ≤ high)
  rise_pop low [] l high h = (h.0, h.1, h.2)
  rise_pop low (k ∷ ls) l high h = let p = rise_pop k.prefix_len ls l high h.2 in ((h.0, h.1, p.0), p.1, p.2)

  pub rise_push : (low : ℕ) (ls : List Level) (l : Level) (high : ℕ) → Rise kind low ls l.prefix_len
      → IsReadLevel kind l
      → l.prefix_len ≤ high → Rise kind low (ls ++ l ∷ []) high
  rise_push low [] l high h begun le = (h, begun, le)
  rise_push low (k ∷ ls) l high h begun le = (h.0, h.1, rise_push k.prefix_len ls l high h.2 begun le)

  pub rise_wider : (low : ℕ) (ls : List Level) (high higher : ℕ) → Rise kind low ls high → high ≤ higher
      → Rise kind low ls higher
  rise_wider low [] high higher h le = omega (arith, h, le)
  rise_wider low (l ∷ ls) high higher h le = (h.0, h.1, rise_wider l.prefix_len ls high higher h.2 le)

module _ (find : ObjectId → Found) (check : List ℕ → Bool → Option ℕ) (kind : Kind) where
  -- a path that begins alike keeps the prefixes
  pub levels_moved : (p q : List ℕ) (low : ℕ) (so_far : LeavesAnswer) (ls : List Level) (high : ℕ) (r : LeavesAnswer)
      → Rise kind low ls high → take high p ≡ take high q → LevelsComeTo find check kind p so_far ls r
      → LevelsComeTo find check kind q so_far ls r
  levels_moved p q low so_far [] high r rise same g = g
  levels_moved p q low so_far (l ∷ ls) high r rise same g =
      let le : l.prefix_len ≤ high = rise_low kind l.prefix_len ls high rise.2 in
      let prefix : take l.prefix_len p ≡ take l.prefix_len q =
      sym (take-take l.prefix_len high p le) ∙ ap (take l.prefix_len) same ∙ take-take l.prefix_len high q le in (
        g.0,
        levels_moved p q l.prefix_len so_far ls high g.0 rise.2 same g.1,
        subst (λ (f : List ℕ). EntriesComeTo find check kind g.0 f (unlisted l) r) prefix g.2,
      )

  -- the innermost tree
  pub levels_push : (path : List ℕ) (so_far middle : LeavesAnswer) (ls : List Level) (l : Level) (r : LeavesAnswer)
      → EntriesComeTo find check kind so_far (take l.prefix_len path) (unlisted l) middle
      → LevelsComeTo find check kind path middle ls r → LevelsComeTo find check kind path so_far (ls ++ l ∷ []) r
  levels_push path so_far middle [] l r h g = (
    so_far,
    refl,
    subst
        (λ (x : LeavesAnswer). EntriesComeTo find check kind so_far (take l.prefix_len path) (unlisted l) x) (sym g) h,
  )
  levels_push path so_far middle (k ∷ ls) l r h g = (g.0, levels_push path so_far middle ls l g.0 h g.1, g.2)

  pub levels_pop : (path : List ℕ) (so_far : LeavesAnswer) (ls : List Level) (l : Level) (r : LeavesAnswer)
      → LevelsComeTo find check kind path so_far (ls ++ l ∷ []) r
      → (middle : LeavesAnswer) × EntriesComeTo find check kind so_far (take l.prefix_len path) (unlisted l) middle
      × LevelsComeTo find check kind path middle ls r
  levels_pop path so_far [] l r g = (
    r,
    subst (λ (x : LeavesAnswer). EntriesComeTo find check kind x (take l.prefix_len path) (unlisted l) r) g.1 g.2,
    refl,
  )
  levels_pop path so_far (k ∷ ls) l r g = let p = levels_pop path so_far ls l g.0 g.1 in (p.0, p.1, (g.0, p.2, g.2))

  -- a fault, and a tree that is read
  pub levels_fault : (path : List ℕ) (f : LeavesFault) (ls : List Level)
      → LevelsComeTo find check kind path (Err f) ls (Err f)
  levels_fault path f [] = refl
  levels_fault path f (l ∷ ls) = (Err f, levels_fault path f ls, refl)

  pub levels_opened : (n : ℕ) (path bytes : List ℕ) (rs : List Record) (ls : List Level) (l : Level) (id : ObjectId)
      (r : LeavesAnswer) → find id ≡ object Tree bytes → take l.prefix_len path ≡ path → unlisted l ≡ bytes
      → LevelsComeTo find check kind path (Ok (rs, n)) (ls ++ l ∷ []) r
      → (x : LeavesAnswer) × Yields find check kind (suc n) (whole_tree path id) x
      × LevelsComeTo find check kind path (with_leaves rs x) ls r
  levels_opened n path bytes rs ls l id r found prefix is g =
      let p = levels_pop path (Ok (rs, n)) ls l r g in
      let o = subst (λ (b : List ℕ). EntriesComeTo find check kind (Ok (rs, n)) path b p.0) is
      (subst (λ (f : List ℕ). EntriesComeTo find check kind (Ok (rs, n)) f (unlisted l) p.0) prefix p.1) in (
        o.1,
        opened n path id bytes o.0 o.1 found o.2 o.3,
        subst (λ (x : LeavesAnswer). LevelsComeTo find check kind path x ls r) o.4 p.2,
      )
