-- Paths that are invalidated one after another.
use Rattle.std.proofs.Common.{◌≡◌, ℕ, ◌+◌, ◌<◌, ◌≤◌, List, [], ◌∷◌, ◌++◌, get_or, length, take, refl, sym, subst, ap, ◌∙◌}
use Rattle.std.proofs.lemmas.List.{take_all, take_more}
use Rattle.ext_tree.specs.Sound.{CountsAtMost}
use Rattle.ext_tree.specs.Tree.{Node}
use Rattle.index_parts.specs.declared.hash.Kind.{Kind}
use Rattle.ext_untracked.specs.Untracked.{Cache, CacheIdsAreOf}
use Rattle.ext_untracked.specs.UntrackedEdits.{path_invalidated}
use Rattle.ext_untracked.proofs.Invalidating.{ids_stay}
use Rattle.entry_edit.specs.Changes.{change_path}
use Rattle.entry_edit.specs.declared.change.Change.{Change}
use Rattle.ext_tree.specs.Invalidation.{invalidated}
use Rattle.ext_tree.proofs.Below.{counts_stay}
use Rattle.index_edit.specs.Invalidated.{all_invalidated, all_unlisted}

-- a value after changes, by what comes of it by the path of one
module _ {T : Type 0} (step : List ℕ → T → T) (all : List Change → T → T) (none : (t : T) → all [] t ≡ t)
    (more : (c : Change) (cs : List Change) (t : T) → all (c ∷ cs) t ≡ all cs (step (change_path c) t)) where
  pushed : (cs : List Change) (c : Change) (t : T) → all (cs ++ c ∷ []) t ≡ step (change_path c) (all cs t)
  pushed [] c t = more c [] t ∙ none (step (change_path c) t) ∙ ap (step (change_path c)) (sym (none t))
  pushed (d ∷ cs) c t =
      more d (cs ++ c ∷ []) t ∙ pushed cs c (step (change_path d) t) ∙ ap (step (change_path c)) (sym (more d cs t))

  one_more : (cs : List Change) (i : ℕ) (old : T) (d : Change) (path : List ℕ) (before now : T) → i < length cs
      → path ≡ change_path (get_or cs i d) → before ≡ all (take i cs) old → now ≡ step path before
      → now ≡ all (take (i + 1) cs) old
  one_more cs i old d path before now within p b e =
      e ∙ ap (step path) b ∙ ap (λ l. step l (all (take i cs) old)) p
      ∙ sym (pushed (take i cs) (get_or cs i d) old) ∙ ap (λ l. all l old) (sym (take_more cs i d within))

  whole : (cs : List Change) (i : ℕ) (old now : T) → length cs ≤ i → now ≡ all (take i cs) old → now ≡ all cs old
  whole cs i old now l e = e ∙ ap (λ l. all l old) (take_all i cs l)

  stays : (P : T → Type 0) → ((path : List ℕ) (t : T) → P t → P (step path t)) → (cs : List Change) (t : T) → P t
      → P (all cs t)
  stays P h [] t p = subst P (sym (none t)) p
  stays P h (c ∷ cs) t p = subst P (sym (more c cs t)) (stays P h cs (step (change_path c) t) (h (change_path c) t p))

-- ---- a cached tree

tree_none : (t : Node) → all_invalidated [] t ≡ t
unfolding all_invalidated
tree_none t = refl

tree_more : (c : Change) (cs : List Change) (t : Node)
    → all_invalidated (c ∷ cs) t ≡ all_invalidated cs (invalidated (change_path c) t)
unfolding all_invalidated
tree_more c cs t = refl

pub invalidated_none : (t : Node) → t ≡ all_invalidated [] t
invalidated_none t = sym (tree_none t)

module _ (cs : List Change) (i : ℕ) (old : Node) where
  pub invalidated_more : (d : Change) (path : List ℕ) (before now : Node) → i < length cs → path ≡ change_path (get_or cs i d)
      → before ≡ all_invalidated (take i cs) old → now ≡ invalidated path before
      → now ≡ all_invalidated (take (i + 1) cs) old
  invalidated_more = one_more invalidated all_invalidated tree_none tree_more cs i old

  pub all_done : (now : Node) → length cs ≤ i → now ≡ all_invalidated (take i cs) old → now ≡ all_invalidated cs old
  all_done = whole invalidated all_invalidated tree_none tree_more cs i old

pub all_count_stay : (most : ℕ) (cs : List Change) (t : Node) → CountsAtMost most t
    → CountsAtMost most (all_invalidated cs t)
all_count_stay most = stays invalidated all_invalidated tree_none tree_more (CountsAtMost most) (counts_stay most)

-- ---- an untracked cache

cache_none : (c : Cache) → all_unlisted [] c ≡ c
unfolding all_unlisted
cache_none c = refl

cache_more : (d : Change) (ds : List Change) (c : Cache)
    → all_unlisted (d ∷ ds) c ≡ all_unlisted ds (path_invalidated (change_path d) c)
unfolding all_unlisted
cache_more d ds c = refl

pub unlisted_none : (c : Cache) → c ≡ all_unlisted [] c
unlisted_none c = sym (cache_none c)

module _ (cs : List Change) (i : ℕ) (old : Cache) where
  pub unlisted_more : (d : Change) (path : List ℕ) (before now : Cache) → i < length cs
      → path ≡ change_path (get_or cs i d)
      → before ≡ all_unlisted (take i cs) old → now ≡ path_invalidated path before
      → now ≡ all_unlisted (take (i + 1) cs) old
  unlisted_more = one_more path_invalidated all_unlisted cache_none cache_more cs i old

  pub all_listed_off : (now : Cache) → length cs ≤ i → now ≡ all_unlisted (take i cs) old → now ≡ all_unlisted cs old
  all_listed_off = whole path_invalidated all_unlisted cache_none cache_more cs i old

pub cache_stays : (P : Cache → Type 0) → ((path : List ℕ) (c : Cache) → P c → P (path_invalidated path c))
    → (cs : List Change) (c : Cache) → P c → P (all_unlisted cs c)
cache_stays = stays path_invalidated all_unlisted cache_none cache_more

pub all_ids_stay : (kind : Kind) (cs : List Change) (c : Cache) → CacheIdsAreOf kind c
    → CacheIdsAreOf kind (all_unlisted cs c)
all_ids_stay kind = cache_stays (CacheIdsAreOf kind) (ids_stay kind)
