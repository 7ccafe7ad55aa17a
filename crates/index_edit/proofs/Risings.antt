-- Paths of resolve-undo that rise do so after more was recorded.
use Rattle.std.proofs.Common.{◌≡◌, ◌≢◌, ℕ, suc, false, List, [], ◌∷◌, All, Option, Some, None, refl, sym, ap, ◌∙◌, subst, arith}
use Rattle.std.specs.Ordering.{is_lt, ordering_reverse}
use Rattle.std.specs.Prelude.{IfSome}
use Rattle.std.specs.declared.cmp.Ordering.{Ordering}
use Rattle.std.specs.declared.cmp.Ordering.TheVariants.{Less, Equal, Greater}
use Rattle.std.proofs.lemmas.List.Elements.{All-cons, All-head, All-nil, All-tail, All-weaker}
use Rattle.std.proofs.lemmas.List.Kept.{AllPairs-cons}
use Rattle.entry_list.specs.Order.{path_cmp}
use Rattle.entry_list.specs.Record.{Record}
use Rattle.entry_list.proofs.Orders.{paths_total, same_path}
use Rattle.entry_edit.specs.Changes.{applied_one}
use Rattle.entry_edit.specs.declared.change.Change.{Change}
use Rattle.ext_small.specs.ResolveUndo.{PathStages}
use Rattle.index_edit.specs.Recorded.{no_sides, recorded, with_side}
use Rattle.index_edit.specs.Rising.{ArePathsRising}
use Rattle.index_edit.specs.Undone.{all_recorded, lost, undone}
use Rattle.index_edit.proofs.Recordings.{alone, at, before, behind}

-- the order of a path relative to one at which a side is recorded
pub data Stands (r : Record) (p : PathStages) : Type 0 where
  below : path_cmp p.name r.path ≡ Less → Stands r p
  there : p.name ≡ r.path → Stands r p
  above : path_cmp r.path p.name ≡ Less → is_lt (path_cmp p.name r.path) ≡ false → p.name ≢ r.path → Stands r p

pub stands : (r : Record) (p : PathStages) → Stands r p
stands r p = by (path_cmp p.name r.path) refl
  where
    by : (o : Ordering) → path_cmp p.name r.path ≡ o → Stands r p
    by Less e = below e
    by Equal e = there ((same_path p.name r.path).0 e)
    by Greater e = above (paths_total.antisymm r.path p.name ∙ ap ordering_reverse e) (ap is_lt e)
        (λ s. let f = (same_path p.name r.path).1 s in cc)

-- what holds of each name, and of the new one, holds of each afterwards
names_stay : (Q : List ℕ → Type 0) (r : Record) (ps : List PathStages) → Q r.path → All (λ p. Q p.name) ps
    → All (λ p. Q p.name) (recorded r ps)
names_stay Q r [] q h = subst (All (λ p. Q p.name)) (sym (alone r))
    (All-cons (λ p. Q p.name) (with_side r (no_sides r.path)) [] q (All-nil (λ p. Q p.name)))
names_stay Q r (p ∷ ps) q h = by (stands r p) (names_stay Q r ps q (All-tail P p ps h))
  where
    P : PathStages → Type 0
    P x = Q x.name

    by : Stands r p → All P (recorded r ps) → All P (recorded r (p ∷ ps))
    by (below e) rest = subst (All P) (sym (behind r p ps (ap is_lt e))) (All-cons P p (recorded r ps) (All-head P p ps h) rest)
    by (there e) rest = subst (All P) (sym (at r p ps e))
        (All-cons P (with_side r p) ps (All-head P p ps h) (All-tail P p ps h))
    by (above e l n) rest = subst (All P) (sym (before r p ps l n))
        (All-cons P (with_side r (no_sides r.path)) (p ∷ ps) q h)

abbrev pub Before : PathStages → PathStages → Type 0
Before p q = path_cmp p.name q.name ≡ Less

pub head_rises : (p : PathStages) (ps : List PathStages) → ArePathsRising (p ∷ ps) → All (Before p) ps
head_rises p ps h k d within = h 0 (suc k) d (omega arith) (omega arith)

tail_rises : (p : PathStages) (ps : List PathStages) → ArePathsRising (p ∷ ps) → ArePathsRising ps
tail_rises p ps h i j d lt within = h (suc i) (suc j) d (omega arith) (omega arith)

recorded_rises : (r : Record) (ps : List PathStages) → ArePathsRising ps → ArePathsRising (recorded r ps)
recorded_rises r [] h = subst ArePathsRising (sym (alone r)) (λ i j d lt within. absurd (omega arith))
recorded_rises r (p ∷ ps) h = by (stands r p) (recorded_rises r ps (tail_rises p ps h))
  where
    by : Stands r p → ArePathsRising (recorded r ps) → ArePathsRising (recorded r (p ∷ ps))
    by (below e) rest = subst ArePathsRising (sym (behind r p ps (ap is_lt e)))
        (AllPairs-cons Before p (recorded r ps) (names_stay (λ n. path_cmp p.name n ≡ Less) r ps e (head_rises p ps h)) rest)
    by (there e) rest = subst ArePathsRising (sym (at r p ps e))
        (AllPairs-cons Before (with_side r p) ps (head_rises p ps h) (tail_rises p ps h))
    by (above e l n) rest =
        let new = with_side r (no_sides r.path) in
        subst ArePathsRising (sym (before r p ps l n)) (AllPairs-cons Before new (p ∷ ps)
        (All-cons (Before new) p ps e (All-weaker (Before p) (Before new)
        (λ q b. paths_total.trans r.path p.name q.name e b) ps (head_rises p ps h))) h)

abbrev pub Rises : Option (List PathStages) → Type 0
Rises undo = IfSome undo ArePathsRising

pub all_recorded_rises : (rs : List Record) (undo : Option (List PathStages)) → Rises undo → Rises (all_recorded rs undo)
unfolding all_recorded
all_recorded_rises [] undo h = h
all_recorded_rises (r ∷ rs) None h =
    all_recorded_rises rs _ (recorded_rises r [] (λ i j d lt within. absurd (omega arith)))
all_recorded_rises (r ∷ rs) (Some ps) h = all_recorded_rises rs _ (recorded_rises r ps h)

pub undone_rises : (cs : List Change) (rs : List Record) (undo : Option (List PathStages)) → Rises undo
    → Rises (undone cs rs undo)
unfolding undone
undone_rises [] rs undo h = h
undone_rises (c ∷ cs) rs undo h = undone_rises cs (applied_one c rs) _ (all_recorded_rises (lost c rs) undo h)
