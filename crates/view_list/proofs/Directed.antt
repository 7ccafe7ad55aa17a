-- The lines of a directory, and of those in it.
use Rattle.std.proofs.Common.{◌≡◌, ◌==◌, false, ℕ, ◌+◌, ◌<◌, ◌≤◌, List, [], ◌∷◌, ◌++◌, length, map, take, drop, get_or}
use Rattle.std.proofs.Common.{Result, Ok, Err, refl, sym, ap, subst, ◌∙◌, append_assoc, take-append-drop}
use Rattle.std.proofs.Math.Dec.{eqb-suc-zero}
use Rattle.std.proofs.Math.Seq.{take-append_seam}
use Rattle.std.specs.List.{flat_map}
use Rattle.std.specs.IoError.{error_kind}
use Rattle.std.specs.declared.io.Error.{Error}
use Rattle.std.specs.declared.io.ErrorKind.TheVariants.{OutOfMemory}
use Rattle.std.proofs.lemmas.Grind.{flat_map-append}
use Rattle.std.proofs.lemmas.List.{flat_map_more, take_all, take_more}
use Rattle.std.proofs.lemmas.List.Concat.{flat_map-cons}
use Rattle.index_parts.specs.declared.hash.io.Out.{Ghosts}
use Rattle.ext_tree.specs.Tree.{Node, node_of, node_step, nodes_from}
use Rattle.ext_tree.specs.declared.Tree.{Tree}
use Rattle.ext_tree.specs.declared.Tree.TheFolds.{fold_out-Tree}
use Rattle.ext_tree.specs.declared.Tree.TheViews.{out-Tree}
use Rattle.base_text.proofs.Blocks.{blocks_broken, blocks_then, more_waits, no_memory, none_out}
use Rattle.base_text.specs.Blocks.{PutsBlocks}
use Rattle.base_text.specs.declared.lines.Lines.{Lines}
use Rattle.view_list.specs.Directories.{all_subtree_lines, directory_line, name_prefix, subtree_lines, tree_line}

all_listed : (style : Lines) (front : List ℕ) (ts : List Tree)
    → all_subtree_lines style front (nodes_from (map node_of ts))
    ≡ flat_map (λ t. subtree_lines style front (node_of t)) ts
all_listed style front [] = refl
all_listed style front (t ∷ ts) =
    ap (λ (l : List ℕ). subtree_lines style front (node_of t) ++ l) (all_listed style front ts)
    ∙ sym (flat_map-cons (λ (u : Tree). subtree_lines style front (node_of u)) t ts)

-- a directory's own line, and those below it
pub lines_out : (style : Lines) (front : List ℕ) (t : Tree) → subtree_lines style front (node_of t)
    ≡ directory_line style (front ++ (out-Tree t).name.items) (out-Tree t).id (out-Tree t).num_entries
    ++ flat_map (λ u. subtree_lines style (name_prefix (front ++ (out-Tree t).name.items)) (node_of u))
    (out-Tree t).children.items
lines_out style front t =
    let o = out-Tree t in
    let path = front ++ o.name.items in
    ap (subtree_lines style front) (fold_out-Tree Node node_step t)
    ∙ ap (λ (l : List ℕ). directory_line style path o.id o.num_entries ++ l)
    (all_listed style (name_prefix path) o.children.items)

-- the same by what the code has: the directory's path, the front of the names in it, and those
pub lines_at : (style : Lines) (t : Tree) (front path within : List ℕ) (ts : List Tree)
    → path ≡ front ++ (out-Tree t).name.items → within ≡ name_prefix path → ts ≡ (out-Tree t).children.items
    → directory_line style path (out-Tree t).id (out-Tree t).num_entries
    ++ flat_map (λ u. subtree_lines style within (node_of u)) ts ≡ subtree_lines style front (node_of t)
lines_at style t front path within ts a b c =
    let o = out-Tree t in
    let lines : List ℕ → List ℕ → List Tree → List ℕ =
    λ p f us. directory_line style p o.id o.num_entries ++ flat_map (λ u. subtree_lines style f (node_of u)) us in
    ap (λ (f : List ℕ). lines path f ts) b ∙ ap (λ (us : List Tree). lines path (name_prefix path) us) c
    ∙ ap (λ (p : List ℕ). lines p (name_prefix p) o.children.items) a ∙ sym (lines_out style front t)

-- the lines of directories after lines that were collected
pub lines_behind : (style : Lines) (t : Tree) (old front path within : List ℕ) (ts : List Tree)
    → path ≡ front ++ (out-Tree t).name.items → within ≡ name_prefix path → ts ≡ (out-Tree t).children.items
    → (old ++ tree_line style path t) ++ flat_map (λ u. subtree_lines style within (node_of u)) ts
    ≡ old ++ subtree_lines style front (node_of t)
lines_behind style t old front path within ts a b c =
    append_assoc old (tree_line style path t) (flat_map (λ u. subtree_lines style within (node_of u)) ts)
    ∙ ap (λ (l : List ℕ). old ++ l) (lines_at style t front path within ts a b c)

-- a directory's own line waits, and then a block of what waits goes out
pub own_line : {S : Type 0} {w : Ghosts S} {a : S} (old line : List ℕ) {all : List ℕ} → all ≡ old ++ line
    → PutsBlocks {T = Unit {0}} w a a (Ok tt) all (old ++ line)
own_line old line e = more_waits line (none_out refl) e

-- there is no memory for a line
pub no_own_line : {S T : Type 0} {w : Ghosts S} {a : S} (r : Result T Error) {e : Error} (old text : List ℕ)
    {later : List ℕ} → r ≡ Err e → error_kind e ≡ OutOfMemory → PutsBlocks w a a r later (old ++ text)
no_own_line r old text is kind = no_memory r text is kind (none_out {waiting = old} refl) refl

-- ---- directories one after another

module _ (style : Lines) (base front : List ℕ) (ts : List Tree) where
  -- the lines of one directory more
  pub children_more : {S T U : Type 0} {w : Ghosts S} {a b c : S} {x : U} (r : Result T Error) (inner : List ℕ) (i : ℕ)
      (t : Tree) {mid new : List ℕ} → i < length ts → t ≡ get_or ts i t → inner ≡ front
      → PutsBlocks w a b (Ok x) mid (base ++ flat_map (λ t. subtree_lines style front (node_of t)) (take i ts))
      → PutsBlocks w b c r new (mid ++ subtree_lines style inner (node_of t))
      → PutsBlocks w a c r new (base ++ flat_map (λ t. subtree_lines style front (node_of t)) (take (i + 1) ts))
  children_more {w = w} {a = a} {b = b} {c = c} r inner i t {mid = mid} {new = new} lt is same before then =
      let f : Tree → List ℕ = λ t. subtree_lines style front (node_of t) in
      let own : PutsBlocks w b c r new (mid ++ f t) =
      subst (λ (l : List ℕ). PutsBlocks w b c r new (mid ++ subtree_lines style l (node_of t))) same then in
      let here : PutsBlocks w b c r new (mid ++ f (get_or ts i t)) =
      subst (λ (u : Tree). PutsBlocks w b c r new (mid ++ f u)) is own in
      subst (λ (l : List ℕ). PutsBlocks w a c r new l)
      (append_assoc base (flat_map f (take i ts)) (f (get_or ts i t)) ∙ ap (λ (l : List ℕ). base ++ l)
      (flat_map_more f [] (take i ts) (get_or ts i t) ∙ ap (flat_map f) (sym (take_more ts i t lt))))
      (blocks_then r (f (get_or ts i t)) before here)

  -- which broke off
  pub children_broken : {S T U V : Type 0} {w : Ghosts S} {a b c : S} {x : U} (r : Result T Error) {e : Error}
      (inner : List ℕ) (i : ℕ) (t : Tree) {mid new later : List ℕ} → r ≡ Err e → i < length ts → t ≡ get_or ts i t
      → inner ≡ front
      → PutsBlocks w a b (Ok x) mid (base ++ flat_map (λ t. subtree_lines style front (node_of t)) (take i ts))
      → PutsBlocks {T = V} w b c (Err e) new (mid ++ subtree_lines style inner (node_of t))
      → PutsBlocks w a c r later (base ++ flat_map (λ t. subtree_lines style front (node_of t)) ts)
  children_broken r {e = e} inner i t is lt here same before then =
      let f : Tree → List ℕ = λ t. subtree_lines style front (node_of t) in
      blocks_broken r (flat_map f (drop (i + 1) ts)) is (children_more (Err e) inner i t lt here same before then)
      (append_assoc base (flat_map f (take (i + 1) ts)) (flat_map f (drop (i + 1) ts))
      ∙ ap (λ (l : List ℕ). base ++ l) (sym (flat_map-append f (take (i + 1) ts) (drop (i + 1) ts))
      ∙ ap (flat_map f) (take-append-drop (i + 1) ts)))

  -- all of them
  pub children_all : {S U : Type 0} {w : Ghosts S} {a b : S} {x : U} (i : ℕ) {new : List ℕ} → length ts ≤ i
      → PutsBlocks w a b (Ok x) new (base ++ flat_map (λ t. subtree_lines style front (node_of t)) (take i ts))
      → PutsBlocks w a b (Ok x) new (base ++ flat_map (λ t. subtree_lines style front (node_of t)) ts)
  children_all {w = w} {a = a} {b = b} {x = x} i {new = new} le before =
      subst (λ (us : List Tree). PutsBlocks w a b (Ok x) new
      (base ++ flat_map (λ t. subtree_lines style front (node_of t)) us)) (take_all i ts le) before

-- the lines of a complete tree, after nothing
pub whole_tree : (style : Lines) (lines front : List ℕ) (n : Node) → lines ≡ [] → front ≡ []
    → lines ++ subtree_lines style front n ≡ subtree_lines style [] n
whole_tree style lines front n none root =
    ap (λ (l : List ℕ). l ++ subtree_lines style front n) none ∙ ap (λ (f : List ℕ). subtree_lines style f n) root

back : (front name more : List ℕ) → take (length front) ((front ++ name) ++ more) ≡ front
back front name more = ap (take (length front)) (append_assoc front name more) ∙ take-append_seam front (name ++ more)

front_some : (b : ℕ) (l : List ℕ) → name_prefix (b ∷ l) ≡ (b ∷ l) ++ 47 ∷ []
front_some b l =
    let some : (length (b ∷ l) == 0) ≡ false = eqb-suc-zero (length l) in
    rw some refl

-- the front is as it was
pub front_back : (front name path : List ℕ) (len : ℕ) → len ≡ length front → path ≡ front ++ name
    → take len (name_prefix path) ≡ front
front_back front name path len e is =
    ap (λ (n : ℕ). take n (name_prefix path)) e ∙ ap (λ (p : List ℕ). take (length front) (name_prefix p)) is ∙ by front
  where
    by : (f : List ℕ) → take (length f) (name_prefix (f ++ name)) ≡ f
    by [] = refl
    by (b ∷ f) = ap (take (length (b ∷ f))) (front_some b (f ++ name)) ∙ back (b ∷ f) name (47 ∷ [])
