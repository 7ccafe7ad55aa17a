-- Steps of writing a directory.
use Rattle.std.proofs.Common.{◌≡◌, ◌⊎◌, inl, inr, ℕ, ◌+◌, ◌-◌, ◌<◌, ◌≤◌, ◌^◌, ◌==◌, ◌||◌, List, [], ◌∷◌}
use Rattle.std.proofs.Common.{◌++◌, All, Bool, false, Option, Some, None, length, map, drop, refl, sym, ap}
use Rattle.std.proofs.Common.{append_assoc, subst, ◌∙◌, arith}
use Rattle.std.specs.Prelude.{◌≢◌}
use Rattle.std.specs.List.{HoldsAt, slice_range}
use Rattle.std.specs.Option.{option_map, option_to_list}
use Rattle.std.specs.declared.cmp.Ordering.TheVariants.{Less}
use Rattle.std.proofs.lemmas.List.{append-nil, length-drop}
use Rattle.std.proofs.lemmas.List.Elements.{All-head}
use Rattle.index_parts.specs.declared.hash.Kind.{Kind}
use Rattle.index_parts.specs.declared.hash.ObjectId.{ObjectId}
use Rattle.ext_tree.specs.Tree.{Node, node_of}
use Rattle.entry_list.specs.Order.{path_cmp}
use Rattle.entry_list.specs.Record.{Record}
use Rattle.tree_encode.specs.Cached.{IsNodeWhere, leaf_nodes}
use Rattle.tree_encode.specs.Directory.{HoldsFirst, IsPathComponent, IsTreeOf, DirectoryItems, directory}
use Rattle.tree_encode.specs.Directory.{directory_bytes}
use Rattle.tree_encode.specs.Directory.{content, directory_object, item_objects, key, leaf_bytes, objects_below}
use Rattle.tree_encode.specs.Refusals.{HasPathPrefix}
use Rattle.tree_encode.specs.Staged.{Staged, without_prefix, staged_entry, staged_in, staged_of}
use Rattle.tree_encode.specs.Objects.{Taken, with_objects}
use Rattle.tree_encode.specs.WritingSteps.{Ahead, Goes, IsBegunDirectory, IsComponent, IsLeaf, IsMadeNode}
use Rattle.tree_encode.specs.WritingSteps.{IsReady, staged_below}
use Rattle.tree_encode.specs.declared.leaf.Leaf.{Leaf}
use Rattle.tree_encode.specs.declared.write.Made.{Made}
use Rattle.tree_encode.proofs.Begun.{begun_directory, begun_leaf, begun_same, items_begun, items_directory}
use Rattle.tree_encode.proofs.Begun.{with_both}
use Rattle.tree_encode.proofs.Complete.{holds_first, leaf_ahead}
use Rattle.tree_encode.proofs.PathNames.{leaf_name, some_from}
use Rattle.tree_encode.proofs.PathNames.{slash_behind, whole_component}
use Rattle.tree_encode.proofs.Ranges.{below_few, below_parts, cut_under_all}
use Rattle.tree_encode.proofs.Ranges.{staged_at}
use Rattle.tree_encode.proofs.Ready.{ahead_directory, all_back, named_behind, pairs_head, ready_back}
use Rattle.tree_encode.proofs.Ready.{ready_behind, ready_front}
use Rattle.tree_encode.proofs.Pushes.{objects_push, push, under}

pub node_some : (bytes : List ℕ) (r : Bool) → r ≡ (length bytes == 0) → r ≡ false → (P : Node → Type 0) (t : Node) → P t
    → IsNodeWhere bytes P (t ∷ [])
node_some [] r e z P t h = absurd (some_from {X = ℕ} [] r e z (refl))
node_some (b ∷ bytes) r e z P t h = (t, refl, h)

-- ---- the record at a place

module _ (rs : List Record) (front a : ℕ) (o : Option Leaf) (lt : a < length rs)
    (h : HoldsAt (λ r. option_map staged_of o ≡ staged_entry r) rs a) where
  one_below : staged_below front (slice_range rs a (a + 1)) ≡ map (without_prefix front) (option_to_list (option_map
      staged_of o))
  one_below = ap (map (without_prefix front)) (staged_at rs a (option_map staged_of o) lt h)

  pub none_below : o ≡ None → staged_below front (slice_range rs a (a + 1)) ≡ []
  none_below z = one_below ∙ ap (λ (p : Option Leaf). map (without_prefix front) (option_to_list (option_map staged_of
      p))) z

  pub some_below : (leaf : Leaf) → o ≡ Some leaf
      → staged_below front (slice_range rs a (a + 1)) ≡ without_prefix front (staged_of leaf) ∷ []
  some_below leaf z = one_below ∙ ap (λ (p : Option Leaf). map (without_prefix front) (option_to_list (option_map
      staged_of p))) z

-- ---- one step

module _ (rs : List Record) (kind : Kind) (front start at end levels : ℕ) (old new : Taken) (m : Made)
    (low : start ≤ at) (lt : at < end) (within : end ≤ length rs)
    (ready : IsReady kind levels (staged_below front (slice_range rs start end)))
    (begun : IsBegunDirectory kind (staged_below front (slice_range rs start at))
    (staged_below front (slice_range rs at end)) m old new)
    (o : Option Leaf) (h : HoldsAt (λ r. option_map staged_of o ≡ staged_entry r) rs at) where
  inside : at < length rs
  inside = omega arith

  ready_at : IsReady kind levels (staged_below front (slice_range rs at end))
  ready_at = ready_back kind levels (staged_below front (slice_range rs start at))
      (staged_below front (slice_range rs at end))
      (subst (IsReady kind levels) (below_parts front rs start at end low (omega arith)) ready)

  -- What a sink has if no more is put into it.
  pub ended_here : HoldsFirst kind (staged_below front (slice_range rs start end)) old new
  ended_here = subst (λ (l : List Staged). HoldsFirst kind l old new)
      (sym (below_parts front rs start at end low (omega arith)))
      (holds_first kind levels (staged_below front (slice_range rs start at))
      (staged_below front (slice_range rs at end)) begun.items ready_at
      (items_begun kind (staged_below front (slice_range rs start at)) (staged_below front (slice_range rs at end)) m
      old new begun) old new (objects_below kind begun.items) [] (sym (append-nil (objects_below kind begun.items)))
      begun.stored)

  -- what is left of a record that stages nothing
  pub begun_skip : o ≡ None → IsBegunDirectory kind (staged_below front (slice_range rs start (at + 1)))
      (staged_below front (slice_range rs (at + 1) end)) m old new
  begun_skip z =
      let nothing = none_below rs front at o inside h z in
      let done : staged_below front (slice_range rs start (at + 1)) ≡ staged_below front (slice_range rs start at) =
      below_parts front rs start at (at + 1) low (omega arith)
      ∙ ap (λ (l : List Staged). staged_below front (slice_range rs start at) ++ l) nothing
      ∙ append-nil (staged_below front (slice_range rs start at)) in
      let left : staged_below front (slice_range rs (at + 1) end) ≡ staged_below front (slice_range rs at end) =
      sym (below_parts front rs at (at + 1) end (omega arith) (omega arith)
      ∙ ap (λ (l : List Staged). l ++ staged_below front (slice_range rs (at + 1) end)) nothing) in
      begun_same kind old new m (staged_below front (slice_range rs start at))
      (staged_below front (slice_range rs start (at + 1))) (staged_below front (slice_range rs at end))
      (staged_below front (slice_range rs (at + 1) end)) done left begun

  module _ (leaf : Leaf) (is : o ≡ Some leaf) (tail name shown : List ℕ) (tailed : tail ≡ drop front leaf.path.now)
      (comp : IsComponent tail name shown) where
    abbrev s : Staged
    s = without_prefix front (staged_of leaf)

    abbrev behind : List Staged
    behind = staged_below front (slice_range rs (at + 1) end)

    left : staged_below front (slice_range rs at end) ≡ s ∷ behind
    left = below_parts front rs at (at + 1) end (omega arith) (omega arith)
        ∙ ap (λ (l : List Staged). l ++ behind) (some_below rs front at o inside h leaf is)

    ready_left : IsReady kind levels (s ∷ behind)
    ready_left = subst (IsReady kind levels) left ready_at

    at_leaf : IsLeaf kind levels s
    at_leaf = All-head (IsLeaf kind levels) s behind ready_left.each

    comp_s : IsComponent s.path name shown
    comp_s = subst (λ (t : List ℕ). IsComponent t name shown) tailed comp

    follows : path_cmp begun.last shown ≡ Less
    follows = All-head (Ahead begun.last) s behind (subst (All (Ahead begun.last)) left begun.ahead) name shown comp_s

    above : All (λ t. path_cmp s.path t.path ≡ Less) behind
    above = pairs_head (λ s t. path_cmp s.path t.path ≡ Less) s behind ready_left.rise

    -- ---- a leaf
    module _ (short : length tail ≤ length shown) where
      whole : s.path ≡ shown
      whole = whole_component s.path name shown comp_s (subst (λ (t : List ℕ). length t ≤ length shown) tailed short)

      named : IsPathComponent name × (s.path ≡ key name s.kind)
      named = leaf_name at_leaf.check levels s.kind s.path name at_leaf.path
          (subst (IsComponent s.path name) (sym whole) comp_s)

      ahead : All (Ahead s.path) behind
      ahead = leaf_ahead kind levels s behind name ready_left named.0.component named.1

      done : staged_below front (slice_range rs start (at + 1)) ≡ staged_below front (slice_range rs start at) ++ s ∷ []
      done = below_parts front rs start at (at + 1) low (omega arith)
          ∙ ap (λ (l : List Staged). staged_below front (slice_range rs start at) ++ l)
          (some_below rs front at o inside h leaf is)

      pub begun_more : (n : Made) → n.bytes.items ≡ m.bytes.items ++ leaf_bytes name leaf.kind leaf.id leaf.later
          → map node_of n.children.items ≡ map node_of m.children.items ++ leaf_nodes name leaf.kind leaf.id leaf.later
          → n.count ≡ m.count + 1 → n.later ≡ m.later || leaf.later
          → IsBegunDirectory kind (staged_below front (slice_range rs start (at + 1))) behind n old new
      begun_more n bytes children count later =
          subst (λ (l : List Staged). IsBegunDirectory kind l behind n old new) (sym done)
          (begun_leaf kind (staged_below front (slice_range rs start at)) (staged_below front (slice_range rs at end)) m
          old new begun name s behind n (named.0, at_leaf.of_kind, at_leaf.len) named.1
          (subst (λ (l : List ℕ). path_cmp begun.last l ≡ Less) (sym whole) follows) ahead bytes children count later)

    -- ---- a directory
    module _ (long : length shown < length tail) (stop : ℕ) (more : at < stop) (high : stop ≤ end)
        (run : All (Goes front shown) (staged_in (slice_range rs at stop))) where
      slashed : shown ≡ name ++ 47 ∷ []
      slashed = slash_behind tail name shown comp long

      abbrev others : List Staged
      others = map (without_prefix (front + length shown)) (staged_in (slice_range rs (at + 1) stop))

      abbrev first : Staged
      first = without_prefix (front + length shown) (staged_of leaf)

      pub inner_is : staged_below (front + length shown) (slice_range rs at stop) ≡ first ∷ others
      inner_is = below_parts (front + length shown) rs at (at + 1) stop (omega arith) (omega arith)
          ∙ ap (λ (l : List Staged). l ++ others) (some_below rs (front + length shown) at o inside h leaf is)

      pub listed : map (under shown) (staged_below (front + length shown) (slice_range rs at stop))
          ≡ staged_below front (slice_range rs at stop)
      listed = cut_under_all front shown (staged_in (slice_range rs at stop)) run

      first_some : first.path ≢ []
      first_some e = omega (
        arith,
        long,
        ap length tailed,
        ap length e,
        length-drop front leaf.path.now,
        length-drop (front + length shown) leaf.path.now,
      )

      ready_run : IsReady kind levels (map (under shown) (first ∷ others))
      ready_run = subst (IsReady kind levels) (sym listed ∙ ap (map (under shown)) inner_is)
          (ready_front kind levels (staged_below front (slice_range rs at stop))
          (staged_below front (slice_range rs stop end))
          (subst (IsReady kind levels) (below_parts front rs at stop end (omega arith) high)
          ready_at))

      pub ready_inner : IsReady kind (levels - 1) (staged_below (front + length shown) (slice_range rs at stop))
      ready_inner = subst (IsReady kind (levels - 1)) (sym inner_is)
          (ready_behind kind levels name shown slashed comp.component first others first_some ready_run)

      pub a_level : IsPathComponent name × (0 < levels)
      a_level = named_behind kind levels name shown slashed comp.component first first_some
          (All-head (IsLeaf kind levels) (under shown first) (map (under shown) others) ready_run.each)

      pub front_fits : front + length shown ≤ length leaf.path.now
      front_fits = omega (arith, long, ap length tailed, length-drop front leaf.path.now)

      ahead_stop : (ss : List Staged) → All (λ s. Goes front shown s → ⊥) ss → (head : Staged) (more : List Staged)
          → map (without_prefix front) ss ≡ head ∷ more → HasPathPrefix head.path shown → ⊥
      ahead_stop [] f head rest e b = absurd cc
      ahead_stop (s ∷ ss) f head rest e b =
          let same : without_prefix front s ≡ head = cc in
          All-head (λ s. Goes front shown s → ⊥) s ss f
          (subst (λ (t : Staged). HasPathPrefix t.path shown) (sym same) b)

      behind_stop : behind
          ≡ staged_below front (slice_range rs (at + 1) stop) ++ staged_below front (slice_range rs stop end)
      behind_stop = below_parts front rs (at + 1) stop end (omega arith) high

      ready_stop : IsReady kind levels (staged_below front (slice_range rs stop end))
      ready_stop = ready_back kind levels (staged_below front (slice_range rs (at + 1) stop))
          (staged_below front (slice_range rs stop end))
          (subst (IsReady kind levels) behind_stop (ready_back kind levels (s ∷ []) behind ready_left))

      above_stop : All (λ t. path_cmp s.path t.path ≡ Less) (staged_below front (slice_range rs stop end))
      above_stop = all_back (λ t. path_cmp s.path t.path ≡ Less) (staged_below front (slice_range rs (at + 1) stop))
          (staged_below front (slice_range rs stop end))
          (subst (All (λ t. path_cmp s.path t.path ≡ Less)) behind_stop above)

      ahead_dir : All (λ s. Goes front shown s → ⊥) (staged_in (slice_range rs stop end))
          → All (Ahead shown) (staged_below front (slice_range rs stop end))
      ahead_dir f =
          ahead_directory name shown comp_s.rest (staged_below front (slice_range rs stop end)) slashed comp.component
          (subst (λ (p : List ℕ). All (λ t. path_cmp p t.path ≡ Less) (staged_below front (slice_range rs stop end)))
          comp_s.parts above_stop) ready_stop.rise (ahead_stop (staged_in (slice_range rs stop end)) f)

      pub begun_over : All (λ s. Goes front shown s → ⊥) (staged_in (slice_range rs stop end))
          → (i n : Made) (middle newer : Taken)
          → IsBegunDirectory kind (staged_below (front + length shown) (slice_range rs at stop)) [] i new middle
          → n.bytes.items ≡ m.bytes.items ++ directory_bytes kind name i.bytes.items → (us : List Node)
          × (map node_of n.children.items ≡ map node_of m.children.items ++ us) × IsMadeNode kind name i us
          → n.count ≡ m.count + i.count → n.later ≡ m.later || i.later
          → newer ≡ with_objects middle (directory_object kind i.bytes.items)
          → IsBegunDirectory kind (staged_below front (slice_range rs start stop))
          (staged_below front (slice_range rs stop end)) n old newer
      begun_over f i n middle newer w bytes nodes count later stored =
          subst (λ (l : List Staged). IsBegunDirectory kind l (staged_below front (slice_range rs stop end)) n old
          newer) (sym (below_parts front rs start at stop low (omega arith)))
          (begun_directory kind (staged_below front (slice_range rs start at))
          (staged_below front (slice_range rs at end)) m old new begun name shown (staged_below
          (front + length shown) (slice_range rs at stop)) (staged_below front (slice_range rs at stop))
          (staged_below front (slice_range rs stop end)) i n middle newer nodes.0 a_level.0 slashed follows
          (ahead_dir f) (λ z. absurd (cc (inner_is, z))) listed w bytes nodes.1 nodes.2 count later stored)

      -- What a sink has if no more is put into it than the first of the objects in this directory.
      pub ended_over : All (λ s. Goes front shown s → ⊥) (staged_in (slice_range rs stop end)) → (w : DirectoryItems)
          → IsTreeOf kind (staged_below (front + length shown) (slice_range rs at stop)) w
          → (first others : List (ObjectId × List ℕ)) → item_objects kind (directory name w) ≡ first ++ others
          → (newer : Taken) → newer ≡ with_objects new first
          → HoldsFirst kind (staged_below front (slice_range rs start end)) old newer
      ended_over f w t first others is newer stored =
          let done = staged_below front (slice_range rs start at) in
          let own = staged_below front (slice_range rs at stop) in
          let rest = staged_below front (slice_range rs stop end) in
          let before = objects_below kind begun.items in
          let all : staged_below front (slice_range rs start end) ≡ (done ++ own) ++ rest =
          below_parts front rs start stop end (omega (arith, more)) high
          ∙ ap (λ (l : List Staged). l ++ rest) (below_parts front rs start at stop low (omega (arith, more))) in
          subst (λ (l : List Staged). HoldsFirst kind l old newer) (sym all)
          (holds_first kind levels (done ++ own) rest (push begun.items (directory name w)) ready_stop
          (items_directory kind done (staged_below front (slice_range rs at end)) begun.items
          (items_begun kind done (staged_below front (slice_range rs at end)) m old new begun) name shown
          (staged_below (front + length shown) (slice_range rs at stop)) own rest w a_level.0 slashed follows
          (ahead_dir f) (λ z. absurd (cc (inner_is, z))) listed t) old newer (before ++ first) others
          (objects_push kind begun.items (directory name w)
          ∙ ap (λ (l : List (ObjectId × List ℕ)). before ++ l) is ∙ sym (append_assoc before first others))
          (stored ∙ ap (λ (k : Taken). with_objects k first) begun.stored ∙ with_both old before first))

      -- no more than a directory in this one has put before it ended
      pub ended_inside : All (λ s. Goes front shown s → ⊥) (staged_in (slice_range rs stop end)) → (newer : Taken)
          → HoldsFirst kind (staged_below (front + length shown) (slice_range rs at stop)) new newer
          → HoldsFirst kind (staged_below front (slice_range rs start end)) old newer
      ended_inside f newer h =
          let own = directory_object kind (content kind h.items) in
          ended_over f h.items h.is_tree h.first (h.others ++ own)
          (ap (λ (l : List (ObjectId × List ℕ)). l ++ own) h.parts ∙ append_assoc h.first h.others own) newer h.stored

      -- all that is put of a directory, with its own object or without
      pub ended_behind : All (λ s. Goes front shown s → ⊥) (staged_in (slice_range rs stop end)) → (i : Made)
          → (middle newer : Taken)
          → IsBegunDirectory kind (staged_below (front + length shown) (slice_range rs at stop)) [] i new middle
          → (newer ≡ middle) ⊎ (newer ≡ with_objects middle (directory_object kind i.bytes.items))
          → HoldsFirst kind (staged_below front (slice_range rs start end)) old newer
      ended_behind f i middle newer w (inl e) = ended_over f w.items
          (record { directory = record { made = w.made; ordered = w.ordered }; leaves = w.listed })
          (objects_below kind w.items) (directory_object kind (content kind w.items)) refl newer (e ∙ w.stored)
      ended_behind f i middle newer w (inr e) = ended_over f w.items
          (record { directory = record { made = w.made; ordered = w.ordered }; leaves = w.listed })
          (item_objects kind (directory name w.items)) [] (sym (append-nil (item_objects kind (directory name w.items))))
          newer (e ∙ ap (λ (k : Taken). with_objects k (directory_object kind i.bytes.items)) w.stored
          ∙ with_both new (objects_below kind w.items) (directory_object kind i.bytes.items)
          ∙ ap (λ (l : List ℕ). with_objects new (objects_below kind w.items ++ directory_object kind l)) w.is_content)

      pub counts_fit : length rs < 2 ^ 31 → (i : Made) (middle : Taken)
          → IsBegunDirectory kind (staged_below (front + length shown) (slice_range rs at stop)) [] i new middle
          → m.count + i.count < 2 ^ 31
      counts_fit few i middle w = omega (
        arith,
        few,
        begun.count,
        w.count,
        below_few front rs start at (omega arith),
        below_few (front + length shown) rs at stop (omega arith),
      )

  pub count_fits : length rs < 2 ^ 31 → m.count < 2 ^ 31
  count_fits few = omega (arith, few, begun.count, below_few front rs start at (omega arith))
