-- A walk from one tree that is read to the next, over plain values.
use Rattle.std.proofs.Common.{◌≡◌, ℕ, suc, List, [], ◌∷◌, ◌++◌, length, Bool, Option, Ok, Err, take, sym, ap, subst}
use Rattle.std.proofs.Common.{◌∙◌, arith}
use Rattle.std.proofs.lemmas.List.{take_all}
use Rattle.index_parts.specs.Id.{id_kind}
use Rattle.index_parts.specs.Object.{Found, object}
use Rattle.index_parts.specs.declared.hash.Kind.{Kind}
use Rattle.index_parts.specs.declared.hash.ObjectId.{ObjectId}
use Rattle.index_parts.specs.declared.object.Kind.TheVariants.{Tree}
use Rattle.entry_list.specs.Record.{Record}
use Rattle.tree_decode.specs.Leaves.{AreLeaves, IsUnreadTree, LeavesAnswer, LeavesFault, TooManyObjects, Yields}
use Rattle.tree_decode.specs.Leaves.{with_leaves, limit, unread, whole_tree}
use Rattle.tree_decode.specs.LeafSteps.{BeginsTree, Ends, WalkHasFault, LevelsComeTo, IsPacked, IsSoundWalk, IsSomeTree}
use Rattle.tree_decode.specs.LeafSteps.{Reaches, Rise, WalkComesTo, listed_records}
use Rattle.tree_decode.proofs.WalkLoops.{IsUnderWay}
use Rattle.tree_decode.specs.declared.walk.Level.{Level}
use Rattle.tree_decode.specs.declared.walk.Listed.{Listed}
use Rattle.tree_decode.specs.declared.walk.Walk.{Walk}
use Rattle.tree_decode.proofs.Levels.{levels_fault, levels_opened, rise_push}
use Rattle.tree_decode.proofs.Listings.{behind_none}

module _ (find : ObjectId → Found) (check : List ℕ → Bool → Option ℕ) (kind : Kind) (root : ObjectId) (most : ℕ)
    (of_root : kind ≡ id_kind root) where
  listing : (r : LeavesAnswer) → Yields find check kind most (whole_tree [] root) r
      → Yields find check (id_kind root) most (whole_tree [] root) r
  listing r y = subst (λ (k : Kind). Yields find check k most (whole_tree [] root) r) of_root y

  pub way_begins : (n : ℕ) → n ≡ most → (w : Walk) → w.levels.items ≡ [] → w.listed.path.items ≡ []
      → listed_records w.listed ≡ [] → IsPacked w.listed → IsUnderWay find check kind root most n w root
  way_begins n all w levels path none packed = record {
    sound = record {
      packed = packed;
      rise = subst (λ (ls : List Level). Rise kind 0 ls (length w.listed.path.items)) (sym levels) (omega arith);
    };
    leads = λ x r y g.
        let same : r ≡ x = subst (λ (ls : List Level). LevelsComeTo find check kind w.listed.path.items
        (with_leaves (listed_records w.listed) x) ls r) levels g ∙ ap (λ (rs : List Record). with_leaves rs x) none
        ∙ behind_none x in
        subst (λ (p : List ℕ). Yields find check kind most (whole_tree p root) r) path
        (subst (λ (i : ℕ). Yields find check kind i (whole_tree w.listed.path.items root) r) all
        (subst (Yields find check kind n (whole_tree w.listed.path.items root)) (sym same) y));
  }

  module _ (n : ℕ) (w : Walk) (next : ObjectId) (h : IsUnderWay find check kind root most n w next) where
    pub way_limit : n ≡ 0 → AreLeaves find check root most (Err TooManyObjects)
    way_limit none =
        listing (Err TooManyObjects) (h.leads (Err TooManyObjects) (Err TooManyObjects)
        (subst (λ (i : ℕ). Yields find check kind i (whole_tree w.listed.path.items next) (Err TooManyObjects))
        (sym none) (limit w.listed.path.items next))
        (levels_fault find check kind w.listed.path.items TooManyObjects w.levels.items))

    module _ (k : ℕ) (some : n ≡ suc k) where
      pub way_unread : (f : LeavesFault) → IsUnreadTree find kind next f → AreLeaves find check root most (Err f)
      way_unread f u =
          listing (Err f) (h.leads (Err f) (Err f) (subst (λ (i : ℕ). Yields find check kind i
          (whole_tree w.listed.path.items next) (Err f)) (sym some) (unread k w.listed.path.items next f u))
          (levels_fault find check kind w.listed.path.items f w.levels.items))

      module _ (new : Walk) (bytes : List ℕ) (found : find next ≡ object Tree bytes) (whole : IsSomeTree kind bytes)
          (b : BeginsTree w new bytes) where
        pub way_sound : IsSoundWalk kind new
        way_sound = record {
          packed = rw b.listed h.sound.packed;
          rise = subst (λ (ls : List Level). Rise kind 0 ls (length new.listed.path.items)) (sym b.levels)
              (rise_push kind 0 w.levels.items b.level (length new.listed.path.items) (rw b.prefix_len h.sound.rise)
              (record { inside = b.inside; whole = (whole.0, rw b.bytes whole.1) })
              (rw (b.prefix_len, b.listed) (omega arith)));
        }

        -- what the walk comes to then
        leads : (r : LeavesAnswer) → WalkComesTo find check kind new (Ok (listed_records new.listed, k)) r
            → Yields find check kind most (whole_tree [] root) r
        leads r g =
            let path : take b.level.prefix_len w.listed.path.items ≡ w.listed.path.items =
            take_all b.level.prefix_len w.listed.path.items (omega (arith, b.prefix_len)) in
            let o = levels_opened find check kind k w.listed.path.items bytes
            (listed_records w.listed) w.levels.items b.level next r found path b.bytes
            (subst (λ (l : Listed). LevelsComeTo find check kind l.path.items (Ok (listed_records l, k))
            (w.levels.items ++ b.level ∷ []) r) b.listed
            (subst (λ (ls : List Level). LevelsComeTo find check kind new.listed.path.items
            (Ok (listed_records new.listed, k)) ls r) b.levels g)) in
            h.leads o.0 r (subst (λ (i : ℕ). Yields find check kind i (whole_tree w.listed.path.items next) o.0)
            (sym some) o.1) o.2

        pub way_ends : (last : Walk) → Ends check kind new last
            → AreLeaves find check root most (Ok (listed_records last.listed))
        way_ends last e =
            (k, listing (Ok (listed_records last.listed, k)) (leads (Ok (listed_records last.listed, k)) (e find k)))

        pub way_fails : (f : LeavesFault) → WalkHasFault check kind new f → AreLeaves find check root most (Err f)
        way_fails f e = listing (Err f) (leads (Err f) (e find k))

        pub way_reaches : (then : Walk) (id : ObjectId) → Reaches check kind new then id
            → IsUnderWay find check kind root most k then id
        way_reaches then id r = record { sound = r.sound; leads = λ x y z g. leads y (r.leads find k x y z g) }
