-- A walk whose innermost tree is listed, up to its end or to a tree below it, over plain values.
use Rattle.std.proofs.Common.{◌≡◌, ℕ, ◌-◌, ◌+◌, ◌≤◌, List, [], ◌∷◌, ◌++◌, length, Bool, Option, Ok, Err, take, drop}
use Rattle.std.proofs.Common.{sym, ap, subst, ◌∙◌, append_assoc, arith}
use Rattle.std.proofs.lemmas.List.{take-append-drop, length-append, drop_at}
use Rattle.index_parts.specs.Object.{Found}
use Rattle.index_parts.specs.declared.hash.Kind.{Kind}
use Rattle.index_parts.specs.declared.hash.ObjectId.{ObjectId}
use Rattle.tree_decode.specs.Leaves.{LeavesAnswer, LeavesFault, with_leaves}
use Rattle.tree_decode.specs.LeafSteps.{WalkComesTo, WalkHasFault, EntriesComeTo, LevelsComeTo, IsReadLevel, IsPacked}
use Rattle.tree_decode.specs.LeafSteps.{IsSoundWalk, ListsAll, ListsFault, ListsUpTo, Reaches, Rise, listed_records}
use Rattle.tree_decode.specs.LeafSteps.{unlisted}
use Rattle.tree_decode.specs.declared.walk.Level.{Level}
use Rattle.tree_decode.specs.declared.walk.Next.{Next}
use Rattle.tree_decode.specs.declared.walk.Walk.{Walk}
use Rattle.tree_decode.proofs.Levels.{levels_fault, levels_moved, levels_pop, levels_push, rise_pop, rise_push}
use Rattle.tree_decode.proofs.Levels.{rise_wider}

-- what a walk that is under way comes to is what it came to at first
abbrev pub ComesFrom : (List ℕ → Bool → Option ℕ) → Kind → Walk → Walk → Type 0
ComesFrom check kind old now =
    (find : ObjectId → Found) (n : ℕ) (r : LeavesAnswer)
    → WalkComesTo find check kind now (Ok (listed_records now.listed, n)) r
    → WalkComesTo find check kind old (Ok (listed_records old.listed, n)) r

-- the last bytes of a list, from a place on
last_of : (at left : ℕ) (l passed rest : List ℕ) → drop at l ≡ passed ++ rest → left ≡ length rest
    → drop (length l - left) l ≡ rest
last_of at left l passed rest is same =
    let prefix : List ℕ = take at l ++ passed in
    let whole : l ≡ prefix ++ rest = sym (take-append-drop at l) ∙ ap (λ (x : List ℕ). take at l ++ x) is
    ∙ sym (append_assoc (take at l) passed rest) in
    let len : length l ≡ length prefix + length rest = ap length whole ∙ length-append prefix rest in
    let n : length prefix ≡ length l - left = omega (arith, len, same) in
    ap (drop (length l - left)) whole ∙ drop_at prefix rest (length l - left) n

module _ (check : List ℕ → Bool → Option ℕ) (kind : Kind) (old now : Walk) (l : Level) (ls : List Level)
    (popped : now.levels.items ≡ ls ++ l ∷ []) (sound : IsSoundWalk kind now) where
  abbrev path : List ℕ
  path = now.listed.path.items

  parts : Rise kind 0 ls l.prefix_len × IsReadLevel kind l × (l.prefix_len ≤ length path)
  parts = rise_pop kind 0 ls l (length path) (subst (λ (x : List Level). Rise kind 0 x (length path)) popped sound.rise)

  pub begun : IsReadLevel kind l
  begun = parts.1

  pub within : l.prefix_len ≤ length now.listed.path.items
  within = parts.2

  module _ (comes : ComesFrom check kind old now) where
    -- the listing of the innermost tree, and of the others after it
    innermost : (find : ObjectId → Found) (n : ℕ) (middle r : LeavesAnswer)
        → EntriesComeTo find check kind (Ok (listed_records now.listed, n)) (take l.prefix_len path) (unlisted l) middle
        → LevelsComeTo find check kind path middle ls r
        → LevelsComeTo find check kind old.listed.path.items (Ok (listed_records old.listed, n)) old.levels.items r
    innermost find n middle r h g =
        comes find n r
        (subst (λ (x : List Level). LevelsComeTo find check kind path (Ok (listed_records now.listed, n)) x r)
        (sym popped) (levels_push find check kind path (Ok (listed_records now.listed, n)) middle ls l r h g))

    pub walk_fails : (f : LeavesFault)
        → ListsFault check kind now.listed (take l.prefix_len now.listed.path.items) (unlisted l) f
        → WalkHasFault check kind old f
    walk_fails f h = λ find n. innermost find n (Err f) (Err f) (h find n) (levels_fault find check kind path f ls)

    module _ (new : Walk) (packed : IsPacked new.listed) (same : take l.prefix_len new.listed.path.items
        ≡ take l.prefix_len now.listed.path.items) (long : l.prefix_len ≤ length new.listed.path.items) where
      pub walk_goes : new.levels.items ≡ ls
          → ListsAll check kind now.listed new.listed (take l.prefix_len now.listed.path.items) (unlisted l)
          → IsSoundWalk kind new × ComesFrom check kind old new
      walk_goes kept all = (
        record {
          packed = packed;
          rise = subst (λ (x : List Level). Rise kind 0 x (length new.listed.path.items)) (sym kept)
              (rise_wider kind 0 ls l.prefix_len (length new.listed.path.items) parts.0 long);
        },
        λ find n r g.
            innermost find n (Ok (listed_records new.listed, n)) r (all find n)
            (levels_moved find check kind new.listed.path.items path 0
            (Ok (listed_records new.listed, n)) ls l.prefix_len r parts.0 same (subst (λ (x : List Level).
            LevelsComeTo find check kind new.listed.path.items (Ok (listed_records new.listed, n)) x r) kept g)),
      )

      module _ (k : Level) (next : Next) (kept : new.levels.items ≡ ls ++ k ∷ []) (same_len : k.prefix_len
          ≡ l.prefix_len) (bytes : k.bytes.items ≡ l.bytes.items) (at : k.at ≡ length l.bytes.items - next.left)
          (u : ListsUpTo check kind now.listed new.listed (take l.prefix_len now.listed.path.items)
          (unlisted l) next) where
        rest : unlisted k ≡ u.rest
        rest = ap (drop k.at) bytes ∙ ap
            (λ (i : ℕ). drop i l.bytes.items) at ∙ last_of l.at next.left l.bytes.items u.passed u.rest u.parts u.left

        pub walk_reaches : Reaches check kind old new next.id
        walk_reaches = record {
          sound = record {
            packed = packed;
            rise = subst (λ (x : List Level). Rise kind 0 x (length new.listed.path.items)) (sym kept)
                (rise_push kind 0 ls k (length new.listed.path.items) (subst (Rise kind 0 ls) (sym same_len) parts.0)
                (record { inside = omega (arith, at, ap length bytes); whole = (u.whole.0, rw rest u.whole.1) })
                (omega (arith, same_len, long)));
          };
          leads = λ find n x r y g.
              let p =
              levels_pop find check kind new.listed.path.items (with_leaves (listed_records new.listed) x) ls k r
              (subst (λ (m : List Level). LevelsComeTo find check kind new.listed.path.items
              (with_leaves (listed_records new.listed) x) m r) kept g) in
              let o = subst (λ (b : List ℕ). EntriesComeTo find check kind (with_leaves (listed_records new.listed) x)
              (take k.prefix_len new.listed.path.items) b p.0) rest p.1 in
              let o = subst (λ (f : List ℕ). EntriesComeTo find check kind (with_leaves (listed_records new.listed) x) f
              u.rest p.0) (ap (λ (i : ℕ). take i new.listed.path.items) same_len ∙ same) o in
              innermost find n p.0 r (u.leads find n x p.0 y o)
              (levels_moved find check kind new.listed.path.items path 0 p.0 ls l.prefix_len r parts.0 same p.2);
        }
