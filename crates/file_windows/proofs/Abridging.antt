-- Extensions that aren't known are left out of what is read: nothing changes.
use Rattle.std.proofs.Common.{◌≡◌, ℕ, ◌+◌, ◌-◌, ◌≤◌, Bool, true, false, cond, List, [], ◌∷◌, ◌++◌, length, take, drop}
use Rattle.std.proofs.Common.{Option, Some, None, refl, sym, ap, subst, ◌∙◌, append_assoc, append-nil, arith}
use Rattle.std.specs.Prelude.{nat_eq, ◌==◌, ◌&&◌, ◌||◌, not, codes, if◌then◌else◌, Ok}
use Rattle.std.specs.Cmp.Lexicographic.{pointwise}
use Rattle.std.specs.List.{list_any}
use Rattle.std.proofs.lemmas.List.{length-append, length-drop, take-append-drop, take-append-le}
use Rattle.std.proofs.lemmas.List.Elements.{All-cons, All-head, All-tail, filter-append}
use Rattle.std.proofs.Math.Seq.{take-append-add, drop-append-add, drop-append_seam, take-append_seam}
use Rattle.index_parts.specs.Digest.{hasher_kind, Holds}
use Rattle.index_parts.specs.Id.{id_len}
use Rattle.index_parts.specs.Numbers.{be}
use Rattle.index_parts.specs.declared.hash.Hasher.{Hasher}
use Rattle.index_parts.specs.declared.hash.Kind.{Kind}
use Rattle.index_parts.specs.declared.hash.Kind.TheVariants.{Sha1}
use Rattle.index_parts.specs.declared.hash.ObjectId.{ObjectId}
use Rattle.entry_fields.specs.declared.entry.stat.FileTime.{FileTime}
use Rattle.entry_list.specs.Record.{Record}
use Rattle.entry_list.specs.declared.Version.{Version}
use Rattle.ext_tree.specs.Tree.{IsTree}
use Rattle.index_extensions.specs.ExtensionValue.{has_signature, option_or, content_named, last_content, IsValue}
use Rattle.index_extensions.specs.Walk.{Item, IsItem, AreItems, IsWalk}
use Rattle.index_extensions.specs.EndMarker.{heads}
use Rattle.index_extensions.proofs.EndMarks.{heads_push}
use Rattle.index_extensions.proofs.Walks.{more_items, items_push, walk_of, walk_one}
use Rattle.index_model.specs.Answer.{IsEnding, short, walked, IsClosed, faulty, left, whole}
use Rattle.index_model.specs.Contents.{Contents}
use Rattle.index_model.specs.Outcome.{Outcome, ExtensionFault, AreSound, IsFault, unknown, broken_link, IsOutcome}
use Rattle.index_model.specs.Outcome.{is_mandatory, is_understood}
use Rattle.index_model.specs.declared.decode.Options.{Options}
use Rattle.ext_small.specs.FsMonitor.{IsMonitor}
use Rattle.ext_small.specs.ResolveUndo.{IsResolveUndo}
use Rattle.ext_split.specs.Link.{IsLink}
use Rattle.ext_untracked.specs.Untracked.{IsCache}
use Rattle.file_windows.specs.Abridged.{is_known, is_unknown, abridged, IsAbridgedOn}
use Rattle.file_windows.specs.Windowed.{Moment, IsPassedOn}
use Rattle.file_windows.specs.declared.plan.Plan.{Plan}
use Rattle.file_windows.proofs.Steps.{pass_none, pass_on, pass_trans}

-- ---- an extension that isn't held

or_none : (a b : Bool) → (a || b) ≡ false → (a ≡ false) × (b ≡ false)
or_none true b e = absurd cc
or_none false b e = (refl, e)

and_both : (a b : Bool) → (a && not b) ≡ true → (a ≡ true) × (b ≡ false)
and_both true true e = absurd cc
and_both true false e = (refl, refl)
and_both false b e = absurd cc

unheld : (b : Bool) → not b ≡ false → b ≡ true
unheld true e = refl
unheld false e = absurd cc

-- it may be skipped, and has none of the names
record IsOther (signature : List ℕ) : Type 0 where
  understood : is_understood signature [] ≡ true
  link : pointwise nat_eq signature (codes "link") ≡ false
  tree : pointwise nat_eq signature (codes "TREE") ≡ false
  resolve_undo : pointwise nat_eq signature (codes "REUC") ≡ false
  untracked : pointwise nat_eq signature (codes "UNTR") ≡ false
  fs_monitor : pointwise nat_eq signature (codes "FSMN") ≡ false
  sparse : pointwise nat_eq signature (codes "sdir") ≡ false
  end_marker : pointwise nat_eq signature (codes "EOIE") ≡ false
  offset_table : pointwise nat_eq signature (codes "IEOT") ≡ false

other : (signature : List ℕ) → not (is_unknown signature) ≡ false → IsOther signature
other signature e =
    let both = and_both (is_understood signature []) (is_known signature) (unheld (is_unknown signature) e) in
    let a = or_none (pointwise nat_eq signature (codes "link")) _ both.1 in
    let b = or_none (pointwise nat_eq signature (codes "TREE")) _ a.1 in
    let c = or_none (pointwise nat_eq signature (codes "REUC")) _ b.1 in
    let d = or_none (pointwise nat_eq signature (codes "UNTR")) _ c.1 in
    let f = or_none (pointwise nat_eq signature (codes "FSMN")) _ d.1 in
    let g = or_none (pointwise nat_eq signature (codes "sdir")) _ f.1 in
    let h = or_none (pointwise nat_eq signature (codes "EOIE")) _ g.1 in
    record {
      understood = both.0;
      link = a.0;
      tree = b.0;
      resolve_undo = c.0;
      untracked = d.0;
      fs_monitor = f.0;
      sparse = g.0;
      end_marker = h.0;
      offset_table = h.1;
    }

-- ---- none has a fault

abbrev IsSound : Kind → Item → Type 0
IsSound kind i = (fault : ExtensionFault) → IsFault kind i fault → ⊥

understood_any : (m l s t u : Bool) → (not m || (l || (s && t))) ≡ true → l ≡ false → s ≡ false
    → (not m || (l || (s && u))) ≡ true
understood_any false l s t u e f g = refl
understood_any true true s t u e f g = absurd cc
understood_any true false true t u e f g = absurd cc
understood_any true false false t u e f g = absurd cc

other_sound : (kind : Kind) (i : Item) → IsOther i.signature → (fault : ExtensionFault) → IsFault kind i fault → ⊥
other_sound kind i o fault (unknown n e) =
    let is = understood_any (is_mandatory i.signature) (has_signature (codes "link") i) (has_signature (codes "sdir") i)
    (length {A = ℕ} [] == 0) (length i.content == 0) o.understood o.link o.sparse in
    absurd cc
other_sound kind i o fault (broken_link f named l e) = let none = o.link in absurd cc

sound_by : (kind : Kind) (b : Bool) (i : Item) (xs ys zs : List Item) → not (is_unknown i.signature) ≡ b
    → (AreSound kind (xs ++ ys) → AreSound kind zs) → AreSound kind (cond b (i ∷ xs) xs ++ ys)
    → AreSound kind (i ∷ zs)
sound_by kind true i xs ys zs e f h = All-cons (IsSound kind) i zs (All-head (IsSound kind) i (xs ++ ys) h)
    (f (All-tail (IsSound kind) i (xs ++ ys) h))
sound_by kind false i xs ys zs e f h =
    All-cons (IsSound kind) i zs (other_sound kind i (other i.signature e)) (f h)

sound_whole : (kind : Kind) (items ys : List Item) → AreSound kind (abridged items ++ ys)
    → AreSound kind (items ++ ys)
sound_whole kind [] ys h = h
sound_whole kind (i ∷ items) ys h =
    sound_by kind (not (is_unknown i.signature)) i (abridged items) ys (items ++ ys) refl
    (sound_whole kind items ys) h

-- ---- they come to the same

or_else_none : {A : Type 0} (x : Option A) → option_or x None ≡ x
or_else_none None = refl
or_else_none (Some x) = refl

module _ (name : List ℕ)
    (apart : (signature : List ℕ) → not (is_unknown signature) ≡ false → pointwise nat_eq signature name ≡ false) where
  content_by : (b : Bool) (i : Item) (xs ys zs : List Item) → not (is_unknown i.signature) ≡ b
      → last_content name (xs ++ ys) ≡ last_content name zs
      → last_content name (cond b (i ∷ xs) xs ++ ys) ≡ last_content name (i ∷ zs)
  content_by true i xs ys zs e h = ap (λ (o : Option (List ℕ)). option_or o (content_named name i)) h
  content_by false i xs ys zs e h = h ∙ sym (rw (apart i.signature e) (or_else_none (last_content name zs)))

  same_content : (items ys : List Item)
      → last_content name (abridged items ++ ys) ≡ last_content name (items ++ ys)
  same_content [] ys = refl
  same_content (i ∷ items) ys = content_by (not (is_unknown i.signature)) i (abridged items) ys (items ++ ys) refl
      (same_content items ys)

  any_by : (b : Bool) (i : Item) (xs ys zs : List Item) → not (is_unknown i.signature) ≡ b
      → list_any (has_signature name) (xs ++ ys) ≡ list_any (has_signature name) zs
      → list_any (has_signature name) (cond b (i ∷ xs) xs ++ ys) ≡ list_any (has_signature name) (i ∷ zs)
  any_by true i xs ys zs e h = ap (λ (t : Bool). has_signature name i || t) h
  any_by false i xs ys zs e h = h ∙ sym (rw (apart i.signature e) refl)

  same_any : (items ys : List Item)
      → list_any (has_signature name) (abridged items ++ ys) ≡ list_any (has_signature name) (items ++ ys)
  same_any [] ys = refl
  same_any (i ∷ items) ys = any_by (not (is_unknown i.signature)) i (abridged items) ys (items ++ ys) refl
      (same_any items ys)

outcome_whole : (kind : Kind) (limit : Option ℕ) (items ys : List Item) (o : Outcome)
    → IsOutcome kind limit (abridged items ++ ys) o → IsOutcome kind limit (items ++ ys) o
outcome_whole kind limit items ys o h = record {
  tree = subst (λ (c : Option (List ℕ)). IsValue (IsTree kind limit) c o.tree)
      (same_content (codes "TREE") (λ s e. (other s e).tree) items ys) h.tree;
  link = subst (λ (c : Option (List ℕ)). IsValue (IsLink kind) c o.link)
      (same_content (codes "link") (λ s e. (other s e).link) items ys) h.link;
  resolve_undo = subst (λ (c : Option (List ℕ)). IsValue (IsResolveUndo kind) c o.resolve_undo)
      (same_content (codes "REUC") (λ s e. (other s e).resolve_undo) items ys) h.resolve_undo;
  untracked = subst (λ (c : Option (List ℕ)). IsValue (IsCache kind limit) c o.untracked)
      (same_content (codes "UNTR") (λ s e. (other s e).untracked) items ys) h.untracked;
  fs_monitor = subst (λ (c : Option (List ℕ)). IsValue IsMonitor c o.fs_monitor)
      (same_content (codes "FSMN") (λ s e. (other s e).fs_monitor) items ys) h.fs_monitor;
  sparse = h.sparse ∙ same_any (codes "sdir") (λ s e. (other s e).sparse) items ys;
  had_end_marker =
      h.had_end_marker ∙ same_any (codes "EOIE") (λ s e. (other s e).end_marker) items ys;
  had_offset_table =
      h.had_offset_table ∙ same_any (codes "IEOT") (λ s e. (other s e).offset_table) items ys;
}

-- ---- the ending

pub items_grow : (bytes : List ℕ) (items : List Item) (tail more : List ℕ) → AreItems bytes items tail
    → AreItems (bytes ++ more) items (tail ++ more)
items_grow bytes [] tail more h = ap (λ (l : List ℕ). l ++ more) h
items_grow bytes (i ∷ items) tail more h = (
  h.0 ++ more,
  record {
    parts = ap (λ (l : List ℕ). l ++ more) h.1.parts ∙ (simp append_assoc refl);
    signature_len = h.1.signature_len;
    size_len = h.1.size_len;
    content_len = h.1.content_len;
  },
  items_grow h.0 items tail more h.2,
)

module _ (kind : Kind) (time : FileTime) (options : Options) (version : Version) (rs : List Record)
    (items : List Item) (passed held rest : List ℕ) (x : Contents × Option ObjectId) (are : AreItems passed items [])
    (held_are : AreItems held (abridged items) []) (le : id_len kind ≤ length rest) where
  closed_whole : (ys : List Item) (tail trailer : List ℕ)
      → IsClosed kind time options version rs (abridged items ++ ys) tail trailer (Ok x)
      → IsClosed kind time options version rs (items ++ ys) tail trailer (Ok x)
  closed_whole ys tail trailer (faulty f h e) = absurd cc
  closed_whole ys tail trailer (left s n e) = absurd cc
  closed_whole ys tail trailer (whole o s n h v) = whole o (sound_whole kind items ys s) n
      (outcome_whole kind options.alloc_limit_bytes items ys o h) v

  pub ending_whole : IsEnding kind time options version rs (held ++ rest) (Ok x)
      → IsEnding kind time options version rs (passed ++ rest) (Ok x)
  ending_whole (short lt e) = absurd cc
  ending_whole (walked extensions trailer all tail parts trailer_len walk closed) =
      let n : ℕ = length rest - id_len kind in
      let front : List ℕ = take n rest in
      let len : length extensions ≡ length held + n =
      omega (arith, ap length parts, length-append held rest, length-append extensions trailer, trailer_len, le) in
      let same : extensions ≡ held ++ front = sym (take-append_seam extensions trailer)
      ∙ ap (take (length extensions)) (sym parts) ∙ ap (λ (k : ℕ). take k (held ++ rest)) len
      ∙ take-append-add held rest n in
      let end : trailer ≡ drop n rest = sym (drop-append_seam extensions trailer)
      ∙ ap (drop (length extensions)) (sym parts) ∙ ap (λ (k : ℕ). drop k (held ++ rest)) len
      ∙ drop-append-add held rest n in
      let w = walk_of front in
      let held_walk : IsWalk extensions (abridged items ++ w.0) w.1 = record {
        items_are = rw same (more_items (held ++ front) front (abridged items) w.0 w.1
            (items_grow held (abridged items) [] front held_are) w.2.items_are);
        ended = w.2.ended;
      } in
      let one = walk_one extensions all (abridged items ++ w.0) tail w.1 walk held_walk in
      walked (passed ++ front) trailer (items ++ w.0) w.1
      (ap (λ (l : List ℕ). passed ++ l) (sym (take-append-drop n rest) ∙ ap (λ (l : List ℕ). front ++ l) (sym end))
      ∙ sym (append_assoc passed front trailer))
      trailer_len
      (record {
        items_are = more_items (passed ++ front) front items w.0 w.1 (items_grow passed items [] front are)
            w.2.items_are;
        ended = w.2.ended;
      })
      (closed_whole w.0 w.1 trailer (rw (sym one.0, sym one.1) closed))

-- ---- one extension more

-- bytes that were passed are an extension, if their number is the one in its head
item_passed : (signature size rest more passed behind : List ℕ)
    → (signature ++ (size ++ rest)) ++ more ≡ passed ++ behind → length signature ≡ 4 → length size ≡ 4
    → length passed ≡ 8 + be size
    → IsItem passed (record { signature = signature; size = size; content = drop 8 passed }) []
item_passed signature size rest more passed behind e sl zl pl =
    let head : List ℕ = signature ++ size in
    let len : length head ≡ 8 = omega (arith, length-append signature size, sl, zl) in
    let all : head ++ (rest ++ more) ≡ passed ++ behind = (simp append_assoc refl) ∙ e in
    let front : take 8 passed ≡ head = sym (take-append-le 8 passed behind (omega (arith, pl))) ∙ ap (take 8) (sym all)
    ∙ ap (λ (n : ℕ). take n (head ++ (rest ++ more))) (sym len) ∙ take-append_seam head (rest ++ more) in
    record {
      parts = sym (take-append-drop 8 passed) ∙ ap (λ (l : List ℕ). l ++ drop 8 passed) front
          ∙ append_assoc signature size (drop 8 passed)
          ∙ ap (λ (l : List ℕ). signature ++ (size ++ l)) (sym (append-nil (drop 8 passed)));
      signature_len = sl;
      size_len = zl;
      content_len = omega (arith, length-drop 8 passed, pl);
    }

held_by : (b : Bool) (held passed : List ℕ) (xs : List Item) (i : Item) → AreItems held xs [] → IsItem passed i []
    → AreItems (held ++ (if b then passed else [])) (xs ++ cond b (i ∷ []) []) []
held_by true held passed xs i are is = items_push (held ++ passed) xs i passed [] (items_grow held xs [] passed are) is
held_by false held passed xs i are is = rw (append-nil held, append-nil xs) are

-- the head of an extension at the front of bytes
pub head_of : (signature size rest : List ℕ) → length signature ≡ 4 → length size ≡ 4
    → take 8 (signature ++ (size ++ rest)) ≡ signature ++ size
head_of signature size rest sl zl =
    let len : length (signature ++ size) ≡ 8 = omega (arith, length-append signature size, sl, zl) in
    ap (take 8) (sym (append_assoc signature size rest))
    ∙ ap (λ (n : ℕ). take n ((signature ++ size) ++ rest)) (sym len) ∙ take-append_seam (signature ++ size) rest

module _ (plan : Plan) where
  pub abridged_none : (m : Moment) (held : List ℕ) (hasher : Hasher) → m.decoded ≤ length m.window → held ≡ []
      → hasher_kind hasher ≡ Sha1 → Holds hasher [] → IsAbridgedOn plan m m 0 held hasher
  abridged_none m held hasher inside e is_sha1 hashed = record {
    passed = [];
    items = [];
    is_passed = pass_none plan m inside;
    are = refl;
    held_are = e;
    whole = λ is. e;
    is_sha1 = is_sha1;
    hashed = hashed;
  }

  pub abridged_on : (a b c : Moment) (n m : ℕ) (held : List ℕ) (hasher : Hasher)
      → IsAbridgedOn plan a b n held hasher → IsPassedOn plan b c m [] → IsAbridgedOn plan a c (n + m) held hasher
  abridged_on a b c n m held hasher h p = record {
    passed = h.passed;
    items = h.items;
    is_passed = pass_on plan a b c n m h.passed h.is_passed p;
    are = h.are;
    held_are = h.held_are;
    whole = h.whole;
    is_sha1 = h.is_sha1;
    hashed = h.hashed;
  }

  pub abridged_more : (a b c : Moment) (n m : ℕ) (held grown signature size rest passed : List ℕ) (old new : Hasher)
      → IsAbridgedOn plan a b n held old → IsPassedOn plan b c m passed
      → drop b.decoded b.window ≡ signature ++ (size ++ rest) → length signature ≡ 4 → length size ≡ 4
      → length passed ≡ 8 + be size
      → grown ≡ held ++ (if not (is_unknown signature) then passed else []) → plan.keeps_ending ≡ false
      → hasher_kind new ≡ hasher_kind old
      → ((message : List ℕ) → Holds old message → Holds new (message ++ (signature ++ size)))
      → IsAbridgedOn plan a c (n + m) grown new
  abridged_more a b c n m held grown signature size rest passed old new h p e sl zl pl g abridges kind more =
      let i : Item = record { signature = signature; size = size; content = drop 8 passed } in
      let is : IsItem passed i [] = item_passed signature size rest p.moved.more passed (drop c.decoded c.window)
      (ap (λ (l : List ℕ). l ++ p.moved.more) (sym e) ∙ p.behind) sl zl pl in
      record {
        passed = h.passed ++ passed;
        items = h.items ++ i ∷ [];
        is_passed = pass_trans plan a b c n m h.passed passed h.is_passed p;
        are = items_push (h.passed ++ passed) h.items i passed [] (items_grow h.passed h.items [] passed h.are) is;
        held_are = rw (g, filter-append (λ (x : Item). not (is_unknown x.signature)) h.items (i ∷ []))
            (held_by (not (is_unknown signature)) held passed (abridged h.items) i h.held_are is);
        whole = λ all. absurd cc;
        is_sha1 = kind ∙ h.is_sha1;
        hashed = subst (Holds new) (sym (heads_push h.items i)) (more (heads h.items) h.hashed);
      }
