-- One extension more, what all come to, and the first fault.
use Rattle.std.proofs.Common.{◌≡◌, ℕ, Bool, true, false, cond, List, [], ◌∷◌, ◌++◌, Option, Some, None, refl, sym, ap}
use Rattle.std.proofs.Common.{subst, ◌∙◌}
use Rattle.std.specs.Prelude.{◌||◌, codes, MatchBool, IfSome}
use Rattle.std.specs.List.{list_any}
use Rattle.std.proofs.lemmas.List.Elements.{All-nil, All-push}
use Rattle.std.proofs.lemmas.List.Folds.{list_any-append}
use Rattle.index_parts.specs.declared.hash.Kind.{Kind}
use Rattle.index_extensions.specs.ExtensionValue.{has_signature, option_or, content_named, last_content, IsRead}
use Rattle.index_extensions.specs.ExtensionValue.{IsValue}
use Rattle.ext_small.specs.FsMonitor.{IsMonitor}
use Rattle.ext_small.specs.ResolveUndo.{IsResolveUndo, PathIdsAreOf}
use Rattle.ext_tree.specs.Tree.{NodeIdsAreOf, IsTree}
use Rattle.ext_untracked.specs.Untracked.{CacheIdsAreOf, IsCache}
use Rattle.index_extensions.specs.Walk.{Item, IsItem, AreItems, NoItem, left_of}
use Rattle.index_parts.proofs.Ids.{id_kind-make_id}
use Rattle.index_parts.specs.Id.{id_kind}
use Rattle.ext_untracked.proofs.CacheIds.{ids_of_cache}
use Rattle.ext_small.proofs.ResolveUndo.{ids_of_paths}
use Rattle.ext_tree.proofs.Trees.{ids_of_tree}
use Rattle.index_extensions.proofs.Walks.{walk_of, more_items}
use Rattle.index_model.specs.ExtensionSteps.{AddsExtension, IsGathered, HasExtensionFault, ReplacesExtension}
use Rattle.index_model.specs.ExtensionSteps.{ExtensionCause, ExtensionItemCause}
use Rattle.ext_split.specs.Link.{LinkValue, IsLink, alone, split}
use Rattle.index_model.specs.Outcome.{Outcome, ExtensionFault, is_understood, IsFault, unknown, broken_link, AreSound}
use Rattle.index_model.specs.Outcome.{IsOutcome, no_extension}
use Rattle.index_model.specs.Contents.{ExtensionIdsAreOf}
use Rattle.index_model.specs.declared.error.Error.{Error}
use Rattle.index_model.specs.declared.error.Error.TheVariants as errors
use Rattle.ext_split.proofs.Links.{no_link_fault}

-- ---- faults

abbrev IsSound : Kind → Item → Type 0
IsSound kind i = (fault : ExtensionFault) → IsFault kind i fault → ⊥

-- an extension that was added has no error, if it is understood
item_sound : (kind : Kind) (limit : Option ℕ) (i : Item) (old new : Outcome)
    → is_understood i.signature i.content ≡ true → AddsExtension kind limit i.signature i.content old new
    → IsSound kind i
item_sound kind limit i old new e a fault (unknown n f) = absurd cc
item_sound kind limit i old new e a fault (broken_link l named h f) =
    let link = a.whole_link named in
    no_link_fault kind i.content link.value l link.is_link h

pub sound_push : (kind : Kind) (limit : Option ℕ) (items : List Item) (i : Item) (old new : Outcome)
    → AreSound kind items → is_understood i.signature i.content ≡ true
    → AddsExtension kind limit i.signature i.content old new
    → AreSound kind (items ++ i ∷ [])
sound_push kind limit items i old new h e a = All-push (IsSound kind) items i h (item_sound kind limit i old new e a)

pub none_sound : (kind : Kind) → AreSound kind []
none_sound kind = All-nil (IsSound kind)

-- ---- the outcome

or_none : {A : Type 0} (x : Option A) → option_or x None ≡ x
or_none None = refl
or_none (Some x) = refl

or_assoc : {A : Type 0} (x y z : Option A) → option_or (option_or x y) z ≡ option_or x (option_or y z)
or_assoc None y z = refl
or_assoc (Some x) y z = refl

pub content_push : (name : List ℕ) (items : List Item) (i : Item)
    → last_content name (items ++ i ∷ []) ≡ option_or (content_named name i) (last_content name items)
content_push name [] i = sym (or_none (content_named name i))
content_push name (x ∷ items) i =
    ap (λ (o : Option (List ℕ)). option_or o (content_named name x)) (content_push name items i)
    ∙ or_assoc (content_named name i) (last_content name items) (content_named name x)

or_false : (t : Bool) → (t || false) ≡ t
or_false true = refl
or_false false = refl

any_push : (name : List ℕ) (items : List Item) (i : Item) (b c : Bool) → b ≡ list_any (has_signature name) items
    → c ≡ (b || has_signature name i) → c ≡ list_any (has_signature name) (items ++ i ∷ [])
any_push name items i b c h k = k ∙ ap (λ (t : Bool). t || has_signature name i) h
    ∙ ap (λ (t : Bool). list_any (has_signature name) items || t) (sym (or_false (has_signature name i)))
    ∙ sym (list_any-append (has_signature name) items (i ∷ []))

value_by : {A : Type 0} (Is : List ℕ → A → Type 0) (t : Bool) (content : List ℕ) (before : Option (List ℕ))
    (old new : Option A) → IsValue Is before old → MatchBool t (IsRead Is content new) (new ≡ old)
    → IsValue Is (option_or (cond t (Some content) None) before) new
value_by Is true content before old new h k = k
value_by Is false content before old new h k = subst (λ o. IsValue Is before o) (sym k) h

value_push : {A : Type 0} (Is : List ℕ → A → Type 0) (name : List ℕ) (items : List Item) (i : Item) (old new : Option A)
    → IsValue Is (last_content name items) old → ReplacesExtension name Is i.signature i.content old new
    → IsValue Is (last_content name (items ++ i ∷ [])) new
value_push Is name items i old new h k =
    rw content_push (value_by Is (has_signature name i) i.content (last_content name items) old new h k)

pub outcome_push : (kind : Kind) (limit : Option ℕ) (items : List Item) (i : Item) (old new : Outcome)
    → IsOutcome kind limit items old → AddsExtension kind limit i.signature i.content old new
    → IsOutcome kind limit (items ++ i ∷ []) new
outcome_push kind limit items i old new h a = record {
  tree = value_push (IsTree kind limit) (codes "TREE") items i old.tree new.tree h.tree a.tree;
  link = value_push (IsLink kind) (codes "link") items i old.link new.link h.link a.link;
  resolve_undo = value_push (IsResolveUndo kind)
      (codes "REUC") items i old.resolve_undo new.resolve_undo h.resolve_undo a.resolve_undo;
  untracked =
      value_push (IsCache kind limit) (codes "UNTR") items i old.untracked new.untracked h.untracked a.untracked;
  fs_monitor = value_push IsMonitor (codes "FSMN") items i old.fs_monitor new.fs_monitor h.fs_monitor a.fs_monitor;
  sparse = any_push (codes "sdir") items i old.sparse new.sparse h.sparse a.sparse;
  had_end_marker =
      any_push (codes "EOIE") items i old.had_end_marker new.had_end_marker h.had_end_marker a.had_end_marker;
  had_offset_table =
      any_push (codes "IEOT") items i old.had_offset_table new.had_offset_table h.had_offset_table a.had_offset_table;
}

pub no_outcome : (kind : Kind) (limit : Option ℕ) → IsOutcome kind limit [] no_extension
no_outcome kind limit = record {
  tree = refl;
  link = refl;
  resolve_undo = refl;
  untracked = refl;
  fs_monitor = refl;
  sparse = refl;
  had_end_marker = refl;
  had_offset_table = refl;
}

-- ---- the ids in it

value_has : {A : Type 0} (Is : List ℕ → A → Type 0) (P : A → Type 0) → ((bytes : List ℕ) (x : A) → Is bytes x → P x)
    → (content : Option (List ℕ)) (value : Option A) → IsValue Is content value → IfSome value P
value_has Is P each content None h = tt
value_has Is P each None (Some x) h = absurd cc
value_has Is P each (Some bytes) (Some x) h = each bytes x h

link_ids : (kind : Kind) (bytes : List ℕ) (l : LinkValue) → IsLink kind bytes l → id_kind l.shared ≡ kind
link_ids kind bytes l (alone id s e) =
    ap (λ (x : LinkValue). id_kind x.shared) e ∙ ap id_kind s.value ∙ id_kind-make_id kind s.spelling
link_ids kind bytes l (split id maps after b s m n e) =
    ap (λ (x : LinkValue). id_kind x.shared) e ∙ ap id_kind s.value ∙ id_kind-make_id kind s.spelling

pub outcome_ids : (kind : Kind) (limit : Option ℕ) (items : List Item) (o : Outcome) → IsOutcome kind limit items o
    → ExtensionIdsAreOf kind o
outcome_ids kind limit items o h = (
  value_has (IsTree kind limit) (NodeIdsAreOf kind) (λ bytes t. ids_of_tree kind limit bytes t) _ o.tree h.tree,
  value_has (IsLink kind) (λ l. id_kind l.shared ≡ kind) (link_ids kind) _ o.link h.link,
  value_has (IsResolveUndo kind) (PathIdsAreOf kind)
      (λ bytes paths. ids_of_paths kind bytes paths []) _ o.resolve_undo h.resolve_undo,
  value_has (IsCache kind limit) (CacheIdsAreOf kind)
      (λ bytes cache. ids_of_cache kind limit bytes cache) _ o.untracked h.untracked,
)

-- ---- all items

-- an item with an error, after items without one
pub fault_found : (kind : Kind) (bytes rest after : List ℕ) (items : List Item) (i : Item) (fault : ExtensionFault)
    → AreItems bytes items rest → AreSound kind items → IsItem rest i after → IsFault kind i fault
    → HasExtensionFault kind bytes fault
fault_found kind bytes rest after items i fault h s k e =
    let w = walk_of after in
    record {
      items = items ++ i ∷ w.0;
      tail = w.1;
      is_walk = record {
        items_are = more_items bytes rest items (i ∷ w.0) w.1 h (after, k, w.2.items_are);
        ended = w.2.ended;
      };
      is_first = record { before = items; item = i; behind = w.0; parts = refl; sound = s; is_fault = e };
    }

pub all_gathered : (kind : Kind) (limit : Option ℕ) (bytes rest : List ℕ) (items : List Item) (o : Outcome) (count : ℕ)
    → AreItems bytes items rest → AreSound kind items → IsOutcome kind limit items o → NoItem rest
    → count ≡ left_of rest → IsGathered kind limit bytes o count
all_gathered kind limit bytes rest items o count h s out none e = record {
  items = items;
  tail = rest;
  is_walk = record { items_are = h; ended = none };
  sound = s;
  is_outcome = out;
  counted = e;
}

-- what an error of one extension implies for all, if those before it have no error
pub says_found : (kind : Kind) (bytes rest after : List ℕ) (items : List Item) (i : Item) (e : Error)
    → AreItems bytes items rest → AreSound kind items → IsItem rest i after → ExtensionItemCause kind i e
    → ExtensionCause kind bytes e
says_found kind bytes rest after items i (errors.Extension e) h s k said =
    (said.0, said.1, fault_found kind bytes rest after items i said.0 h s k said.2)
says_found kind bytes rest after items i errors.Memory h s k said = tt
says_found kind bytes rest after items i (errors.Header e) h s k said = absurd said
says_found kind bytes rest after items i errors.Hasher h s k said = absurd said
says_found kind bytes rest after items i errors.OutOfMemory h s k said = absurd said
says_found kind bytes rest after items i (errors.Entry n) h s k said = absurd said
says_found kind bytes rest after items i (errors.UnexpectedTrailerLength n m) h s k said = absurd said
says_found kind bytes rest after items i (errors.Verify p q) h s k said = absurd said
