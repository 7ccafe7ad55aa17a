-- What is read as an entry of a tree is spelled so, and what is spelled so is read; and bytes are one list of entries.
use Rattle.std.proofs.Common.{◌≡◌, ℕ, suc, ◌+◌, ◌^◌, ◌<◌, ◌≤◌, ltb, List, [], ◌∷◌, ◌++◌, length, Option, Some, None}
use Rattle.std.proofs.Common.{All, refl, sym, ap, subst, ◌∙◌, arith}
use Rattle.std.specs.Prelude.{◌≢◌}
use Rattle.std.proofs.lemmas.Bool.{ltb-true, lt-ltb}
use Rattle.std.proofs.lemmas.List.{length-append}
use Rattle.std.proofs.lemmas.Option.{same_Some}
use Rattle.index_parts.proofs.Octals.{octal_takes, octal_again, octal_without, octal_some}
use Rattle.index_parts.proofs.Readers.{id_takes, id_again}
use Rattle.index_parts.proofs.Splits.{split_takes, split_again}
use Rattle.index_parts.proofs.Steps.{bind_some, test_some}
use Rattle.index_parts.specs.Id.{make_id}
use Rattle.index_parts.specs.Octal.{IsOctal, octal_number}
use Rattle.index_parts.specs.ReadingSteps.{split_at_byte, object_id_at}
use Rattle.index_parts.specs.TreeObjectSteps.{short, tree_mode_of, named, tree_entry_at}
use Rattle.index_parts.specs.TreeObject.{TreeEntry, IsTreeEntry, NoTreeEntry, AreTreeEntries, IsTreeObject}
use Rattle.index_parts.specs.TreeObject.{IsMalformedTree, Lists}
use Rattle.index_parts.specs.declared.hash.Kind.{Kind}

-- ---- modes

mode_takes : (text : List ℕ) (n : ℕ) → tree_mode_of text ≡ Some n → IsOctal text n × (n < 2 ^ 16)
mode_takes text n e =
    let o = bind_some (octal_number text) short n e in
    let t = test_some (ltb o.0 (2 ^ 16)) o.0 n o.2 in
    subst (λ (m : ℕ). IsOctal text m × (m < 2 ^ 16)) t.1 (octal_takes text o.0 o.1, ltb-true o.0 (2 ^ 16) t.0)

mode_again : (text : List ℕ) (n : ℕ) → IsOctal text n → n < 2 ^ 16 → tree_mode_of text ≡ Some n
mode_again text n h lt = rw (octal_again text n h, lt-ltb n (2 ^ 16) lt) refl

-- ---- names

named_takes : (name found : List ℕ) → named name ≡ Some found → (name ≡ found) × (found ≢ [])
named_takes [] found e = absurd cc
named_takes (b ∷ name) found e = let is : b ∷ name ≡ found = cc in (is, λ none. absurd cc)

named_again : (name : List ℕ) → name ≢ [] → named name ≡ Some name
named_again [] h = absurd (h refl)
named_again (b ∷ name) h = refl

name_some : (name : List ℕ) → name ≢ [] → 1 ≤ length name
name_some [] h = absurd (h refl)
name_some (b ∷ name) h = omega arith

-- ---- an entry

pub entry_takes : (kind : Kind) (bytes : List ℕ) (x : TreeEntry × List ℕ) → tree_entry_at kind bytes ≡ Some x
    → IsTreeEntry kind bytes x.0 x.1
unfolding tree_entry_at
entry_takes kind bytes x e =
    let t = bind_some (split_at_byte 32 bytes) _ x e in
    let m = bind_some (tree_mode_of t.0.0) _ x t.2 in
    let u = bind_some (split_at_byte 0 t.0.1) _ x m.2 in
    let n = bind_some (named u.0.0) _ x u.2 in
    let i = bind_some (object_id_at kind u.0.1) _ x n.2 in
    let ut = split_takes 32 bytes t.0 t.1 in
    let mt = mode_takes t.0.0 m.0 m.1 in
    let uu = split_takes 0 t.0.1 u.0 u.1 in
    let nt = named_takes u.0.0 n.0 n.1 in
    let it = id_takes kind u.0.1 i.0 i.1 in
    let made : TreeEntry × List ℕ = (record { mode = m.0; name = n.0; id = i.0.0 }, i.0.1) in
    let is : made ≡ x = same_Some made x i.2 in
    subst (λ (y : TreeEntry × List ℕ). IsTreeEntry kind bytes y.0 y.1) {x = made} is (record {
      text = t.0.0;
      id = it.spelling;
      parts = ut.parts ∙ ap (λ (s : List ℕ). t.0.0 ++ 32 ∷ s)
          (uu.parts ∙ ap (λ (s : List ℕ). s ++ 0 ∷ u.0.1) nt.0 ∙ ap (λ (s : List ℕ). n.0 ++ 0 ∷ s) it.parts);
      is_mode = mt.0;
      fits = mt.1;
      named = nt.1;
      apart = subst (λ (s : List ℕ). All (λ b. b ≢ 0) s) nt.0 uu.apart;
      id_size = it.size;
      is_id = it.value;
    })

no_space : (text : List ℕ) (n : ℕ) → IsOctal text n → All (λ x. x ≢ 32) text
no_space text n h = octal_without 32 text n (λ digit. absurd (omega (arith, digit.0))) h

same_id : (kind : Kind) (bytes : List ℕ) (e : TreeEntry) (rest : List ℕ) (h : IsTreeEntry kind bytes e rest)
    → ◌≡◌ {A = Option (TreeEntry × List ℕ)}
    (Some (record { mode = e.mode; name = e.name; id = make_id kind h.id }, rest)) (Some (e, rest))
same_id kind bytes e rest h = rw (sym h.is_id) refl

pub entry_again : (kind : Kind) (bytes : List ℕ) (e : TreeEntry) (rest : List ℕ) → IsTreeEntry kind bytes e rest
    → tree_entry_at kind bytes ≡ Some (e, rest)
unfolding tree_entry_at
entry_again kind bytes e rest h =
    let behind : List ℕ = e.name ++ 0 ∷ (h.id ++ rest) in
    let long : length (h.text ++ 32 ∷ behind) ≡ length h.text + length (32 ∷ behind) =
    length-append h.text (32 ∷ behind) in
    let longer : length behind ≡ length e.name + length (0 ∷ (h.id ++ rest)) =
    length-append e.name (0 ∷ (h.id ++ rest)) in
    let text_some : 1 ≤ length h.text = octal_some h.text e.mode h.is_mode in
    let some : 1 ≤ length e.name = name_some e.name h.named in
    let first = split_again 32 (h.text ++ 32 ∷ behind) h.text behind
    (record { parts = refl; apart = no_space h.text e.mode h.is_mode; two = omega arith }) in
    let second =
    split_again 0 behind e.name (h.id ++ rest) (record { parts = refl; apart = h.apart; two = omega arith }) in
    ap (tree_entry_at kind) h.parts ∙ rw (
      first,
      mode_again h.text e.mode h.is_mode h.fits,
      second,
      named_again e.name h.named,
      id_again kind h.id rest h.id_size,
    ) (same_id kind bytes e rest h)

pub no_entry : (kind : Kind) (bytes : List ℕ) → tree_entry_at kind bytes ≡ None → NoTreeEntry kind bytes
no_entry kind bytes e = λ i rest h. absurd (cc (entry_again kind bytes i rest h, e))

-- one entry begins bytes, or none
pub one_entry : (kind : Kind) (bytes : List ℕ) (d e : TreeEntry) (r s : List ℕ) → IsTreeEntry kind bytes d r
    → IsTreeEntry kind bytes e s → ◌≡◌ {A = TreeEntry × List ℕ} (d, r) (e, s)
one_entry kind bytes d e r s h k = same_Some _ _ (sym (entry_again kind bytes d r h) ∙ entry_again kind bytes e s k)

-- an entry has a byte at least
pub entry_fewer : (kind : Kind) (bytes : List ℕ) (e : TreeEntry) (rest : List ℕ) → IsTreeEntry kind bytes e rest
    → length rest < length bytes
entry_fewer kind bytes e rest h =
    let behind : List ℕ = e.name ++ 0 ∷ (h.id ++ rest) in
    let a : length bytes ≡ length h.text + suc (length behind) =
    ap length h.parts ∙ length-append h.text (32 ∷ behind) in
    let b : length behind ≡ length e.name + suc (length (h.id ++ rest)) = length-append e.name (0 ∷ (h.id ++ rest)) in
    let c : length (h.id ++ rest) ≡ length h.id + length rest = length-append h.id rest in
    omega arith

pub none_in_nothing : (kind : Kind) (bytes : List ℕ) → bytes ≡ [] → NoTreeEntry kind bytes
none_in_nothing kind bytes none = λ e rest h. absurd (omega (arith, entry_fewer kind bytes e rest h, ap length none))

-- ---- entries, one after another

-- one more entry after entries
pub entries_push : (kind : Kind) (bytes : List ℕ) (es : List TreeEntry) (e : TreeEntry) (middle rest : List ℕ)
    → AreTreeEntries kind bytes es middle → IsTreeEntry kind middle e rest
    → AreTreeEntries kind bytes (es ++ e ∷ []) rest
entries_push kind bytes [] e middle rest h k = (rest, subst (λ (b : List ℕ). IsTreeEntry kind b e rest) (sym h) k, refl)
entries_push kind bytes (d ∷ es) e middle rest h k = (h.0, h.1, entries_push kind h.0 es e middle rest h.2 k)

-- if the bytes that are left after entries begin with no entry, all bytes are malformed
pub malformed_behind : (kind : Kind) (bytes : List ℕ) (es : List TreeEntry) (rest : List ℕ)
    → AreTreeEntries kind bytes es rest → (rest ≡ [] → ⊥) → NoTreeEntry kind rest → IsMalformedTree kind bytes
malformed_behind kind bytes [] rest h some none [] k = some (sym h ∙ k)
malformed_behind kind bytes [] rest h some none (e ∷ all) k =
    none e k.0 (subst (λ (b : List ℕ). IsTreeEntry kind b e k.0) h k.1)
malformed_behind kind bytes (d ∷ es) rest h some none [] k = none_in_nothing kind bytes k d h.0 h.1
malformed_behind kind bytes (d ∷ es) rest h some none (e ∷ all) k =
    let same = one_entry kind bytes e d k.0 h.0 k.1 h.1 in
    malformed_behind kind h.0 es rest h.2 some none all
    (subst (λ (b : List ℕ). AreTreeEntries kind b all []) (ap (λ (x : TreeEntry × List ℕ). x.1) same) k.2)

-- bytes list one row of entries
pub one_list : (kind : Kind) (bytes : List ℕ) (a b : List TreeEntry) → Lists kind bytes a → Lists kind bytes b → a ≡ b
one_list kind bytes [] [] h k = refl
one_list kind bytes [] (e ∷ b) h k = absurd (h.2 e k.1.0 (subst (λ (l : List ℕ). IsTreeEntry kind l e k.1.0) h.1 k.1.1))
one_list kind bytes (d ∷ a) [] h k = absurd (k.2 d h.1.0 (subst (λ (l : List ℕ). IsTreeEntry kind l d h.1.0) k.1 h.1.1))
one_list kind bytes (d ∷ a) (e ∷ b) h k =
    let same = one_entry kind bytes d e h.1.0 k.1.0 h.1.1 k.1.1 in
    let others = one_list kind h.1.0 a b (h.0, h.1.2, h.2) (
      k.0,
      subst (λ (l : List ℕ). AreTreeEntries kind l b k.0)
          (sym (ap (λ (x : TreeEntry × List ℕ). x.1) same)) k.1.2,
      k.2,
    ) in
    ap (λ (x : TreeEntry). x ∷ a) (ap (λ (x : TreeEntry × List ℕ). x.0) same)
    ∙ ap (λ (l : List TreeEntry). e ∷ l) others

-- a tree's object lists its entries
pub lists_all : (kind : Kind) (bytes : List ℕ) (es : List TreeEntry) → IsTreeObject kind bytes es → Lists kind bytes es
lists_all kind bytes es h = ([], h, none_in_nothing kind [] refl)

-- bytes are one list of entries
pub one_tree : (kind : Kind) (bytes : List ℕ) (a b : List TreeEntry) → IsTreeObject kind bytes a
    → IsTreeObject kind bytes b → a ≡ b
one_tree kind bytes a b h k = one_list kind bytes a b (lists_all kind bytes a h) (lists_all kind bytes b k)
