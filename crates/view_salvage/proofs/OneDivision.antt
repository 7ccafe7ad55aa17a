-- Bytes are divided in one way.
use Rattle.std.proofs.Common.{◌≡◌, inl, inr, ℕ, ◌<◌, Bool, true, false, List, [], ◌∷◌, ◌++◌, length}
use Rattle.std.proofs.Common.{drop, take, Option, Some, None, Result, Ok, Err, refl, sym, ap, subst, ◌∙◌}
use Rattle.std.proofs.Common.{arith, length-append}
use Rattle.std.specs.Prelude.{MatchBool, nat_lt}
use Rattle.std.proofs.lemmas.List.Elements.{All-head, All-tail}
use Rattle.gix_index.proofs.MarkerReadings.{marker_reading_one}
use Rattle.gix_index.proofs.Outcomes.{one_fault}
use Rattle.gix_index.specs.Answer.{Fault, Extension, Header}
use Rattle.gix_index.specs.Header.{HeaderFault, count_of, header_len}
use Rattle.gix_index.specs.Id.{id_len}
use Rattle.gix_index.specs.Intact.{IsBroken, IsIntact, needs_check}
use Rattle.gix_index.specs.Kind.{Kind}
use Rattle.gix_index.specs.Limits.{most_entries}
use Rattle.gix_index.specs.Outcome.{AreSound, ExtensionFault, IsFault}
use Rattle.gix_index.specs.Record.{Record}
use Rattle.gix_index.specs.Version.{Version}
use Rattle.gix_index.specs.Walk.{Item, AreItems, IsItem}
use Rattle.index_extensions.proofs.Items.{one_item}
use Rattle.view_salvage.specs.Division.{IsBehindEntries, IsCrowded, IsDivided, IsFileEnd, lacks, crowded, short}
use Rattle.view_salvage.specs.Division.{walked, faulty, left, broken, whole, headless, headed}
use Rattle.view_salvage.specs.Spelling.{Spelling, AreSpelled, entries_spelled, entry_pieces}
use Rattle.view_salvage.proofs.OneSpelling.{IsEnded, one_front, same_parts}
use Rattle.view_layout.specs.Piece.{Piece, item_pieces, one_piece}
use Rattle.view_layout.specs.declared.part.What.TheVariants as whats

-- pieces and a fault are others
abbrev AreSame : List Piece → List Piece → Option Fault → Option Fault → Type 0
AreSame ps qs f g = (ps ≡ qs) × (f ≡ g)

module _ (kind : Kind) (bytes : List ℕ) where
  -- ---- after valid extensions

  abbrev Sound : Item → Type 0
  Sound i = (f : ExtensionFault) → IsFault kind i f → ⊥

  not_both : (b : Bool) (P : Type 0) → needs_check false kind bytes ≡ b → b ≡ true → (P → ⊥)
      → MatchBool b P (Unit {0}) → ⊥
  not_both true P e t n h = n h
  not_both false P e t n h = absurd cc

  intact_or_broken : IsBroken false kind bytes → IsIntact false kind bytes → ⊥
  intact_or_broken b h = not_both (needs_check false kind bytes) _ refl b.0 b.1 h

  one_faulty : (tail : List ℕ) (i j : Item) (r s : List ℕ) (x y : ExtensionFault) → IsItem tail i r → IsFault kind i x
      → IsItem tail j s → IsFault kind j y → x ≡ y
  one_faulty tail i j r s x y h a k b =
      let same : i ≡ j = ap (λ (z : Item × List ℕ). z.0) (one_item tail i j r s h k) in
      one_fault kind i x y a (subst (λ (z : Item). IsFault kind z y) (sym same) b)

  one_end : (tail trailer : List ℕ) (ps qs : List Piece) (f g : Option Fault) → IsFileEnd kind bytes tail trailer ps f
      → IsFileEnd kind bytes tail trailer qs g → AreSame ps qs f g
  one_end tail trailer ps qs f g (faulty i r x h a p e) (faulty j s y k b q d) =
      (p ∙ sym q, e ∙ ap (λ (z : ExtensionFault). Some (Extension z)) (one_faulty tail i j r s x y h a k b) ∙ sym d)
  one_end tail trailer ps qs f g (faulty i r x h a p e) (left n m q d) = absurd (n i r h)
  one_end tail trailer ps qs f g (faulty i r x h a p e) (broken n m b q d) = absurd (n i r h)
  one_end tail trailer ps qs f g (faulty i r x h a p e) (whole n m b q d) = absurd (n i r h)
  one_end tail trailer ps qs f g (left n m p e) (faulty j s y k b q d) = absurd (n j s k)
  one_end tail trailer ps qs f g (left n m p e) (left o l q d) = (p ∙ sym q, e ∙ sym d)
  one_end tail trailer ps qs f g (left n m p e) (broken o l b q d) = absurd (m l)
  one_end tail trailer ps qs f g (left n m p e) (whole o l b q d) = absurd (m l)
  one_end tail trailer ps qs f g (broken n m a p e) (faulty j s y k b q d) = absurd (n j s k)
  one_end tail trailer ps qs f g (broken n m a p e) (left o l q d) = absurd (l m)
  one_end tail trailer ps qs f g (broken n m a p e) (broken o l b q d) = (p ∙ sym q, e ∙ sym d)
  one_end tail trailer ps qs f g (broken n m a p e) (whole o l b q d) = absurd (intact_or_broken a b)
  one_end tail trailer ps qs f g (whole n m a p e) (faulty j s y k b q d) = absurd (n j s k)
  one_end tail trailer ps qs f g (whole n m a p e) (left o l q d) = absurd (l m)
  one_end tail trailer ps qs f g (whole n m a p e) (broken o l b q d) = absurd (intact_or_broken b a)
  one_end tail trailer ps qs f g (whole n m a p e) (whole o l b q d) = (p ∙ sym q, e ∙ sym d)

  -- an end isn't the begin of a valid extension
  no_end : (tail trailer rest : List ℕ) (ps : List Piece) (f : Option Fault) (i : Item) → IsItem tail i rest → Sound i
      → IsFileEnd kind bytes tail trailer ps f → ⊥
  no_end tail trailer rest ps f i h sound (faulty j r x k a p e) =
      let same : i ≡ j = ap (λ (z : Item × List ℕ). z.0) (one_item tail i j rest r h k) in
      sound x (subst (λ (z : Item). IsFault kind z x) (sym same) a)
  no_end tail trailer rest ps f i h sound (left n m p e) = n i rest h
  no_end tail trailer rest ps f i h sound (broken n m a p e) = n i rest h
  no_end tail trailer rest ps f i h sound (whole n m a p e) = n i rest h

  -- ---- extensions

  one_walk : (ext trailer tail end : List ℕ) (xs ys : List Item) (ps qs : List Piece) (f g : Option Fault)
      → AreItems ext xs tail → AreItems ext ys end → AreSound kind xs → AreSound kind ys
      → IsFileEnd kind bytes tail trailer ps f → IsFileEnd kind bytes end trailer qs g
      → AreSame (item_pieces xs ++ ps) (item_pieces ys ++ qs) f g
  one_walk ext trailer tail end [] [] ps qs f g h k a b x y =
      one_end tail trailer ps qs f g x
      (subst (λ (l : List ℕ). IsFileEnd kind bytes l trailer qs g) (sym k ∙ h) y)
  one_walk ext trailer tail end [] (j ∷ ys) ps qs f g h k a b x y =
      absurd (no_end ext trailer k.0 ps f j k.1 (All-head Sound j ys b)
      (subst (λ (l : List ℕ). IsFileEnd kind bytes l trailer ps f) (sym h) x))
  one_walk ext trailer tail end (i ∷ xs) [] ps qs f g h k a b x y =
      absurd (no_end ext trailer h.0 qs g i h.1 (All-head Sound i xs a)
      (subst (λ (l : List ℕ). IsFileEnd kind bytes l trailer qs g) (sym k) y))
  one_walk ext trailer tail end (i ∷ xs) (j ∷ ys) ps qs f g h k a b x y =
      let first = one_item ext i j h.0 k.0 h.1 k.1 in
      let item : i ≡ j = ap (λ (z : Item × List ℕ). z.0) first in
      let behind : h.0 ≡ k.0 = ap (λ (z : Item × List ℕ). z.1) first in
      let others = one_walk h.0 trailer tail end xs ys ps qs f g h.2
      (subst (λ (l : List ℕ). AreItems l ys end) (sym behind) k.2) (All-tail Sound i xs a) (All-tail Sound j ys b)
      x y in (
        ap (λ (z : Item). item_pieces (z ∷ xs) ++ ps) item
            ∙ ap (λ (l : List Piece). item_pieces (j ∷ []) ++ l) others.0,
        others.1,
      )

  -- ---- after the entries

  one_crowd : (version : Version) (t u : Bool) → IsCrowded kind version bytes t → IsCrowded kind version bytes u → t ≡ u
  one_crowd version t u h k =
      let place = marker_reading_one kind bytes h.0 k.0 h.1 k.1 in
      sym h.2 ∙ ap (λ (p : Option ℕ). nat_lt (most_entries (length bytes) p kind version) (count_of bytes)) place ∙ k.2

  not_crowded : (version : Version) → IsCrowded kind version bytes true → IsCrowded kind version bytes false → ⊥
  not_crowded version h k = let clash : true ≡ false = one_crowd version true false h k in absurd cc

  long : (after ext trailer : List ℕ) → after ≡ ext ++ trailer → length trailer ≡ id_len kind
      → length after < id_len kind → ⊥
  long after ext trailer e n lt = omega (arith, lt, n, ap length e ∙ length-append ext trailer)

  parted_so : (after ext trailer other last : List ℕ) → after ≡ ext ++ trailer → after ≡ other ++ last
      → length trailer ≡ id_len kind → length last ≡ id_len kind → (ext ≡ other) × (trailer ≡ last)
  parted_so after ext trailer other last e d n m = same_parts ext trailer other last (sym e ∙ d)
      (omega (arith, n, m, ap length e ∙ length-append ext trailer, ap length d ∙ length-append other last))

  one_behind : (version : Version) (ss : List Spelling) (after : List ℕ) (ps qs : List Piece) (f g : Option Fault)
      → IsBehindEntries kind version bytes ss after ps f → IsBehindEntries kind version bytes ss after qs g
      → AreSame ps qs f g
  one_behind version ss after ps qs f g (lacks lt n p e) (lacks l m q d) = (p ∙ sym q, e ∙ sym d)
  one_behind version ss after ps qs f g (lacks lt n p e) (crowded all c q d) = absurd (omega (arith, lt, all))
  one_behind version ss after ps qs f g (lacks lt n p e) (short all c s q d) = absurd (omega (arith, lt, all))
  one_behind version ss after ps qs f g (lacks lt n p e) (walked all c ys tail t x last h m k b q d) =
      absurd (omega (arith, lt, all))
  one_behind version ss after ps qs f g (crowded all c p e) (lacks lt n q d) = absurd (omega (arith, lt, all))
  one_behind version ss after ps qs f g (crowded all c p e) (crowded a b q d) = (p ∙ sym q, e ∙ sym d)
  one_behind version ss after ps qs f g (crowded all c p e) (short a b s q d) = absurd (not_crowded version c b)
  one_behind version ss after ps qs f g (crowded all c p e) (walked a u ys tail t x last h m k b q d) =
      absurd (not_crowded version c u)
  one_behind version ss after ps qs f g (short all c s p e) (lacks lt n q d) = absurd (omega (arith, lt, all))
  one_behind version ss after ps qs f g (short all c s p e) (crowded a b q d) = absurd (not_crowded version b c)
  one_behind version ss after ps qs f g (short all c s p e) (short a b r q d) = (p ∙ sym q, e ∙ sym d)
  one_behind version ss after ps qs f g (short all c s p e) (walked a u ys tail t x last h m k b q d) =
      absurd (long after x t h m s)
  one_behind version ss after ps qs f g (walked a u ys tail t x last h m k b q d) (lacks lt n p e) =
      absurd (omega (arith, lt, a))
  one_behind version ss after ps qs f g (walked a u ys tail t x last h m k b q d) (crowded all c p e) =
      absurd (not_crowded version c u)
  one_behind version ss after ps qs f g (walked a u ys tail t x last h m k b q d) (short all c s p e) =
      absurd (long after x t h m s)
  one_behind version ss after ps qs f g (walked a u xs tail t x last h m k b p d)
      (walked all c ys end trailer ext others parted len are sound q is_end) =
      let parts = parted_so after x t ext trailer h parted m len in
      let again = subst (λ (l : List ℕ). AreItems l ys end) (sym parts.0) are in
      let ended = subst (λ (l : List ℕ). IsFileEnd kind bytes end l others g) (sym parts.1) is_end in
      let same = one_walk x t tail end xs ys last others f g k again b sound d ended in
      (p ∙ same.0 ∙ sym q, same.1)

  ended : (version : Version) (ss : List Spelling) (after : List ℕ) (ps : List Piece) (f : Option Fault)
      → IsBehindEntries kind version bytes ss after ps f → IsEnded version kind (count_of bytes) ss after
  ended version ss after ps f (lacks lt n p e) = inr (lt, n)
  ended version ss after ps f (crowded all c p e) = inl all
  ended version ss after ps f (short all c s p e) = inl all
  ended version ss after ps f (walked all c xs tail t x last h m k b p d) = inl all

  -- ---- the whole

  one_headed : (v w : Version) (ss ts : List Spelling) (after end : List ℕ) (ps qs : List Piece) (f g : Option Fault)
      → v ≡ w → AreSpelled v kind None (drop header_len bytes) ss after
      → AreSpelled w kind None (drop header_len bytes) ts end → IsBehindEntries kind v bytes ss after ps f
      → IsBehindEntries kind w bytes ts end qs g → (ss ≡ ts) × AreSame ps qs f g
  one_headed v w ss ts after end ps qs f g e h k x y =
      let l = subst (λ (z : Version). AreSpelled z kind None (drop header_len bytes) ts end) (sym e) k in
      let z = subst (λ (z : Version). IsBehindEntries kind z bytes ts end qs g) (sym e) y in
      let front = one_front v kind (drop header_len bytes) (count_of bytes) ss ts after end h l
      (ended v ss after ps f x) (ended v ts end qs g z) in
      let same = one_behind v ss after ps qs f g x
      (subst (λ (r : List ℕ). IsBehindEntries kind v bytes ss r qs g) (sym front.1)
      (subst (λ (xs : List Spelling). IsBehindEntries kind v bytes xs end qs g) (sym front.0) z)) in
      (front.0, same)

pub one_division : (kind : Kind) (bytes : List ℕ) (rs ss : List Record) (ps qs : List Piece) (f g : Option Fault)
    → IsDivided kind bytes rs ps f → IsDivided kind bytes ss qs g → (rs ≡ ss) × (ps ≡ qs) × (f ≡ g)
one_division kind bytes rs ss ps qs f g (headless x e a p c) (headless y d b q h) =
    let again : ◌≡◌ {A = Result Version HeaderFault} (Err x) (Err y) = sym e ∙ d in
    let same : x ≡ y = cc in
    (a ∙ sym b, p ∙ sym q, c ∙ ap (λ (z : HeaderFault). Some (Header z)) same ∙ sym h)
one_division kind bytes rs ss ps qs f g (headless x e a p c) (headed v ts after behind is are r q h) =
    let clash : ◌≡◌ {A = Result Version HeaderFault} (Err x) (Ok v) = sym e ∙ is in absurd cc
one_division kind bytes rs ss ps qs f g (headed v ts after behind is are r q h) (headless x e a p c) =
    let clash : ◌≡◌ {A = Result Version HeaderFault} (Err x) (Ok v) = sym e ∙ is in absurd cc
one_division kind bytes rs ss ps qs f g (headed v xs after behind is are r p h)
    (headed w ys end others at spelled s q k) =
    let again : ◌≡◌ {A = Result Version HeaderFault} (Ok v) (Ok w) = sym is ∙ at in
    let version : v ≡ w = cc in
    let same = one_headed kind bytes v w xs ys after end behind others f g version are spelled h k in
    let pieces = ap (λ (l : List Spelling). entry_pieces 0 l ++ behind) same.0
    ∙ ap (λ (l : List Piece). entry_pieces 0 ys ++ l) same.1.0 in (
      r ∙ ap entries_spelled same.0 ∙ sym s,
      p ∙ ap (λ (l : List Piece). one_piece whats.Header (take header_len bytes) ++ l) pieces ∙ sym q,
      same.1.1,
    )
