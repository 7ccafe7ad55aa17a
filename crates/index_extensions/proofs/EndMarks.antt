-- The marker that is read is in the bytes, and a marker that is in the bytes is read.
use Rattle.std.proofs.Common.{◌≡◌, ℕ, ◌+◌, ◌-◌, ◌≤◌, Bool, true, false, cond, ltb, eqb, not, List, [], ◌∷◌, ◌++◌}
use Rattle.std.proofs.Common.{length, take, drop, Some, None, Option, refl, sym, ap, append_assoc, subst, ◌∙◌, arith}
use Rattle.std.specs.List.{starts_with}
use Rattle.std.specs.Prelude.{IfNone, IfSome}
use Rattle.std.specs.Cmp.Lexicographic.{pointwise}
use Rattle.std.proofs.lemmas.Bool.{ltb-false, le-ltb, not-true, not-false}
use Rattle.std.proofs.lemmas.Bool.Decides.{Decides-eqb}
use Rattle.std.proofs.lemmas.List.{take_at, drop_at, take-append-drop, length-append, length-take, length-drop}
use Rattle.std.proofs.lemmas.List.{append-nil, drop-append-le, nil_from_length}
use Rattle.std.proofs.lemmas.Option.{same_Some}
use Rattle.std.proofs.lemmas.Slice.Eq.{starts_is, slice_eq-Decides}
use Rattle.index_parts.proofs.Splits.{piece_takes, piece_again}
use Rattle.index_parts.proofs.Steps.{bind_some}
use Rattle.index_parts.specs.Digest.{digest}
use Rattle.index_parts.specs.Numbers.{be}
use Rattle.index_parts.specs.ReadingSteps.{◌>>=◌, piece_at}
use Rattle.index_parts.specs.declared.hash.Kind.{Kind}
use Rattle.index_parts.specs.declared.hash.Kind.TheVariants.{Sha1}
use Rattle.index_extensions.specs.EndMarker.{heads, EndsInMarker, IsMarker}
use Rattle.index_extensions.specs.WalkSteps.{ending_of, marker_start, offset_in, marker_at}
use Rattle.index_extensions.specs.Walk.{Item, AreItems}
use Rattle.index_extensions.proofs.Walks.{walk_one, no_empty}

pub heads_push : (items : List Item) (i : Item) → heads (items ++ i ∷ []) ≡ heads items ++ (i.signature ++ i.size)
heads_push [] i = append-nil (i.signature ++ i.size)
heads_push (x ∷ items) i = ap (λ (l : List ℕ). (x.signature ++ x.size) ++ l) (heads_push items i)
    ∙ sym (append_assoc (x.signature ++ x.size) (heads items) (i.signature ++ i.size))

-- extensions that are all of some bytes are one or more
pub some_items : (items : List Item) (bytes rest hash : List ℕ) → (length bytes ≡ 0 → ⊥) → length rest ≡ 0
    → AreItems bytes items rest → hash ≡ digest Sha1 (heads items)
    → (first : Item) × (others : List Item) × AreItems bytes (first ∷ others) []
    × (hash ≡ digest Sha1 (heads (first ∷ others)))
some_items [] bytes rest hash some none h e = absurd (some (ap length h ∙ none))
some_items (i ∷ items) bytes rest hash some none h e =
    (i, items, subst (λ (r : List ℕ). AreItems bytes (i ∷ items) r) (nil_from_length rest none) h, e)

-- and have one digest
pub heads_one : (bytes : List ℕ) (xs ys : List Item) → AreItems bytes xs [] → AreItems bytes ys []
    → digest Sha1 (heads xs) ≡ digest Sha1 (heads ys)
heads_one bytes xs ys h k = ap (λ (items : List Item). digest Sha1 (heads items)) (walk_one bytes xs ys [] []
    (record { items_are = h; ended = no_empty }) (record { items_are = k; ended = no_empty })).0

-- ---- the pieces of bytes with a marker, after skipped ones: its offset, the bytes from there to it, and its digest

pub record HasMarker (skipped : ℕ) (bytes : List ℕ) (x : ℕ × List ℕ × List ℕ) : Type 0 where
  pub before : List ℕ
  pub offset : List ℕ
  pub trailer : List ℕ
  pub parts : bytes ≡ before ++ (x.1 ++ (marker_start ++ (offset ++ (x.2 ++ trailer))))
  pub offset_len : length offset ≡ 4
  pub hash_len : length x.2 ≡ 20
  pub trailer_len : length trailer ≡ 20
  pub is_offset : be offset ≡ skipped + length before
  pub behind_header : 12 ≤ skipped + length before
  pub place_is : x.0 ≡ skipped + length before

starts_whole : (l s : List ℕ) → length l ≡ length s → starts_with eqb l s ≡ true → l ≡ s
starts_whole l s n e =
    let none : drop (length s) l ≡ [] = nil_from_length (drop (length s) l) (omega (arith, length-drop (length s) l)) in
    (starts_is Decides-eqb l s (starts_with eqb l s) refl).0 e ∙ ap (λ (t : List ℕ). s ++ t) none ∙ append-nil s

four_guards : {A : Type 0} (s t u v : Bool) (o : Option A) (y : A)
    → cond s None (cond t (cond u None (cond v None o)) None) ≡ Some y
    → (s ≡ false) × (t ≡ true) × (u ≡ false) × (v ≡ false) × (o ≡ Some y)
four_guards true t u v o y e = absurd cc
four_guards false false u v o y e = absurd cc
four_guards false true true v o y e = absurd cc
four_guards false true false true o y e = absurd cc
four_guards false true false false o y e = (refl, refl, refl, refl, e)

pub marker_takes : (skipped : ℕ) (bytes : List ℕ) (x : ℕ × List ℕ × List ℕ) → marker_at skipped bytes ≡ Some x
    → HasMarker skipped bytes x
unfolding marker_at
marker_takes skipped bytes x e =
    let n = length bytes - 52 in
    let end = ending_of bytes in
    let before = take n bytes in
    let off = offset_in end in
    let behind = drop 4 (drop 8 end) in
    let g = four_guards (ltb (length bytes) 52) (starts_with eqb (take 8 end) marker_start) (ltb off 12)
    (ltb off skipped) (piece_at (off - skipped) before >>= λ before. Some (off, before.1, take 20 behind)) x e in
    let b = bind_some (piece_at (off - skipped) before) (λ before. Some (off, before.1, take 20 behind)) x g.4 in
    let p = piece_takes (off - skipped) before b.0 b.1 in
    let long : 52 ≤ length bytes = ltb-false _ _ g.0 in
    let header : 12 ≤ off = ltb-false _ _ g.2 in
    let reached : skipped ≤ off = ltb-false _ _ g.3 in
    let place : off ≡ skipped + length b.0.0 = omega (arith, p.1, reached) in
    let end_len : length end ≡ 52 = omega (arith, length-drop n bytes) in
    let start : take 8 end ≡ marker_start =
    starts_whole (take 8 end) marker_start (omega (arith, length-take 8 end)) g.1 in
    let ends : end ≡ marker_start ++ (take 4 (drop 8 end) ++ (take 20 behind ++ drop 20 behind)) =
    sym (take-append-drop 8 end) ∙ ap (λ (l : List ℕ). l ++ drop 8 end) start
    ∙ ap (λ (l : List ℕ). marker_start ++ l) (sym (take-append-drop 4 (drop 8 end))
    ∙ ap (λ (l : List ℕ). take 4 (drop 8 end) ++ l) (sym (take-append-drop 20 behind))) in
    let whole : bytes ≡ b.0.0 ++ (b.0.1 ++ end) =
    sym (take-append-drop n bytes) ∙ ap (λ (l : List ℕ). l ++ end) p.0 ∙ append_assoc b.0.0 b.0.1 end in
    let found : HasMarker skipped bytes (off, b.0.1, take 20 behind) = record {
      before = b.0.0;
      offset = take 4 (drop 8 end);
      trailer = drop 20 behind;
      parts = whole ∙ ap (λ (l : List ℕ). b.0.0 ++ (b.0.1 ++ l)) ends;
      offset_len = omega (arith, length-take 4 (drop 8 end), length-drop 8 end);
      hash_len = omega (arith, length-take 20 behind, length-drop 4 (drop 8 end), length-drop 8 end);
      trailer_len = omega (arith, length-drop 20 behind, length-drop 4 (drop 8 end), length-drop 8 end);
      is_offset = place;
      behind_header = omega (arith, place, header);
      place_is = place;
    } in
    subst (λ (y : ℕ × List ℕ × List ℕ). HasMarker skipped bytes y) (same_Some (off, b.0.1, take 20 behind) x b.2) found

pub marker_again : (skipped : ℕ) (bytes : List ℕ) (x : ℕ × List ℕ × List ℕ) → HasMarker skipped bytes x
    → marker_at skipped bytes ≡ Some x
unfolding marker_at
marker_again skipped bytes x h =
    let between = x.1 in
    let tail = h.offset ++ (x.2 ++ h.trailer) in
    let end = marker_start ++ tail in
    let tail_len : length tail ≡ 44 = omega (
      arith,
      length-append h.offset (x.2 ++ h.trailer),
      length-append x.2 h.trailer,
      h.offset_len,
      h.hash_len,
      h.trailer_len,
    ) in
    let whole : bytes ≡ (h.before ++ between) ++ end = h.parts ∙ sym (append_assoc h.before between end) in
    let len : length bytes ≡ length (h.before ++ between) + 52 =
    omega (arith, ap length whole, length-append (h.before ++ between) end, length-append marker_start tail) in
    let n : length bytes - 52 ≡ length (h.before ++ between) = omega arith in
    let ends : drop (length bytes - 52) bytes ≡ end =
    ap (λ (k : ℕ). drop k bytes) n ∙ ap (drop (length (h.before ++ between))) whole
    ∙ drop_at (h.before ++ between) end (length (h.before ++ between)) refl in
    let before : take (length bytes - 52) bytes ≡ h.before ++ between =
    ap (λ (k : ℕ). take k bytes) n ∙ ap (take (length (h.before ++ between))) whole
    ∙ take_at (h.before ++ between) end (length (h.before ++ between)) refl in
    let off : be (take 4 tail) ≡ skipped + length h.before =
    ap be (take_at h.offset (x.2 ++ h.trailer) 4 h.offset_len) ∙ h.is_offset in
    let hash : take 20 (drop 4 tail) ≡ x.2 =
    ap (take 20) (drop_at h.offset (x.2 ++ h.trailer) 4 h.offset_len) ∙ take_at x.2 h.trailer 20 h.hash_len in
    let one : ltb (length bytes) 52 ≡ false = le-ltb _ _ (omega arith) in
    let three : ltb (skipped + length h.before) 12 ≡ false = le-ltb _ _ h.behind_header in
    let four : ltb (skipped + length h.before) skipped ≡ false = le-ltb _ _ (omega arith) in
    let left : skipped + length h.before - skipped ≡ length h.before = omega arith in
    rw (
      one,
      ends,
      before,
      off,
      hash,
      three,
      four,
      left,
      piece_again (length h.before) h.before between refl,
      h.place_is,
    ) refl

-- a marker of the last bytes is one of all, and one of all bytes that names a place among the last is one of those
has_whole : (before rest : List ℕ) (skipped : ℕ) (x : ℕ × List ℕ × List ℕ) → length before ≡ skipped
    → HasMarker skipped rest x → HasMarker 0 (before ++ rest) x
has_whole before rest skipped x len h =
    let more : length (before ++ h.before) ≡ skipped + length h.before =
    omega (arith, length-append before h.before, len) in
    record {
      before = before ++ h.before;
      offset = h.offset;
      trailer = h.trailer;
      parts = ap (λ (l : List ℕ). before ++ l) h.parts ∙ sym (append_assoc before h.before _);
      offset_len = h.offset_len;
      hash_len = h.hash_len;
      trailer_len = h.trailer_len;
      is_offset = omega (arith, h.is_offset, more);
      behind_header = omega (arith, h.behind_header, more);
      place_is = omega (arith, h.place_is, more);
    }

has_rest : (before rest : List ℕ) (skipped : ℕ) (x : ℕ × List ℕ × List ℕ) → length before ≡ skipped → skipped ≤ x.0
    → HasMarker 0 (before ++ rest) x → HasMarker skipped rest x
has_rest before rest skipped x len le h =
    let within : skipped ≤ length h.before = omega (arith, h.place_is, le) in
    let less : skipped + length (drop skipped h.before) ≡ length h.before =
    omega (arith, length-drop skipped h.before, within) in
    record {
      before = drop skipped h.before;
      offset = h.offset;
      trailer = h.trailer;
      parts =
          sym (drop_at before rest skipped len) ∙ ap (drop skipped) h.parts ∙ drop-append-le skipped h.before _ within;
      offset_len = h.offset_len;
      hash_len = h.hash_len;
      trailer_len = h.trailer_len;
      is_offset = omega (arith, h.is_offset, less);
      behind_header = omega (arith, h.behind_header, less);
      place_is = omega (arith, h.place_is, less);
    }

-- ---- the marker over the extensions

marked_sha1 : (kind : Kind) (bytes : List ℕ) (place : ℕ) → EndsInMarker kind bytes place → EndsInMarker Sha1 bytes place
marked_sha1 kind bytes place h = subst (λ (t : Kind). EndsInMarker t bytes place) h.is_sha1 h

marked_has : (bytes : List ℕ) (place : ℕ) (h : EndsInMarker Sha1 bytes place)
    → HasMarker 0 bytes (place, h.between, h.hash)
marked_has bytes place h = record {
  before = h.before;
  offset = h.offset;
  trailer = h.trailer;
  parts = h.parts;
  offset_len = h.offset_len;
  hash_len = h.hash_len;
  trailer_len = h.trailer_len;
  is_offset =
      omega (arith, h.is_offset);
  behind_header = omega (arith, h.behind_header);
  place_is = omega (arith, h.place_is);
}

marked_of : (bytes : List ℕ) (x : ℕ × List ℕ × List ℕ) → HasMarker 0 bytes x → (first : Item) (others : List Item)
    → AreItems x.1 (first ∷ others) [] → x.2 ≡ digest Sha1 (heads (first ∷ others)) → EndsInMarker Sha1 bytes x.0
marked_of bytes x m first others items e = record {
  before = m.before;
  between = x.1;
  offset = m.offset;
  hash = x.2;
  trailer = m.trailer;
  is_sha1 = refl;
  parts = m.parts;
  offset_len = m.offset_len;
  hash_len = m.hash_len;
  trailer_len = m.trailer_len;
  is_offset = omega (arith, m.is_offset);
  behind_header = omega (arith, m.behind_header);
  first = first;
  others = others;
  items = items;
  is_digest = e;
  place_is = omega (arith, m.place_is);
}

-- ---- what is read from the last bytes holds for all of them

module _ (before rest : List ℕ) (skipped : ℕ) (len : length before ≡ skipped) where
  pub marked_from : (x : ℕ × List ℕ × List ℕ) → marker_at skipped rest ≡ Some x → (first : Item) (others : List Item)
      → AreItems x.1 (first ∷ others) [] → x.2 ≡ digest Sha1 (heads (first ∷ others))
      → EndsInMarker Sha1 (before ++ rest) x.0
  marked_from x e = marked_of (before ++ rest) x (has_whole before rest skipped x len (marker_takes skipped rest x e))

  reads : (place : ℕ) (h : EndsInMarker Sha1 (before ++ rest) place) → skipped ≤ place
      → marker_at skipped rest ≡ Some (place, h.between, h.hash)
  reads place h le = marker_again skipped rest (place, h.between, h.hash)
      (has_rest before rest skipped (place, h.between, h.hash) len le (marked_has (before ++ rest) place h))

  -- what a marker implies about the pieces that were read
  pub marked_same : (place : ℕ) (x : ℕ × List ℕ × List ℕ) → EndsInMarker Sha1 (before ++ rest) place → skipped ≤ place
      → marker_at skipped rest ≡ Some x
      → (first : Item) × (others : List Item) × AreItems x.1 (first ∷ others) []
      × (x.2 ≡ digest Sha1 (heads (first ∷ others))) × (x.0 ≡ place)
  marked_same place x h le e =
      let same : ◌≡◌ {A = ℕ × List ℕ × List ℕ} (place, h.between, h.hash) x =
      same_Some (place, h.between, h.hash) x (sym (reads place h le) ∙ e) in
      subst (λ (y : ℕ × List ℕ × List ℕ). (first : Item) × (others : List Item) × AreItems y.1 (first ∷ others) []
      × (y.2 ≡ digest Sha1 (heads (first ∷ others))) × (y.0 ≡ place)) same
      (h.first, h.others, h.items, h.is_digest, refl)

  pub marked_none : (kind : Kind) (place : ℕ) → marker_at skipped rest ≡ None → skipped ≤ place
      → EndsInMarker kind (before ++ rest) place → ⊥
  marked_none kind place e le h =
      let m = marked_sha1 kind (before ++ rest) place h in
      absurd (cc (reads place m le, e))

  pub marked_items : (kind : Kind) (place : ℕ) (x : ℕ × List ℕ × List ℕ) → marker_at skipped rest ≡ Some x
      → ((first : Item) (others : List Item) → AreItems x.1 (first ∷ others) [] → ⊥) → skipped ≤ place
      → EndsInMarker kind (before ++ rest) place → ⊥
  marked_items kind place x e none le h =
      let m = marked_same place x (marked_sha1 kind (before ++ rest) place h) le e in
      none m.0 m.1 m.2

  pub marked_digest : (kind : Kind) (place : ℕ) (x : ℕ × List ℕ × List ℕ) (first : Item) (others : List Item)
      → marker_at skipped rest ≡ Some x → AreItems x.1 (first ∷ others) []
      → (digest Sha1 (heads (first ∷ others)) ≡ x.2 → ⊥) → skipped ≤ place → EndsInMarker kind (before ++ rest) place
      → ⊥
  marked_digest kind place x first others e items other le h =
      let m = marked_same place x (marked_sha1 kind (before ++ rest) place h) le e in
      other (heads_one x.1 (first ∷ others) (m.0 ∷ m.1) items m.2 ∙ sym m.3)

-- bytes have one marker, or none
pub marked_one : (kind : Kind) (bytes : List ℕ) (p q : ℕ) → EndsInMarker kind bytes p → EndsInMarker kind bytes q
    → p ≡ q
marked_one kind bytes p q h k =
    let a = marked_sha1 kind bytes p h in
    let b = marked_sha1 kind bytes q k in
    (marked_same [] bytes 0 refl q (p, a.between, a.hash) b (omega arith) (reads [] bytes 0 refl p a (omega arith))).4

-- what is read if no bytes are missing
pub marked_whole : (kind : Kind) (bytes : List ℕ) (o : Option ℕ)
    → IfSome o (λ place. (before : List ℕ) → length before ≡ 0 → EndsInMarker kind (before ++ bytes) place)
    → IfNone o ((before : List ℕ) (place : ℕ) → length before ≡ 0 → 0 ≤ place
    → EndsInMarker kind (before ++ bytes) place → ⊥) → IsMarker kind bytes o
marked_whole kind bytes (Some place) found none = found [] refl
marked_whole kind bytes None found none = λ place h. none [] place refl (omega arith) h

-- ---- digests compared byte for byte

pub bytes_agree : (xs ys : List ℕ) → not (pointwise eqb xs ys) ≡ false → xs ≡ ys
bytes_agree xs ys e = (slice_eq-Decides Decides-eqb xs ys (pointwise eqb xs ys) refl).0 (not-false _ e)

pub bytes_differ : (xs ys : List ℕ) → not (pointwise eqb xs ys) ≡ true → xs ≡ ys → ⊥
bytes_differ xs ys e same =
    let t : pointwise eqb xs ys ≡ true = (slice_eq-Decides Decides-eqb xs ys (pointwise eqb xs ys) refl).1 same in
    let f : pointwise eqb xs ys ≡ false = not-true _ e in
    cc
