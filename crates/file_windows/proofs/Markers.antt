-- An end marker at the end of bytes whose front is gone.
use Rattle.std.proofs.Common.{◌≡◌, ℕ, ◌-◌, ◌≤◌, true, List, [], ◌++◌, length, take, drop, eqb}
use Rattle.std.proofs.Common.{refl, sym, ap, ◌∙◌, arith}
use Rattle.std.specs.List.{starts_with}
use Rattle.std.proofs.lemmas.Bool.Decides.{Decides-eqb}
use Rattle.std.proofs.lemmas.List.{length-append, length-drop, length-take, take-append-drop, append-nil}
use Rattle.std.proofs.lemmas.List.{nil_from_length}
use Rattle.std.proofs.lemmas.Slice.Eq.{starts_is}
use Rattle.index_parts.specs.Digest.{digest, hasher_kind, Holds}
use Rattle.index_parts.specs.Id.{id_bytes, make_id}
use Rattle.index_parts.specs.Numbers.{be}
use Rattle.index_parts.specs.declared.hash.Hasher.{Hasher}
use Rattle.index_parts.specs.declared.hash.Kind.{Kind}
use Rattle.index_parts.specs.declared.hash.Kind.TheVariants.{Sha1}
use Rattle.index_parts.specs.declared.hash.ObjectId.{ObjectId}
use Rattle.index_extensions.specs.EndMarker.{heads, EndsInMarker}
use Rattle.index_extensions.specs.WalkSteps.{marker_start}
use Rattle.index_extensions.proofs.EndMarks.{some_items}
use Rattle.file_windows.specs.Marked.{EndsAsMarker, HoldsHeads}

-- a list that starts with another of its length is that
starts_same : (l s : List ℕ) → length l ≡ length s → starts_with eqb l s ≡ true → l ≡ s
starts_same l s n e =
    let none : drop (length s) l ≡ [] = nil_from_length (drop (length s) l) (omega (arith, length-drop (length s) l)) in
    (starts_is Decides-eqb l s (starts_with eqb l s) refl).0 e ∙ ap (λ (t : List ℕ). s ++ t) none ∙ append-nil s

-- the content of the last bytes, if they begin as a marker does
pub marker_stands : (tail : List ℕ) → 52 ≤ length tail
    → starts_with eqb (take 8 (drop (length tail - 52) tail)) marker_start ≡ true
    → EndsAsMarker tail (be (take 4 (drop 8 (drop (length tail - 52) tail))))
    (take 20 (drop 4 (drop 8 (drop (length tail - 52) tail))))
marker_stands tail long e =
    let n = length tail - 52 in
    let end : List ℕ = drop n tail in
    let behind : List ℕ = drop 4 (drop 8 end) in
    let len : length end ≡ 52 = omega (arith, length-drop n tail) in
    let start : take 8 end ≡ marker_start = starts_same (take 8 end) marker_start (omega (arith, length-take 8 end)) e in
    record {
      front = take n tail;
      offset = take 4 (drop 8 end);
      trailer = drop 20 behind;
      parts = sym (take-append-drop n tail) ∙ ap (λ (l : List ℕ). take n tail ++ l) (sym (take-append-drop 8 end)
          ∙ ap (λ (l : List ℕ). l ++ drop 8 end) start
          ∙ ap (λ (l : List ℕ). marker_start ++ l) (sym (take-append-drop 4 (drop 8 end))
          ∙ ap (λ (l : List ℕ). take 4 (drop 8 end) ++ l) (sym (take-append-drop 20 behind))));
      offset_len = omega (arith, length-take 4 (drop 8 end), length-drop 8 end);
      hash_len = omega (arith, length-take 20 behind, length-drop 4 (drop 8 end), length-drop 8 end);
      trailer_len = omega (arith, length-drop 20 behind, length-drop 4 (drop 8 end), length-drop 8 end);
      is_offset = refl;
    }

-- it fits extensions of whose heads its digest is
pub marker_fits : (kind : Kind) (before passed end hash : List ℕ) (place : ℕ) (hasher : Hasher) (id : ObjectId)
    → kind ≡ Sha1 → length end ≡ 52 → 12 ≤ place → EndsAsMarker end place hash → length before ≡ place
    → (length passed ≡ 0 → ⊥) → HoldsHeads passed hasher
    → ((m : List ℕ) → Holds hasher m → id ≡ make_id (hasher_kind hasher) (digest (hasher_kind hasher) m))
    → id_bytes id ≡ hash → EndsInMarker kind (before ++ (passed ++ end)) place
marker_fits kind before passed end hash place hasher id sha1 len header m at some h made same =
    let none : m.front ≡ [] = nil_from_length m.front (omega (
      arith,
      len,
      ap length m.parts,
      length-append m.front (marker_start ++ (m.offset ++ (hash ++ m.trailer))),
      length-append marker_start (m.offset ++ (hash ++ m.trailer)),
      length-append m.offset (hash ++ m.trailer),
      length-append hash m.trailer,
      m.offset_len,
      m.hash_len,
      m.trailer_len,
    )) in
    let is : id_bytes id ≡ digest Sha1 (heads h.items) = ap id_bytes (made (heads h.items) h.hashed)
    ∙ ap (λ (k : Kind). id_bytes (make_id k (digest k (heads h.items)))) h.is_sha1 in
    let items = some_items h.items passed [] hash some refl h.are (sym same ∙ is) in
    record {
      before = before;
      between = passed;
      offset = m.offset;
      hash = hash;
      trailer = m.trailer;
      is_sha1 = sha1;
      parts = ap (λ (l : List ℕ). before ++ (passed ++ l)) (m.parts
          ∙ ap (λ (l : List ℕ). l ++ (marker_start ++ (m.offset ++ (hash ++ m.trailer)))) none);
      offset_len = m.offset_len;
      hash_len = m.hash_len;
      trailer_len = m.trailer_len;
      is_offset = m.is_offset ∙ sym at;
      behind_header = omega (arith, header, at);
      first = items.0;
      others = items.1;
      items = items.2;
      is_digest = items.3;
      place_is = sym at;
    }
