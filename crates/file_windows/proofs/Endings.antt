-- The end of bytes whose front was removed.
use Rattle.std.proofs.Common.{◌≡◌, ℕ, ◌+◌, ◌-◌, ◌≤◌, List, [], ◌++◌, length, take, drop, Bool, true, false, ltb, Option}
use Rattle.std.proofs.Common.{Some, None, refl, sym, ap, ◌∙◌, arith}
use Rattle.std.proofs.lemmas.List.{length-append}
use Rattle.std.proofs.Math.Seq.{drop-append-add, take-append-add}
use Rattle.std.proofs.lemmas.Bool.{le-ltb}
use Rattle.std.specs.List.{starts_with}
use Rattle.std.specs.Prelude.{nat_eq, MatchBool, ◌&&◌, ◌||◌, not, if◌then◌else◌}
use Rattle.std.proofs.lemmas.Option.{same_Some}
use Rattle.index_parts.specs.Id.{id_len, is_null, make_id}
use Rattle.index_parts.specs.Digest.{digest}
use Rattle.index_parts.specs.declared.hash.Kind.{Kind}
use Rattle.index_parts.specs.declared.hash.ObjectId.{ObjectId}
use Rattle.index_extensions.specs.EndMarker.{IsMarker}
use Rattle.index_extensions.specs.WalkSteps.{marker_at, marker_start}
use Rattle.index_extensions.proofs.EndMarks.{marked_none}
use Rattle.index_model.specs.Answer.{trailer_checksum}
use Rattle.file_windows.specs.Intact.{needs_check, trailer_part, IsIntact}

pub near_end : (before tail : List ℕ) (n : ℕ) → n ≤ length tail
    → drop (length (before ++ tail) - n) (before ++ tail) ≡ drop (length tail - n) tail
near_end before tail n le =
    let at : length (before ++ tail) - n ≡ length before + (length tail - n) =
    omega (arith, length-append before tail) in
    rw at (drop-append-add before tail (length tail - n))

pub before_end : (before tail : List ℕ) (n : ℕ) → n ≤ length tail
    → take (length (before ++ tail) - n) (before ++ tail) ≡ before ++ take (length tail - n) tail
before_end before tail n le =
    let at : length (before ++ tail) - n ≡ length before + (length tail - n) =
    omega (arith, length-append before tail) in
    rw at (take-append-add before tail (length tail - n))

marker_lacks : (before tail : List ℕ) → 52 ≤ length tail
    → starts_with nat_eq (take 8 (drop (length tail - 52) tail)) marker_start ≡ false
    → marker_at 0 (before ++ tail) ≡ None
unfolding marker_at
marker_lacks before tail long e =
    let enough : ltb (length (before ++ tail)) 52 ≡ false = le-ltb _ _ (omega (arith, length-append before tail)) in
    rw (enough, near_end before tail 52 long, e) refl

pub unmarked : (kind : Kind) (before tail : List ℕ) → 52 ≤ length tail
    → starts_with nat_eq (take 8 (drop (length tail - 52) tail)) marker_start ≡ false
    → IsMarker kind (before ++ tail) None
unmarked kind before tail long e =
    λ place h. marked_none [] (before ++ tail) 0 refl kind place (marker_lacks before tail long e) (omega arith) h

-- ---- the trailer

free_by : (s l n : Bool) (E : Type 0) → (s || n) ≡ true → MatchBool (not s && not l && not n) E (Unit {0})
free_by true true true E e = tt
free_by true true false E e = tt
free_by true false true E e = tt
free_by true false false E e = tt
free_by false true true E e = tt
free_by false true false E e = tt
free_by false false true E e = tt
free_by false false false E e = absurd cc

pub same_by : (t : Bool) (E : Type 0) → E → MatchBool t E (Unit {0})
same_by true E e = e
same_by false E e = tt

-- no digest is compared
pub intact_free : (skip : Bool) (kind : Kind) (m tail : List ℕ) → id_len kind ≤ length tail
    → (skip || is_null (drop (length tail - id_len kind) tail)) ≡ true → IsIntact skip kind (m ++ tail)
intact_free skip kind m tail le e = free_by skip (ltb (length (m ++ tail)) (id_len kind))
    (is_null (trailer_part kind (m ++ tail))) _ (rw (near_end m tail (id_len kind) le) e)

-- the digest is the trailer
pub intact_same : (skip : Bool) (kind : Kind) (m tail : List ℕ) → id_len kind ≤ length tail
    → make_id kind (digest kind (m ++ take (length tail - id_len kind) tail))
    ≡ make_id kind (drop (length tail - id_len kind) tail) → IsIntact skip kind (m ++ tail)
intact_same skip kind m tail le e = same_by (needs_check skip kind (m ++ tail)) _
    (ap (λ (l : List ℕ). make_id kind (digest kind l)) (before_end m tail (id_len kind) le) ∙ e
    ∙ ap (λ (l : List ℕ). make_id kind l) (sym (near_end m tail (id_len kind) le)))

pub not_true : (b : Bool) → not b ≡ true → b ≡ false
not_true true e = absurd cc
not_true false e = refl

pub or_right : (a b : Bool) → b ≡ true → (a || b) ≡ true
or_right true b e = refl
or_right false b e = e

-- ---- a trailer's checksum

none_null : (b : Bool) (x : ObjectId) → (if b then None else Some x) ≡ None → b ≡ true
none_null true x e = refl
none_null false x e = absurd cc

some_is : (b : Bool) (x y : ObjectId) → (if b then None else Some x) ≡ Some y → y ≡ x
some_is true x y e = absurd cc
some_is false x y e = sym (same_Some x y e)

-- a trailer without a checksum is null
pub null_trailer : (kind : Kind) (trailer : List ℕ) (o : Option ObjectId) → o ≡ trailer_checksum kind trailer → o ≡ None
    → is_null trailer ≡ true
null_trailer kind trailer o e n = none_null (is_null trailer) (make_id kind trailer) (sym e ∙ n)

-- the checksum of any other is the id with its bytes
pub trailer_is : (kind : Kind) (trailer : List ℕ) (o : Option ObjectId) (id : ObjectId)
    → o ≡ trailer_checksum kind trailer → o ≡ Some id → id ≡ make_id kind trailer
trailer_is kind trailer o id e s = some_is (is_null trailer) (make_id kind trailer) id (sym e ∙ s)
