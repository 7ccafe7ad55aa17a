-- The boxes of parts that cover a file fill its bar.
use Rattle.std.proofs.Common.{◌≡◌, ℕ, ◌+◌, ◌-◌, ◌*◌, ◌^◌, ◌<◌, ◌≤◌, List, [], ◌∷◌, Bool, true, false, length, refl, sym}
use Rattle.std.proofs.Common.{ap, ◌∙◌, subst, arith}
use Rattle.std.proofs.Math.Nat.{mul-div_right, zero-div}
use Rattle.std.specs.Prelude.{min, slice_get}
use Rattle.view_layout.specs.Piece.{LieBetween}
use Rattle.view_layout.specs.declared.part.Part.{Part}
use Rattle.view_layout.specs.Cover.{FillBar, TouchBetween, boxes_of}
use Rattle.view_layout.specs.Groups.{go_together, group_before, grouped}
use Rattle.view_layout.specs.Scale.{bar_width, box_width, drawn_len, end_or_zero, scaled}
use Rattle.view_layout.proofs.Scaled.{scaled_rises}

scaled_none : (len : ℕ) → scaled len 0 ≡ 0
unfolding scaled
scaled_none len =
    let e : min 0 len * 8800 ≡ 0 = omega arith in
    rw e (zero-div len)

scaled_all : (len : ℕ) → 0 < len → scaled len len ≡ bar_width
unfolding scaled
scaled_all len h =
    let e : min len len ≡ len = omega arith in
    rw e (mul-div_right 8800 h)

-- a box ends at the begin of the next one
next_begin : (len place : ℕ) (p : Part) → p.offset ≡ place
    → scaled len (place + p.len) ≡ scaled len place + box_width len p
next_begin len place p e = rw (sym e) (omega (arith, scaled_rises len p.offset (p.offset + p.len) (omega arith)))

touching : (len place : ℕ) (parts : List Part) → LieBetween place parts len
    → TouchBetween (scaled len place) (boxes_of len parts) (scaled len len)
touching len place [] h = ap (scaled len) h
touching len place (p ∷ parts) h = (
  ap (scaled len) h.0,
  subst (λ (x : ℕ). TouchBetween x (boxes_of len parts) (scaled len len)) (next_begin len place p h.0)
      (touching len (place + p.len) parts h.1),
)

pub filled : (parts : List Part) (len : ℕ) → 0 < len → LieBetween 0 parts len → FillBar len parts
filled parts len h between =
    subst (λ (x : ℕ). TouchBetween 0 (boxes_of len parts) x) (scaled_all len h)
    (subst (λ (x : ℕ). TouchBetween x (boxes_of len parts) (scaled len len)) (scaled_none len)
    (touching len 0 parts between))

between_rises : (place end : ℕ) (parts : List Part) → LieBetween place parts end → place ≤ end
between_rises place end [] h = omega (arith, h)
between_rises place end (p ∷ parts) h = omega (arith, between_rises (place + p.len) end parts h.1)

between_if : (b : Bool) (place end : ℕ) (p q : Part) (groups : List Part) → go_together p.what q.what ≡ b
    → end < 2 ^ 64 → p.offset ≡ place
    → LieBetween (place + p.len) (q ∷ groups) end → LieBetween place (group_before p (q ∷ groups)) end
between_if true place end p q groups e lt at h =
    let all : min (p.len + q.len) 0xffffffffffffffff ≡ p.len + q.len =
    omega (arith, between_rises (place + p.len + q.len) end groups h.1) in
    let there : place + p.len + q.len ≡ place + min (p.len + q.len) 0xffffffffffffffff = omega (arith, all) in
    rw e (at, subst (λ (x : ℕ). LieBetween x groups end) there h.1)
between_if false place end p q groups e lt at h = rw e (at, h)

between_before : (place end : ℕ) (p : Part) (groups : List Part) → end < 2 ^ 64 → p.offset ≡ place
    → LieBetween (place + p.len) groups end → LieBetween place (group_before p groups) end
between_before place end p [] lt at h = (at, h)
between_before place end p (q ∷ groups) lt at h =
    between_if (go_together p.what q.what) place end p q groups refl lt at h

between_groups : (place end : ℕ) (parts : List Part) → end < 2 ^ 64 → LieBetween place parts end
    → LieBetween place (grouped parts) end
between_groups place end [] lt h = h
between_groups place end (p ∷ parts) lt h =
    between_before place end p (grouped parts) lt h.0 (between_groups (place + p.len) end parts lt h.1)

pub filled_by_groups : (parts : List Part) (len : ℕ) → 0 < len → len < 2 ^ 64 → LieBetween 0 parts len
    → FillBar len (grouped parts)
filled_by_groups parts len h lt between = filled (grouped parts) len h (between_groups 0 len parts lt between)

-- the end of parts, of which one is the first
last_end : (place len : ℕ) (p : Part) (parts : List Part) → LieBetween place (p ∷ parts) len
    → end_or_zero (slice_get (p ∷ parts) (length parts)) ≡ len
last_end place len p [] h = ap (λ (n : ℕ). n + p.len) h.0 ∙ h.1
last_end place len p (q ∷ parts) h = last_end (place + p.len) len q parts h.1

pub drawn_all : (parts : List Part) (len : ℕ) → LieBetween 0 parts len → drawn_len parts ≡ len
drawn_all [] len h = h
drawn_all (p ∷ parts) len h =
    let e : length parts ≡ length (p ∷ parts) - 1 = omega arith in
    subst (λ (n : ℕ). end_or_zero (slice_get (p ∷ parts) n) ≡ len) e (last_end 0 len p parts h)
