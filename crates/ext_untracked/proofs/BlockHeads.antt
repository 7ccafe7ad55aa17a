-- What is read as the beginning of a block is spelled so, and what is spelled so is read.
use Rattle.std.proofs.Common.{◌≡◌, ℕ, zero, suc, ◌+◌, ◌-◌, ◌*◌, ◌/◌, ◌<◌, ◌≤◌, true, leb, List, [], ◌∷◌, ◌++◌, length}
use Rattle.std.proofs.Common.{Option, Some, None, refl, sym, ap, subst, ◌∙◌, arith, append_assoc}
use Rattle.std.specs.Option.{option_map}
use Rattle.std.proofs.lemmas.Bool.{leb-true, le-leb, and_parts, and_from}
use Rattle.std.proofs.lemmas.Option.{same_Some}
use Rattle.index_parts.proofs.Offsets.{offset_takes, offset_again}
use Rattle.index_parts.proofs.Splits.{split_takes, split_again}
use Rattle.index_parts.proofs.Steps.{bind_some, test_some}
use Rattle.index_parts.specs.Numbers.{IsUpTo}
use Rattle.index_parts.specs.ReadingSteps.{◌>>=◌, split_at_byte, offset_at}
use Rattle.ext_untracked.specs.Blocks.{BlockHead, IsBlockHead, HasBlockHead, SpellNames}
use Rattle.index_parts.specs.Limit.{IsWithin, is_within}
use Rattle.ext_untracked.specs.CacheSteps.{is_allowed, block_head_at, names_at, Start, start_at}
use Rattle.index_extensions.proofs.Limits.{within_from, within_true}

-- ---- the head

record Allowed (limit : Option ℕ) (h : BlockHead) (left : ℕ) : Type 0 where
  untracked : h.untracked ≤ left / 2
  subs : h.subs ≤ left / 2
  untracked_within : IsWithin limit (24 * h.untracked)
  subs_within : IsWithin limit (8 * h.subs)

allowed_parts : (limit : Option ℕ) (h : BlockHead) (left : ℕ) → is_allowed limit h left ≡ true → Allowed limit h left
allowed_parts limit h left e =
    let a = and_parts (leb h.untracked (left / 2)) _ e in
    let b = and_parts (leb h.subs (left / 2)) _ a.1 in
    let c = and_parts (is_within limit (24 * h.untracked)) (is_within limit (8 * h.subs)) b.1 in
    record {
      untracked = leb-true _ _ a.0;
      subs = leb-true _ _ b.0;
      untracked_within = within_from limit _ c.0;
      subs_within = within_from limit _ c.1;
    }

allowed_from : (limit : Option ℕ) (h : BlockHead) (left : ℕ) → Allowed limit h left → is_allowed limit h left ≡ true
allowed_from limit h left a =
    and_from _ _ (le-leb _ _ a.untracked) (and_from _ _ (le-leb _ _ a.subs)
    (and_from _ _ (within_true limit _ a.untracked_within) (within_true limit _ a.subs_within)))

pub block_head_takes : (limit : Option ℕ) (bytes : List ℕ) (x : BlockHead × List ℕ) → block_head_at limit bytes ≡ Some x
    → IsBlockHead limit bytes x.0 x.1
unfolding block_head_at
block_head_takes limit bytes x e =
    let a = bind_some (offset_at bytes) _ x e in
    let b = bind_some (offset_at a.0.1) _ x a.2 in
    let n = bind_some (split_at_byte 0 b.0.1) _ x b.2 in
    let untracked = offset_takes bytes a.0 a.1 in
    let subs = offset_takes a.0.1 b.0 b.1 in
    let name = split_takes 0 b.0.1 n.0 n.1 in
    let made : BlockHead = record { untracked = a.0.0; subs = b.0.0; name = n.0.0 } in
    let t = test_some (is_allowed limit made (length n.0.1)) (made, n.0.1) x n.2 in
    let ok = allowed_parts limit made (length n.0.1) t.0 in
    subst (λ (y : BlockHead × List ℕ). IsBlockHead limit bytes y.0 y.1) t.1 (record {
      first = untracked.spelling;
      second = subs.spelling;
      parts = untracked.parts ∙ ap (λ (l : List ℕ). untracked.spelling ++ l)
          (subs.parts ∙ ap (λ (l : List ℕ). subs.spelling ++ l) name.parts);
      is_untracked = untracked.is_offset;
      is_subs = subs.is_offset;
      is_name = subst (λ (l : List ℕ). IsUpTo 0 l n.0.0 n.0.1) name.parts name;
      room_for_untracked = ok.untracked;
      room_for_subs = ok.subs;
      untracked_within = ok.untracked_within;
      subs_within = ok.subs_within;
    })

pub block_head_again : (limit : Option ℕ) (bytes : List ℕ) (h : BlockHead) (rest : List ℕ)
    → IsBlockHead limit bytes h rest → block_head_at limit bytes ≡ Some (h, rest)
unfolding block_head_at
block_head_again limit bytes h rest p =
    let named : List ℕ = h.name ++ 0 ∷ rest in
    let one = offset_again (p.first ++ (p.second ++ named)) h.untracked (p.second ++ named)
    (record { spelling = p.first; parts = refl; is_offset = p.is_untracked }) in
    let two = offset_again (p.second ++ named) h.subs named
    (record { spelling = p.second; parts = refl; is_offset = p.is_subs }) in
    let three = split_again 0 named h.name rest p.is_name in
    let ok = allowed_from limit h (length rest) (record {
      untracked = p.room_for_untracked;
      subs = p.room_for_subs;
      untracked_within = p.untracked_within;
      subs_within = p.subs_within;
    }) in
    rw (p.parts, one, two, three, ok) refl

-- ---- names

names_by : (n : ℕ) (bytes : List ℕ) (x : List (List ℕ) × List ℕ) → names_at n bytes ≡ Some x
    → (length x.0 ≡ n) × SpellNames bytes x.0 x.1
names_by zero bytes x e =
    let is : ◌≡◌ {A = List (List ℕ) × List ℕ} ([], bytes) x = same_Some _ _ e in
    subst (λ (y : List (List ℕ) × List ℕ). (length y.0 ≡ 0) × SpellNames bytes y.0 y.1) is (refl, refl)
names_by (suc n) bytes x e =
    let a = bind_some (split_at_byte 0 bytes)
    (λ name. names_at n name.1 >>= λ names. Some (name.0 ∷ names.0, names.1)) x e in
    let b = bind_some (names_at n a.0.1) (λ names. Some (a.0.0 ∷ names.0, names.1)) x a.2 in
    let others = names_by n a.0.1 b.0 b.1 in
    let is : ◌≡◌ {A = List (List ℕ) × List ℕ} (a.0.0 ∷ b.0.0, b.0.1) x = same_Some _ _ b.2 in
    subst (λ (y : List (List ℕ) × List ℕ). (length y.0 ≡ suc n) × SpellNames bytes y.0 y.1) is
    (omega (arith, others.0), (a.0.1, split_takes 0 bytes a.0 a.1, others.1))

names_again : (names : List (List ℕ)) (bytes rest : List ℕ) → SpellNames bytes names rest
    → names_at (length names) bytes ≡ Some (names, rest)
names_again [] bytes rest p = ap (λ (l : List ℕ). Some ([], l)) p
names_again (name ∷ names) bytes rest p =
    let one = split_again 0 bytes name p.0 p.1 in
    let others = names_again names p.0 rest p.2 in
    rw (one, others) refl

-- names before others
abbrev pub ahead : List (List ℕ) → Option (List (List ℕ) × List ℕ) → Option (List (List ℕ) × List ℕ)
ahead before found = option_map (λ x. (before ++ x.0, x.1)) found

next_name : (n : ℕ) (bytes : List ℕ) → 0 < n → names_at n bytes
    ≡ (split_at_byte 0 bytes >>= λ name. names_at (n - 1) name.1 >>= λ names. Some (name.0 ∷ names.0, names.1))
next_name zero bytes h = absurd (omega arith)
next_name (suc n) bytes h = let e : suc n - 1 ≡ n = omega arith in rw e refl

ahead_one : (before : List (List ℕ)) (name : List ℕ) (found : Option (List (List ℕ) × List ℕ))
    → ahead before (found >>= λ names. Some (name ∷ names.0, names.1)) ≡ ahead (before ++ name ∷ []) found
ahead_one before name None = refl
ahead_one before name (Some x) = rw (append_assoc before (name ∷ []) x.0) refl

pub ahead_next : (before : List (List ℕ)) (n i : ℕ) (rest name after : List ℕ) → i < n
    → split_at_byte 0 rest ≡ Some (name, after)
    → ahead before (names_at (n - i) rest) ≡ ahead (before ++ name ∷ []) (names_at (n - (i + 1)) after)
ahead_next before n i rest name after lt e =
    let fewer : n - i - 1 ≡ n - (i + 1) = omega arith in
    rw (next_name (n - i) rest (omega arith), e, fewer) (ahead_one before name (names_at (n - (i + 1)) after))

-- ---- a block up to its directories

pub record IsStart (limit : Option ℕ) (bytes : List ℕ) (s : Start) (rest : List ℕ) : Type 0 where
  pub names : List ℕ
  pub is_head : IsBlockHead limit bytes (record { untracked = length s.untracked; subs = s.subs; name = s.name }) names
  pub are_names : SpellNames names s.untracked rest

pub start_takes : (limit : Option ℕ) (bytes : List ℕ) (x : Start × List ℕ) → start_at limit bytes ≡ Some x
    → IsStart limit bytes x.0 x.1
unfolding start_at
start_takes limit bytes x e =
    let h = bind_some (block_head_at limit bytes) _ x e in
    let n = bind_some (names_at h.0.0.untracked h.0.1) _ x h.2 in
    let names = names_by h.0.0.untracked h.0.1 n.0 n.1 in
    let head = block_head_takes limit bytes h.0 h.1 in
    let counted : IsBlockHead limit bytes (record { untracked = length n.0.0; subs = h.0.0.subs; name = h.0.0.name })
    h.0.1 = subst (λ (k : ℕ). IsBlockHead limit bytes
    (record { untracked = k; subs = h.0.0.subs; name = h.0.0.name }) h.0.1) (sym names.0) head in
    let made : Start × List ℕ = (record { name = h.0.0.name; untracked = n.0.0; subs = h.0.0.subs }, n.0.1) in
    let is : made ≡ x = same_Some _ _ n.2 in
    subst (λ (y : Start × List ℕ). IsStart limit bytes y.0 y.1) is
    (record { names = h.0.1; is_head = counted; are_names = names.1 })

pub start_again : (limit : Option ℕ) (bytes : List ℕ) (s : Start) (rest : List ℕ) → IsStart limit bytes s rest
    → start_at limit bytes ≡ Some (s, rest)
unfolding start_at
start_again limit bytes s rest p =
    let one = block_head_again limit bytes
    (record { untracked = length s.untracked; subs = s.subs; name = s.name }) p.names p.is_head in
    let two = names_again s.untracked p.names rest p.are_names in
    rw (one, two) refl

-- bytes have one start
pub one_start : (limit : Option ℕ) (bytes : List ℕ) (s t : Start) (rest end : List ℕ) → IsStart limit bytes s rest
    → IsStart limit bytes t end → (s ≡ t) × (rest ≡ end)
one_start limit bytes s t rest end p q =
    let same = same_Some {A = Start × List ℕ} (s, rest) (t, end)
    (sym (start_again limit bytes s rest p) ∙ start_again limit bytes t end q) in
    (ap (λ (x : Start × List ℕ). x.0) same, ap (λ (x : Start × List ℕ). x.1) same)

pub block_head_there : (limit : Option ℕ) (bytes : List ℕ) (h : BlockHead) (rest : List ℕ)
    → block_head_at limit bytes ≡ Some (h, rest) → HasBlockHead limit bytes
block_head_there limit bytes h rest e =
    record { head = h; rest = rest; is_head = block_head_takes limit bytes (h, rest) e }

-- a block up to its directories begins with a head
pub start_there : (limit : Option ℕ) (bytes : List ℕ) (s : Start) (rest : List ℕ)
    → start_at limit bytes ≡ Some (s, rest) → HasBlockHead limit bytes
start_there limit bytes s rest e =
    let p = start_takes limit bytes (s, rest) e in
    record {
      head = record { untracked = length s.untracked; subs = s.subs; name = s.name };
      rest = p.names;
      is_head = p.is_head;
    }
