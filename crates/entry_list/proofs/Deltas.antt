-- What was read of an entry of version 4 is spelled so, and what is spelled so is read.
use Rattle.std.proofs.Common.{◌≡◌, ℕ, ◌-◌, ◌≤◌, ltb, List, [], ◌++◌, length, take, Option, Some, None, refl, sym, ap}
use Rattle.std.proofs.Common.{subst, ◌∙◌, arith}
use Rattle.std.specs.Prelude.{unwrap_or}
use Rattle.std.specs.Option.{option_map}
use Rattle.std.proofs.lemmas.Bool.{ltb-false, le-ltb}
use Rattle.std.proofs.lemmas.Option.{same_Some}
use Rattle.index_parts.proofs.Offsets.{offset_takes, offset_again}
use Rattle.index_parts.proofs.Splits.{split_takes, split_again}
use Rattle.index_parts.proofs.Steps.{bind_some, guard_some}
use Rattle.index_parts.specs.ReadingSteps.{◌>>=◌, split_at_byte, offset_at}
use Rattle.index_parts.specs.declared.hash.Kind.{Kind}
use Rattle.entry_list.specs.Entry.{record_of, IsEntry4, joined_path, CanStrip}
use Rattle.entry_list.specs.EntrySteps.{HeadValues, IsLong, record_from, head_at, shared_of, entry4_at}
use Rattle.entry_list.specs.Record.{Record}
use Rattle.entry_list.proofs.Pieces.{head_takes, head_again, head_long, values_of}

-- ---- an entry of version 4

pub kept_from : (previous : Option (List ℕ)) (room : Option ℕ) (n k : ℕ) (tail : List ℕ)
    → option_map length previous ≡ room → shared_of room n ≡ Some k
    → CanStrip previous n × (joined_path previous n tail ≡ take k (unwrap_or previous []) ++ tail)
kept_from None room n k tail e h =
    let zero-is : k ≡ 0 = cc (ap (λ (o : Option ℕ). shared_of o n) e, h) in
    (tt, rw zero-is refl)
kept_from (Some p) room n k tail e h =
    let h' : shared_of (Some (length p)) n ≡ Some k = ap (λ (o : Option ℕ). shared_of o n) e ∙ h in
    let g = guard_some (ltb (length p) n) (length p - n) k h' in
    (ltb-false _ _ g.0, rw (← g.1) refl)

kept_back : (previous : Option (List ℕ)) (n : ℕ) → CanStrip previous n
    → (k : ℕ) × (shared_of (option_map length previous) n ≡ Some k)
kept_back None n h = (0, refl)
kept_back (Some p) n h = (length p - n, rw (le-ltb _ _ h) refl)

kept_below : (room : Option ℕ) (n k : ℕ) → shared_of room n ≡ Some k → k ≤ unwrap_or room 0
kept_below None n k h = let is : 0 ≡ k = same_Some _ _ h in omega arith
kept_below (Some len) n k h = let g = guard_some (ltb len n) (len - n) k h in omega (arith, g.1)

pub entry4_takes : (kind : Kind) (previous : Option (List ℕ)) (room : Option ℕ) (bytes : List ℕ)
    (x : (HeadValues × ℕ × List ℕ) × List ℕ) → option_map length previous ≡ room → entry4_at kind room bytes ≡ Some x
    → IsEntry4 kind previous bytes (record_from kind x.0.0 (take x.0.1 (unwrap_or previous []) ++ x.0.2)) x.1
unfolding entry4_at
entry4_takes kind previous room bytes x room-is e =
    let a =
    bind_some (head_at kind bytes) (λ head. offset_at head.1 >>= λ stripped. shared_of room stripped.0 >>= λ shared.
    split_at_byte 0 stripped.1 >>= λ tail. Some ((head.0, shared, tail.0), tail.1)) x e in
    let b = bind_some (offset_at a.0.1) (λ stripped. shared_of room stripped.0 >>= λ shared.
    split_at_byte 0 stripped.1 >>= λ tail. Some ((a.0.0, shared, tail.0), tail.1)) x a.2 in
    let c = bind_some (shared_of room b.0.0)
    (λ shared. split_at_byte 0 b.0.1 >>= λ tail. Some ((a.0.0, shared, tail.0), tail.1)) x b.2 in
    let d = bind_some (split_at_byte 0 b.0.1) (λ tail. Some ((a.0.0, c.0, tail.0), tail.1)) x c.2 in
    let ta = head_takes kind bytes a.0 a.1 in
    let tb = offset_takes a.0.1 b.0 b.1 in
    let tc = kept_from previous room b.0.0 c.0 d.0.0 room-is c.1 in
    let td = split_takes 0 b.0.1 d.0 d.1 in
    let made : (HeadValues × ℕ × List ℕ) × List ℕ = ((a.0.0, c.0, d.0.0), d.0.1) in
    let is : made ≡ x = same_Some _ _ d.2 in
    subst (λ (y : (HeadValues × ℕ × List ℕ) × List ℕ). IsEntry4 kind previous bytes
    (record_from kind y.0.0 (take y.0.1 (unwrap_or previous []) ++ y.0.2)) y.1) is (record {
      head = ta.0;
      is_head = ta.1;
      after = a.0.1;
      stripped = b.0.0;
      delta = b.0.1;
      is_offset = tb;
      parts = ta.2;
      tail = d.0.0;
      is_tail = td;
      can_strip = tc.0;
      is = ap (λ (v : HeadValues). record_from kind v (take c.0 (unwrap_or previous []) ++ d.0.0)) (sym ta.3)
          ∙ ap (λ (p : List ℕ). record_of kind ta.0 p) (sym tc.1);
    })

pub entry4_long : (kind : Kind) (room : Option ℕ) (bytes : List ℕ) (x : (HeadValues × ℕ × List ℕ) × List ℕ)
    → entry4_at kind room bytes ≡ Some x → IsLong kind x.0.0 × (x.0.1 ≤ unwrap_or room 0)
unfolding entry4_at
entry4_long kind room bytes x e =
    let a =
    bind_some (head_at kind bytes) (λ head. offset_at head.1 >>= λ stripped. shared_of room stripped.0 >>= λ shared.
    split_at_byte 0 stripped.1 >>= λ tail. Some ((head.0, shared, tail.0), tail.1)) x e in
    let b = bind_some (offset_at a.0.1) (λ stripped. shared_of room stripped.0 >>= λ shared.
    split_at_byte 0 stripped.1 >>= λ tail. Some ((a.0.0, shared, tail.0), tail.1)) x a.2 in
    let c = bind_some (shared_of room b.0.0)
    (λ shared. split_at_byte 0 b.0.1 >>= λ tail. Some ((a.0.0, shared, tail.0), tail.1)) x b.2 in
    let d = bind_some (split_at_byte 0 b.0.1) (λ tail. Some ((a.0.0, c.0, tail.0), tail.1)) x c.2 in
    let made : (HeadValues × ℕ × List ℕ) × List ℕ = ((a.0.0, c.0, d.0.0), d.0.1) in
    let is : made ≡ x = same_Some _ _ d.2 in
    subst (λ (y : (HeadValues × ℕ × List ℕ) × List ℕ). IsLong kind y.0.0 × (y.0.1 ≤ unwrap_or room 0)) is
    (head_long kind bytes a.0 a.1, kept_below room b.0.0 c.0 c.1)

pub entry4_again : (kind : Kind) (previous : Option (List ℕ)) (bytes : List ℕ) (r : Record) (rest : List ℕ)
    (h : IsEntry4 kind previous bytes r rest)
    → (k : ℕ) × (shared_of (option_map length previous) h.stripped ≡ Some k)
    × (entry4_at kind (option_map length previous) bytes ≡ Some ((values_of h.head, k, h.tail), rest))
unfolding entry4_at
entry4_again kind previous bytes r rest h =
    let one : head_at kind bytes ≡ Some (values_of h.head, h.after) =
    ap (head_at kind) h.parts ∙ head_again kind h.head h.after h.is_head in
    let two : offset_at h.after ≡ Some (h.stripped, h.delta) = offset_again h.after h.stripped h.delta h.is_offset in
    let three = kept_back previous h.stripped h.can_strip in
    let four : split_at_byte 0 h.delta ≡ Some (h.tail, rest) = split_again 0 h.delta h.tail rest h.is_tail in
    (three.0, three.1, rw (one, two, three.1, four) refl)
