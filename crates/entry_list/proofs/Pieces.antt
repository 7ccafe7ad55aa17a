-- What was read is spelled so, and what is spelled so is read: piece by piece.
use Rattle.std.proofs.Common.{◌≡◌, ℕ, ◌+◌, ◌-◌, ◌%◌, ◌≤◌, Bool, true, false, cond, eqb, List, [], ◌∷◌, ◌++◌, length}
use Rattle.std.proofs.Common.{Some, None, refl, sym, ap, subst, ◌∙◌, append_assoc, arith}
use Rattle.std.specs.Prelude.{MatchBool, bit_and}
use Rattle.std.proofs.lemmas.Bool.{eqb-true, eq-eqb}
use Rattle.std.proofs.lemmas.List.{length-append}
use Rattle.std.proofs.lemmas.Option.{same_Some}
use Rattle.index_parts.proofs.Splits.{piece_takes, piece_again, split_takes, split_again}
use Rattle.index_parts.proofs.Steps.{bind_some, test_some}
use Rattle.entry_fields.specs.Flags.{is_extended}
use Rattle.index_parts.specs.Numbers.{be, IsUpTo}
use Rattle.index_parts.specs.Id.{id_len}
use Rattle.index_parts.specs.ReadingSteps.{◌>>=◌, piece_at, split_at_byte}
use Rattle.index_parts.specs.declared.hash.Kind.{Kind}
use Rattle.entry_list.specs.Entry.{EntryHead, head_bytes, length_field, IsSecondWord, IsEntryHead, IsPath, IsEntry23}
use Rattle.entry_list.specs.EntrySteps.{HeadValues, IsLong, record_from, second_at, head_at, path_at, entry23_at}
use Rattle.entry_list.specs.Record.{Record}

abbrev pub values_of : EntryHead → HeadValues
values_of f = record { numbers = f.numbers; id = f.id; flags = be f.word; extended = be f.second }

-- ---- the second word

second_by : (word : ℕ) (b : Bool) (bytes : List ℕ) (x : ℕ × List ℕ)
    → cond b (piece_at 2 bytes >>= λ second. cond (eqb (bit_and (be second.0) 0x6000) (be second.0))
    (Some (be second.0, second.1)) None) (Some (0, bytes)) ≡ Some x
    → (s : List ℕ) × (bytes ≡ s ++ x.1) × MatchBool b ((length s ≡ 2) × (bit_and (be s) 0x6000 ≡ be s)) (s ≡ [])
    × (be s ≡ x.0)
second_by word true bytes x e =
    let b = bind_some (piece_at 2 bytes)
    (λ second. cond (eqb (bit_and (be second.0) 0x6000) (be second.0)) (Some (be second.0, second.1)) None) x e in
    let p = piece_takes 2 bytes b.0 b.1 in
    let g = test_some (eqb (bit_and (be b.0.0) 0x6000) (be b.0.0)) (be b.0.0, b.0.1) x b.2 in
    subst (λ (y : ℕ × List ℕ). (s : List ℕ) × (bytes ≡ s ++ y.1) × ((length s ≡ 2) × (bit_and (be s) 0x6000 ≡ be s))
    × (be s ≡ y.0)) g.1 (b.0.0, p.0, (p.1, eqb-true _ _ g.0), refl)
second_by word false bytes x e =
    let is : ◌≡◌ {A = ℕ × List ℕ} (0, bytes) x = cc in
    subst (λ (y : ℕ × List ℕ). (s : List ℕ) × (bytes ≡ s ++ y.1) × (s ≡ []) × (be s ≡ y.0)) is ([], refl, refl, refl)

pub second_takes : (word : ℕ) (bytes : List ℕ) (x : ℕ × List ℕ) → second_at word bytes ≡ Some x
    → (s : List ℕ) × (bytes ≡ s ++ x.1) × IsSecondWord word s × (be s ≡ x.0)
unfolding second_at
second_takes word bytes x e = second_by word (is_extended word) bytes x e

second_back : (b : Bool) (s t : List ℕ) → MatchBool b ((length s ≡ 2) × (bit_and (be s) 0x6000 ≡ be s)) (s ≡ [])
    → cond b (◌>>=◌ {B = ℕ × List ℕ} (piece_at 2 (s ++ t)) (λ second.
    cond (eqb (bit_and (be second.0) 0x6000) (be second.0)) (Some (be second.0, second.1)) None)) (Some (0, s ++ t))
    ≡ Some (be s, t)
second_back true s t h = rw (piece_again 2 s t h.0, eq-eqb _ _ h.1) refl
second_back false s t h = rw h refl

pub second_again : (word : ℕ) (s t : List ℕ) → IsSecondWord word s → second_at word (s ++ t) ≡ Some (be s, t)
unfolding second_at
second_again word s t h = second_back (is_extended word) s t h

-- ---- all up to the path

pub head_takes : (kind : Kind) (bytes : List ℕ) (x : HeadValues × List ℕ) → head_at kind bytes ≡ Some x
    → (f : EntryHead) × IsEntryHead kind f × (bytes ≡ head_bytes f ++ x.1) × (values_of f ≡ x.0)
unfolding head_at
head_takes kind bytes x e =
    let a = bind_some (piece_at 40 bytes) (λ numbers. piece_at (id_len kind) numbers.1 >>= λ id.
    piece_at 2 id.1 >>= λ word. second_at (be word.0) word.1 >>= λ second.
    Some (record { numbers = numbers.0; id = id.0; flags = be word.0; extended = second.0 }, second.1)) x e in
    let b = bind_some (piece_at (id_len kind) a.0.1)
    (λ id. piece_at 2 id.1 >>= λ word. second_at (be word.0) word.1 >>= λ second.
    Some (record { numbers = a.0.0; id = id.0; flags = be word.0; extended = second.0 }, second.1)) x a.2 in
    let c = bind_some (piece_at 2 b.0.1) (λ word. second_at (be word.0) word.1 >>= λ second.
    Some (record { numbers = a.0.0; id = b.0.0; flags = be word.0; extended = second.0 }, second.1)) x b.2 in
    let d = bind_some (second_at (be c.0.0) c.0.1) (λ second.
    Some (record { numbers = a.0.0; id = b.0.0; flags = be c.0.0; extended = second.0 }, second.1)) x c.2 in
    let ta = piece_takes 40 bytes a.0 a.1 in
    let tb = piece_takes (id_len kind) a.0.1 b.0 b.1 in
    let tc = piece_takes 2 b.0.1 c.0 c.1 in
    let td = second_takes (be c.0.0) c.0.1 d.0 d.1 in
    let f : EntryHead = record { numbers = a.0.0; id = b.0.0; word = c.0.0; second = td.0 } in
    let made : HeadValues × List ℕ =
    (record { numbers = a.0.0; id = b.0.0; flags = be c.0.0; extended = d.0.0 }, d.0.1) in
    let is : made ≡ x = same_Some _ _ d.2 in
    let whole : bytes ≡ head_bytes f ++ d.0.1 = ta.0 ∙ ap (λ (t : List ℕ). a.0.0 ++ t) (tb.0
    ∙ ap (λ (t : List ℕ). b.0.0 ++ t) (tc.0 ∙ ap (λ (t : List ℕ). c.0.0 ++ t) td.1)) ∙ sym (simp append_assoc) in
    let values : values_of f ≡ made.0 =
    ap (λ (n : ℕ). record { numbers = a.0.0; id = b.0.0; flags = be c.0.0; extended = n }) td.3 in
    subst (λ (y : HeadValues × List ℕ). (g : EntryHead) × IsEntryHead kind g × (bytes ≡ head_bytes g ++ y.1)
    × (values_of g ≡ y.0)) is (f, record { numbers = ta.1; id = tb.1; word = tc.1; second = td.2 }, whole, values)

pub head_again : (kind : Kind) (f : EntryHead) (t : List ℕ) → IsEntryHead kind f
    → head_at kind (head_bytes f ++ t) ≡ Some (values_of f, t)
unfolding head_at
head_again kind f t h =
    let regrouped : head_bytes f ++ t ≡ f.numbers ++ (f.id ++ (f.word ++ (f.second ++ t))) = simp append_assoc in
    ap (head_at kind) regrouped ∙ rw (
      piece_again 40 f.numbers (f.id ++ (f.word ++ (f.second ++ t))) h.numbers,
      piece_again (id_len kind) f.id (f.word ++ (f.second ++ t)) h.id,
      piece_again 2 f.word (f.second ++ t) h.word,
      second_again (be f.word) f.second t h.second,
    ) refl

-- ---- the path

path_by : (t : Bool) (field : ℕ) (bytes : List ℕ) (x : List ℕ × List ℕ)
    → cond t (split_at_byte 0 bytes >>= λ s. piece_at (length s.0) bytes) (piece_at field bytes) ≡ Some x
    → (bytes ≡ x.0 ++ x.1) × MatchBool t ((rest : List ℕ) × IsUpTo 0 (x.0 ++ x.1) x.0 rest) (length x.0 ≡ field)
path_by true field bytes x e =
    let a = bind_some (split_at_byte 0 bytes) (λ s. piece_at (length s.0) bytes) x e in
    let u = split_takes 0 bytes a.0 a.1 in
    let found : piece_at (length a.0.0) bytes ≡ Some (a.0.0, 0 ∷ a.0.1) =
    ap (piece_at (length a.0.0)) u.parts ∙ piece_again (length a.0.0) a.0.0 (0 ∷ a.0.1) refl in
    let is : ◌≡◌ {A = List ℕ × List ℕ} (a.0.0, 0 ∷ a.0.1) x = cc (found, a.2) in
    subst (λ (y : List ℕ × List ℕ). (bytes ≡ y.0 ++ y.1) × ((rest : List ℕ) × IsUpTo 0 (y.0 ++ y.1) y.0 rest)) is
    (u.parts, (a.0.1, subst (λ (w : List ℕ). IsUpTo 0 w a.0.0 a.0.1) u.parts u))
path_by false field bytes x e = piece_takes field bytes x e

pub path_takes : (field : ℕ) (bytes : List ℕ) (x : List ℕ × List ℕ) → path_at field bytes ≡ Some x
    → (bytes ≡ x.0 ++ x.1) × IsPath field x.0 x.1
unfolding path_at
path_takes field bytes x e = path_by (eqb field 0xfff) field bytes x e

path_back : (b : Bool) (field : ℕ) (p t : List ℕ)
    → MatchBool b ((rest : List ℕ) × IsUpTo 0 (p ++ t) p rest) (length p ≡ field)
    → cond b (split_at_byte 0 (p ++ t) >>= λ s. piece_at (length s.0) (p ++ t)) (piece_at field (p ++ t)) ≡ Some (p, t)
path_back true field p t h = ap (λ o. o >>= λ s. piece_at (length s.0) (p ++ t)) (split_again 0 (p ++ t) p h.0 h.1)
    ∙ piece_again (length p) p t refl
path_back false field p t h = piece_again field p t h

pub path_again : (field : ℕ) (p t : List ℕ) → IsPath field p t → path_at field (p ++ t) ≡ Some (p, t)
unfolding path_at
path_again field p t h = path_back (eqb field 0xfff) field p t h

-- ---- an entry

pub padded : (n : ℕ) → (n + (8 - n % 8)) % 8 ≡ 0
padded n = omega arith

padding_is : (n p : ℕ) → (n + p) % 8 ≡ 0 → 1 ≤ p → p ≤ 8 → p ≡ 8 - n % 8
padding_is n p h low high = omega arith

pub entry_takes : (kind : Kind) (bytes : List ℕ) (x : (HeadValues × List ℕ) × List ℕ) → entry23_at kind bytes ≡ Some x
    → IsEntry23 kind bytes (record_from kind x.0.0 x.0.1) x.1
unfolding entry23_at
entry_takes kind bytes x e =
    let a = bind_some (head_at kind bytes) (λ head. path_at (bit_and head.0.flags 0xfff) head.1 >>= λ path. piece_at
    (8 - (length bytes - length path.1) % 8) path.1 >>= λ padding. Some ((head.0, path.0), padding.1)) x e in
    let b = bind_some (path_at (bit_and a.0.0.flags 0xfff) a.0.1) (λ path. piece_at
    (8 - (length bytes - length path.1) % 8) path.1 >>= λ padding. Some ((a.0.0, path.0), padding.1)) x a.2 in
    let c = bind_some (piece_at (8 - (length bytes - length b.0.1) % 8) b.0.1)
    (λ padding. Some ((a.0.0, b.0.0), padding.1)) x b.2 in
    let ta = head_takes kind bytes a.0 a.1 in
    let tb = path_takes (bit_and a.0.0.flags 0xfff) a.0.1 b.0 b.1 in
    let tc = piece_takes (8 - (length bytes - length b.0.1) % 8) b.0.1 c.0 c.1 in
    let f = ta.0 in
    let before : ℕ = length (head_bytes f) + length b.0.0 in
    let len : length bytes ≡ before + length b.0.1 =
    omega (arith, ap length ta.2, length-append (head_bytes f) a.0.1, ap length tb.0, length-append b.0.0 b.0.1) in
    let pad : length c.0.0 ≡ 8 - before % 8 =
    rw (← (let k : length bytes - length b.0.1 ≡ before = omega arith in k)) tc.1 in
    let made : (HeadValues × List ℕ) × List ℕ = ((a.0.0, b.0.0), c.0.1) in
    let is : made ≡ x = cc in
    subst (λ (y : (HeadValues × List ℕ) × List ℕ). IsEntry23 kind bytes (record_from kind y.0.0 y.0.1) y.1) is (record {
      head = f;
      is_head = ta.1;
      padding = c.0.0;
      parts = ta.2 ∙ ap (λ (t : List ℕ). head_bytes f ++ t) (tb.0 ∙ ap (λ (t : List ℕ). b.0.0 ++ t) tc.0);
      path = subst (λ (v : HeadValues). IsPath (bit_and v.flags 0xfff) b.0.0 (c.0.0 ++ c.0.1)) (sym ta.3)
          (subst (λ (t : List ℕ). IsPath (bit_and a.0.0.flags 0xfff) b.0.0 t) tc.0 tb.1);
      some_padding = omega arith;
      small_padding = omega arith;
      whole = rw pad (padded before);
      is = ap (λ (v : HeadValues). record_from kind v b.0.0) (sym ta.3);
    })

pub entry_again : (kind : Kind) (bytes : List ℕ) (r : Record) (rest : List ℕ) (h : IsEntry23 kind bytes r rest)
    → entry23_at kind bytes ≡ Some ((values_of h.head, r.path), rest)
unfolding entry23_at
entry_again kind bytes r rest h =
    let tail : List ℕ = h.padding ++ rest in
    let one : head_at kind bytes ≡ Some (values_of h.head, r.path ++ tail) =
    ap (head_at kind) h.parts ∙ head_again kind h.head (r.path ++ tail) h.is_head in
    let two : path_at (length_field h.head) (r.path ++ tail) ≡ Some (r.path, tail) = path_again _ r.path tail h.path in
    let before : ℕ = length (head_bytes h.head) + length r.path in
    let len : length bytes - length tail ≡ before = omega (
      arith,
      ap length h.parts,
      length-append (head_bytes h.head) (r.path ++ tail),
      length-append r.path tail,
    ) in
    let three : piece_at (8 - (length bytes - length tail) % 8) tail ≡ Some (h.padding, rest) = piece_again _ h.padding
    rest (rw len (padding_is before (length h.padding) h.whole h.some_padding h.small_padding)) in
    rw (one, two, three) refl

pub head_long : (kind : Kind) (bytes : List ℕ) (x : HeadValues × List ℕ) → head_at kind bytes ≡ Some x → IsLong kind x.0
head_long kind bytes x e =
    let t = head_takes kind bytes x e in
    subst (λ (v : HeadValues). IsLong kind v) t.3 (t.1.numbers, t.1.id)

pub entry_long : (kind : Kind) (bytes : List ℕ) (x : (HeadValues × List ℕ) × List ℕ) → entry23_at kind bytes ≡ Some x
    → IsLong kind x.0.0
unfolding entry23_at
entry_long kind bytes x e =
    let a = bind_some (head_at kind bytes) (λ head. path_at (bit_and head.0.flags 0xfff) head.1 >>= λ path. piece_at
    (8 - (length bytes - length path.1) % 8) path.1 >>= λ padding. Some ((head.0, path.0), padding.1)) x e in
    let b = bind_some (path_at (bit_and a.0.0.flags 0xfff) a.0.1) (λ path. piece_at
    (8 - (length bytes - length path.1) % 8) path.1 >>= λ padding. Some ((a.0.0, path.0), padding.1)) x a.2 in
    let c = bind_some (piece_at (8 - (length bytes - length b.0.1) % 8) b.0.1)
    (λ padding. Some ((a.0.0, b.0.0), padding.1)) x b.2 in
    let made : (HeadValues × List ℕ) × List ℕ = ((a.0.0, b.0.0), c.0.1) in
    let is : made ≡ x = cc in
    subst (λ (y : (HeadValues × List ℕ) × List ℕ). IsLong kind y.0.0) is (head_long kind bytes a.0 a.1)
