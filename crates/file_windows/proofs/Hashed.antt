-- What was hashed and counted of a file after bytes that were read of it, and the next piece.
use Rattle.std.proofs.Common.{◌≡◌, ◌<◌, ◌≤◌, ◌+◌, ◌-◌, ◌++◌, ℕ, List, [], length, take, drop, Bool, true, false, Option, inl, inr}
use Rattle.std.proofs.Common.{refl, sym, ap, subst, ◌∙◌, append_assoc, append-nil, arith}
use Rattle.std.specs.Prelude.{◌⊎◌, IfSome, slice_range}
use Rattle.std.specs.Io.{StartsWith, appended_bytes}
use Rattle.std.specs.Io.KnownBytes.{Consumes, IsAtEnd}
use Rattle.std.proofs.KnownBytes.{Consumes-nil, Consumes-trans, Consumes-whole, starts_with_rest}
use Rattle.std.proofs.Transfers.{starts_with_length}
use Rattle.std.proofs.lemmas.Bool.{cases_lt}
use Rattle.std.proofs.lemmas.List.{length-append, length-drop, take-append-drop}
use Rattle.index_parts.specs.Digest.{digest, hasher_kind, Holds}
use Rattle.index_parts.specs.Id.{id_len, make_id}
use Rattle.index_parts.specs.declared.hash.Hasher.{Hasher}
use Rattle.index_parts.specs.declared.hash.Kind.{Kind}
use Rattle.index_parts.specs.declared.hash.ObjectId.{ObjectId}
use Rattle.file_windows.specs.Intact.{checked_part, trailer_part}
use Rattle.file_windows.specs.ReadWhole.{AreHashed, AreFilePieces, PassesFront}
use Rattle.file_windows.specs.declared.disk.Pieces.{Pieces}
use Rattle.file_windows.proofs.Endings.{before_end, near_end}
use Rattle.file_windows.proofs.Fronts.{front_grown}

-- bytes were read after those before, and their total number is known; those in memory are hashed up to an index, if
-- they are to be hashed
pub record IsHashedOn (kind : Kind) (is_hashed is_held : Bool) (left now : Option (List ℕ)) (hasher : Hasher)
    (before bytes : List ℕ) (hashed len : ℕ) : Type 0 where
  pub gone : List ℕ
  pub more : List ℕ
  pub same : before ++ more ≡ gone ++ bytes
  pub consumed : Consumes left now more
  pub count : len ≡ length (before ++ more)
  pub holds : is_hashed ≡ true → Holds hasher (gone ++ take hashed bytes)
  pub is_kind : hasher_kind hasher ≡ kind
  pub within : hashed ≤ length bytes - id_len kind
  pub held : is_held ≡ true → gone ≡ []
  pub long : (gone ≡ []) ⊎ (id_len kind ≤ length bytes)

pub hashed_none : (kind : Kind) (is_hashed is_held : Bool) (left : Option (List ℕ)) (hasher : Hasher)
    (before : List ℕ) (len : ℕ) → Holds hasher [] → hasher_kind hasher ≡ kind → len ≡ length before
    → IsHashedOn kind is_hashed is_held left left hasher before before 0 len
hashed_none kind is_hashed is_held left hasher before len empty is_kind long = record {
  gone = [];
  more = [];
  same = append-nil before;
  consumed = Consumes-nil left;
  count = long ∙ ap length (sym (append-nil before));
  holds = λ _. empty;
  is_kind = is_kind;
  within = omega arith;
  held = λ _. refl;
  long = inl refl;
}

checked_of : (gone new : List ℕ) (n : ℕ) → (gone ≡ []) ⊎ (n ≤ length new)
    → take (length (gone ++ new) - n) (gone ++ new) ≡ gone ++ take (length new - n) new
checked_of gone new n (inl e) = rw e refl
checked_of gone new n (inr le) = before_end gone new n le

trailer_of : (gone new : List ℕ) (n : ℕ) → (gone ≡ []) ⊎ (n ≤ length new)
    → drop (length (gone ++ new) - n) (gone ++ new) ≡ drop (length new - n) new
trailer_of gone new n (inl e) = rw e refl
trailer_of gone new n (inr le) = near_end gone new n le

pub by_bool : {A : Type 0} (b : Bool) → (b ≡ true → A) → (b ≡ false → A) → A
by_bool true f g = f refl
by_bool false f g = g refl

not_both : {A : Type 0} (b : Bool) → b ≡ true → b ≡ false → A
not_both true y n = absurd cc
not_both false y n = absurd cc

longer : (gone old new : List ℕ) (n : ℕ) → length old ≤ length new → (gone ≡ []) ⊎ (n ≤ length old)
    → (gone ≡ []) ⊎ (n ≤ length new)
longer gone old new n le (inl e) = inl e
longer gone old new n le (inr h) = inr (omega arith)

left_long : (gone new : List ℕ) (n : ℕ) → (length new < n) ⊎ (n ≤ length new) → (gone ≡ []) ⊎ (n ≤ length new)
    → (gone ++ take (length new - n) new ≡ []) ⊎ (n ≤ length (drop (length new - n) new))
left_long gone new n (inr le) h = inr (omega (arith, length-drop (length new - n) new))
left_long gone new n (inl lt) (inr le) = absurd (omega arith)
left_long gone new n (inl lt) (inl e) =
    let none : length new - n ≡ 0 = omega arith in
    inl (rw (e, none) refl)

-- a piece came, and was passed except for the last bytes
module _ (kind : Kind) (is_hashed is_held : Bool) (left now next : Option (List ℕ)) (h i : Hasher)
    (before bytes new after : List ℕ) (hashed behind len count : ℕ)
    (s : IsHashedOn kind is_hashed is_held left now h before bytes hashed len)
    (grows : StartsWith new bytes) (came : Consumes now next (appended_bytes bytes new))
    (long : length new ≡ length bytes + count)
    (f : PassesFront kind is_hashed is_held hashed h i new after behind) where
  pub within_grown : hashed ≤ length new - id_len kind
  within_grown = omega (arith, s.within, starts_with_length new bytes grows)

  same_grown : before ++ (s.more ++ drop (length bytes) new) ≡ s.gone ++ new
  same_grown =
      let rest : List ℕ = drop (length bytes) new in
      sym (append_assoc before s.more rest) ∙ ap (λ (l : List ℕ). l ++ rest) s.same ∙ append_assoc s.gone bytes rest
      ∙ ap (λ (l : List ℕ). s.gone ++ l) (sym (starts_with_rest new bytes grows))

  consumed_grown : Consumes left next (s.more ++ drop (length bytes) new)
  consumed_grown = Consumes-trans left now next s.more (drop (length bytes) new) s.consumed came

  count_grown : len + count ≡ length (before ++ (s.more ++ drop (length bytes) new))
  count_grown = omega (
    arith,
    s.count,
    long,
    length-append before s.more,
    length-append before (s.more ++ drop (length bytes) new),
    length-append s.more (drop (length bytes) new),
    length-drop (length bytes) new,
  )

  holds_grown : is_hashed ≡ true → Holds i (s.gone ++ take (length new - id_len kind) new)
  holds_grown y =
      let end : ℕ = length new - id_len kind in
      let at : hashed ≤ length bytes = omega (arith, s.within) in
      subst (Holds i) (append_assoc s.gone (take hashed bytes) (slice_range new hashed end)
      ∙ ap (λ (l : List ℕ). s.gone ++ l) (front_grown bytes new hashed end grows at within_grown))
      (f.taken y (s.gone ++ take hashed bytes) (s.holds y))

  long_grown : (s.gone ≡ []) ⊎ (id_len kind ≤ length new)
  long_grown = longer s.gone bytes new (id_len kind) (starts_with_length new bytes grows) s.long

  step_held : is_held ≡ true → IsHashedOn kind is_hashed is_held left next i before after behind (len + count)
  step_held y = let e = f.held y in rw (e.0, e.1) (record {
    gone = s.gone;
    more = s.more ++ drop (length bytes) new;
    same = same_grown;
    consumed = consumed_grown;
    count = count_grown;
    holds = holds_grown;
    is_kind = f.kind_stays ∙ s.is_kind;
    within = omega arith;
    held = s.held;
    long = long_grown;
  })

  step_let_go : is_held ≡ false → IsHashedOn kind is_hashed is_held left next i before after behind (len + count)
  step_let_go n =
      let e = f.let_go n in
      let end : ℕ = length new - id_len kind in
      rw (e.0, e.1) (record {
        gone = s.gone ++ take end new;
        more = s.more ++ drop (length bytes) new;
        same = same_grown ∙ ap (λ (l : List ℕ). s.gone ++ l) (sym (take-append-drop end new))
            ∙ sym (append_assoc s.gone (take end new) (drop end new));
        consumed = consumed_grown;
        count = count_grown;
        holds = λ y. subst (Holds i) (sym (append-nil (s.gone ++ take end new))) (holds_grown y);
        is_kind = f.kind_stays ∙ s.is_kind;
        within = omega arith;
        held = λ y. not_both is_held y n;
        long = left_long s.gone new (id_len kind) (cases_lt (length new) (id_len kind)) long_grown;
      })

  pub hashed_on : IsHashedOn kind is_hashed is_held left next i before after behind (len + count)
  hashed_on = by_bool is_held step_held step_let_go

  -- the file is at its end
  hashed_all : is_hashed ≡ true → Holds i (checked_part kind (before ++ (s.more ++ drop (length bytes) new)))
  hashed_all y =
      subst (λ (l : List ℕ). Holds i (checked_part kind l)) (sym same_grown)
      (subst (Holds i) (sym (checked_of s.gone new (id_len kind) long_grown)) (holds_grown y))

  whole_grown : IsAtEnd next → IfSome left (λ l. s.more ++ drop (length bytes) new ≡ l)
  whole_grown end = Consumes-whole left next (s.more ++ drop (length bytes) new)
      (λ l. s.more ++ drop (length bytes) new ≡ l) consumed_grown end refl

  end_held : IsAtEnd next → is_held ≡ true
      → AreFilePieces kind is_hashed is_held left before after (record { len = len + count; hasher = i })
  end_held end y = let e = f.held y in rw e.0 (record {
    more = s.more ++ drop (length bytes) new;
    whole = whole_grown end;
    len = count_grown;
    is_kind = f.kind_stays ∙ s.is_kind;
    hashed = hashed_all;
    held = λ _. sym (same_grown ∙ ap (λ (l : List ℕ). l ++ new) (s.held y));
    let_go = λ n. not_both is_held y n;
  })

  end_let_go : IsAtEnd next → is_held ≡ false
      → AreFilePieces kind is_hashed is_held left before after (record { len = len + count; hasher = i })
  end_let_go end n = let e = f.let_go n in rw e.0 (record {
    more = s.more ++ drop (length bytes) new;
    whole = whole_grown end;
    len = count_grown;
    is_kind = f.kind_stays ∙ s.is_kind;
    hashed = hashed_all;
    held = λ y. not_both is_held y n;
    let_go = λ _. sym (ap (trailer_part kind) same_grown ∙ trailer_of s.gone new (id_len kind) long_grown);
  })

  pub hashed_end : IsAtEnd next
      → AreFilePieces kind is_hashed is_held left before after (record { len = len + count; hasher = i })
  hashed_end end = by_bool is_held (end_held end) (end_let_go end)

-- ---- the digest of all pieces

module _ (kind : Kind) (is_held : Bool) (left : Option (List ℕ)) (before after : List ℕ) (x : Pieces)
    (p : AreFilePieces kind true is_held left before after x) where
  pub digest_of_pieces : (id : ObjectId)
      → ((m : List ℕ) → Holds x.hasher m → id ≡ make_id (hasher_kind x.hasher) (digest (hasher_kind x.hasher) m))
      → AreHashed kind is_held left before after id
  digest_of_pieces id made = record {
    more = p.more;
    whole = p.whole;
    digest = made (checked_part kind (before ++ p.more)) (p.hashed refl) ∙ rw p.is_kind refl;
    held = p.held;
    let_go = p.let_go;
  }

  pub held_len : (most : ℕ) → x.len ≤ most → is_held ≡ true → length after ≤ most
  held_len most le y = omega (arith, le, p.len, ap length (p.held y))
