-- The changes of lines, line after line.
use Rattle.std.proofs.Common.{◌≡◌, ◌≤◌, ◌<◌, ◌⊎◌, ◌∙◌, ◌+◌, ◌==◌, ℕ, Bool, true, false, List, [], ◌∷◌, ◌++◌}
use Rattle.std.proofs.Common.{length, get_or, All, Option, None, Some, Ok, Err, map, ap, sym, refl, inl, inr, arith}
use Rattle.std.proofs.Common.{append_assoc}
use Rattle.std.specs.Prelude.{position}
use Rattle.std.specs.List.{after_first, before_first, position_or_len, slice_split}
use Rattle.std.proofs.lemmas.Bool.{cases_lt, le-ltb, lt-ltb}
use Rattle.std.proofs.lemmas.List.{drop_all, map-append, take_all}
use Rattle.std.proofs.lemmas.List.Splits.{length-slice_split, slice_split_first, slice_split_none}
use Rattle.std.proofs.lemmas.List.Sums.{fails_before_first, position_or_len_is}
use Rattle.memchr.specs.Find.{IsFirstByte}
use Rattle.index_parts.specs.declared.hash.Kind.{Kind}
use Rattle.entry_info.specs.Line.{ChangeValue, Read, change_of}
use Rattle.entry_info.specs.Text.{lines_of, right, without_empty_end}
use Rattle.entry_info.specs.declared.error.Fault.{Fault}

-- ---- the first byte

never : (b : Bool) → (b ≡ true → ⊥) → b ≡ false
never true h = absurd (h refl)
never false h = refl

pub first_place : (p : ℕ → Bool) (text : List ℕ) (r : Option ℕ) → IsFirstByte p text r → r ≡ position p text
first_place p text None h =
    let at : position_or_len p text ≡ length text = position_or_len_is p text (length text) 0 (omega arith)
    (λ k lt. never (p (get_or text k 0)) (h k (omega arith) lt)) (λ lt. absurd (omega arith)) in
    rw (at, le-ltb (length text) (length text) (omega arith)) refl
first_place p text (Some place) h =
    let at : position_or_len p text ≡ place = position_or_len_is p text place 0 (omega (arith, h.0.high))
    (λ k lt. never (p (get_or text k 0)) (h.0.before k (omega arith) lt)) (λ lt. h.1) in
    rw (at, lt-ltb place (length text) h.0.high) refl

-- ---- the first line

more_parts : (part : List ℕ) (parts : List (List ℕ)) → 0 < length parts
    → without_empty_end (part ∷ parts) ≡ part ∷ without_empty_end parts
more_parts part [] some = absurd (omega arith)
more_parts [] (next ∷ parts) some = refl
more_parts (b ∷ part) (next ∷ parts) some = refl

whole : (text : List ℕ) → 0 < length text → without_empty_end (text ∷ []) ≡ text ∷ []
whole [] some = absurd (omega arith)
whole (b ∷ text) some = refl

module _ (end : ℕ) (text : List ℕ) (some : 0 < length text) where
  abbrev ends : ℕ → Bool
  ends b = b == end

  one_line : length text ≤ position_or_len ends text
      → lines_of end text ≡ before_first ends text ∷ lines_of end (after_first ends text)
  one_line le =
      let none : All (λ b. ends b ≡ false) text = λ k d lt. fails_before_first ends text k d (omega arith) in
      let all : before_first ends text ≡ text = take_all (position_or_len ends text) text le in
      let rest : after_first ends text ≡ [] = drop_all (position_or_len ends text + 1) text (omega arith) in
      rw (slice_split_none ends text none, all, rest) (whole text some)

  more_lines : position_or_len ends text < length text
      → lines_of end text ≡ before_first ends text ∷ lines_of end (after_first ends text)
  more_lines lt =
      let rest = after_first ends text in
      ap without_empty_end (slice_split_first ends text 0 lt)
      ∙ more_parts (before_first ends text) (slice_split ends rest) (omega (arith, length-slice_split ends rest))

  by_place : (position_or_len ends text < length text) ⊎ (length text ≤ position_or_len ends text)
      → lines_of end text ≡ before_first ends text ∷ lines_of end (after_first ends text)
  by_place (inl lt) = more_lines lt
  by_place (inr le) = one_line le

  pub lines_first : lines_of end text ≡ before_first ends text ∷ lines_of end (after_first ends text)
  lines_first = by_place (cases_lt (position_or_len ends text) (length text))

-- the same of a line and what follows it, as they were found
pub next_line : (end found : ℕ) (text line rest : List ℕ) → found ≡ end → 0 < length text
    → line ≡ before_first (λ b. b == found) text → rest ≡ after_first (λ b. b == found) text
    → lines_of end text ≡ line ∷ lines_of end rest
next_line end found text line rest is some first after = rw (first, after, is) (lines_first end text some)

-- ---- the changes of lines

-- the changes that were read, and those of the lines after them
abbrev pub left : Bool → Kind → List ChangeValue → List (List ℕ) → List (Read ChangeValue)
left nul kind done lines = right done ++ map (λ line. change_of nul kind line) lines

module _ (nul : Bool) (kind : Kind) (done : List ChangeValue) (line : List ℕ) (lines : List (List ℕ)) where
  pub one_read : (c : ChangeValue) → change_of nul kind line ≡ Ok c
      → left nul kind done (line ∷ lines) ≡ left nul kind (done ++ c ∷ []) lines
  one_read c e =
      ap (λ (r : Read ChangeValue). right done ++ r ∷ map (λ l. change_of nul kind l) lines) e
      ∙ sym (append_assoc (right done) (Ok c ∷ []) (map (λ l. change_of nul kind l) lines))
      ∙ ap (λ (l : List (Read ChangeValue)). l ++ map (λ x. change_of nul kind x) lines)
      (sym (map-append (λ (x : ChangeValue). Ok x) done (c ∷ [])))

  pub one_wrong : (fault : Fault) → change_of nul kind line ≡ Err fault → left nul kind done (line ∷ lines)
      ≡ right done ++ Err fault ∷ map (λ l. change_of nul kind l) lines
  one_wrong fault e = ap (λ (r : Read ChangeValue). right done ++ r ∷ map (λ l. change_of nul kind l) lines) e
