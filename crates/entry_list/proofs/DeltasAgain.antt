-- An entry of version 4 that was written is read again, as what a file keeps of it.
use Rattle.std.proofs.Common.{◌≡◌, ℕ, ◌+◌, ◌-◌, ◌^◌, ◌<◌, ◌≤◌, List, [], ◌∷◌, ◌++◌, length, take, drop, All, Option}
use Rattle.std.proofs.Common.{Some, None, refl, sym, ap, ◌∙◌, append_assoc, length-append, length-drop}
use Rattle.std.proofs.Common.{take-append-drop, arith}
use Rattle.std.specs.Prelude.{◌≢◌}
use Rattle.std.proofs.lemmas.List.Elements.{All-drop}
use Rattle.index_parts.proofs.Encodings.{offset_is, offset_some}
use Rattle.index_parts.specs.Offset.{offset_bytes}
use Rattle.index_parts.specs.declared.hash.Kind.{Kind}
use Rattle.entry_list.specs.Entry.{head_bytes, record_of, joined_path, CanStrip, IsEntry4}
use Rattle.entry_list.specs.EntryImage.{delta_bytes, head_of, stored_record}
use Rattle.entry_list.specs.Record.{Record}
use Rattle.entry_list.specs.Shared.{shared_len}
use Rattle.entry_list.proofs.Again.{IsStorableIn, head_is, record_again}
use Rattle.entry_list.proofs.Lengths.{delta_len}
use Rattle.entry_list.proofs.SharedFronts.{shared_front, shared_within, shared_within_second}

-- the path before an entry, and none before the first
abbrev pub IsBefore : Option (List ℕ) → List ℕ → Type 0
IsBefore None previous = previous ≡ []
IsBefore (Some path) previous = path ≡ previous

abbrev stripped_of : List ℕ → List ℕ → ℕ
stripped_of previous path = length previous - shared_len previous path

joined_again : (before : Option (List ℕ)) (previous path : List ℕ) → IsBefore before previous
    → CanStrip before (stripped_of previous path)
    × (joined_path before (stripped_of previous path) (drop (shared_len previous path) path) ≡ path)
joined_again None previous path h = (tt, rw h refl)
joined_again (Some p) previous path h =
    let n : ℕ = shared_len previous path in
    let kept : length previous - (length previous - n) ≡ n = omega (arith, shared_within previous path) in
    rw h (
      omega arith,
      ap (λ (k : ℕ). take k previous ++ drop n path) kept
          ∙ ap (λ (l : List ℕ). l ++ drop n path) (shared_front previous path) ∙ take-append-drop n path,
    )

delta_parts : (f o t rest : List ℕ) → (f ++ (o ++ (t ++ 0 ∷ []))) ++ rest ≡ f ++ (o ++ (t ++ 0 ∷ rest))
delta_parts f o t rest = simp append_assoc refl

-- A tail may be empty, and its NUL is searched for in at least two bytes. So at least one byte must follow the entry.
pub delta_again : (kind : Kind) (before : Option (List ℕ)) (previous : List ℕ) (r : Record) (rest : List ℕ)
    → IsBefore before previous → IsStorableIn kind r → All (λ b. b ≢ 0) r.path → length previous < 2 ^ 64
    → 1 ≤ length rest
    → IsEntry4 kind before (delta_bytes previous r ++ rest) (stored_record r) rest
unfolding delta_bytes
delta_again kind before previous r rest is h apart small some =
    let n : ℕ = stripped_of previous r.path in
    let tail : List ℕ = drop (shared_len previous r.path) r.path in
    let joined = joined_again before previous r.path is in
    record {
      head = head_of r;
      is_head = head_is kind r h;
      after = offset_bytes n ++ (tail ++ 0 ∷ rest);
      parts = delta_parts (head_bytes (head_of r)) (offset_bytes n) tail rest;
      stripped = n;
      delta = tail ++ 0 ∷ rest;
      is_offset = record { spelling = offset_bytes n; parts = refl; is_offset = offset_is n (omega arith) };
      tail = tail;
      is_tail = record {
        parts = refl;
        apart = All-drop (λ b. b ≢ 0) (shared_len previous r.path) r.path apart;
        two = omega (arith, length-append tail (0 ∷ rest));
      };
      can_strip = joined.0;
      is = record_again kind r h ∙ ap (record_of kind (head_of r)) (sym joined.1);
    }

-- ---- how many bytes it has

pub delta_smallest : (previous : List ℕ) (r : Record)
    → length (head_bytes (head_of r)) + 2 ≤ length (delta_bytes previous r)
unfolding delta_bytes
delta_smallest previous r =
    let n : ℕ = stripped_of previous r.path in
    omega (
      arith,
      delta_len (head_bytes (head_of r)) (offset_bytes n) (drop (shared_len previous r.path) r.path),
      offset_some n,
    )

-- a path is no longer than the one before and the entry
pub delta_path : (previous : List ℕ) (r : Record) → length r.path ≤ length previous + length (delta_bytes previous r)
unfolding delta_bytes
delta_path previous r =
    let n : ℕ = shared_len previous r.path in
    omega (
      arith,
      delta_len (head_bytes (head_of r)) (offset_bytes (length previous - n)) (drop n r.path),
      shared_within previous r.path,
      shared_within_second previous r.path,
      length-drop n r.path,
    )
