-- How many bytes an entry has, and of which pieces.
use Rattle.std.proofs.Common.{◌≡◌, ℕ, ◌+◌, ◌-◌, ◌≤◌, Bool, true, false, cond, List, [], ◌∷◌, ◌++◌, length, drop, refl}
use Rattle.std.proofs.Common.{sym, arith, append_assoc, length-append, length-drop}
use Rattle.entry_fields.specs.Flags.{is_extended, extended_flags}
use Rattle.index_parts.specs.Id.{id_bytes}
use Rattle.index_parts.specs.Offset.{offset_bytes}
use Rattle.entry_list.specs.Entry.{head_bytes}
use Rattle.entry_list.specs.EntryImage.{be16, delta_bytes, numbers_of, first_word, head_of, second_word, unpadded}
use Rattle.entry_list.specs.Record.{Record}
use Rattle.entry_list.specs.Shared.{shared_len}
use Rattle.entry_list.proofs.SharedFronts.{shared_within_second}

words_len : (b : Bool) (n : ℕ) → length (cond b (be16 n) []) + 2 ≡ cond b 4 2
words_len true n = refl
words_len false n = refl

pub length_unpadded : (r : Record)
    → length (unpadded r) ≡ 40 + cond (is_extended r.flags) 4 2 + length (id_bytes r.id) + length r.path
unfolding unpadded numbers_of
length_unpadded r =
    let w : length (second_word r) + 2 ≡ cond (is_extended r.flags) 4 2 =
    words_len (is_extended r.flags) (extended_flags r.flags) in
    simp length-append (omega arith)

-- the pieces of an entry before its path
pub pieces_are : (r : Record) (n i w s : List ℕ) → n ≡ numbers_of r → i ≡ id_bytes r.id → w ≡ be16 (first_word r)
    → s ≡ second_word r → n ++ (i ++ (w ++ s)) ≡ head_bytes (head_of r)
pieces_are r n i w s e0 e1 e2 e3 = cc

pub unpadded_is : (r : Record) (l : List ℕ) → head_bytes (head_of r) ++ (r.path ++ l) ≡ unpadded r ++ l
unfolding unpadded
unpadded_is r l = sym (append_assoc (head_bytes (head_of r)) r.path l)

pub delta_is : (previous : List ℕ) (r : Record)
    → head_bytes (head_of r) ++ (offset_bytes (length previous - shared_len previous r.path)
    ++ (drop (shared_len previous r.path) r.path ++ 0 ∷ [])) ≡ delta_bytes previous r
unfolding delta_bytes
delta_is previous r = refl

pub delta_len : (f o t : List ℕ) → length (f ++ (o ++ (t ++ 0 ∷ []))) ≡ length f + (length o + (length t + 1))
delta_len f o t =
    omega (arith, length-append f (o ++ (t ++ 0 ∷ [])), length-append o (t ++ 0 ∷ []), length-append t (0 ∷ []))

-- the bytes of an entry of version 4: those up to the end of its path without the prefix that it shares with the path
-- before, the number and the NUL
pub length_delta : (previous : List ℕ) (r : Record) → length (delta_bytes previous r) + shared_len previous r.path
    ≡ length (unpadded r) + length (offset_bytes (length previous - shared_len previous r.path)) + 1
unfolding delta_bytes unpadded
length_delta previous r =
    let n : ℕ = shared_len previous r.path in
    omega (
      arith,
      delta_len (head_bytes (head_of r)) (offset_bytes (length previous - n)) (drop n r.path),
      length-drop n r.path,
      shared_within_second previous r.path,
      length-append (head_bytes (head_of r)) r.path,
    )

pub path_within : (r : Record) → length r.path ≤ length (unpadded r)
unfolding unpadded
path_within r = omega (arith, length-append (head_bytes (head_of r)) r.path)
