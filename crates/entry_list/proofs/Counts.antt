-- How many bytes are counted of the records that are written, and how many they have.
use Rattle.std.proofs.Common.{◌≡◌, ℕ, zero, suc, ◌+◌, ◌-◌, ◌/◌, ◌%◌, ◌<◌, ◌≤◌, ltb, Bool, true, false, cond}
use Rattle.std.proofs.Common.{List, [], ◌∷◌, ◌++◌, length, take, drop, get_or}
use Rattle.std.proofs.Common.{refl, ap, length-append, arith}
use Rattle.index_parts.specs.Offset.{continued_bytes, offset_bytes}
use Rattle.entry_list.specs.Counted.{counted_in, counted_len, most_len}
use Rattle.entry_list.specs.EntryImage.{entries_in, entry_in, is_removed, version_by}
use Rattle.entry_list.specs.Record.{Record, record_in}
use Rattle.entry_list.specs.Shared.{shared_len}
use Rattle.entry_list.specs.declared.Entry.{Entry}
use Rattle.entry_list.specs.declared.Version.{Version}
use Rattle.entry_list.specs.declared.Version.TheVariants.{V2, V3, V4}
use Rattle.entry_list.specs.declared.write.Precision.{Precision}
use Rattle.entry_list.specs.declared.write.Precision.TheVariants.{Bound, Exact}
use Rattle.entry_list.specs.declared.write.VersionChoice.{VersionChoice}
use Rattle.entry_list.specs.declared.write.VersionChoice.TheVariants as choices
use Rattle.entry_list.proofs.Lengths.{length_delta}
use Rattle.entry_list.proofs.Written.{last_of, written_at, written_more, written_of}

-- ---- one entry at most

one_more : (most d : ℕ) (b : Bool) (bytes : List ℕ) → length bytes ≤ most
    → length (cond b [] (bytes ++ d ∷ [])) ≤ suc most
one_more most d true bytes h = omega arith
one_more most d false bytes h = omega (arith, h, length-append bytes (d ∷ []))

continued_within : (most n : ℕ) → length (continued_bytes most n) ≤ most
unfolding continued_bytes
continued_within zero n = omega arith
continued_within (suc most) n =
    one_more most (128 + (n / 128 - 1) % 128) (ltb n 128) (continued_bytes most (n / 128 - 1))
    (continued_within most (n / 128 - 1))

offset_within : (n : ℕ) → length (offset_bytes n) ≤ 10
unfolding offset_bytes
offset_within n = omega (arith, length-append (continued_bytes 9 n) (n % 128 ∷ []), continued_within 9 n)

within_most : (version : Version) (previous : List ℕ) (r : Record)
    → length (entry_in version previous r) ≤ most_len version r
within_most V2 previous r = omega arith
within_most V3 previous r = omega arith
within_most V4 previous r =
    omega (arith, length_delta previous r, offset_within (length previous - shared_len previous r.path))

-- ---- all entries

-- counted exactly, they are as many as there are
pub counted_exact : (version : Version) (previous : List ℕ) (rs : List Record)
    → counted_in Exact version previous rs ≡ length (entries_in version previous rs)
counted_exact version previous [] = refl
counted_exact version previous (r ∷ rs) = omega (
  arith,
  counted_exact version r.path rs,
  length-append (entry_in version previous r) (entries_in version r.path rs),
)

within_len : (precision : Precision) (version : Version) (previous : List ℕ) (r : Record)
    → length (entry_in version previous r) ≤ counted_len precision version previous r
within_len Bound version previous r = within_most version previous r
within_len Exact version previous r = omega arith

-- and there are no more than are counted
pub within_counted : (precision : Precision) (version : Version) (previous : List ℕ) (rs : List Record)
    → length (entries_in version previous rs) ≤ counted_in precision version previous rs
within_counted precision version previous [] = omega arith
within_counted precision version previous (r ∷ rs) = omega (
  arith,
  within_len precision version previous r,
  within_counted precision version r.path rs,
  length-append (entry_in version previous r) (entries_in version r.path rs),
)

counted_more : (precision : Precision) (version : Version) (previous : List ℕ) (rs qs : List Record)
    → counted_in precision version previous (rs ++ qs)
    ≡ counted_in precision version previous rs + counted_in precision version (last_of previous rs) qs
counted_more precision version previous [] qs = omega arith
counted_more precision version previous (r ∷ rs) qs = omega (arith, counted_more precision version r.path rs qs)

-- with one entry more
pub counted_push : (precision : Precision) (version : Version) (storage : List ℕ) (es : List Entry) (i : ℕ) (d : Entry)
    (previous : List ℕ) → i < length es → is_removed (get_or es i d).flags.0 ≡ false
    → previous ≡ last_of [] (written_of storage (take i es))
    → counted_in precision version [] (written_of storage (take (i + 1) es))
    ≡ counted_in precision version [] (written_of storage (take i es))
    + counted_len precision version previous (record_in storage (get_or es i d))
counted_push precision version storage es i d previous h k e =
    let rs = written_of storage (take i es) in
    let r = record_in storage (get_or es i d) in
    rw e (omega (
      arith,
      ap (counted_in precision version []) (written_more storage es i d h k),
      counted_more precision version [] rs (r ∷ []),
    ))

-- with the bytes of the entry at a place, all pass the limit
pub too_large_at : (precision : Precision) (version : Version) (storage : List ℕ) (es : List Entry) (i : ℕ) (d : Entry)
    (previous : List ℕ) (n total limit : ℕ)
    → n ≡ counted_len precision version previous (record_in storage (get_or es i d))
    → previous ≡ last_of [] (written_of storage (take i es))
    → total ≡ 12 + counted_in precision version [] (written_of storage (take i es)) → i < length es
    → is_removed (get_or es i d).flags.0 ≡ false → limit < total + n
    → limit < 12 + counted_in precision version [] (written_of storage es)
too_large_at precision version storage es i d previous n total limit e0 e e1 h k lt =
    let front = written_of storage (take i es) in
    let here = record_in storage (get_or es i d) in
    let rest = written_of storage (drop (suc i) es) in
    let last = ap (λ p. counted_len precision version p here) e in
    omega (
      arith,
      e0,
      e1,
      last,
      ap (counted_in precision version []) (written_at storage es i d h k),
      counted_more precision version [] front (here ∷ rest),
    )

-- version 3 has the bytes of version 2
same_count : (precision : Precision) (previous : List ℕ) (rs : List Record)
    → counted_in precision V3 previous rs ≡ counted_in precision V2 previous rs
same_count precision previous [] = refl
same_count Bound previous (r ∷ rs) = omega (arith, same_count Bound r.path rs)
same_count Exact previous (r ∷ rs) = omega (arith, same_count Exact r.path rs)

pub counted_choice : (precision : Precision) (choice : VersionChoice) (b : Bool) (previous : List ℕ) (rs : List Record)
    → counted_in precision (version_by choice b) previous rs
    ≡ counted_in precision (version_by choice false) previous rs
counted_choice precision choices.Smallest true previous rs = same_count precision previous rs
counted_choice precision choices.Smallest false previous rs = refl
counted_choice precision choices.V4 b previous rs = refl
