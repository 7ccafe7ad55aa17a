-- The entries at the front of bytes are read in one way, and end at one place.
use Rattle.std.proofs.Common.{◌≡◌, ℕ, ◌<◌, inl, inr, List, [], ◌∷◌, ◌++◌, length, take, Option, None, Some, refl, sym}
use Rattle.std.proofs.Common.{ap, subst, ◌∙◌, arith}
use Rattle.std.specs.Prelude.{unwrap_or}
use Rattle.std.proofs.lemmas.Bool.{cases_lt}
use Rattle.std.proofs.lemmas.Option.{same_Some}
use Rattle.index_parts.specs.declared.hash.Kind.{Kind}
use Rattle.entry_list.specs.declared.Version.{Version}
use Rattle.entry_list.specs.declared.Version.TheVariants.{V2, V3, V4}
use Rattle.entry_list.specs.Entries.{AreEntries, LacksEntry, last_path}
use Rattle.entry_list.specs.EntrySteps.{HeadValues, record_from}
use Rattle.entry_list.specs.Entry.{record_of, IsEntry23, IsEntry4, IsEntry}
use Rattle.entry_list.specs.Record.{Record}
use Rattle.entry_list.proofs.Deltas.{entry4_again, kept_from}
use Rattle.entry_list.proofs.Pieces.{entry_again, values_of}

-- ---- one entry

-- what was read of an entry of version 2 or 3, as its record and the rest
abbrev read23 : Kind → (HeadValues × List ℕ) × List ℕ → Record × List ℕ
read23 kind x = (record_from kind x.0.0 x.0.1, x.1)

-- what was read of an entry of version 4 after the path `previous`, as its record and the rest
abbrev read4 : Kind → Option (List ℕ) → (HeadValues × ℕ × List ℕ) × List ℕ → Record × List ℕ
read4 kind previous x = (record_from kind x.0.0 (take x.0.1 (unwrap_or previous []) ++ x.0.2), x.1)

one_entry23 : (kind : Kind) (bytes : List ℕ) (r q : Record) (rest end : List ℕ) → IsEntry23 kind bytes r rest
    → IsEntry23 kind bytes q end → ◌≡◌ {A = Record × List ℕ} (r, rest) (q, end)
one_entry23 kind bytes r q rest end h k =
    let read = same_Some ((values_of h.head, r.path), rest) ((values_of k.head, q.path), end)
    (sym (entry_again kind bytes r rest h) ∙ entry_again kind bytes q end k) in
    ap (λ (x : Record). (x, rest)) h.is ∙ ap (read23 kind) read ∙ ap (λ (x : Record). (x, end)) (sym k.is)

-- the record of an entry of version 4, by what was read of it
record4 : (kind : Kind) (previous : Option (List ℕ)) (bytes : List ℕ) (r : Record) (rest : List ℕ)
    (h : IsEntry4 kind previous bytes r rest)
    → r ≡ record_of kind h.head (take (entry4_again kind previous bytes r rest h).0 (unwrap_or previous []) ++ h.tail)
record4 kind previous bytes r rest h =
    let again = entry4_again kind previous bytes r rest h in
    h.is ∙ ap (record_of kind h.head) (kept_from previous _ h.stripped again.0 h.tail refl again.1).1

one_entry4 : (kind : Kind) (previous : Option (List ℕ)) (bytes : List ℕ) (r q : Record) (rest end : List ℕ)
    → IsEntry4 kind previous bytes r rest → IsEntry4 kind previous bytes q end
    → ◌≡◌ {A = Record × List ℕ} (r, rest) (q, end)
one_entry4 kind previous bytes r q rest end h k =
    let a = entry4_again kind previous bytes r rest h in
    let b = entry4_again kind previous bytes q end k in
    let read =
    same_Some ((values_of h.head, a.0, h.tail), rest) ((values_of k.head, b.0, k.tail), end) (sym a.2 ∙ b.2) in
    ap (λ (x : Record). (x, rest)) (record4 kind previous bytes r rest h) ∙ ap (read4 kind previous) read
    ∙ ap (λ (x : Record). (x, end)) (sym (record4 kind previous bytes q end k))

-- one entry begins bytes, or none
pub one_entry : (version : Version) (kind : Kind) (previous : Option (List ℕ)) (bytes : List ℕ) (r q : Record)
    (rest end : List ℕ) → IsEntry version kind previous bytes r rest → IsEntry version kind previous bytes q end
    → ◌≡◌ {A = Record × List ℕ} (r, rest) (q, end)
one_entry V2 kind previous bytes r q rest end h k = one_entry23 kind bytes r q rest end h k
one_entry V3 kind previous bytes r q rest end h k = one_entry23 kind bytes r q rest end h k
one_entry V4 kind previous bytes r q rest end h k = one_entry4 kind previous bytes r q rest end h k

-- ---- entries one after another

-- two sequences of entries begin with the same entry, and the rest of the second follows it
behind_first : (version : Version) (kind : Kind) (previous : Option (List ℕ)) (bytes : List ℕ) (r q : Record)
    (qs : List Record) (after end : List ℕ) → IsEntry version kind previous bytes r after
    → AreEntries version kind previous bytes (q ∷ qs) end
    → (r ≡ q) × AreEntries version kind (Some r.path) after qs end
behind_first version kind previous bytes r q qs after end h k =
    let same = one_entry version kind previous bytes r q after k.0 h k.1 in (
      ap (λ (x : Record × List ℕ). x.0) same,
      subst (λ (x : Record × List ℕ). AreEntries version kind (Some x.0.path) x.1 qs end) (sym same) k.2,
    )

-- rows of as many entries are one
pub one_row : (version : Version) (kind : Kind) (previous : Option (List ℕ)) (bytes : List ℕ) (rs qs : List Record)
    (rest end : List ℕ) → AreEntries version kind previous bytes rs rest → AreEntries version kind previous bytes qs end
    → length rs ≡ length qs → (rs ≡ qs) × (rest ≡ end)
one_row version kind previous bytes [] [] rest end h k n = (refl, sym h ∙ k)
one_row version kind previous bytes [] (q ∷ qs) rest end h k n = absurd (omega arith)
one_row version kind previous bytes (r ∷ rs) [] rest end h k n = absurd (omega arith)
one_row version kind previous bytes (r ∷ rs) (q ∷ qs) rest end h k n =
    let behind = behind_first version kind previous bytes r q qs h.0 end h.1 k in
    let others = one_row version kind (Some r.path) h.0 rs qs rest end h.2 behind.1 (omega arith) in
    (rw (behind.0, others.0) refl, others.1)

-- no sequence of entries is longer than one that no entry follows
longest : (version : Version) (kind : Kind) (previous : Option (List ℕ)) (bytes : List ℕ) (rs qs : List Record)
    (rest end : List ℕ) → AreEntries version kind previous bytes rs rest
    → ((r : Record) (after : List ℕ) → IsEntry version kind (last_path previous rs) rest r after → ⊥)
    → AreEntries version kind previous bytes qs end → length rs < length qs → ⊥
longest version kind previous bytes rs [] rest end h none k lt = omega arith
longest version kind previous bytes [] (q ∷ qs) rest end h none k lt =
    none q k.0 (subst (λ (b : List ℕ). IsEntry version kind previous b q k.0) h k.1)
longest version kind previous bytes (r ∷ rs) (q ∷ qs) rest end h none k lt =
    let behind = behind_first version kind previous bytes r q qs h.0 end h.1 k in
    longest version kind (Some r.path) h.0 rs qs rest end h.2 none behind.1 (omega arith)

-- ---- the first index without an entry

-- the bytes don't begin with more than i entries
pub lacks_more : (version : Version) (kind : Kind) (bytes : List ℕ) (i : ℕ) (rs : List Record) (rest : List ℕ)
    → LacksEntry version kind bytes i → AreEntries version kind None bytes rs rest → i < length rs → ⊥
lacks_more version kind bytes i rs rest h k lt =
    longest version kind None bytes h.records rs h.rest rest h.read h.none k (omega (arith, h.count))

-- and it is one place
pub one_lack : (version : Version) (kind : Kind) (bytes : List ℕ) (i j : ℕ) → LacksEntry version kind bytes i
    → LacksEntry version kind bytes j → i ≡ j
one_lack version kind bytes i j h k =
    elim (cases_lt i j) [
      | inl lt ↦ absurd (lacks_more version kind bytes i k.records k.rest h k.read (omega (arith, k.count)))
      | inr ge ↦ elim (cases_lt j i) [
        | inl lt ↦ absurd
            (lacks_more version kind bytes j h.records h.rest k h.read (omega (arith, h.count)))
        | inr le ↦ omega arith
      ]
    ]
