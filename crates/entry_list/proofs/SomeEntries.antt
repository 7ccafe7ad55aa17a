-- All bytes begin with `count` entries, or there is a first index without an entry.
use Rattle.std.proofs.Common.{◌≡◌, ℕ, zero, suc, ◌<◌, ◌⊎◌, inl, inr, List, [], ◌∷◌, ◌++◌, length, take, Option, None}
use Rattle.std.proofs.Common.{Some, refl, arith}
use Rattle.std.specs.Prelude.{unwrap_or}
use Rattle.std.specs.Option.{option_map}
use Rattle.index_parts.specs.declared.hash.Kind.{Kind}
use Rattle.entry_list.specs.declared.Version.{Version}
use Rattle.entry_list.specs.declared.Version.TheVariants.{V2, V3, V4}
use Rattle.entry_list.specs.Entries.{AreEntries, LacksEntry, last_path}
use Rattle.entry_list.specs.Entry.{IsEntry23, IsEntry4, IsEntry}
use Rattle.entry_list.specs.EntrySteps.{HeadValues, record_from, entry23_at, entry4_at}
use Rattle.entry_list.specs.Record.{Record}
use Rattle.entry_list.proofs.Deltas.{entry4_takes, entry4_again}
use Rattle.entry_list.proofs.Pieces.{entry_takes, entry_again}

-- something has the property, or nothing has
abbrev Decided : {A : Type 0} → (A → Type 0) → Type 0
Decided {A} P = ((x : A) × P x) ⊎ ((x : A) → P x → ⊥)

-- ---- one entry

-- an entry that begins bytes, and the rest; or none begins them
abbrev EntryAt : Version → Kind → Option (List ℕ) → List ℕ → Type 0
EntryAt version kind previous bytes = Decided (λ (x : Record × List ℕ). IsEntry version kind previous bytes x.0 x.1)

entry23_by : (kind : Kind) (bytes : List ℕ) (o : Option ((HeadValues × List ℕ) × List ℕ)) → entry23_at kind bytes ≡ o
    → Decided (λ (x : Record × List ℕ). IsEntry23 kind bytes x.0 x.1)
entry23_by kind bytes (Some x) e = inl ((record_from kind x.0.0 x.0.1, x.1), entry_takes kind bytes x e)
entry23_by kind bytes None e = inr (λ x h. absurd (cc (entry_again kind bytes x.0 x.1 h, e)))

entry4_by : (kind : Kind) (previous : Option (List ℕ)) (bytes : List ℕ)
    (o : Option ((HeadValues × ℕ × List ℕ) × List ℕ)) → entry4_at kind (option_map length previous) bytes ≡ o
    → Decided (λ (x : Record × List ℕ). IsEntry4 kind previous bytes x.0 x.1)
entry4_by kind previous bytes (Some x) e =
    inl (
      (record_from kind x.0.0 (take x.0.1 (unwrap_or previous []) ++ x.0.2), x.1),
      entry4_takes kind previous (option_map length previous) bytes x refl e,
    )
entry4_by kind previous bytes None e = inr (λ x h. absurd (cc ((entry4_again kind previous bytes x.0 x.1 h).2, e)))

pub entry_reading : (version : Version) (kind : Kind) (previous : Option (List ℕ)) (bytes : List ℕ)
    → EntryAt version kind previous bytes
entry_reading V2 kind previous bytes = entry23_by kind bytes (entry23_at kind bytes) refl
entry_reading V3 kind previous bytes = entry23_by kind bytes (entry23_at kind bytes) refl
entry_reading V4 kind previous bytes =
    entry4_by kind previous bytes (entry4_at kind (option_map length previous) bytes) refl

-- ---- so many entries

-- fewer than `count` entries, and no entry follows them
record Lacks (version : Version) (kind : Kind) (previous : Option (List ℕ)) (bytes : List ℕ) (count : ℕ) : Type 0 where
  records : List Record
  rest : List ℕ
  read : AreEntries version kind previous bytes records rest
  fewer : length records < count
  none : (r : Record) (after : List ℕ) → IsEntry version kind (last_path previous records) rest r after → ⊥

-- so many entries, and the rest
record Has (version : Version) (kind : Kind) (previous : Option (List ℕ)) (bytes : List ℕ) (count : ℕ) : Type 0 where
  records : List Record
  rest : List ℕ
  read : AreEntries version kind previous bytes records rest
  whole : length records ≡ count

abbrev RowAt : Version → Kind → Option (List ℕ) → ℕ → List ℕ → Type 0
RowAt version kind previous count bytes =
    Has version kind previous bytes count ⊎ Lacks version kind previous bytes count

row_behind : (version : Version) (kind : Kind) (previous : Option (List ℕ)) (count : ℕ) (bytes after : List ℕ)
    (r : Record) → IsEntry version kind previous bytes r after → RowAt version kind (Some r.path) count after
    → RowAt version kind previous (suc count) bytes
row_behind version kind previous count bytes after r h (inl k) =
    inl (record { records = r ∷ k.records; rest = k.rest; read = (after, h, k.read); whole = omega (arith, k.whole) })
row_behind version kind previous count bytes after r h (inr k) = inr (record {
  records = r ∷ k.records;
  rest = k.rest;
  read = (after, h, k.read);
  fewer = omega (arith, k.fewer);
  none = k.none;
})

row_by : (version : Version) (kind : Kind) (previous : Option (List ℕ)) (count : ℕ) (bytes : List ℕ)
    → ((r : Record) (after : List ℕ) → RowAt version kind (Some r.path) count after)
    → EntryAt version kind previous bytes → RowAt version kind previous (suc count) bytes
row_by version kind previous count bytes others (inl h) =
    row_behind version kind previous count bytes h.0.1 h.0.0 h.1 (others h.0.0 h.0.1)
row_by version kind previous count bytes others (inr none) =
    inr (record { records = []; rest = bytes; read = refl; fewer = omega arith; none = λ r after h. none (r, after) h })

row_reading : (version : Version) (kind : Kind) (previous : Option (List ℕ)) (count : ℕ) (bytes : List ℕ)
    → RowAt version kind previous count bytes
row_reading version kind previous zero bytes = inl (record { records = []; rest = bytes; read = refl; whole = refl })
row_reading version kind previous (suc count) bytes = row_by version kind previous count bytes
    (λ r after. row_reading version kind (Some r.path) count after) (entry_reading version kind previous bytes)

-- ---- from the front

-- `count` entries, and the rest; or the first index below `count` without an entry
abbrev pub EntriesAt : Version → Kind → ℕ → List ℕ → Type 0
EntriesAt version kind count bytes =
    ((rs : List Record) × (rest : List ℕ) × AreEntries version kind None bytes rs rest × (length rs ≡ count))
    ⊎ ((i : ℕ) × (i < count) × LacksEntry version kind bytes i)

entries_by : (version : Version) (kind : Kind) (count : ℕ) (bytes : List ℕ) → RowAt version kind None count bytes
    → EntriesAt version kind count bytes
entries_by version kind count bytes (inl h) = inl (h.records, h.rest, h.read, h.whole)
entries_by version kind count bytes (inr h) = inr (
  length h.records,
  h.fewer,
  record { records = h.records; rest = h.rest; read = h.read; count = refl; none = h.none },
)

pub entries_reading : (version : Version) (kind : Kind) (count : ℕ) (bytes : List ℕ)
    → EntriesAt version kind count bytes
entries_reading version kind count bytes =
    entries_by version kind count bytes (row_reading version kind None count bytes)
