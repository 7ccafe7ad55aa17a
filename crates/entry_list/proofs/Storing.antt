-- Records keep their paths if the storage grows; and entries that are read one after the other.
use Rattle.std.proofs.Common.{◌≡◌, ℕ, ◌-◌, ◌≤◌, List, [], ◌∷◌, ◌++◌, length, take, drop, Option, Some, All, refl, sym}
use Rattle.std.proofs.Common.{ap, subst, ◌∙◌, arith}
use Rattle.std.proofs.lemmas.List.{take-append-le, drop-append-le, length-append, length-drop, append-nil, map-append}
use Rattle.std.proofs.lemmas.List.{take_at, drop_at}
use Rattle.std.proofs.lemmas.List.Elements.{All-head, All-tail, All-push, All-weaker}
use Rattle.std.proofs.lemmas.Nat.{div-add-mod'}
use Rattle.std.specs.Prelude.{slice_range, ◌^◌}
use Rattle.index_parts.specs.declared.hash.Kind.{Kind}
use Rattle.entry_list.specs.declared.Version.{Version}
use Rattle.entry_list.specs.declared.Entry.{Entry}
use Rattle.entry_list.specs.Entries.{AreEntries, last_path}
use Rattle.entry_list.specs.Entry.{IsEntry}
use Rattle.entry_list.specs.PathRange.{packed_range, range_end, range_start}
use Rattle.entry_list.specs.Record.{Record, record_in, records_in, IsPlaced}

-- a part of a list is unchanged if the list grows
range_grows : (s t : List ℕ) (a b : ℕ) → a ≤ b → b ≤ length s → slice_range (s ++ t) a b ≡ slice_range s a b
range_grows s t a b ab bs =
    let within : a ≤ length s = omega arith in
    let fits : b - a ≤ length (drop a s) = omega (arith, length-drop a s) in
    rw (drop-append-le a s t within, take-append-le (b - a) (drop a s) t fits) refl

record_grows : (s t : List ℕ) (e : Entry) → IsPlaced (length s) e → record_in (s ++ t) e ≡ record_in s e
record_grows s t e h =
    ap (λ (p : List ℕ). record { path = p; stat = e.stat; id = e.id; flags = e.flags.0; mode = e.mode.0 })
    (range_grows s t (range_start e.path) (range_end e.path) (omega arith) h.inside)

pub records_grow : (s t : List ℕ) (es : List Entry) → All (IsPlaced (length s)) es
    → records_in (s ++ t) es ≡ records_in s es
records_grow s t [] h = refl
records_grow s t (e ∷ es) h =
    ap (λ (r : Record). r ∷ records_in (s ++ t) es) (record_grows s t e (All-head (IsPlaced (length s)) e es h))
    ∙ ap (λ (rs : List Record). record_in s e ∷ rs) (records_grow s t es (All-tail (IsPlaced (length s)) e es h))

pub own_range : (s path : List ℕ) (a b : ℕ) → a ≡ length s → b ≡ length (s ++ path) → slice_range (s ++ path) a b ≡ path
own_range s path a b start end =
    let len : length (s ++ path) - length s ≡ length path = omega (arith, length-append s path) in
    rw (start, end, len, drop_at s path (length s) refl)
    (ap (λ (l : List ℕ). take (length path) l) (sym (append-nil path)) ∙ take_at path [] (length path) refl)

-- an entry whose path is at the end of the storage
pub own_record : (s path : List ℕ) (e : Entry) → range_start e.path ≡ length s → range_end e.path ≡ length (s ++ path)
    → record_in (s ++ path) e ≡ record { path = path; stat = e.stat; id = e.id; flags = e.flags.0; mode = e.mode.0 }
own_record s path e start end =
    ap (λ (p : List ℕ). record { path = p; stat = e.stat; id = e.id; flags = e.flags.0; mode = e.mode.0 })
    (own_range s path (range_start e.path) (range_end e.path) start end)

pub own_place : (s path : List ℕ) (e : Entry) → range_start e.path ≡ length s → range_end e.path ≡ length (s ++ path)
    → IsPlaced (length (s ++ path)) e
own_place s path e start end = record { inside = omega arith }

-- a packed range begins at the given index
pub packed_start : (start len : ℕ) → range_start (packed_range start len) ≡ start
packed_start start len = div-add-mod' start (2 ^ 32)

-- the storage s grows by the path of e, and e comes last
pub records_push : (s path : List ℕ) (es : List Entry) (e : Entry) → All (IsPlaced (length s)) es
    → range_start e.path ≡ length s → range_end e.path ≡ length (s ++ path)
    → records_in (s ++ path) (es ++ e ∷ [])
    ≡ records_in s es ++ record { path = path; stat = e.stat; id = e.id; flags = e.flags.0; mode = e.mode.0 } ∷ []
records_push s path es e h start end =
    map-append (record_in (s ++ path)) es (e ∷ [])
    ∙ ap (λ (rs : List Record). rs ++ record_in (s ++ path) e ∷ []) (records_grow s path es h)
    ∙ ap (λ (r : Record). records_in s es ++ r ∷ []) (own_record s path e start end)

pub placed_push : (s path : List ℕ) (es : List Entry) (e : Entry) → All (IsPlaced (length s)) es
    → range_start e.path ≡ length s → range_end e.path ≡ length (s ++ path)
    → All (IsPlaced (length (s ++ path))) (es ++ e ∷ [])
placed_push s path es e h start end =
    let wider : (x : Entry) → IsPlaced (length s) x → IsPlaced (length (s ++ path)) x =
    λ x p. record { inside = omega (arith, p.inside, length-append s path) } in
    All-push (IsPlaced (length (s ++ path))) es e
    (All-weaker (IsPlaced (length s)) (IsPlaced (length (s ++ path))) wider es h) (own_place s path e start end)

-- one more entry after the others
pub entries_push : (version : Version) (kind : Kind) (previous : Option (List ℕ)) (bytes : List ℕ) (rs : List Record)
    (r : Record) (middle rest : List ℕ)
    → AreEntries version kind previous bytes rs middle → IsEntry version kind (last_path previous rs) middle r rest
    → AreEntries version kind previous bytes (rs ++ r ∷ []) rest
entries_push version kind previous bytes [] r middle rest h e =
    (rest, subst (λ (b : List ℕ). IsEntry version kind previous b r rest) (sym h) e, refl)
entries_push version kind previous bytes (x ∷ rs) r middle rest h e =
    (h.0, h.1, entries_push version kind (Some x.path) h.0 rs r middle rest h.2 e)

-- ---- the path before

pub last_path-push : (previous : Option (List ℕ)) (rs : List Record) (r : Record)
    → last_path previous (rs ++ r ∷ []) ≡ Some r.path
last_path-push previous [] r = refl
last_path-push previous (x ∷ rs) r = last_path-push (Some x.path) rs r
