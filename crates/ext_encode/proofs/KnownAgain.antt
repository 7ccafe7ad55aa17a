-- What is known of directories is read again of the bitmaps, the stats and the ids that were written.
use Rattle.std.proofs.Common.{◌≡◌, ℕ, suc, ◌+◌, ◌<◌, ◌≤◌, Bool, true, false, eqb, List, [], ◌∷◌}
use Rattle.std.proofs.Common.{◌++◌, map, All, Option, Some, None, refl, sym, ap, ◌∙◌, arith}
use Rattle.std.specs.Prelude.{IfSome, is_some, length}
use Rattle.std.specs.List.{AllByRecursion, concat, enumerate_from, flat_map, list_any}
use Rattle.std.specs.Option.{option_map}
use Rattle.std.proofs.lemmas.Bool.{eq-eqb, ne_eqb}
use Rattle.std.proofs.lemmas.List.Elements.{All-nil, All-cons}
use Rattle.index_extensions.proofs.WrittenItems.{be_be32}
use Rattle.entry_fields.specs.declared.entry.stat.Stat.{Stat}
use Rattle.index_parts.specs.Id.{id_bytes, id_len, make_id}
use Rattle.index_parts.specs.declared.hash.Kind.{Kind}
use Rattle.index_parts.specs.declared.hash.ObjectId.{ObjectId}
use Rattle.ext_untracked.specs.Blocks.{DirectoryValue}
use Rattle.ext_untracked.specs.CacheBitmaps.{DirectoryBitmaps, value_at, with_bitmaps}
use Rattle.ext_untracked.specs.CachedStat.{cached_stat}
use Rattle.ext_bitmap.specs.EncodedBitmap.{set_from}
use Rattle.ext_encode.specs.UntrackedImage.{stat_bytes, valid_stat, valid_id, is_marked}
use Rattle.ext_encode.specs.declared.marks.Mark.TheVariants as marks
use Rattle.ext_encode.specs.SpellableCache.{IsSpellableStat, IsIdOf, IsSpellableKnown, bare}
use Rattle.ext_encode.proofs.WrittenPaths.{id_made}

-- ---- one value

pub stat_len : (s : Stat) → length (stat_bytes s) ≡ 36
unfolding stat_bytes
stat_len s = refl

pub stat_again : (s : Stat) → IsSpellableStat s → cached_stat (stat_bytes s) ≡ s
unfolding stat_bytes
stat_again s h = rw (
  be_be32 s.ctime.secs h.ctime_secs,
  be_be32 s.ctime.nsecs h.ctime_nsecs,
  be_be32 s.mtime.secs h.mtime_secs,
  be_be32 s.mtime.nsecs h.mtime_nsecs,
  be_be32 s.dev h.dev,
  be_be32 s.ino h.ino,
  be_be32 s.uid h.uid,
  be_be32 s.gid h.gid,
  be_be32 s.size h.size,
) refl

pub id_again : (kind : Kind) (id : ObjectId) → IsIdOf kind id → make_id kind (id_bytes id) ≡ id
id_again kind id h = sym (id_made kind id h.id_is)

stat_kept : (o : Option Stat) → IfSome o IsSpellableStat → option_map cached_stat (option_map stat_bytes o) ≡ o
stat_kept None h = refl
stat_kept (Some s) h = ap (λ (x : Stat). Some x) (stat_again s h)

id_kept : (kind : Kind) (o : Option ObjectId) → IfSome o (IsIdOf kind)
    → option_map (make_id kind) (option_map id_bytes o) ≡ o
id_kept kind None h = refl
id_kept kind (Some id) h = ap (λ (x : ObjectId). Some x) (id_again kind id h)

-- ---- values at places

abbrev pub piece_before : Option (List ℕ) → List (List ℕ) → List (List ℕ)
piece_before None pieces = pieces
piece_before (Some piece) pieces = piece ∷ pieces

abbrev pub pieces_of : (DirectoryValue → Option (List ℕ)) → List DirectoryValue → List (List ℕ)
pieces_of f [] = []
pieces_of f (d ∷ ds) = piece_before (f d) (pieces_of f ds)

abbrev pub stat_piece : DirectoryValue → Option (List ℕ)
stat_piece d = option_map stat_bytes d.stat

abbrev pub id_piece : DirectoryValue → Option (List ℕ)
id_piece d = option_map id_bytes d.exclude

abbrev pub bits_by : (DirectoryValue → Option (List ℕ)) → List DirectoryValue → List Bool
bits_by f ds = map (λ d. is_some (f d)) ds

value_none : (p q : ℕ) (bits : List Bool) (values : List (List ℕ)) → q < p → value_at (set_from p bits) values q ≡ None
value_none p q [] values lt = refl
value_none p q (false ∷ bits) values lt = value_none (p + 1) q bits values (omega (arith, lt))
value_none p q (true ∷ bits) [] lt = refl
value_none p q (true ∷ bits) (x ∷ values) lt =
    let other : eqb p q ≡ false = ne_eqb p q (λ e. omega (arith, e, lt)) in
    rw other (value_none (p + 1) q bits values (omega (arith, lt)))

value_here : (o : Option (List ℕ)) (p : ℕ) (bits : List Bool) (values : List (List ℕ))
    → value_at (set_from p (is_some o ∷ bits)) (piece_before o values) p ≡ o
value_here None p bits values = value_none (p + 1) p bits values (omega arith)
value_here (Some x) p bits values = rw (eq-eqb p p refl) refl

value_beyond : (o : Option (List ℕ)) (p q : ℕ) (bits : List Bool) (values : List (List ℕ)) → p < q
    → value_at (set_from p (is_some o ∷ bits)) (piece_before o values) q ≡ value_at (set_from (p + 1) bits) values q
value_beyond None p q bits values lt = refl
value_beyond (Some x) p q bits values lt = rw (ne_eqb p q (λ e. omega (arith, e, lt))) refl

any_none : (p q : ℕ) (bits : List Bool) → q < p → list_any (λ x. eqb x q) (set_from p bits) ≡ false
any_none p q [] lt = refl
any_none p q (false ∷ bits) lt = any_none (p + 1) q bits (omega (arith, lt))
any_none p q (true ∷ bits) lt =
    rw (ne_eqb p q (λ e. omega (arith, e, lt))) (any_none (p + 1) q bits (omega (arith, lt)))

any_here : (b : Bool) (p : ℕ) (bits : List Bool) → list_any (λ x. eqb x p) (set_from p (b ∷ bits)) ≡ b
any_here false p bits = any_none (p + 1) p bits (omega arith)
any_here true p bits = rw (eq-eqb p p refl) refl

any_beyond : (b : Bool) (p q : ℕ) (bits : List Bool) → p < q
    → list_any (λ x. eqb x q) (set_from p (b ∷ bits)) ≡ list_any (λ x. eqb x q) (set_from (p + 1) bits)
any_beyond false p q bits lt = refl
any_beyond true p q bits lt = rw (ne_eqb p q (λ e. omega (arith, e, lt))) refl

-- ---- directories

abbrev pub maps_from : ℕ → List DirectoryValue → DirectoryBitmaps
maps_from p ds = record {
  valid = set_from p (bits_by stat_piece ds);
  check_only = set_from p (map (λ d. d.check_only) ds);
  hash_valid = set_from p (bits_by id_piece ds);
}

abbrev known_from : Kind → ℕ → List DirectoryValue → ℕ → DirectoryValue → DirectoryValue
known_from kind p ds = with_bitmaps kind (maps_from p ds) (pieces_of stat_piece ds) (pieces_of id_piece ds)

same_directory : (d : DirectoryValue) (s s' : Option Stat) (i i' : Option ObjectId) (b b' : Bool) → s ≡ s' → i ≡ i'
    → b ≡ b' → ◌≡◌ {A = DirectoryValue} (record d { stat = s; exclude = i; check_only = b })
    (record d { stat = s'; exclude = i'; check_only = b' })
same_directory d s s' i i' b b' e f g = rw (e, f, g) refl

known_here : (kind : Kind) (p : ℕ) (d : DirectoryValue) (ds : List DirectoryValue) → IsSpellableKnown kind d
    → known_from kind p (d ∷ ds) p (bare d) ≡ d
known_here kind p d ds h = same_directory d _ d.stat _ d.exclude _ d.check_only
    (ap (option_map cached_stat) (value_here (stat_piece d) p (bits_by stat_piece ds) (pieces_of stat_piece ds))
    ∙ stat_kept d.stat h.stat)
    (ap (option_map (make_id kind)) (value_here (id_piece d) p (bits_by id_piece ds) (pieces_of id_piece ds))
    ∙ id_kept kind d.exclude h.exclude)
    (any_here d.check_only p (map (λ x. x.check_only) ds))

known_beyond : (kind : Kind) (p q : ℕ) (d : DirectoryValue) (ds : List DirectoryValue) (x : DirectoryValue) → p < q
    → known_from kind p (d ∷ ds) q x ≡ known_from kind (p + 1) ds q x
known_beyond kind p q d ds x lt = same_directory x _ _ _ _ _ _
    (ap (option_map cached_stat) (value_beyond (stat_piece d) p q (bits_by stat_piece ds) (pieces_of stat_piece ds) lt))
    (ap (option_map (make_id kind)) (value_beyond (id_piece d) p q (bits_by id_piece ds) (pieces_of id_piece ds) lt))
    (any_beyond d.check_only p q (map (λ y. y.check_only) ds) lt)

maps_same : (f g : ℕ → DirectoryValue → DirectoryValue) (p : ℕ) (xs : List DirectoryValue)
    → ((q : ℕ) (x : DirectoryValue) → p ≤ q → f q x ≡ g q x)
    → map (λ y. f y.0 y.1) (enumerate_from p xs) ≡ map (λ y. g y.0 y.1) (enumerate_from p xs)
maps_same f g p [] h = refl
maps_same f g p (x ∷ xs) h =
    let others : map (λ y. f y.0 y.1) (enumerate_from (p + 1) xs) ≡ map (λ y. g y.0 y.1) (enumerate_from (p + 1) xs) =
    maps_same f g (p + 1) xs (λ q y le. h q y (omega (arith, le))) in
    ap (λ (d : DirectoryValue). d ∷ map (λ y. f y.0 y.1) (enumerate_from (p + 1) xs)) (h p x (omega arith))
    ∙ ap (λ (l : List DirectoryValue). g p x ∷ l) others

pub known_again : (kind : Kind) (p : ℕ) (ds : List DirectoryValue) → AllByRecursion (IsSpellableKnown kind) ds
    → map (λ y. known_from kind p ds y.0 y.1) (enumerate_from p (map bare ds)) ≡ ds
known_again kind p [] h = refl
known_again kind p (d ∷ ds) h =
    let others : map (λ y. known_from kind p (d ∷ ds) y.0 y.1) (enumerate_from (p + 1) (map bare ds)) ≡ ds =
    maps_same (known_from kind p (d ∷ ds)) (known_from kind (p + 1) ds) (p + 1) (map bare ds)
    (λ q x le. known_beyond kind p q d ds x (omega (arith, le)))
    ∙ known_again kind (p + 1) ds h.1 in
    ap (λ (x : DirectoryValue). x ∷ map (λ y. known_from kind p (d ∷ ds) y.0 y.1)
    (enumerate_from (p + 1) (map bare ds))) (known_here kind p d ds h.0)
    ∙ ap (λ (l : List DirectoryValue). d ∷ l) others

-- ---- pieces

stat_joined : (o : Option Stat) (later : List ℕ) (pieces : List (List ℕ)) → later ≡ concat pieces
    → valid_stat o ++ later ≡ concat (piece_before (option_map stat_bytes o) pieces)
stat_joined None later pieces e = e
stat_joined (Some s) later pieces e = ap (λ (l : List ℕ). stat_bytes s ++ l) e

pub stats_joined : (ds : List DirectoryValue) → flat_map (λ d. valid_stat d.stat) ds ≡ concat (pieces_of stat_piece ds)
stats_joined [] = refl
stats_joined (d ∷ ds) =
    stat_joined d.stat (flat_map (λ x. valid_stat x.stat) ds) (pieces_of stat_piece ds) (stats_joined ds)

id_joined : (o : Option ObjectId) (later : List ℕ) (pieces : List (List ℕ)) → later ≡ concat pieces
    → valid_id o ++ later ≡ concat (piece_before (option_map id_bytes o) pieces)
id_joined None later pieces e = e
id_joined (Some id) later pieces e = ap (λ (l : List ℕ). id_bytes id ++ l) e

pub ids_joined : (ds : List DirectoryValue) → flat_map (λ d. valid_id d.exclude) ds ≡ concat (pieces_of id_piece ds)
ids_joined [] = refl
ids_joined (d ∷ ds) =
    id_joined d.exclude (flat_map (λ x. valid_id x.exclude) ds) (pieces_of id_piece ds) (ids_joined ds)

number_by : (o : Option (List ℕ)) (p : ℕ) (bits : List Bool) (pieces : List (List ℕ))
    → length pieces ≡ length (set_from (p + 1) bits)
    → length (piece_before o pieces) ≡ length (set_from p (is_some o ∷ bits))
number_by None p bits pieces e = e
number_by (Some x) p bits pieces e = ap suc e

pub pieces_number : (f : DirectoryValue → Option (List ℕ)) (p : ℕ) (ds : List DirectoryValue)
    → length (pieces_of f ds) ≡ length (set_from p (bits_by f ds))
pieces_number f p [] = refl
pieces_number f p (d ∷ ds) = number_by (f d) p (bits_by f ds) (pieces_of f ds) (pieces_number f (p + 1) ds)

stat_size : (o : Option Stat) (pieces : List (List ℕ)) → All (λ piece. length piece ≡ 36) pieces
    → All (λ piece. length piece ≡ 36) (piece_before (option_map stat_bytes o) pieces)
stat_size None pieces h = h
stat_size (Some s) pieces h = All-cons (λ piece. length piece ≡ 36) (stat_bytes s) pieces (stat_len s) h

pub stats_sizes : (ds : List DirectoryValue) → All (λ piece. length piece ≡ 36) (pieces_of stat_piece ds)
stats_sizes [] = All-nil (λ piece. length piece ≡ 36)
stats_sizes (d ∷ ds) = stat_size d.stat (pieces_of stat_piece ds) (stats_sizes ds)

id_size : (kind : Kind) (o : Option ObjectId) (pieces : List (List ℕ)) → IfSome o (IsIdOf kind)
    → All (λ piece. length piece ≡ id_len kind) pieces
    → All (λ piece. length piece ≡ id_len kind) (piece_before (option_map id_bytes o) pieces)
id_size kind None pieces k h = h
id_size kind (Some id) pieces k h = All-cons (λ piece. length piece ≡ id_len kind) (id_bytes id) pieces k.size h

pub ids_sizes : (kind : Kind) (ds : List DirectoryValue) → AllByRecursion (IsSpellableKnown kind) ds
    → All (λ piece. length piece ≡ id_len kind) (pieces_of id_piece ds)
ids_sizes kind [] h = All-nil (λ piece. length piece ≡ id_len kind)
ids_sizes kind (d ∷ ds) h = id_size kind d.exclude (pieces_of id_piece ds) h.0.exclude (ids_sizes kind ds h.1)

-- ---- bits

stat_some : (o : Option Stat) → is_some o ≡ is_some (option_map stat_bytes o)
stat_some None = refl
stat_some (Some s) = refl

id_some : (o : Option ObjectId) → is_some o ≡ is_some (option_map id_bytes o)
id_some None = refl
id_some (Some id) = refl

pub valid_bits : (ds : List DirectoryValue) → map (is_marked marks.Valid) ds ≡ bits_by stat_piece ds
valid_bits [] = refl
valid_bits (d ∷ ds) = ap (λ (b : Bool). b ∷ map (is_marked marks.Valid) ds) (stat_some d.stat)
    ∙ ap (λ (l : List Bool). is_some (stat_piece d) ∷ l) (valid_bits ds)

pub hash_bits : (ds : List DirectoryValue) → map (is_marked marks.HashValid) ds ≡ bits_by id_piece ds
hash_bits [] = refl
hash_bits (d ∷ ds) = ap (λ (b : Bool). b ∷ map (is_marked marks.HashValid) ds) (id_some d.exclude)
    ∙ ap (λ (l : List Bool). is_some (id_piece d) ∷ l) (hash_bits ds)
