-- What a reader of entries lends, and how long its path can be.
use Rattle.std.proofs.Common.{◌≡◌, ℕ, ◌+◌, ◌-◌, ◌≤◌, List, [], ◌∷◌, ◌++◌, length, replicate, take, Option, Some, None}
use Rattle.std.proofs.Common.{option_map, unwrap_or, refl, sym, ap, ◌∙◌, length-append, length-take, subst, arith}
use Rattle.std.specs.Prelude.{zero, suc}
use Rattle.std.specs.List.{HoldsAt}
use Rattle.std.proofs.lemmas.List.{length-replicate}
use Rattle.entry_list.specs.Entries.{last_path}
use Rattle.entry_list.specs.Entry.{IsEntry, IsEntry23, IsEntry4, head_bytes, joined_path}
use Rattle.index_parts.specs.declared.hash.Kind.{Kind}
use Rattle.entry_list.proofs.Storing.{last_path-push}
use Rattle.entry_decode.specs.Lent.{IsBorrowedEntry, borrowed_record}
use Rattle.entry_decode.specs.Reader.{IsBehind, LeftToRead, Lends, LendsNone}
use Rattle.entry_decode.specs.declared.entry.Lent.{Lent}
use Rattle.entry_list.specs.Record.{Record}
use Rattle.entry_list.specs.declared.Version.{Version}
use Rattle.entry_list.specs.declared.Version.TheVariants.{V2, V3, V4}

-- ---- how long a path is

-- how many bytes the path before has
abbrev pub room_of : Option (List ℕ) → ℕ
room_of previous = unwrap_or (option_map length previous) 0

joined_len : (previous : Option (List ℕ)) (n : ℕ) (tail : List ℕ)
    → length (joined_path previous n tail) ≤ room_of previous + length tail
joined_len None n tail = omega arith
joined_len (Some p) n tail =
    omega (arith, length-append (take (length p - n) p) tail, length-take (length p - n) p)

room23 : (kind : Kind) (previous : Option (List ℕ)) (bytes : List ℕ) (r : Record) (rest : List ℕ)
    → IsEntry23 kind bytes r rest → length r.path + length rest ≤ room_of previous + length bytes
room23 kind previous bytes r rest h =
    omega (
      arith,
      ap length h.parts,
      length-append (head_bytes h.head) (r.path ++ (h.padding ++ rest)),
      length-append r.path (h.padding ++ rest),
      length-append h.padding rest,
    )

room4 : (kind : Kind) (previous : Option (List ℕ)) (bytes : List ℕ) (r : Record) (rest : List ℕ)
    → IsEntry4 kind previous bytes r rest → length r.path + length rest ≤ room_of previous + length bytes
room4 kind previous bytes r rest h =
    let path : length r.path ≡ length (joined_path previous h.stripped h.tail) = ap (λ (x : Record). length x.path)
    h.is in
    omega (
      arith,
      path,
      joined_len previous h.stripped h.tail,
      ap length h.parts,
      length-append (head_bytes h.head) h.after,
      ap length h.is_offset.parts,
      length-append h.is_offset.spelling h.delta,
      ap length h.is_tail.parts,
      length-append h.tail (0 ∷ rest),
    )

-- a path has no more bytes than the one before it and those that were read
pub room_left : (version : Version) (kind : Kind) (previous : Option (List ℕ)) (bytes : List ℕ) (r : Record)
    (rest : List ℕ)
    → IsEntry version kind previous bytes r rest → length r.path + length rest ≤ room_of previous + length bytes
room_left V2 kind previous bytes r rest h = room23 kind previous bytes r rest h
room_left V3 kind previous bytes r rest h = room23 kind previous bytes r rest h
room_left V4 kind previous bytes r rest h = room4 kind previous bytes r rest h

-- a path of which so many bytes are lent
pub lent_len : (o : Option (List ℕ)) (room : Option ℕ) (shared : ℕ) (path : List ℕ) → option_map length o ≡ room
    → shared ≤ unwrap_or room 0 → length (take shared (unwrap_or o []) ++ path) ≡ shared + length path
lent_len None room shared path e le =
    let none : shared ≤ 0 = rw (sym e) at le in
    omega (arith, none, length-append (take shared []) path, length-take shared (let l : List ℕ = [] in l))
lent_len (Some p) room shared path e le =
    let some : shared ≤ length p = rw (sym e) at le in
    omega (arith, some, length-append (take shared p) path, length-take shared p)

-- some path has so many bytes
path_of_len : (room : Option ℕ) → (previous : Option (List ℕ)) × (option_map length previous ≡ room)
path_of_len None = (None, refl)
path_of_len (Some n) = (Some (replicate n 0), ap Some (length-replicate n 0))

-- The path of an entry that was returned, and the bytes after it, have at most as many bytes as the path before it and
-- those that were read.
pub lent_fits : (version : Version) (kind : Kind) (room : Option ℕ) (rest : List ℕ) (lent : Lent) (after : List ℕ)
    → IsBorrowedEntry version kind room rest lent after → lent.shared ≤ unwrap_or room 0
    → lent.shared + length lent.path.now + length after ≤ unwrap_or room 0 + length rest
lent_fits version kind room rest lent after is le =
    let p = path_of_len room in
    let same : room_of p.0 ≡ unwrap_or room 0 = ap (λ (o : Option ℕ). unwrap_or o 0) p.1 in
    omega (
      arith,
      same,
      lent_len p.0 room lent.shared lent.path.now p.1 le,
      room_left version kind p.0 rest (borrowed_record p.0 lent) after (is p.0 p.1),
    )

-- ---- the result of a step, if the path before is known

pub lent_entry : (version : Version) (kind : Kind) (previous : Option (List ℕ)) (old : LeftToRead) (lent : Lent)
    (new : LeftToRead) → IsBehind version kind previous old → Lends old lent new
    → IsEntry version kind previous old.rest (borrowed_record previous lent) new.rest
lent_entry version kind previous old lent new at h =
    subst (λ (v : Version). IsEntry v kind previous old.rest (borrowed_record previous lent) new.rest) at.version_is
    (subst (λ (k : Kind). IsEntry old.version k previous old.rest (borrowed_record previous lent) new.rest) at.kind_is
    (h.0 previous at.room_is))

pub lent_none : (version : Version) (kind : Kind) (previous : Option (List ℕ)) (old new : LeftToRead)
    → IsBehind version kind previous old → LendsNone old new → (r : Record) (after : List ℕ)
    → IsEntry version kind previous old.rest r after → ⊥
lent_none version kind previous old new at h r after is =
    h.0 previous r after at.room_is
    (subst (λ (v : Version). IsEntry v old.kind previous old.rest r after) (sym at.version_is)
    (subst (λ (k : Kind). IsEntry version k previous old.rest r after) (sym at.kind_is) is))

-- after an entry that was returned, the reader is after its path
pub behind_lent : (version : Version) (kind : Kind) (records : List Record) (old : LeftToRead) (lent : Lent)
    (new : LeftToRead) → IsBehind version kind (last_path None records) old → Lends old lent new
    → lent.shared ≤ unwrap_or old.room 0
    → IsBehind version kind (last_path None (records ++ borrowed_record (last_path None records) lent ∷ [])) new
behind_lent version kind records old lent new at h le =
    let previous = last_path None records in
    record {
      version_is = ap (λ (x : LeftToRead). x.version) h.1 ∙ at.version_is;
      kind_is = ap (λ (x : LeftToRead). x.kind) h.1 ∙ at.kind_is;
      room_is = ap (option_map length) (last_path-push None records (borrowed_record previous lent))
          ∙ ap Some (lent_len previous old.room lent.shared lent.path.now at.room_is le)
          ∙ sym (ap (λ (x : LeftToRead). x.room) h.1);
    }

-- ---- the last of entries that are held

pub last_at : (previous : Option (List ℕ)) (rs : List Record) (k : ℕ) (path : List ℕ)
    → HoldsAt (λ r. r.path ≡ path) rs k → k + 1 ≡ length rs → last_path previous rs ≡ Some path
last_at previous [] k path h e = absurd (omega (arith, e))
last_at previous (r ∷ []) zero path h e = ap Some (h r)
last_at previous (r ∷ []) (suc k) path h e = absurd (omega (arith, e))
last_at previous (r ∷ q ∷ rs) zero path h e = absurd (omega (arith, e))
last_at previous (r ∷ q ∷ rs) (suc k) path h e =
    last_at (Some r.path) (q ∷ rs) k path (λ d. h d) (omega (arith, e))
