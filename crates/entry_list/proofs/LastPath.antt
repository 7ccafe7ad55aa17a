-- The path of the last entry, in the storage.
use Rattle.std.proofs.Common.{◌≡◌, ℕ, suc, ◌+◌, ◌-◌, ◌≤◌, List, [], ◌∷◌, All, Option, Some, None, length, drop, ap, sym}
use Rattle.std.proofs.Common.{arith}
use Rattle.std.specs.Prelude.{slice_get, slice_range, unwrap_or}
use Rattle.std.proofs.lemmas.List.{length-drop, length-take, take-take}
use Rattle.std.proofs.lemmas.List.Elements.{All-head, All-tail}
use Rattle.entry_list.specs.declared.Entry.{Entry}
use Rattle.entry_list.specs.Entries.{last_path}
use Rattle.entry_list.specs.Held.{IsFrontOfLast}
use Rattle.entry_list.specs.PathRange.{range_end, range_start}
use Rattle.entry_list.specs.Record.{IsPlaced, record_in, records_in}

last_is : (s : List ℕ) (p : Option (List ℕ)) (es : List Entry) (e : Entry) → Some e ≡ slice_get es (length es - 1)
    → last_path p (records_in s es) ≡ Some (record_in s e).path
last_is s p [] e h = cc
last_is s p (x ∷ []) e h = sym (ap (λ (o : Option Entry). unwrap_or (map_path o) (Some [])) h)
  where
    map_path : Option Entry → Option (Option (List ℕ))
    map_path None = None
    map_path (Some y) = Some (Some (record_in s y).path)
last_is s p (x ∷ y ∷ es) e h =
    let one : length (x ∷ y ∷ es) - 1 ≡ suc (length es) = omega arith in
    let two : length es ≡ length (y ∷ es) - 1 = omega arith in
    last_is s (Some (record_in s x).path) (y ∷ es) e (rw two at (rw one at h))

last_placed : (n : ℕ) (es : List Entry) (e : Entry) → Some e ≡ slice_get es (length es - 1) → All (IsPlaced n) es
    → IsPlaced n e
last_placed n [] e h a = cc
last_placed n (x ∷ []) e h a = let same : e ≡ x = cc in rw same (All-head (IsPlaced n) x [] a)
last_placed n (x ∷ y ∷ es) e h a =
    let one : length (x ∷ y ∷ es) - 1 ≡ suc (length es) = omega arith in
    let two : length es ≡ length (y ∷ es) - 1 = omega arith in
    last_placed n (y ∷ es) e (rw two at (rw one at h)) (All-tail (IsPlaced n) x (y ∷ es) a)

pub last_front : (s : List ℕ) (es : List Entry) (e : Entry) → Some e ≡ slice_get es (length es - 1)
    → All (IsPlaced (length s)) es → (shared : ℕ) → shared ≤ length (unwrap_or (last_path None (records_in s es)) [])
    → IsFrontOfLast (record { records = records_in s es; storage = s }) shared (range_start e.path)
last_front s es e h a shared le =
    let a0 = range_start e.path in
    let b0 = range_end e.path in
    let p : IsPlaced (length s) e = last_placed (length s) es e h a in
    let is : last_path None (records_in s es) ≡ Some (slice_range s a0 b0) = last_is s None es e h in
    let few : shared ≤ length (slice_range s a0 b0) = rw is at le in
    let long : length (slice_range s a0 b0) ≡ b0 - a0 =
    omega (arith, p.inside, length-take (b0 - a0) (drop a0 s), length-drop a0 s) in
    let n : a0 + shared - a0 ≡ shared = omega arith in
    record {
      inside = omega (arith, p.inside, few, long);
      is = rw (is, n) (sym (take-take shared (b0 - a0) (drop a0 s) (omega (arith, few, long))));
    }
