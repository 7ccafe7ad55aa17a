-- Entries that were written one after another are read again, in each version.
use Rattle.std.proofs.Common.{◌≡◌, ℕ, suc, ◌+◌, ◌*◌, ◌^◌, ◌<◌, ◌≤◌, List, [], ◌∷◌, ◌++◌, length, map, All, Option, Some}
use Rattle.std.proofs.Common.{refl, sym, subst, ◌∙◌, append_assoc, length-append, arith}
use Rattle.std.specs.Prelude.{◌≢◌}
use Rattle.std.specs.List.{AllByRecursion}
use Rattle.std.proofs.Math.Nat.{suc-mul}
use Rattle.index_parts.specs.declared.hash.Kind.{Kind}
use Rattle.index_parts.specs.declared.hash.Kind.TheVariants as kinds
use Rattle.entry_list.specs.declared.Version.{Version}
use Rattle.entry_list.specs.declared.Version.TheVariants.{V2, V3, V4}
use Rattle.entry_list.specs.Entries.{AreEntries}
use Rattle.entry_list.specs.Entry.{IsEntry}
use Rattle.entry_list.specs.EntryImage.{entry_bytes, entry_in, entries_in, padding, stored_record, unpadded}
use Rattle.entry_list.specs.Limits.{smallest_entry}
use Rattle.entry_list.specs.Record.{Record}
use Rattle.entry_list.proofs.Again.{IsStorableIn, entry_again, entry_len, head_len}
use Rattle.entry_list.proofs.DeltasAgain.{IsBefore, delta_again, delta_path, delta_smallest}
use Rattle.entry_list.proofs.Lengths.{path_within}

-- in version 4 the path has no NUL
abbrev pub HasPath : Version → Record → Type 0
HasPath V2 r = Unit {0}
HasPath V3 r = Unit {0}
HasPath V4 r = All (λ b. b ≢ 0) r.path

one_again : (version : Version) (kind : Kind) (before : Option (List ℕ)) (previous : List ℕ) (r : Record)
    (rest : List ℕ) → IsBefore before previous → IsStorableIn kind r → HasPath version r → length previous < 2 ^ 64
    → 1 ≤ length rest
    → IsEntry version kind before (entry_in version previous r ++ rest) (stored_record r) rest
one_again V2 kind before previous r rest is h p small some = entry_again kind r rest h
one_again V3 kind before previous r rest is h p small some = entry_again kind r rest h
one_again V4 kind before previous r rest is h p small some = delta_again kind before previous r rest is h p small some

entry_path : (r : Record) → length r.path ≤ length (entry_bytes r)
entry_path r = omega (arith, path_within r, length-append (unpadded r) (padding (length (unpadded r))))

path_in : (version : Version) (previous : List ℕ) (r : Record)
    → length r.path ≤ length previous + length (entry_in version previous r)
path_in V2 previous r = omega (arith, entry_path r)
path_in V3 previous r = omega (arith, entry_path r)
path_in V4 previous r = delta_path previous r

before_some : (path : List ℕ) → IsBefore (Some path) path
before_some path = refl

-- written entries are read as consecutive entries
pub entries_again : (version : Version) (kind : Kind) (before : Option (List ℕ)) (previous : List ℕ) (rs : List Record)
    (rest : List ℕ) → IsBefore before previous → AllByRecursion (IsStorableIn kind) rs
    → AllByRecursion (HasPath version) rs
    → length previous + length (entries_in version previous rs) < 2 ^ 64 → 1 ≤ length rest
    → AreEntries version kind before (entries_in version previous rs ++ rest) (map stored_record rs) rest
entries_again version kind before previous [] rest is h p small some = refl
entries_again version kind before previous (r ∷ rs) rest is h p small some =
    let one : List ℕ = entry_in version previous r in
    let others : List ℕ = entries_in version r.path rs in
    let after : List ℕ = others ++ rest in
    let len : length (one ++ others) ≡ length one + length others = length-append one others in
    let here = one_again version kind before previous r after is h.0 p.0 (omega arith)
    (omega (arith, length-append others rest)) in (
      after,
      subst (λ (l : List ℕ). IsEntry version kind before l (stored_record r) after)
          (sym (append_assoc one others rest)) here,
      entries_again version kind (Some r.path) r.path rs rest (before_some r.path) h.1 p.1
          (omega (arith, path_in version previous r)) some,
    )

-- ---- how many bytes they have

-- an entry has no fewer bytes than the fewest that one takes
smallest_again : (version : Version) (kind : Kind) (previous : List ℕ) (r : Record) → IsStorableIn kind r
    → smallest_entry kind version ≤ length (entry_in version previous r)
smallest_again V2 kinds.Sha1 previous r h = entry_len kinds.Sha1 r h
smallest_again V2 kinds.Sha256 previous r h = entry_len kinds.Sha256 r h
smallest_again V3 kinds.Sha1 previous r h = entry_len kinds.Sha1 r h
smallest_again V3 kinds.Sha256 previous r h = entry_len kinds.Sha256 r h
smallest_again V4 kinds.Sha1 previous r h = omega (arith, delta_smallest previous r, head_len kinds.Sha1 r h)
smallest_again V4 kinds.Sha256 previous r h = omega (arith, delta_smallest previous r, head_len kinds.Sha256 r h)

one_more : (n m : ℕ) → suc n * m ≡ m + n * m
one_more n m = suc-mul n m ∙ omega arith

pub smallest_entries : (version : Version) (kind : Kind) (previous : List ℕ) (rs : List Record)
    → AllByRecursion (IsStorableIn kind) rs
    → length rs * smallest_entry kind version ≤ length (entries_in version previous rs)
smallest_entries version kind previous [] h = omega arith
smallest_entries version kind previous (r ∷ rs) h =
    omega (
      arith,
      length-append (entry_in version previous r) (entries_in version r.path rs),
      smallest_again version kind previous r h.0,
      smallest_entries version kind r.path rs h.1,
      one_more (length rs) (smallest_entry kind version),
    )
