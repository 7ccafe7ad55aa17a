-- What a file keeps of the bits that it kept is the same.
use Rattle.std.proofs.Common.{◌≡◌, ℕ, Bool, true, false, eqb, List, [], ◌∷◌, map, refl, ap, ◌∙◌}
use Rattle.std.specs.Prelude.{bit_and}
use Rattle.std.proofs.lemmas.Nat.{and_assoc, and_comm}
use Rattle.entry_fields.specs.Flags.{is_extended, stored_flags}
use Rattle.entry_list.specs.EntryImage.{is_removed, written, stored_record, stored_records}
use Rattle.entry_list.specs.Record.{Record}

-- bits within a mask are kept by it
pub mask_twice : (m a b : ℕ) → bit_and m b ≡ b → bit_and (bit_and a m) b ≡ bit_and a b
mask_twice m a b e = and_assoc b a m ∙ ap (bit_and a) e

-- bits outside a mask are lost
mask_none : (m a b : ℕ) → bit_and m b ≡ 0 → bit_and (bit_and a m) b ≡ 0
mask_none m a b e = and_assoc b a m ∙ ap (bit_and a) e ∙ and_comm a 0

unmarked_by : (m f : ℕ) → bit_and m 0x20000 ≡ 0 → is_removed (bit_and f m) ≡ false
unmarked_by m f e = ap (λ (n : ℕ). eqb n 0x20000) (mask_none m f 0x20000 e)

extended_by : (m f : ℕ) → bit_and m 0x4000 ≡ 0x4000 → is_extended (bit_and f m) ≡ is_extended f
extended_by m f e = ap (λ (n : ℕ). eqb n 0x4000) (mask_twice m f 0x4000 e)

-- the flags that a file keeps are kept, and they aren't marked
pub record AreKeptFlags (f : ℕ) : Type 0 where
  pub flags : stored_flags (stored_flags f) ≡ stored_flags f
  pub unmarked : is_removed (stored_flags f) ≡ false

kept_by : (b : Bool) (f : ℕ) → is_extended f ≡ b → AreKeptFlags f
kept_by true f e =
    let m : ℕ = 0x6000f000 in
    let is : stored_flags f ≡ bit_and f m = rw e refl in
    let same : is_extended (bit_and f m) ≡ true = extended_by m f refl ∙ e in
    record { flags = rw is (rw same (mask_twice m f m refl)); unmarked = rw is (unmarked_by m f refl) }
kept_by false f e =
    let m : ℕ = 0xf000 in
    let is : stored_flags f ≡ bit_and f m = rw e refl in
    let same : is_extended (bit_and f m) ≡ false = extended_by m f refl ∙ e in
    record { flags = rw is (rw same (mask_twice m f m refl)); unmarked = rw is (unmarked_by m f refl) }

pub kept_twice : (f : ℕ) → AreKeptFlags f
kept_twice f = kept_by (is_extended f) f refl

pub record_twice : (r : Record) → stored_record (stored_record r) ≡ stored_record r
record_twice r = rw ((kept_twice r.flags).flags, mask_twice 0o160755 r.mode 0o160755 refl) refl

-- records that a file has are not marked
pub written_stored : (rs : List Record) → written (map stored_record rs) ≡ map stored_record rs
written_stored [] = refl
written_stored (r ∷ rs) =
    rw (kept_twice r.flags).unmarked (ap (λ (l : List Record). stored_record r ∷ l) (written_stored rs))

map_twice : (rs : List Record) → map stored_record (map stored_record rs) ≡ map stored_record rs
map_twice [] = refl
map_twice (r ∷ rs) = rw (record_twice r, map_twice rs) refl

pub records_twice : (rs : List Record) → stored_records (stored_records rs) ≡ stored_records rs
records_twice rs = ap (map stored_record) (written_stored (written rs)) ∙ map_twice (written rs)
