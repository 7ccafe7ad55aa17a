-- Which of the entries at a path is wanted (the library's own). Public clauses don't use these definitions.
use Rattle.std.specs.Prelude.{◌≡◌, ℕ, ◌==◌, ◌||◌, ◌&&◌, Bool, false, List, length}
use Rattle.std.specs.List.{AllWithin}
use Rattle.entry_list.specs.Order.{record_stage}
use Rattle.entry_list.specs.Record.{Record}
use Rattle.entry_lookup.specs.Closest.{is_directory_mode}
use Rattle.entry_lookup.specs.Range.{is_at}
use Rattle.entry_lookup.specs.declared.range.Wanted.{Wanted}
use Rattle.entry_lookup.specs.declared.range.Wanted.TheVariants.{Directory, OurSide}

-- an entry of this mode and stage is wanted
abbrev pub is_wanted : Wanted → ℕ → ℕ → Bool
is_wanted Directory mode stage = is_directory_mode mode
is_wanted OurSide mode stage = (stage == 0) || (stage == 2)

-- the record is at the path, and is wanted
abbrev pub is_wanted_at : List ℕ → Wanted → Record → Bool
is_wanted_at path wanted r = is_at path r && is_wanted wanted r.mode (record_stage r)

-- if none from low up to end passes, none after it passes either
abbrev pub IsEnoughUpto : {X : Type 0} → (X → Bool) → List X → ℕ → ℕ → Type 0
IsEnoughUpto test xs low end =
    AllWithin (λ x. test x ≡ false) xs low end → AllWithin (λ x. test x ≡ false) xs end (length xs)
