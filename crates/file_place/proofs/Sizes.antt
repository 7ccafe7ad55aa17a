-- A fault of reading a file, by what is known of it.
use Rattle.std.proofs.Common.{◌≡◌, ℕ, List, length, Option, Some, None, inl, inr, subst, sym, arith}
use Rattle.std.proofs.lemmas.List.{length-append}
use Rattle.std.specs.Prelude.{IfSome}
use Rattle.std.specs.Io.KnownBytes.{Consumes}
use Rattle.std.specs.declared.io.Error.{Error}
use Rattle.file_place.specs.Sizes.{IsOwnFault, IsRoomFault, IsTooLong}
use Rattle.file_place.specs.World.{Absent, Directory, Holds, IsFaultOf, IsStatusOf, Known, Leads, MayBe, Special, Stored}
use Rattle.file_place.specs.World.{Unknown, whole_of}
use Rattle.file_place.specs.declared.folder.Status.{Status}

-- a file that gave too many bytes had too many
pub gave_too_long : (old new : Option (List ℕ)) (bytes : List ℕ) → Consumes old new bytes → IsTooLong (length bytes)
    → IfSome old (λ left. IsTooLong (length left))
gave_too_long None new bytes c long = tt
gave_too_long (Some left) None bytes c long = absurd c
gave_too_long (Some left) (Some rest) bytes c long =
    subst (λ (l : List ℕ). IsTooLong (length l)) (sym c)
    (omega (arith, long, length-append bytes rest))

-- no room for as many bytes as the status of a file reports
pub no_room_for : (stored : Option Stored) (status : Status) (e : Error) → IfSome stored (IsStatusOf status)
    → IsRoomFault status.len e → IsOwnFault (whole_of stored) e
no_room_for stored status e told (inl memory) = inl memory
no_room_for None status e told (inr h) = inr (tt, h.1)
no_room_for (Some file) status e told (inr h) = inr (subst IsTooLong told.len h.0, h.1)

-- a fault of the file that was opened at a path
pub own_fault_at : (k : Known) (stored : Option Stored) (e : Error) → MayBe k (λ there. stored ≡ Some there)
    → IsOwnFault (whole_of stored) e → IsFaultOf k e
own_fault_at k stored e there (inl memory) = inl (inl memory)
own_fault_at Unknown stored e there (inr h) = inl (inr (tt, h.1))
own_fault_at Absent stored e there (inr h) = absurd there
own_fault_at (Holds file) stored e there (inr h) =
    inl (inr (subst (λ (o : Option Stored). IfSome (whole_of o) (λ bs. IsTooLong (length bs))) there h.0, h.1))
own_fault_at (Leads to) stored e there (inr h) = inl (inr (tt, h.1))
own_fault_at Directory stored e there (inr h) = inl (inr (tt, h.1))
own_fault_at Special stored e there (inr h) = inl (inr (tt, h.1))
