-- The first bytes of a file.
use Rattle.std.proofs.Common.{◌≡◌, ◌∙◌, ℕ, List, take, Option, Some, refl, subst, sym}
use Rattle.std.specs.Prelude.{IfSome}
use Rattle.gix_index.specs.Disk.World.{Absent, Directory, Holds, Known, Leads, MayBe, Special, Stored, Unknown, whole_of}
use Rattle.tool_defaults.specs.KindAt.{BeginsWith}

-- what an opened file gave from its start, four bytes or more, or all
pub begins_with : (known : Known) (stored : Option Stored) (left : Option (List ℕ)) (first start : List ℕ)
    → MayBe known (λ there. stored ≡ Some there) → left ≡ whole_of stored
    → IfSome left (λ l. take 4 l ≡ take 4 first) → start ≡ take 4 first → BeginsWith known start
begins_with Unknown stored left first start e all begins is = record { bytes = first; held = tt; starts = sym is }
begins_with Absent stored left first start e all begins is = absurd e
begins_with (Holds file) stored left first start e all begins is = record {
  bytes = file.bytes;
  held = refl;
  starts = subst (λ (s : Option Stored). IfSome (whole_of s) (λ l. take 4 l ≡ take 4 first)) e
      (subst (λ (o : Option (List ℕ)). IfSome o (λ l. take 4 l ≡ take 4 first)) all begins) ∙ sym is;
}
begins_with (Leads to) stored left first start e all begins is = record { bytes = first; held = tt; starts = sym is }
begins_with Directory stored left first start e all begins is = record { bytes = first; held = tt; starts = sym is }
begins_with Special stored left first start e all begins is = record { bytes = first; held = tt; starts = sym is }
