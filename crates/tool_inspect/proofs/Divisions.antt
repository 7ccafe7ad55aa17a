-- The division of a file that is held, or was counted.
use Rattle.std.proofs.Common.{◌≡◌, ℕ, List, length, Result, Ok, Err}
use Rattle.std.specs.Prelude.{IfOk}
use Rattle.gix_index.specs.Disk.{MayHave}
use Rattle.gix_index.specs.Disk.World.{Known}
use Rattle.gix_index.specs.Header.{header_of}
use Rattle.gix_index.specs.HeaderError.{Header}
use Rattle.gix_index.specs.HeaderErrors.{header_fault}
use Rattle.gix_index.specs.Kind.{Kind}
use Rattle.view_salvage.specs.Division.{IsDivisionOf}
use Rattle.view_salvage.specs.declared.division.Division.{Division}
use Rattle.tool_inspect.specs.Dividing.{IsDivisionOfFile}
use Rattle.file_windows.specs.Counted.{AreHeadless}

pub held_divided : {E : Type 0} (kind : Kind) (bytes : List ℕ) (r : Result Division E)
    → IfOk r (IsDivisionOf kind bytes)
    → IfOk r (λ d. (known : Known) → MayHave known bytes → IsDivisionOfFile known kind d)
held_divided kind bytes (Ok d) h = λ known held. record { bytes = bytes; held = held; divides = h }
held_divided kind bytes (Err e) h = tt

pub counted_divided : {E : Type 0} (kind : Kind) (len : ℕ) (fault : Header) (r : Result Division E)
    → IfOk r (λ d. (k : Kind) (bytes : List ℕ) → len ≡ length bytes → header_of k bytes ≡ Err (header_fault fault)
    → IsDivisionOf k bytes d)
    → IfOk r (λ d. (known : Known) → AreHeadless kind (MayHave known) len fault → IsDivisionOfFile known kind d)
counted_divided kind len fault (Ok d) h = λ known x. record {
  bytes = x.bytes;
  held = x.are;
  divides = h kind x.bytes x.count x.header;
}
counted_divided kind len fault (Err e) h = tt
