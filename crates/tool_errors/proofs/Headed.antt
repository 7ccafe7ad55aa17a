-- What is read as all bytes of an opened file holds of what is known at its path.
use Rattle.std.proofs.Common.{◌≡◌, ℕ, Bool, false, true, List, Option, Some, subst, sym}
use Rattle.std.specs.Prelude.{IfSome}
use Rattle.gix_index.specs.DecodeError.{Error as DecodeError}
use Rattle.gix_index.specs.DecodeError.TheVariants.{Header}
use Rattle.gix_index.specs.Disk.{MayHave}
use Rattle.gix_index.specs.Disk.World.{Absent, Directory, Holds, Known, Leads, MayBe, Special, Stored, Unknown, World}
use Rattle.gix_index.specs.FileFaults.ReadError.{Error as ReadFault}
use Rattle.gix_index.specs.FileFaults.ReadError.TheVariants as reads
use Rattle.gix_index.specs.Kind.{Kind}
use Rattle.tool_errors.specs.Calls.{IsHeadless, IsWholeOf}
use Rattle.tool_errors.specs.Reading.{BytesCause, HeadedBytesCause}
use Rattle.file_windows.specs.Answers.{IsAllOf}
use Rattle.file_windows.specs.Counted.{IsCountedFile}
use Rattle.file_windows.specs.ReadWhole.{IsReadWhole, IsRefusal, broken, intact}
use Rattle.file_windows.specs.declared.disk.CountedFile.{CountedFile}
use Rattle.file_windows.specs.declared.disk.CountedFile.TheVariants as counted
use Rattle.file_windows.specs.declared.disk.WholeFile.{WholeFile}
use Rattle.file_windows.specs.declared.disk.WholeFile.TheVariants as whole

-- what holds of an opened file that is known, holds of what is at the path
pub opened_so : (known : Known) (stored : Option Stored) (P : Stored → Type 0)
    → MayBe known (λ there. stored ≡ Some there) → IfSome stored P → MayBe known P
opened_so Unknown stored P e h = tt
opened_so Absent stored P e h = absurd e
opened_so (Holds file) stored P e h = subst (λ (s : Option Stored). IfSome s P) e h
opened_so (Leads to) stored P e h = tt
opened_so Directory stored P e h = tt
opened_so Special stored P e h = tt

pub whole_of_opened : (known : Known) (stored : Option Stored) (kind : Kind) (w : WholeFile)
    → MayBe known (λ there. stored ≡ Some there) → IsReadWhole stored true kind w → IsWholeOf known kind w
whole_of_opened known stored kind (whole.Held bytes digest) e h =
    opened_so known stored (λ file. bytes.items ≡ file.bytes) e h.0
whole_of_opened known stored kind (whole.Refused f) e h =
    record {
      bytes = h.bytes;
      held = opened_so known stored (λ file. h.bytes ≡ file.bytes) e h.whole;
      fault = h.fault;
      header = h.header;
      is = by h.refusal;
    }
  where
    by : IsRefusal true kind h.bytes h.fault f → f ≡ Header h.fault
    by (broken b is) = let none : false ≡ true = b.0 in cc
    by (intact i is) = is

pub counted_of_opened : (known : Known) (stored : Option Stored) (kind : Kind) (w : CountedFile)
    → MayBe known (λ there. stored ≡ Some there) → IsCountedFile kind (IsAllOf stored) w
    → IsCountedFile kind (MayHave known) w
counted_of_opened known stored kind (counted.Held bytes) e h =
    opened_so known stored (λ file. bytes.items ≡ file.bytes) e h
counted_of_opened known stored kind (counted.Headless len fault) e h = record {
  bytes = h.bytes;
  are = opened_so known stored (λ file. h.bytes ≡ file.bytes) e h.are;
  count = h.count;
  header = h.header;
}

-- an error of `BytesCause` is one of `HeadedBytesCause`
pub says_of_headed : (works : Bool) (world : World) (kind : Kind) (path : List ℕ) (e : ReadFault)
    → BytesCause works world path e → HeadedBytesCause works world kind path e
says_of_headed works world kind path (reads.Io fault) h = h
says_of_headed works world kind path (reads.Decode e) h = absurd h
says_of_headed works world kind path (reads.LinkExtension e) h = absurd h
says_of_headed works world kind path reads.Memory h = tt

-- an error of the header is one of `HeadedBytesCause`
pub refused_says : (works : Bool) (world : World) (kind : Kind) (path : List ℕ) (e : DecodeError)
    → IsHeadless (world path) kind e → HeadedBytesCause works world kind path (reads.Decode e)
refused_says works world kind path e h =
    subst (λ (x : DecodeError). HeadedBytesCause works world kind path (reads.Decode x)) (sym h.is)
    (h.bytes, h.held, h.header)
