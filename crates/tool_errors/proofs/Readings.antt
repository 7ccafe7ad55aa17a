-- What was read at the begin of 1970, with the default options.
use Rattle.std.proofs.Common.{◌≡◌, ℕ, List, subst, Bool, true, false, Option, None, refl, sym, ◌∙◌}
use Rattle.std.specs.Borrow.{Bor}
use Rattle.std.specs.declared.io.Error.{Error as IoError}
use Rattle.gix_index.specs.Contents.{Contents}
use Rattle.gix_index.specs.DecodeOptions.{Options}
use Rattle.gix_index.specs.Disk.{disk_at}
use Rattle.gix_index.specs.Disk.World.{IsFaultOf, World}
use Rattle.gix_index.specs.FileFaults.{FilesReadCause}
use Rattle.gix_index.specs.FileFaults.ReadErrors.{IsOfCall}
use Rattle.gix_index.specs.FileFaults.ReadError.{Error as ReadFault}
use Rattle.gix_index.specs.FileFaults.ReadError.TheVariants as reads
use Rattle.gix_index.specs.FileTime.{FileTime}
use Rattle.gix_index.specs.Kind.{Kind}
use Rattle.gix_index.specs.Linked.{IsOnDisk, IsOnDiskSince}
use Rattle.gix_index.specs.ObjectId.{ObjectId}
use Rattle.tool_errors.specs.Options.{unlimited_options, IsBeginOf1970}
use Rattle.tool_errors.specs.Reading.{FailsReading, IsInFile, IsInFileSince, BytesCause, IndexReadCause, failure_of}
use Rattle.tool_errors.specs.declared.failure.Failure.{Failure}

pub in_file : (world : World) (at path : List ℕ) (kind : Kind) (time : FileTime) (options : Options) (v : Contents) (checksum : Option ObjectId)
    → IsBeginOf1970 time → at ≡ path → options ≡ unlimited_options
    → IsOnDisk (disk_at world at) false kind time options v checksum → IsInFile (disk_at world path) kind v checksum
in_file world at path kind time options v checksum begin same e is = record {
  time = time;
  begin = begin;
  is = subst (λ (p : List ℕ). IsOnDisk (disk_at world p) false kind time unlimited_options v checksum) same
      (subst (λ (o : Options). IsOnDisk (disk_at world at) false kind time o v checksum) e is);
}

pub in_file_since : (world : World) (at path : List ℕ) (kind : Kind) (options : Options) (v : Contents)
    (checksum : Option ObjectId) → at ≡ path → options ≡ unlimited_options
    → IsOnDiskSince (disk_at world at) false kind options v checksum → IsInFileSince (disk_at world path) kind v checksum
in_file_since world at path kind options v checksum same e is =
    subst (λ (p : List ℕ). IsOnDiskSince (disk_at world p) false kind unlimited_options v checksum) same
    (subst (λ (o : Options). IsOnDiskSince (disk_at world at) false kind o v checksum) e is)

pub says_so : (works : Bool) (world : World) (at path : List ℕ) (kind : Kind) (time : FileTime) (options : Options)
    (e : ReadFault) → at ≡ path → options ≡ unlimited_options
    → FilesReadCause at works (disk_at world at) false kind time options e → IndexReadCause works world kind path e
says_so works world at path kind time options e same is h = by e
    (subst (λ (p : List ℕ). FilesReadCause p works (disk_at world p) false kind time unlimited_options e) same
    (subst (λ (o : Options). FilesReadCause at works (disk_at world at) false kind time o e) is h))
  where
    by : (e : ReadFault) → FilesReadCause path works (disk_at world path) false kind time unlimited_options e
        → IndexReadCause works world kind path e
    by (reads.Io fault) h = (time, h)
    by (reads.Decode e) h = (time, h)
    by (reads.LinkExtension e) h = (time, h)
    by reads.Memory h = tt

-- An error of a call for the file at a path is an error of that file's bytes, if what is there may cause it.
pub call_says : (works : Bool) (world : World) (at path : List ℕ) (error : IoError) (e : ReadFault)
    → IsOfCall at error e → at ≡ path → (works ≡ true → IsFaultOf (world at) error) → BytesCause works world path e
call_says works world at path error (reads.Io fault) h same is = (
  h.0,
  h.1 ∙ same,
  λ w. subst (λ (p : List ℕ). IsFaultOf (world p) fault.error) same
      (subst (IsFaultOf (world at)) (sym h.2) (is w)),
)
call_says works world at path error (reads.Decode e) h same is = absurd h
call_says works world at path error (reads.LinkExtension e) h same is = absurd h
call_says works world at path error reads.Memory h same is = tt

-- a failure of reading that is a lack of memory
pub lacks_memory : (Says : ReadFault → Type 0) (path : Bor (List ℕ)) (failure : Failure)
    → failure ≡ failure_of path reads.Memory → Says reads.Memory → FailsReading Says path.now failure
lacks_memory Says path failure is says =
    record { file = path; names = refl; fault = reads.Memory; is = is; says = says }

pub options_are : (options : Options) → options.thread_limit ≡ None
    → options.min_extension_block_in_bytes_for_threading ≡ 0 → options.expected_checksum ≡ None
    → options.alloc_limit_bytes ≡ None → options ≡ unlimited_options
options_are options a b c d = rw (a, b, c, d) refl
