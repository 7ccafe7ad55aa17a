-- What the bytes of a file are read as by themselves, at the begin of 1970, with the default options.
use Rattle.std.proofs.Common.{◌≡◌, subst, Bool, false, List, ℕ, Option, Ok}
use Rattle.gix_index.specs.Behind.{FollowEntries}
use Rattle.gix_index.specs.Checked.{IsFileAnswer}
use Rattle.gix_index.specs.Contents.{Contents}
use Rattle.gix_index.specs.DecodeOptions.{Options}
use Rattle.gix_index.specs.Disk.{MayHave}
use Rattle.gix_index.specs.FileFaults.{FileReadCause}
use Rattle.gix_index.specs.FileFaults.ReadError.{Error as ReadFault}
use Rattle.gix_index.specs.FileFaults.ReadError.TheVariants as reads
use Rattle.gix_index.specs.FileTime.{FileTime}
use Rattle.gix_index.specs.Disk.World.{Known, World}
use Rattle.gix_index.specs.Kind.{Kind}
use Rattle.gix_index.specs.ObjectId.{ObjectId}
use Rattle.ext_small.specs.Marks.{AreMarks}
use Rattle.ext_small.specs.declared.marks.Marks.{Marks}
use Rattle.tool_errors.specs.Options.{unlimited_options, IsBeginOf1970}
use Rattle.tool_inspect.specs.Showing.{IsInBytes, FileAloneCause}

pub in_bytes : (known : Known) (kind : Kind) (bytes ending : List ℕ) (time : FileTime) (options : Options) (v : Contents)
    (checksum : Option ObjectId) (marks : Marks) → MayHave known bytes → IsBeginOf1970 time → options ≡ unlimited_options
    → IsFileAnswer false kind time options bytes (Ok (v, checksum)) → FollowEntries kind bytes ending
    → AreMarks kind ending marks → IsInBytes known kind v checksum marks
in_bytes known kind bytes ending time options v checksum marks held begin e is behind marked = record {
  time = time;
  begin = begin;
  bytes = bytes;
  held = held;
  ending = ending;
  is = subst (λ (o : Options). IsFileAnswer false kind time o bytes (Ok (v, checksum))) e is;
  behind = behind;
  marked = marked;
}

pub says_alone : (works : Bool) (world : World) (at path : List ℕ) (kind : Kind) (time : FileTime) (options : Options)
    (e : ReadFault) → at ≡ path → options ≡ unlimited_options
    → FileReadCause at works (world at) false kind time options e → FileAloneCause works world kind path e
says_alone works world at path kind time options e same is h = by e
    (subst (λ (p : List ℕ). FileReadCause p works (world p) false kind time unlimited_options e) same
    (subst (λ (o : Options). FileReadCause at works (world at) false kind time o e) is h))
  where
    by : (e : ReadFault) → FileReadCause path works (world path) false kind time unlimited_options e
        → FileAloneCause works world kind path e
    by (reads.Io fault) h = (time, h)
    by (reads.Decode e) h = (time, h)
    by (reads.LinkExtension e) h = (time, h)
    by reads.Memory h = tt
