-- The statements that bytes have one reading, and that an index is read, written and read again (the library's own).
use Rattle.std.specs.Prelude.{◌≡◌, ℕ, List, Option, None, Ok, ◌⊎◌, length, true, IfSome}
use Rattle.index_parts.specs.declared.hash.Kind.{Kind}
use Rattle.index_parts.specs.declared.hash.ObjectId.{ObjectId}
use Rattle.entry_fields.specs.declared.entry.stat.FileTime.{FileTime}
use Rattle.entry_list.specs.EntryImage.{written}
use Rattle.entry_list.specs.Record.{AreBytes}
use Rattle.index_model.specs.Answer.{Answer, IsAnswer, trailer_checksum}
use Rattle.index_model.specs.Contents.{Contents}
use Rattle.index_model.specs.Image.{image, image_version, is_kept, trailer}
use Rattle.index_model.specs.Keepable.{AreKeepable}
use Rattle.index_model.specs.Kept.{AreWellFormed}
use Rattle.index_model.specs.Stored.{expected, kept_value, stored}
use Rattle.index_model.specs.Storable.{IsKeepable, IsStorable, IsWritable, IsUnmistakable}
use Rattle.index_model.specs.declared.decode.Options.{Options}
use Rattle.index_model.specs.declared.write.Options.{Options as WriteOptions}
use Rattle.ext_bitmap.specs.Bitmap.{Bitmap, IsBitmap, HasBitmap, Lacks}
use Rattle.ext_bitmap.specs.declared.ewah.reading.Error.{Error}
use Rattle.index_extensions.specs.ExtensionValue.{IsRead}
use Rattle.index_extensions.specs.Walk.{Item, IsWalk}
use Rattle.ext_split.specs.Link.{LinkFault, IsLinkFault}
use Rattle.tree_encode.specs.Kept.{HasNamesInOrder}

-- ---- one answer

-- all bytes have an answer, for each hash algorithm, time and options
abbrev pub AllHaveAnswer : Type 0
AllHaveAnswer =
    (kind : Kind) (time : FileTime) (options : Options) (bytes : List ℕ)
    → (a : Answer) × IsAnswer kind time options bytes a

-- all bytes have at most one answer
abbrev pub AllHaveOneAnswer : Type 0
AllHaveOneAnswer =
    (kind : Kind) (time : FileTime) (options : Options) (bytes : List ℕ) (a b : Answer)
    → IsAnswer kind time options bytes a → IsAnswer kind time options bytes b → a ≡ b

-- a link that has no reading has one first error
abbrev pub HasOneLinkFault : Type 0
HasOneLinkFault =
    (kind : Kind) (bytes : List ℕ) (f g : LinkFault) → IsLinkFault kind bytes f → IsLinkFault kind bytes g → f ≡ g

-- all bytes are read as a value or as none, and in one way
pub record HasOneReading {A : Type 0} (Is : List ℕ → A → Type 0) : Type 0 where
  pub some : (bytes : List ℕ) → (v : Option A) × IsRead Is bytes v
  pub one : (bytes : List ℕ) (v w : Option A) → IsRead Is bytes v → IsRead Is bytes w → v ≡ w

-- all bytes are complete extensions and a tail, in exactly one way
pub record HasOneWalk : Type 0 where
  pub some : (bytes : List ℕ) → (items : List Item) × ((tail : List ℕ) × IsWalk bytes items tail)
  pub one : (bytes : List ℕ) (items others : List Item) (tail rest : List ℕ) → IsWalk bytes items tail
      → IsWalk bytes others rest → (items ≡ others) × (tail ≡ rest)

-- all bytes begin with a bitmap, in one way, or lack exactly one first part of it
pub record HasOneBitmap : Type 0 where
  pub some : (bytes : List ℕ) → HasBitmap bytes ⊎ ((fault : Error) × Lacks fault bytes)
  pub apart : (bytes : List ℕ) (fault : Error) → HasBitmap bytes → Lacks fault bytes → ⊥
  pub one : (bytes : List ℕ) (b c : Bitmap) (rest after : List ℕ) → IsBitmap bytes b rest → IsBitmap bytes c after
      → (b ≡ c) × (rest ≡ after)
  pub one_fault : (bytes : List ℕ) (f g : Error) → Lacks f bytes → Lacks g bytes → f ≡ g

-- ---- written and read again

-- a reading without a memory limit and without an expected id
pub record TakesAll (reading : Options) : Type 0 where
  pub limit : reading.alloc_limit_bytes ≡ None
  pub checksum : reading.expected_checksum ≡ None

-- The value and its extensions that are preserved can be stored in a file, and writing it isn't rejected. Its image
-- doesn't end as if it had an end marker if it has none.
pub record IsFaithful (v : Contents) (options : WriteOptions) : Type 0 where
  pub storable : IsStorable v
  pub keepable : IsKeepable v options
  pub writable : IsWritable v options
  pub unmistakable : IsUnmistakable v options

-- Some bytes are read as a value, which is written by the options. The image is read again, as another value.
pub record IsReread (v : Contents) (options : WriteOptions) (w : Contents) : Type 0 where
  pub kind : Kind
  pub bytes : List ℕ
  pub are_bytes : AreBytes bytes
  pub time : FileTime
  pub reading : Options
  pub checksum : Option ObjectId
  pub read : IsAnswer kind time reading bytes (Ok (v, checksum))
  pub writable : IsWritable v options
  pub unmistakable : IsUnmistakable v options
  pub time_again : FileTime
  pub reading_again : Options
  pub takes_all : TakesAll reading_again
  pub checksum_again : Option ObjectId
  pub read_again : IsAnswer kind time_again reading_again (image v options) (Ok (w, checksum_again))

-- ---- the laws about writing and reading again

-- the image of a faithful value is read as what a file stores of it, with the trailer's id
abbrev pub ImageReadsBack : Type 0
ImageReadsBack =
    (v : Contents) (options : WriteOptions) (time : FileTime) (reading : Options)
    → IsFaithful v options → TakesAll reading
    → IsAnswer v.kind time reading (image v options)
    (Ok (expected v options time, trailer_checksum v.kind (trailer v options)))

-- what a file stores of a stored value is that value
abbrev pub StoringTwiceIsOnce : Type 0
StoringTwiceIsOnce = (v : Contents) (options : WriteOptions) → stored (stored v options) options ≡ stored v options

-- a value that was read again has the same image
abbrev pub RewriteIsCanonical : Type 0
RewriteIsCanonical =
    (v w : Contents) (options : WriteOptions) → IsReread v options w → image w options ≡ image v options

-- a value that was read again has the same image by all options that choose the same extensions
abbrev pub VersionLosesNothing : Type 0
VersionLosesNothing =
    (v w : Contents) (options chosen : WriteOptions) → IsReread v options w → chosen.extensions ≡ options.extensions
    → image w chosen ≡ image v chosen

-- A value is written with all extensions that match, its extensions match, and it is read again. The result is the
-- first value, except for time, version, a link with a null id and an offset table.
abbrev pub KeptLosesNothing : Type 0
KeptLosesNothing =
    (v w : Contents) (options : WriteOptions) → (reread : IsReread v options w)
    → is_kept options.extensions ≡ true → v.fit ≡ true → AreWellFormed (length (written v.records)) v.extensions
    → w ≡ kept_value v reread.time_again (image_version v options)

-- ---- values that were read from bytes

-- the extensions of a value that was read can be preserved
abbrev pub ReadIsKeepable : Type 0
ReadIsKeepable =
    (kind : Kind) (time : FileTime) (options : Options) (bytes : List ℕ) (v : Contents) (id : Option ObjectId)
    → AreBytes bytes → IsAnswer kind time options bytes (Ok (v, id)) → AreKeepable v.kind v.extensions

-- names of siblings increase in the cache tree of a value that was read
abbrev pub ReadTreesAreInOrder : Type 0
ReadTreesAreInOrder =
    (kind : Kind) (time : FileTime) (options : Options) (bytes : List ℕ) (v : Contents) (id : Option ObjectId)
    → IsAnswer kind time options bytes (Ok (v, id)) → IfSome v.extensions.tree HasNamesInOrder
