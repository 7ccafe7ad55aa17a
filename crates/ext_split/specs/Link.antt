-- The link of a split index to its shared index (gitformat-index, "Split index").
use Rattle.std.specs.Prelude.{◌≡◌, ◌≢◌, ℕ, ◌<◌, List, [], ◌++◌, length, codes, Option, Some, None}
use Rattle.std.specs.Option.{option_map}
use Rattle.ext_bitmap.specs.Bitmap.{Bitmap, bitmap, IsBitmap, HasBitmap, Lacks}
use Rattle.index_parts.specs.Id.{id_len, make_id}
use Rattle.ext_bitmap.specs.declared.ewah.reading.Error.{Error as BitmapError}
use Rattle.index_parts.specs.declared.hash.Kind.{Kind}
use Rattle.index_parts.specs.declared.hash.ObjectId.{ObjectId}
use Rattle.ext_split.specs.declared.link.Bitmaps.{Bitmaps}
use Rattle.ext_split.specs.declared.link.Link.{Link}
use Rattle.ext_split.specs.declared.link.decode.Error.{Error}
use Rattle.ext_split.specs.declared.link.decode.Error.TheVariants as errors

-- the error of a link: a text, or the missing part of a bitmap with the bitmap's name
pub data LinkFault : Type 0 where
  Corrupt : (text : List ℕ) → LinkFault
  BitmapDecode : (error : BitmapError) (name : List ℕ) → LinkFault

-- the bitmaps of the shared entries that are deleted, and of those that are replaced
pub record BitmapPair : Type 0 where
  pub delete : Bitmap
  pub replace : Bitmap

-- a link as a value: the shared index's id, and the bitmaps, if there are any
pub record LinkValue : Type 0 where
  pub shared : ObjectId
  pub bitmaps : Option BitmapPair

abbrev pub pair_of : Bitmaps → BitmapPair
pair_of b = record { delete = bitmap b.delete; replace = bitmap b.replace }

abbrev pub link_of : Link → LinkValue
link_of l = record { shared = l.shared_index_checksum; bitmaps = option_map pair_of l.bitmaps }

-- bytes are an id and the rest
pub record StartsWithId (kind : Kind) (bytes : List ℕ) (id : ObjectId) (rest : List ℕ) : Type 0 where
  pub spelling : List ℕ
  pub parts : bytes ≡ spelling ++ rest
  pub size : length spelling ≡ id_len kind
  pub value : id ≡ make_id kind spelling

-- bytes are a link: an id, followed by nothing, or by two bitmaps and nothing else
pub data IsLink (kind : Kind) (bytes : List ℕ) (l : LinkValue) : Type 0 where
  alone : (id : ObjectId) → StartsWithId kind bytes id [] → l ≡ record { shared = id; bitmaps = None }
      → IsLink kind bytes l
  split : (id : ObjectId) (maps after : List ℕ) (b : BitmapPair) → StartsWithId kind bytes id maps
      → IsBitmap maps b.delete after → IsBitmap after b.replace [] → l ≡ record { shared = id; bitmaps = Some b }
      → IsLink kind bytes l

-- the first error of bytes that are no link
pub data IsLinkFault (kind : Kind) (bytes : List ℕ) (fault : LinkFault) : Type 0 where
  short : length bytes < id_len kind → fault ≡ Corrupt (codes "link extension too short to read share index checksum")
      → IsLinkFault kind bytes fault
  no_delete : (id : ObjectId) (maps : List ℕ) (error : BitmapError) → StartsWithId kind bytes id maps → maps ≢ []
      → Lacks error maps → fault ≡ BitmapDecode error (codes "delete") → IsLinkFault kind bytes fault
  no_replace : (id : ObjectId) (maps after : List ℕ) (delete : Bitmap) (error : BitmapError)
      → StartsWithId kind bytes id maps → IsBitmap maps delete after → Lacks error after
      → fault ≡ BitmapDecode error (codes "replace") → IsLinkFault kind bytes fault
  garbage : (id : ObjectId) (maps after rest : List ℕ) (b : BitmapPair) → StartsWithId kind bytes id maps
      → IsBitmap maps b.delete after → IsBitmap after b.replace rest → rest ≢ []
      → fault ≡ Corrupt (codes "garbage trailing link extension") → IsLinkFault kind bytes fault

pub record HasLink (kind : Kind) (bytes : List ℕ) : Type 0 where
  pub value : LinkValue
  pub is_link : IsLink kind bytes value

-- the error of the bytes that an error reports; out of memory reports none
abbrev pub link_fault : Error → Option LinkFault
link_fault (errors.Corrupt text) = Some (Corrupt text.now)
link_fault (errors.BitmapDecode error name) = Some (BitmapDecode error name.now)
link_fault errors.Memory = None

-- the first bitmap is complete; memory is first allocated after its last byte was checked
pub record HasDelete (kind : Kind) (bytes : List ℕ) : Type 0 where
  pub id : ObjectId
  pub maps : List ℕ
  pub starts : StartsWithId kind bytes id maps
  pub has_bitmap : HasBitmap maps

-- What an error implies about bytes. Out of memory implies that the id and the first bitmap are complete.
abbrev pub LinkCause : Kind → List ℕ → Error → Type 0
LinkCause kind bytes (errors.Corrupt text) = IsLinkFault kind bytes (Corrupt text.now)
LinkCause kind bytes (errors.BitmapDecode error name) = IsLinkFault kind bytes (BitmapDecode error name.now)
LinkCause kind bytes errors.Memory = HasDelete kind bytes

-- What an error of reading the bitmap with this name implies about bytes. Out of memory implies that they begin with a
-- complete bitmap.
abbrev pub LinkBitmapCause : List ℕ → List ℕ → Error → Type 0
LinkBitmapCause name bytes (errors.Corrupt text) = ⊥
LinkBitmapCause name bytes (errors.BitmapDecode error found) = Lacks error bytes × (found.now ≡ name)
LinkBitmapCause name bytes errors.Memory = HasBitmap bytes
