-- The value of an index that was read from the disk (gitformat-index, "Split index"). It is determined by the file's
-- bytes, and for a split index also by those of its shared index. If nothing is known of the files, it is determined by
-- some bytes.
use Rattle.std.specs.Prelude.{◌≡◌, ℕ, Bool, true, false, List, Option, Some, None, Ok}
use Rattle.index_parts.specs.Id.{id_bytes, is_null}
use Rattle.index_parts.specs.declared.hash.Kind.{Kind}
use Rattle.index_parts.specs.declared.hash.ObjectId.{ObjectId}
use Rattle.entry_fields.specs.declared.entry.stat.FileTime.{FileTime}
use Rattle.index_model.specs.declared.decode.Options.{Options}
use Rattle.index_state.specs.Edits.{without_link}
use Rattle.ext_split.specs.Link.{LinkValue}
use Rattle.index_state.specs.Dissolve.{IsDissolved}
use Rattle.index_model.specs.Contents.{Contents}
use Rattle.index_state.specs.State.{contents}
use Rattle.index_decode.specs.Behind.{FollowEntries}
use Rattle.file_place.specs.World.{Known, MayBe}
use Rattle.gix_index.specs.Checked.{IsFileAnswer}
use Rattle.gix_index.specs.Disk.{Disk, MayHave}
use Rattle.gix_index.specs.File.{checksum_of, state_of}
use Rattle.gix_index.specs.declared.file.unfollowed.Unfollowed.{Unfollowed}

-- the options, with this id as the expected trailer; a null trailer is accepted too
abbrev pub expecting : Options → ObjectId → Options
expecting options id = record options { expected_checksum = Some id }

-- there is no link, or it isn't followed because its id is null
abbrev pub IsUnfollowed : Option LinkValue → Type 0
IsUnfollowed None = Unit {0}
IsUnfollowed (Some l) = is_null (id_bytes l.shared) ≡ true

-- this link is followed: its id isn't null
pub record IsFollowed (link : Option LinkValue) (l : LinkValue) : Type 0 where
  pub has_link : link ≡ Some l
  pub followed : is_null (id_bytes l.shared) ≡ false

-- the link that is followed, if there is one
abbrev pub Follows : Option LinkValue → Option LinkValue → Type 0
Follows link None = IsUnfollowed link
Follows link (Some l) = IsFollowed link l

-- the value and the trailer's id that the bytes of this file have by themselves
pub record IsReadByItself (own : Known) (skip : Bool) (kind : Kind) (time : FileTime) (options : Options) (v : Contents)
    (checksum : Option ObjectId) : Type 0 where
  pub bytes : List ℕ
  pub held : MayHave own bytes
  pub read : IsFileAnswer skip kind time options bytes (Ok (v, checksum))

-- the value and the trailer's id if no link is followed: those of the bytes by themselves, without the link
pub record IsOwn (own : Known) (skip : Bool) (kind : Kind) (time : FileTime) (options : Options) (v : Contents)
    (checksum : Option ObjectId) : Type 0 where
  pub split : Contents
  pub read : IsReadByItself own skip kind time options split checksum
  pub unfollowed : IsUnfollowed split.extensions.link
  pub is : v ≡ without_link split

-- the bytes are read as a split index with this trailer and this link, whose id isn't null
pub record IsSplit (own : Known) (skip : Bool) (kind : Kind) (time : FileTime) (options : Options) (split : Contents)
    (checksum : Option ObjectId) (link : LinkValue) : Type 0 where
  pub read : IsReadByItself own skip kind time options split checksum
  pub has_link : split.extensions.link ≡ Some link
  pub followed : is_null (id_bytes link.shared) ≡ false

-- The value and the trailer's id if a link is followed. The shared index's bytes are read, with the link's id as the
-- expected trailer, and the link is dissolved.
pub record IsJoined (disk : Disk) (skip : Bool) (kind : Kind) (time : FileTime) (options : Options) (v : Contents)
    (checksum : Option ObjectId) : Type 0 where
  pub split : Contents
  pub link : LinkValue
  pub is_split : IsSplit disk.own skip kind time options split checksum link
  pub shared : Contents
  pub shared_checksum : Option ObjectId
  pub read_shared : IsReadByItself (disk.shared link.shared) skip kind time (expecting options link.shared) shared
      shared_checksum
  pub dissolved : IsDissolved link shared (without_link split) v

pub data IsOnDisk (disk : Disk) (skip : Bool) (kind : Kind) (time : FileTime) (options : Options) (v : Contents)
    (checksum : Option ObjectId) : Type 0 where
  own : IsOwn disk.own skip kind time options v checksum → IsOnDisk disk skip kind time options v checksum
  joined : IsJoined disk skip kind time options v checksum → IsOnDisk disk skip kind time options v checksum

-- the index on the disk with the time that the value has, which is that of the file
pub record IsOnDiskSince (disk : Disk) (skip : Bool) (kind : Kind) (options : Options) (v : Contents)
    (checksum : Option ObjectId) : Type 0 where
  pub read : IsOnDisk disk skip kind v.time options v checksum
  pub since : MayBe disk.own (λ file. v.time ≡ file.time)

-- these bytes are read so by themselves, and the bytes after their entries are returned
pub record IsReadAloneIn (skip : Bool) (kind : Kind) (time : FileTime) (options : Options) (bytes : List ℕ)
    (u : Unfollowed) : Type 0 where
  pub read : IsFileAnswer skip kind time options bytes (Ok (contents (state_of u.index), checksum_of u.index))
  pub ending : FollowEntries kind bytes u.ending.items

-- the file's bytes are read so by themselves, and the bytes after their entries are returned
abbrev pub IsReadAlone : Known → Bool → Kind → FileTime → Options → Unfollowed → Type 0
IsReadAlone known skip kind time options u =
    (bytes : List ℕ) × MayHave known bytes × IsReadAloneIn skip kind time options bytes u
