-- What is read of a shared index next to a split index.
use Rattle.std.proofs.Common.{◌≡◌, ℕ, false, List, Option, Some, None, option_map, Ok, refl, sym, subst, ◌∙◌}
use Rattle.std.specs.Prelude.{IfSome, IsSomeAnd}
use Rattle.gix_index.proofs.Joined.{read_kind}
use Rattle.gix_index.specs.Checked.{IsFileAnswer}
use Rattle.gix_index.specs.Contents.{Contents}
use Rattle.gix_index.specs.DecodeOptions.{Options}
use Rattle.gix_index.specs.Disk.{MayHave}
use Rattle.gix_index.specs.FileTime.{FileTime}
use Rattle.gix_index.specs.Disk.World.{Known}
use Rattle.gix_index.specs.Kind.{Kind}
use Rattle.gix_index.specs.Linked.{expecting}
use Rattle.gix_index.specs.ObjectId.{ObjectId}
use Rattle.gix_index.specs.State.{PathsInStorage, contents}
use Rattle.gix_index.specs.StateType.{State}
use Rattle.gix_index.specs.Storable.{IsStorable}
use Rattle.view_salvage.specs.Salvage.{CanBeShared}
use Rattle.tool_errors.specs.Options.{IsBeginOf1970, unlimited_options}
use Rattle.tool_inspect.specs.Salvaging.{IsBeside, IsSharedIn}

expecting_are : (options : Options) (id : ObjectId) → options.thread_limit ≡ None
    → options.min_extension_block_in_bytes_for_threading ≡ 0 → options.expected_checksum ≡ Some id
    → options.alloc_limit_bytes ≡ None → options ≡ expecting unlimited_options id
expecting_are options id a b c d = rw (a, b, c, d) refl

-- what was read with the default options and the id as expected checksum is the shared index with that id
pub shared_read : (known : Known) (kind : Kind) (id : ObjectId) (bytes : List ℕ) (time : FileTime) (options : Options)
    (read state : State) (checksum : Option ObjectId) → IsBeginOf1970 time → options.thread_limit ≡ None
    → options.min_extension_block_in_bytes_for_threading ≡ 0 → options.expected_checksum ≡ Some id
    → options.alloc_limit_bytes ≡ None → state ≡ read
    → IsFileAnswer false kind time options bytes (Ok (contents read, checksum)) → MayHave known bytes
    → IsSharedIn known kind id (contents state)
shared_read known kind id bytes time options read state checksum begin a b c d same is held =
    let e = expecting_are options id a b c d in
    let answer = subst (λ (o : Options). IsFileAnswer false kind time o bytes (Ok (contents read, checksum))) e is in
    subst (λ (s : State). IsSharedIn known kind id (contents s)) (sym same) (record {
      bytes = bytes;
      held = held;
      checksum = checksum;
      time = time;
      begin = begin;
      is = answer;
    })

beside_kind : (shared : ObjectId → Known) (kind : Kind) (wanted : Option ObjectId) (v : Contents)
    → IsSomeAnd wanted (λ id. IsSharedIn (shared id) kind id v) → v.kind ≡ kind
beside_kind shared kind None v h = absurd h
beside_kind shared kind (Some id) v h =
    read_kind false kind h.time (expecting unlimited_options id) h.bytes v h.checksum h.is

-- a shared index that was read so can be merged
pub can_be_shared : (shared : ObjectId → Known) (kind : Kind) (own : State) (wanted : Option ObjectId) (found : Option State)
    → (contents own).kind ≡ kind → IsBeside shared kind wanted (option_map contents found) → IfSome found PathsInStorage
    → IfSome found (λ s. IsStorable (contents s)) → IfSome found (CanBeShared own)
can_be_shared shared kind own wanted None same beside placed storable = tt
can_be_shared shared kind own wanted (Some s) same beside placed storable = record {
  same_kind = beside_kind shared kind wanted (contents s) beside ∙ sym same;
  placed = placed;
  storable = storable;
}
