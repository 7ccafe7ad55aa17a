-- What a split index and its shared index are read as, by the steps of joining both.
use Rattle.std.proofs.Common.{◌≡◌, ℕ, List, Bool, Option, None, Ok, inl, inr, subst, sym}
use Rattle.gix_index.specs.Contents.{Contents}
use Rattle.gix_index.specs.Edits.{without_link}
use Rattle.gix_index.specs.Kind.{Kind}
use Rattle.gix_index.specs.Link.{LinkValue}
use Rattle.gix_index.specs.Linked.{IsUnfollowed}
use Rattle.gix_index.specs.ObjectId.{ObjectId}
use Rattle.capi_table.specs.Joining.{AreReadSo, FailBoth, FailsJoined, IsJoinedIfLinked, IsJoinedBy, LinksTo}
use Rattle.capi_table.specs.Reading.{BytesReadAs, IsReadSo, IsWantOfMemory}
use Rattle.capi_table.specs.declared.fault.Failure.{Failure}
use Rattle.capi_table.proofs.Refusals.{lacks_from, own_of_memory}

module _ (skip : Bool) (kind : Kind) (bytes shared : List ℕ) (v w : Contents) (checksum : Option ObjectId)
    (read : BytesReadAs skip kind bytes (Ok (v, checksum))) (removed : w ≡ without_link v) where
  pub own : (P : Contents → Type 0) → IsUnfollowed v.extensions.link → P w → AreReadSo skip kind bytes shared P
  own P unfollowed h = record
      { value = v; checksum = checksum; read = read; holds = inl (unfollowed, subst P removed h) }

  pub joined : (P : Contents → Type 0) (link : LinkValue) → LinksTo v link → IsJoinedBy skip kind link shared P w
      → AreReadSo skip kind bytes shared P
  joined P link links h =
      record {
        value = v;
        checksum = checksum;
        read = read;
        holds =
            inr (link, links, subst (IsJoinedBy skip kind link shared P) removed h);
      }

  pub failed : (failure : Failure) (link : LinkValue) → LinksTo v link
      → FailsJoined skip kind link shared w failure
      → FailBoth skip kind bytes shared failure
  failed failure link links h =
      inr (record {
        value = v;
        checksum = checksum;
        read = read;
        holds = (link, links, subst (λ (x : Contents). FailsJoined skip kind link shared x failure) removed h);
      })

-- ---- what both are read as

-- what holds of the value that bytes are read as, for a weaker statement
pub read_weaker : (skip : Bool) (kind : Kind) (bytes : List ℕ) (P Q : Contents → Type 0)
    → ((v : Contents) → P v → Q v) → IsReadSo skip kind bytes P → IsReadSo skip kind bytes Q
read_weaker skip kind bytes P Q f h =
    record { value = h.value; checksum = h.checksum; read = h.read; holds = f h.value h.holds }

followed_weaker : (skip : Bool) (kind : Kind) (shared : List ℕ) (P Q : Contents → Type 0)
    → ((v : Contents) → P v → Q v) → (split : Contents)
    → IsJoinedIfLinked skip kind shared P split → IsJoinedIfLinked skip kind shared Q split
followed_weaker skip kind shared P Q f split (inl h) = inl (h.0, f _ h.1)
followed_weaker skip kind shared P Q f split (inr h) =
    let j = h.2 in
    inr (
      h.0,
      h.1,
      record {
        index = j.index;
        checksum = j.checksum;
        read = j.read;
        value = j.value;
        dissolved = j.dissolved;
        holds = f j.value j.holds;
      },
    )

-- what holds of the value that both are read as, for a weaker statement
pub both_weaker : (skip : Bool) (kind : Kind) (bytes shared : List ℕ) (P Q : Contents → Type 0)
    → ((v : Contents) → P v → Q v) → AreReadSo skip kind bytes shared P → AreReadSo skip kind bytes shared Q
both_weaker skip kind bytes shared P Q f h =
    read_weaker skip kind bytes (IsJoinedIfLinked skip kind shared P) (IsJoinedIfLinked skip kind shared Q)
    (followed_weaker skip kind shared P Q f) h

-- what holds of the value that both are read as
pub read_so : (skip : Bool) (kind : Kind) (bytes shared : List ℕ) (P : Contents → Type 0) (v : Contents)
    → AreReadSo skip kind bytes shared (λ w. w ≡ v) → P v → AreReadSo skip kind bytes shared P
read_so skip kind bytes shared P v h p =
    both_weaker skip kind bytes shared (λ w. w ≡ v) P (λ w e. subst P (sym e) p) h

-- both are read, and memory runs out then
pub lack_read : (skip : Bool) (kind : Kind) (bytes shared : List ℕ) (P : Contents → Type 0) (failure : Failure)
    → AreReadSo skip kind bytes shared P → IsWantOfMemory failure → FailBoth skip kind bytes shared failure
lack_read skip kind bytes shared P failure h e =
    inl (own_of_memory skip kind bytes failure e (lacks_from None skip kind bytes h.value h.checksum h.read))

-- a value that lost its link is of the same kind
pub same_kind : (v w : Contents) (kind : Kind) → w ≡ without_link v → v.kind ≡ kind → w.kind ≡ kind
same_kind v w kind e h = subst (λ (x : Contents). x.kind ≡ kind) (sym e) h
