-- What the summary of a failure states about bytes.
use Rattle.std.proofs.Common.{◌≡◌, ℕ, List, Bool, Option, Some, None, Ok, Err, refl, subst, inl, inr}
use Rattle.std.proofs.Common.{arith, sym, ap, ◌∙◌}
use Rattle.std.specs.Prelude.{◌⊎◌, MatchOption}
use Rattle.gix_index.specs.Answer.{Answer, Fault}
use Rattle.gix_index.specs.Contents.{Contents}
use Rattle.gix_index.specs.Dissolve.{DissolveCause}
use Rattle.gix_index.specs.Edits.{without_link}
use Rattle.gix_index.specs.FileFaults.ReadError.{Error as ReadError}
use Rattle.gix_index.specs.FileFaults.ReadError.TheVariants as reads
use Rattle.gix_index.specs.FileFaults.ReadErrors.{link_error_of}
use Rattle.gix_index.specs.Kind.{Kind}
use Rattle.gix_index.specs.Link.{BitmapDecode, Corrupt, LinkValue}
use Rattle.gix_index.specs.LinkError.{Error as LinkError}
use Rattle.gix_index.specs.LinkError.TheVariants as links
use Rattle.gix_index.specs.ObjectId.{ObjectId}
use Rattle.index_c.specs.Joined.{AreRefusedBoth, IsLinkRefused, IsSharedRefused, LackMemory, LacksForShared}
use Rattle.index_c.specs.Numbers.{HasNumber, IsNumbered, fault_number, read_status, whose_number}
use Rattle.index_c.specs.Summaries.{IsRefusedIndex, IsUnread, FailureCodes, MemoryCodes, RejectionCodes}
use Rattle.index_c.specs.Summaries.{error_summary}
use Rattle.index_c.specs.declared.fault.TheConstants.{LINK}
use Rattle.index_c.specs.declared.summary.Summary.{Summary}
use Rattle.capi_table.specs.Faults.{TableReadCause, decode_fault}
use Rattle.capi_table.specs.Joining.{FailBoth, FailsJoined, LinksTo, SharedReadsAs}
use Rattle.capi_table.specs.Reading.{BytesEndAs, BytesReadAs, FailsOwn, IsReadSo}
use Rattle.capi_table.specs.declared.fault.Failure.{Failure}
use Rattle.capi_table.specs.declared.fault.Whose.{Whose}
use Rattle.capi_table.specs.declared.fault.Whose.TheVariants.{Own, Shared}
use Rattle.capi_table.proofs.Refusals.{lacks_from}

-- ---- errors

-- bytes are refused by a fault with this number and this place
pub record IsRefusedBy (P : Answer → Type 0) (number place : ℕ) : Type 0 where
  pub fault : Fault
  pub read : P (Err fault)
  pub has : HasNumber fault number place

refused_by : (P : Answer → Type 0) (number place : ℕ) (o : Option Fault) → MatchOption o ⊥ (λ fault. P (Err fault))
    → MatchOption o (Unit {0}) (λ fault. HasNumber fault number place) → IsRefusedBy P number place
refused_by P number place None says numbered = absurd says
refused_by P number place (Some fault) says numbered = record { fault = fault; read = says; has = numbered }

pub by_error : (P : Answer → Type 0) (e : ReadError) (number place : ℕ) → TableReadCause e P → IsNumbered e number place
    → read_status e ≡ 1
    → IsRefusedBy P number place
by_error P (reads.Io e) number place says numbered is = absurd says
by_error P (reads.Decode e) number place says numbered is = refused_by P number place (decode_fault e) says numbered
by_error P (reads.LinkExtension e) number place says numbered is = absurd says
by_error P reads.Memory number place says numbered is = absurd (omega arith)

-- the summary has the error with this number and this index
tells_by : (fault : Fault) (of_shared : ℕ) (s : Summary) → HasNumber fault s.fault s.fault_place
    → s ≡ error_summary s.fault s.fault_place of_shared s.text_bytes → RejectionCodes fault of_shared s
tells_by fault of_shared s has told =
    told ∙ ap (λ (n : ℕ). error_summary n s.fault_place of_shared s.text_bytes) has.number_is
    ∙ ap (λ (n : ℕ). error_summary (fault_number fault) n of_shared s.text_bytes) has.place_is

pub never_done : (e : ReadError) → read_status e ≡ 0 → ⊥
never_done (reads.Io e) is = omega arith
never_done (reads.Decode e) is = omega arith
never_done (reads.LinkExtension e) is = omega arith
never_done reads.Memory is = omega arith

pub never_no_room : (e : ReadError) → read_status e ≡ 3 → ⊥
never_no_room (reads.Io e) is = omega arith
never_no_room (reads.Decode e) is = omega arith
never_no_room (reads.LinkExtension e) is = omega arith
never_no_room reads.Memory is = omega arith

-- the summary has an error of the link
tells_link : (s : Summary) (number place : ℕ) → number ≡ LINK → place ≡ 0
    → s ≡ error_summary number place 0 s.text_bytes → s ≡ error_summary LINK 0 0 s.text_bytes
tells_link s number place a b told =
    told ∙ ap (λ (n : ℕ). error_summary n place 0 s.text_bytes) a
    ∙ ap (λ (n : ℕ). error_summary LINK n 0 s.text_bytes) b

-- a link's fault
link_refused : (skip : Bool) (kind : Kind) (link : LinkValue) (bytes : List ℕ) (index split : Contents)
    (checksum : Option ObjectId)
    (e : LinkError) (s : Summary) → SharedReadsAs skip kind link bytes index checksum → DissolveCause e link index split
    → IsNumbered (link_error_of e) s.fault s.fault_place → s ≡ error_summary s.fault s.fault_place 0 s.text_bytes
    → read_status (link_error_of e) ≡ 1
    → IsLinkRefused skip kind link bytes split s
link_refused skip kind link bytes index split checksum (links.Corrupt text) s read says numbered told is = record {
  index = index;
  checksum = checksum;
  read = read;
  fault = Corrupt text.now;
  is_fault = says;
  tells = tells_link s s.fault s.fault_place numbered.0 numbered.1 told;
}
link_refused skip kind link bytes index split checksum (links.BitmapDecode error name) s read says numbered told is =
    record {
      index = index;
      checksum = checksum;
      read = read;
      fault = BitmapDecode error name.now;
      is_fault = says;
      tells = tells_link s s.fault s.fault_place numbered.0 numbered.1 told;
    }
link_refused skip kind link bytes index split checksum links.Memory s read says numbered told is = absurd (omega arith)

-- only `Memory` has the status 2
pub memory_from : (e : ReadError) → read_status e ≡ 2 → e ≡ reads.Memory
memory_from (reads.Io e) is = absurd (omega arith)
memory_from (reads.Decode e) is = absurd (omega arith)
memory_from (reads.LinkExtension e) is = absurd (omega arith)
memory_from reads.Memory is = refl

-- the summary reports that memory ran out
tells_memory : (e : ReadError) (of_shared : ℕ) (s : Summary) → IsNumbered e s.fault s.fault_place
    → s ≡ error_summary s.fault s.fault_place of_shared s.text_bytes → read_status e ≡ 2 → MemoryCodes of_shared s
tells_memory (reads.Io e) of_shared s numbered told is = absurd (omega arith)
tells_memory (reads.Decode e) of_shared s numbered told is = absurd (omega arith)
tells_memory (reads.LinkExtension e) of_shared s numbered told is = absurd (omega arith)
tells_memory reads.Memory of_shared s numbered told is =
    told ∙ ap (λ (n : ℕ). error_summary n s.fault_place of_shared s.text_bytes) numbered.0
    ∙ ap (λ (n : ℕ). error_summary 0 n of_shared s.text_bytes) numbered.1

-- the summary has whose bytes a failure is about
told_of : (failure : Failure) (whose : Whose) (status : ℕ) (s : Summary) → failure.whose ≡ whose
    → FailureCodes failure status s
    → s ≡ error_summary s.fault s.fault_place (whose_number whose) s.text_bytes
told_of failure whose status s e t =
    t.told ∙ ap (λ (w : Whose). error_summary s.fault s.fault_place (whose_number w) s.text_bytes) e

memory_told : (failure : Failure) (whose : Whose) (status : ℕ) (s : Summary) → failure.whose ≡ whose
    → FailureCodes failure status s → status ≡ 2
    → MemoryCodes (whose_number whose) s
memory_told failure whose status s e t is =
    tells_memory failure.error (whose_number whose) s t.numbered (told_of failure whose status s e t)
    (sym t.status_is ∙ is)

-- ---- of an index alone

module _ (skip : Bool) (kind : Kind) (bytes : List ℕ) (failure : Failure) (status : ℕ) (s : Summary)
    (t : FailureCodes failure status s) where
  pub refused_from : FailsOwn skip kind bytes failure → status ≡ 1 → IsRefusedIndex skip kind bytes s
  refused_from h is =
      let r = by_error (BytesReadAs skip kind bytes) failure.error s.fault s.fault_place h.says.fault t.numbered
      (sym t.status_is ∙ is) in
      record {
        fault = r.fault;
        read = r.read;
        tells = tells_by r.fault 0 s r.has (told_of failure Own status s h.whose t);
      }

  pub unread_from : FailsOwn skip kind bytes failure → status ≡ 2 → IsUnread skip kind bytes s
  unread_from h is = record {
    lacks = h.says.memory (memory_from failure.error (sym t.status_is ∙ is));
    tells = memory_told failure Own status s h.whose t is;
  }

  -- ---- of both

  join_refused : (link : LinkValue) (shared : List ℕ) (split : Contents)
      → FailsJoined skip kind link shared split failure
      → status ≡ 1 → IsSharedRefused skip kind link shared s ⊎ IsLinkRefused skip kind link shared split s
  join_refused link shared split (inl h) is =
      let r = by_error (BytesEndAs (Some link.shared) skip kind shared) failure.error s.fault s.fault_place h.says.fault
      t.numbered (sym t.status_is ∙ is) in
      inl (record {
        fault = r.fault;
        read = r.read;
        tells = tells_by r.fault 1 s r.has (told_of failure Shared status s h.whose t);
      })
  join_refused link shared split (inr h) is =
      inr (link_refused skip kind link shared h.index split h.checksum h.error s h.read h.says
      (subst (λ (e : ReadError). IsNumbered e s.fault s.fault_place) h.is t.numbered)
      (told_of failure Own status s h.whose t)
      (subst (λ (e : ReadError). read_status e ≡ 1) h.is (sym t.status_is ∙ is)))

  pub refused_both : (shared : List ℕ) → FailBoth skip kind bytes shared failure → status ≡ 1
      → AreRefusedBoth skip kind bytes shared s
  refused_both shared (inl h) is = inl (refused_from h is)
  refused_both shared (inr h) is =
      let link : LinkValue = h.holds.0 in
      inr (record {
        value = h.value;
        checksum = h.checksum;
        read = h.read;
        holds = (link, h.holds.1, join_refused link shared (without_link h.value) h.holds.2 is);
      })

  join_lacks : (link : LinkValue) (shared : List ℕ) (value : Contents) (checksum : Option ObjectId)
      → BytesReadAs skip kind bytes (Ok (value, checksum)) → LinksTo value link
      → FailsJoined skip kind link shared (without_link value) failure → status ≡ 2
      → MemoryCodes 0 s ⊎ (MemoryCodes 1 s × IsReadSo skip kind bytes (LacksForShared skip kind shared))
  join_lacks link shared value checksum read links (inl h) is =
      inr (
        memory_told failure Shared status s h.whose t is,
        record {
          value = value;
          checksum = checksum;
          read = read;
          holds = (link, links, h.says.memory (memory_from failure.error (sym t.status_is ∙ is)));
        },
      )
  join_lacks link shared value checksum read links (inr h) is = inl (memory_told failure Own status s h.whose t is)

  pub lack_both : (shared : List ℕ) → FailBoth skip kind bytes shared failure → status ≡ 2
      → LackMemory skip kind bytes shared s
  lack_both shared (inl h) is =
      let u = unread_from h is in
      record { own = u.lacks; whose = inl u.tells }
  lack_both shared (inr h) is =
      let link : LinkValue = h.holds.0 in
      record {
        own = lacks_from None skip kind bytes h.value h.checksum h.read;
        whose = join_lacks link shared h.value h.checksum h.read h.holds.1 h.holds.2 is;
      }
