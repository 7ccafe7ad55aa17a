-- The checksum of an index that was read is the trailer of its file's bytes, and fits them.
use Rattle.std.proofs.Common.{◌≡◌, ℕ, ◌-◌, ◌≤◌, Bool, true, false, ltb, List, [], ◌∷◌, ◌++◌, length, take, drop, Option}
use Rattle.std.proofs.Common.{Some, None, Result, Ok, Err, inl, inr, refl, sym, ap, ◌∙◌, append_assoc, length-append}
use Rattle.std.proofs.Common.{arith}
use Rattle.std.proofs.lemmas.Bool.{le-ltb}
use Rattle.std.proofs.lemmas.List.{drop_at, take-append-drop}
use Rattle.std.proofs.lemmas.Option.{same_Some}
use Rattle.std.specs.Prelude.{◌⊎◌, MatchBool, MatchResult, IfSome, codes, if◌then◌else◌}
use Rattle.gix_index.proofs.Joined.{answer_read}
use Rattle.gix_index.specs.Answer.{Answer, Header, IsAnswer, IsBehindHeader, IsClosed, IsEnding, IsVerified}
use Rattle.gix_index.specs.Answer.{OutOfMemory, Verify, faulty, has, lacks, left, short, trailer_checksum, walked}
use Rattle.gix_index.specs.Answer.{whole}
use Rattle.gix_index.specs.Checked.{IsFileAnswer}
use Rattle.gix_index.specs.Contents.{Contents}
use Rattle.gix_index.specs.DecodeOptions.{Options}
use Rattle.gix_index.specs.Disk.{Disk}
use Rattle.gix_index.specs.Disk.World.{Known}
use Rattle.gix_index.specs.Entries.{AreEntries}
use Rattle.gix_index.specs.Entry.{IsEntry, head_bytes}
use Rattle.gix_index.specs.FileTime.{FileTime}
use Rattle.gix_index.specs.Header.{Corrupt, HeaderFault, count_of, header_of}
use Rattle.gix_index.specs.Id.{id_kind, id_len, is_null, make_id}
use Rattle.gix_index.specs.Intact.{digest_id, needs_check, trailer_id, trailer_part}
use Rattle.gix_index.specs.Kind.{Kind}
use Rattle.gix_index.specs.Kind.TheVariants as kinds
use Rattle.gix_index.specs.Limits.{is_too_large, most_entries}
use Rattle.gix_index.specs.Linked.{IsOnDisk, IsReadByItself, joined, own}
use Rattle.gix_index.specs.ObjectId.{ObjectId}
use Rattle.gix_index.specs.Record.{Record}
use Rattle.gix_index.specs.Version.{Version}
use Rattle.gix_index.specs.Version.TheVariants.{V2, V3, V4}
use Rattle.gix_index.specs.VerifiedFile.{FitsFile}
use Rattle.gix_index.specs.Walk.{Item}
use Rattle.tool_errors.specs.Reading.{IsInFile}

-- ---- the end of bytes

-- the bytes end with `rest`
record EndsWith (bytes rest : List ℕ) : Type 0 where
  front : List ℕ
  parts : bytes ≡ front ++ rest

end_more : (front bytes middle rest : List ℕ) → bytes ≡ front ++ middle → EndsWith middle rest → EndsWith bytes rest
end_more front bytes middle rest e h = record {
  front = front ++ h.front;
  parts = e ∙ ap (λ (l : List ℕ). front ++ l) h.parts ∙ sym (append_assoc front h.front rest);
}

end_all : (bytes rest : List ℕ) → bytes ≡ rest → EndsWith bytes rest
end_all bytes rest e = record { front = []; parts = e }

entry_end : (version : Version) (kind : Kind) (previous : Option (List ℕ)) (bytes : List ℕ) (r : Record)
    (rest : List ℕ) → IsEntry version kind previous bytes r rest → EndsWith bytes rest
entry_end V2 kind previous bytes r rest h = end_more (head_bytes h.head) _ _ _ h.parts
    (end_more r.path _ _ _ refl (record { front = h.padding; parts = refl }))
entry_end V3 kind previous bytes r rest h = end_more (head_bytes h.head) _ _ _ h.parts
    (end_more r.path _ _ _ refl (record { front = h.padding; parts = refl }))
entry_end V4 kind previous bytes r rest h = end_more (head_bytes h.head) _ _ _ h.parts
    (end_more h.is_offset.spelling _ _ _ h.is_offset.parts
    (end_more h.tail _ _ _ h.is_tail.parts (record { front = 0 ∷ []; parts = refl })))

entries_end : (version : Version) (kind : Kind) (previous : Option (List ℕ)) (bytes : List ℕ) (rs : List Record)
    (rest : List ℕ) → AreEntries version kind previous bytes rs rest → EndsWith bytes rest
entries_end version kind previous bytes [] rest h = end_all bytes rest h
entries_end version kind previous bytes (r ∷ rs) rest h =
    let first = entry_end version kind previous bytes r h.0 h.1 in
    end_more first.front bytes h.0 rest first.parts (entries_end version kind (Some r.path) h.0 rs rest h.2)

-- ---- the trailer

-- the checksum is that of the last bytes, of which an id has as many
record HasTrailer (kind : Kind) (bytes : List ℕ) (checksum : Option ObjectId) : Type 0 where
  trailer : List ℕ
  len : length trailer ≡ id_len kind
  ends : EndsWith bytes trailer
  is : checksum ≡ trailer_checksum kind trailer

same_checksum : (v w : Contents) (c d : Option ObjectId) → ◌≡◌ {A = Answer} (Ok (v, c)) (Ok (w, d)) → c ≡ d
same_checksum v w c d e =
    let pair : ◌≡◌ {A = Contents × Option ObjectId} (v, c) (w, d) = cc in
    ap (λ (p : Contents × Option ObjectId). p.1) pair

verified_checksum : (expected actual : Option ObjectId) (v w : Contents) (c d : Option ObjectId)
    → IsVerified expected actual (Ok (w, d)) (Ok (v, c)) → c ≡ d
verified_checksum None actual v w c d h = same_checksum v w c d h
verified_checksum (Some x) None v w c d h = same_checksum v w c d h
verified_checksum (Some x) (Some y) v w c d (inl h) = same_checksum v w c d h.1
verified_checksum (Some x) (Some y) v w c d (inr h) = let e = h.1 in absurd cc

module _ (kind : Kind) (time : FileTime) (options : Options) (bytes : List ℕ) (v : Contents) (c : Option ObjectId) where
  of_closed : (version : Version) (rs : List Record) (items : List Item) (tail trailer : List ℕ)
      → length trailer ≡ id_len kind → EndsWith bytes trailer
      → IsClosed kind time options version rs items tail trailer (Ok (v, c)) → HasTrailer kind bytes c
  of_closed version rs items tail trailer len ends (faulty f h e) = absurd cc
  of_closed version rs items tail trailer len ends (left s z e) = absurd cc
  of_closed version rs items tail trailer len ends (whole o s z out verified) = record {
    trailer = trailer;
    len = len;
    ends = ends;
    is = verified_checksum options.expected_checksum (trailer_checksum kind trailer) v _ c _ verified;
  }

  of_ending : (version : Version) (rs : List Record) (front rest : List ℕ) → bytes ≡ front ++ rest
      → IsEnding kind time options version rs rest (Ok (v, c)) → HasTrailer kind bytes c
  of_ending version rs front rest e (short lt is) = absurd cc
  of_ending version rs front rest e (walked extensions trailer items tail parts len walk closed) =
      of_closed version rs items tail trailer len
      (end_more front bytes rest trailer e (record { front = extensions; parts = parts })) closed

  of_body : (version : Version) → IsBehindHeader kind time options version (count_of bytes) (drop 12 bytes) (Ok (v, c))
      → HasTrailer kind bytes c
  of_body version (lacks i lt h e) = absurd cc
  of_body version (has rs rest read n ending) =
      let ends = end_more (take 12 bytes) bytes (drop 12 bytes) rest (sym (take-append-drop 12 bytes))
      (entries_end version kind None (drop 12 bytes) rs rest read) in
      of_ending version rs ends.front rest ends.parts ending

  of_tests : (version : Version) (s t : Bool) → MatchBool s (◌≡◌ {A = Answer} (Ok (v, c))
      (Err (Header (Corrupt (codes "Declared entry count exceeds possible entries for file size")))))
      (MatchBool t (◌≡◌ {A = Answer} (Ok (v, c)) (Err OutOfMemory))
      (IsBehindHeader kind time options version (count_of bytes) (drop 12 bytes) (Ok (v, c))))
      → HasTrailer kind bytes c
  of_tests version true t h = absurd cc
  of_tests version false true h = absurd cc
  of_tests version false false h = of_body version h

  of_header : (r : Result Version HeaderFault) (P : Version → Type 0)
      → ((version : Version) → P version → HasTrailer kind bytes c)
      → MatchResult r P (λ fault. ◌≡◌ {A = Answer} (Ok (v, c)) (Err (Header fault))) → HasTrailer kind bytes c
  of_header (Ok version) P each h = each version h
  of_header (Err fault) P each h = absurd cc

  has_trailer : IsAnswer kind time options bytes (Ok (v, c)) → HasTrailer kind bytes c
  has_trailer h = of_header (header_of kind bytes) _
      (λ version k. of_tests version (ltb (most_entries (length bytes) k.0 kind version) (count_of bytes))
      (is_too_large options.alloc_limit_bytes (count_of bytes) (length bytes) k.0 kind version) k.2) h

-- ---- the digest

-- an id that a trailer has is that of its bytes, of which some aren't zero
some_id : (b : Bool) (x id : ObjectId) → Some id ≡ (if b then None else Some x) → (b ≡ false) × (id ≡ x)
some_id true x id e = absurd cc
some_id false x id e = (refl, same_Some id x e)

made_kind : (kind : Kind) (l : List ℕ) → id_kind (make_id kind l) ≡ kind
made_kind kinds.Sha1 l = refl
made_kind kinds.Sha256 l = refl

-- the digest was compared
digest_by : (t : Bool) (E N P : Type 0) (v : Contents) (c : Option ObjectId) (x y : ObjectId) → t ≡ true
    → MatchBool t ((E × P) ⊎ (N × (◌≡◌ {A = Answer} (Ok (v, c)) (Err (Verify x y))))) P → E
digest_by true E N P v c x y e (inl h) = h.0
digest_by true E N P v c x y e (inr h) = let bad = h.1 in absurd cc
digest_by false E N P v c x y e h = absurd cc

module _ (kind : Kind) (time : FileTime) (options : Options) (bytes : List ℕ) (v : Contents) (id : ObjectId) where
  digest_is : IsFileAnswer false kind time options bytes (Ok (v, Some id)) → (trailer : List ℕ)
      → length trailer ≡ id_len kind → EndsWith bytes trailer → is_null trailer ≡ false → id ≡ make_id kind trailer
      → (id_len (id_kind id) ≤ length bytes) × (digest_id (id_kind id) bytes ≡ id)
  digest_is h trailer len ends some is =
      let long : id_len kind ≤ length bytes =
      omega (arith, ap length ends.parts, length-append ends.front trailer, len) in
      let at : length bytes - id_len kind ≡ length ends.front =
      omega (arith, ap length ends.parts, length-append ends.front trailer, len) in
      let last : trailer_part kind bytes ≡ trailer =
      ap (λ (n : ℕ). drop n bytes) at ∙ ap (λ (l : List ℕ). drop (length ends.front) l) ends.parts
      ∙ drop_at ends.front trailer (length ends.front) refl in
      let needed : needs_check false kind bytes ≡ true =
      rw (le-ltb (length bytes) (id_len kind) long, last, some) refl in
      let same : digest_id kind bytes ≡ trailer_id kind bytes =
      digest_by (needs_check false kind bytes) _ _ (IsAnswer kind time options bytes (Ok (v, Some id))) v (Some id)
      (digest_id kind bytes) (trailer_id kind bytes) needed h in
      let alike : id_kind id ≡ kind = ap id_kind is ∙ made_kind kind trailer in
      rw alike (long, same ∙ ap (make_id kind) last ∙ sym is)

  checksum_fits : IsFileAnswer false kind time options bytes (Ok (v, Some id))
      → (id_len (id_kind id) ≤ length bytes) × (digest_id (id_kind id) bytes ≡ id)
  checksum_fits h =
      let t = has_trailer kind time options bytes v (Some id) (answer_read false kind time options bytes v (Some id) h)
      in
      let found = some_id (is_null t.trailer) (make_id kind t.trailer) id t.is in
      digest_is h t.trailer t.len t.ends found.0 found.1

-- ---- the file

read_fits : (known : Known) (kind : Kind) (time : FileTime) (options : Options) (v : Contents)
    (checksum : Option ObjectId) → IsReadByItself known false kind time options v checksum
    → IfSome checksum (FitsFile known)
read_fits known kind time options v None h = tt
read_fits known kind time options v (Some id) h =
    let fits = checksum_fits kind time options h.bytes v id h.read in (h.bytes, h.held, (fits.0, fits.1))

disk_fits : (disk : Disk) (kind : Kind) (time : FileTime) (options : Options) (v : Contents)
    (checksum : Option ObjectId) → IsOnDisk disk false kind time options v checksum
    → IfSome checksum (FitsFile disk.own)
disk_fits disk kind time options v checksum (own h) =
    read_fits disk.own kind time options h.split checksum h.read
disk_fits disk kind time options v checksum (joined h) =
    read_fits disk.own kind time options h.split checksum h.is_split.read

-- the digest was compared as the index was read
pub fits_file : (disk : Disk) (kind : Kind) (v : Contents) (checksum : Option ObjectId)
    → IsInFile disk kind v checksum → IfSome checksum (FitsFile disk.own)
fits_file disk kind v checksum h = disk_fits disk kind h.time _ v checksum h.is
