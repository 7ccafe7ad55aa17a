-- The first error of a file whose first bytes aren't a header, with and without comparing its digest.
use Rattle.std.proofs.Common.{◌≡◌, ◌≢◌, ◌≤◌, ◌-◌, ◌++◌, ℕ, List, [], ◌∷◌, length, drop, replicate, Bool, true, false}
use Rattle.std.proofs.Common.{Option, None, Some, Err, refl, sym, ap, subst, ◌∙◌, append-nil, arith}
use Rattle.std.specs.Prelude.{◌&&◌, not, nat_lt, IfSome, MatchBool, if◌then◌else◌}
use Rattle.std.specs.Io.KnownBytes.{Consumes}
use Rattle.std.proofs.lemmas.Bool.{le-ltb}
use Rattle.std.proofs.lemmas.List.{length-append, length-drop}
use Rattle.entry_list.specs.Header.{header_of}
use Rattle.file_place.specs.World.{IsStatusOf, Stored, from_place, whole_of}
use Rattle.file_place.specs.declared.folder.Status.{Status}
use Rattle.index_model.specs.HeaderErrors.{header_fault}
use Rattle.index_model.specs.declared.error.Error.{Error}
use Rattle.index_model.specs.declared.error.Error.TheVariants as errors
use Rattle.index_model.specs.declared.error.Header.{Header}
use Rattle.index_model.specs.Answer.{trailer_checksum}
use Rattle.index_parts.specs.Id.{id_len, is_null, make_id}
use Rattle.index_parts.specs.declared.hash.Kind.{Kind}
use Rattle.index_parts.specs.declared.hash.Kind.TheVariants as kinds
use Rattle.index_parts.specs.declared.hash.ObjectId.{ObjectId}
use Rattle.file_windows.specs.Answers.{IsAllOf}
use Rattle.file_windows.specs.Intact.{IsIntact, digest_id, ends_in_null, needs_check, trailer_id, trailer_part}
use Rattle.file_windows.specs.ReadWhole.{EndsInNull, IsRefusal, IsRefusalBehind, IsRefusedFile, IsUnchecked, LacksHeader}
use Rattle.file_windows.specs.ReadWhole.{broken, intact}
use Rattle.file_windows.proofs.Endings.{intact_free, or_right, same_by}
use Rattle.file_windows.proofs.Hashed.{by_bool}

-- ---- the trailer at the end of a file

no_bytes : (rest : List ℕ) → length rest ≡ 0 → rest ≡ []
no_bytes [] e = refl
no_bytes (b ∷ rest) e = absurd (omega (arith, e))

null_of : (kind : Kind) (bytes room rest : List ℕ) (place : ℕ) → place ≡ length bytes - id_len kind
    → drop place bytes ≡ room ++ rest → length room ≡ id_len kind → is_null room ≡ true
    → is_null (trailer_part kind bytes) ≡ true
null_of kind bytes room rest place at parts long null =
    let none : rest ≡ [] = no_bytes rest (omega (
      arith,
      ap length parts,
      length-drop place bytes,
      length-append room rest,
      at,
      long,
    )) in
    let same : drop (length bytes - id_len kind) bytes ≡ room =
    ap (λ (n : ℕ). drop n bytes) (sym at) ∙ parts ∙ ap (λ (l : List ℕ). room ++ l) none ∙ append-nil room in
    ap is_null same ∙ null

null_at : (kind : Kind) (bytes room : List ℕ) (place : ℕ) (next : Option (List ℕ))
    → place ≡ length bytes - id_len kind → Consumes (Some (drop place bytes)) next room → length room ≡ id_len kind
    → is_null room ≡ true → is_null (trailer_part kind bytes) ≡ true
null_at kind bytes room place None at consumed long null = absurd consumed
null_at kind bytes room place (Some rest) at consumed long null = null_of kind bytes room rest place at consumed long null

-- null bytes that were read from the begin of a file's trailer on
pub ends_null : (kind : Kind) (stored : Option Stored) (status : Status) (place : ℕ) (now next : Option (List ℕ))
    (room : List ℕ) → IfSome stored (IsStatusOf status) → place ≡ status.len - id_len kind
    → now ≡ from_place place stored → Consumes now next room → length room ≡ id_len kind → is_null room ≡ true
    → EndsInNull kind stored
ends_null kind None status place now next room told at here consumed long null = tt
ends_null kind (Some file) status place now next room told at here consumed long null =
    null_at kind file.bytes room place next (at ∙ ap (λ (n : ℕ). n - id_len kind) told.len)
    (subst (λ (o : Option (List ℕ)). Consumes o next room) here consumed) long null

null_if : (l n : Bool) → (not l && n) ≡ true → n ≡ true
null_if true n e = absurd cc
null_if false n e = e

-- bytes as long as an id that end in a null trailer are null
pub null_ending : (kind : Kind) (bytes : List ℕ) → length bytes ≡ id_len kind → ends_in_null kind bytes ≡ true
    → is_null bytes ≡ true
null_ending kind bytes long e =
    let none : length bytes - id_len kind ≡ 0 = omega (arith, long) in
    ap (λ (n : ℕ). is_null (drop n bytes)) (sym none) ∙ null_if (nat_lt (length bytes) (id_len kind)) _ e

null_unchecked : (s l n : Bool) → n ≡ true → (not s && not l && not n) ≡ false
null_unchecked true l n e = refl
null_unchecked false true n e = refl
null_unchecked false false true e = refl
null_unchecked false false false e = absurd cc

pub unchecked_null : (skip : Bool) (kind : Kind) (stored : Option Stored) → EndsInNull kind stored
    → IsUnchecked skip kind stored
unchecked_null skip kind None h = tt
unchecked_null skip kind (Some file) h = null_unchecked skip _ (is_null (trailer_part kind file.bytes)) h

pub unchecked_waived : (skip : Bool) (kind : Kind) (stored : Option Stored) → skip ≡ true → IsUnchecked skip kind stored
unchecked_waived skip kind None h = tt
unchecked_waived skip kind (Some file) h = rw h refl

-- ---- the digest of a file and its trailer

not_null : (b : Bool) (x y : ObjectId) → (if b then None else Some x) ≡ Some y → b ≡ false
not_null true x y e = absurd cc
not_null false x y e = refl

unchecked_intact : (t : Bool) (E : Type 0) → t ≡ false → MatchBool t E (Unit {0})
unchecked_intact true E e = absurd cc
unchecked_intact false E e = tt

-- a trailer is as long as an id
pub trailer_long : (kind : Kind) (bytes : List ℕ) → id_len kind ≤ length bytes
    → length (trailer_part kind bytes) ≡ id_len kind
trailer_long kind bytes enough = omega (arith, enough, length-drop (length bytes - id_len kind) bytes)

module _ (kind : Kind) (bytes trailer : List ℕ) (at : trailer ≡ trailer_part kind bytes)
    (long : length trailer ≡ id_len kind) (fault : Header) where
  pub refusal_null : is_null trailer ≡ true → IsRefusal false kind bytes fault (errors.Header fault)
  refusal_null null = intact (unchecked_intact (needs_check false kind bytes) _
      (null_unchecked false _ (is_null (trailer_part kind bytes)) (ap is_null (sym at) ∙ null))) refl

  pub refusal_same : (actual expected : ObjectId) → actual ≡ digest_id kind bytes
      → expected ≡ make_id kind trailer → actual ≡ expected → IsRefusal false kind bytes fault (errors.Header fault)
  refusal_same actual expected is of same = intact (same_by (needs_check false kind bytes) _
      (sym is ∙ same ∙ of ∙ ap (make_id kind) at)) refl

  pub refusal_differs : (actual expected : ObjectId) → actual ≡ digest_id kind bytes
      → trailer_checksum kind trailer ≡ Some expected → expected ≡ make_id kind trailer → actual ≢ expected
      → IsRefusal false kind bytes fault (errors.Verify actual expected)
  refusal_differs actual expected is some of differ =
      let enough = le-ltb (length bytes) (id_len kind)
      (omega (arith, long, ap length at, length-drop (length bytes - id_len kind) bytes)) in
      let solid : is_null trailer ≡ false = not_null (is_null trailer) (make_id kind trailer) expected some in
      let needs : needs_check false kind bytes ≡ true = rw (enough, sym at, solid) refl in
      let end : trailer_id kind bytes ≡ expected = ap (make_id kind) (sym at) ∙ sym of in
      broken (needs, λ e. differ (is ∙ e ∙ end)) (rw (sym is, end) refl)

-- ---- the result for the file

abbrev zeros : Kind → List ℕ
zeros kind = replicate (id_len kind) 0

zeros_null : (kind : Kind) → is_null (drop (length (zeros kind) - id_len kind) (zeros kind)) ≡ true
zeros_null kinds.Sha1 = refl
zeros_null kinds.Sha256 = refl

zeros_long : (kind : Kind) → id_len kind ≤ length (zeros kind)
zeros_long kinds.Sha1 = omega arith
zeros_long kinds.Sha256 = omega arith

zeros_intact : (skip : Bool) (kind : Kind) (head : List ℕ) → IsIntact skip kind (head ++ zeros kind)
zeros_intact skip kind head = intact_free skip kind head (zeros kind) (zeros_long kind) (or_right skip _ (zeros_null kind))

-- the rest isn't read, as no digest is compared
refused_unread : (stored : Option Stored) (now : Option (List ℕ)) (head : List ℕ) (skip : Bool) (kind : Kind)
    (fault : Header) (e : Error) → Consumes (whole_of stored) now head → LacksHeader kind head fault
    → IsUnchecked skip kind stored → e ≡ errors.Header fault → IsRefusedFile stored skip kind e
refused_unread None now head skip kind fault e consumed lacks free is = record {
  bytes = head ++ zeros kind;
  whole = tt;
  fault = fault;
  header = lacks (zeros kind);
  refusal = intact (zeros_intact skip kind head) is;
}
refused_unread (Some file) None head skip kind fault e consumed lacks free is = absurd consumed
refused_unread (Some file) (Some rest) head skip kind fault e consumed lacks free is = record {
  bytes = file.bytes;
  whole = refl;
  fault = fault;
  header = subst (λ (l : List ℕ). header_of kind l ≡ Err (header_fault fault)) (sym consumed) (lacks rest);
  refusal = intact (unchecked_intact (needs_check skip kind file.bytes) _ free) is;
}

read_whole : (stored : Option Stored) (now : Option (List ℕ)) (head more : List ℕ)
    → Consumes (whole_of stored) now head → IfSome now (λ left. more ≡ left) → IsAllOf stored (head ++ more)
read_whole None now head more consumed all = tt
read_whole (Some file) None head more consumed all = absurd consumed
read_whole (Some file) (Some rest) head more consumed all = ap (λ (l : List ℕ). head ++ l) all ∙ sym consumed

pub refused_file : (stored : Option Stored) (now : Option (List ℕ)) (head : List ℕ) (skip is_compared : Bool)
    (kind : Kind) (fault : Header) (e : Error) → Consumes (whole_of stored) now head → LacksHeader kind head fault
    → (is_compared ≡ true → skip ≡ false) → (is_compared ≡ false → IsUnchecked skip kind stored)
    → (is_compared ≡ false → e ≡ errors.Header fault)
    → (is_compared ≡ true → IsRefusalBehind kind head now fault e) → IsRefusedFile stored skip kind e
refused_file stored now head skip is_compared kind fault e consumed lacks wanted free unread read = by_bool is_compared
    (λ y. let h = read y in record {
      bytes = head ++ h.0;
      whole = read_whole stored now head h.0 consumed h.1;
      fault = fault;
      header = lacks h.0;
      refusal = subst (λ (b : Bool). IsRefusal b kind (head ++ h.0) fault e) (sym (wanted y)) h.2;
    })
    (λ n. refused_unread stored now head skip kind fault e consumed lacks (free n) (unread n))
