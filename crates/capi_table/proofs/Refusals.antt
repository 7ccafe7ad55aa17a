-- What an error of reading states about bytes, by the error of the answer that it represents.
use Rattle.std.proofs.Common.{◌≡◌, ℕ, pos, List, Bool, true, false, Option, Some, None, Ok, Err, refl, subst, inl, inr}
use Rattle.std.proofs.Common.{sym}
use Rattle.std.specs.Option.{option_map}
use Rattle.std.specs.Prelude.{◌⊎◌, MatchBool, MatchOption}
use Rattle.gix_index.specs.Answer.{Answer, Fault, Extension, IsAnswer, Verify}
use Rattle.gix_index.proofs.Checks.{from_file}
use Rattle.gix_index.proofs.Joined.{read_kind}
use Rattle.gix_index.proofs.OnceAnswers.{answer_one}
use Rattle.gix_index.specs.Checked.{IsFileAnswer, FileCause}
use Rattle.gix_index.specs.Contents.{Contents}
use Rattle.gix_index.specs.DecodeError.TheVariants as errors
use Rattle.gix_index.specs.DecodeErrors.{IsEarly, extension_fault}
use Rattle.gix_index.specs.DecodeOptions.{Options}
use Rattle.gix_index.specs.FileTime.{FileTime}
use Rattle.gix_index.specs.ObjectId.{ObjectId}
use Rattle.gix_index.specs.Intact.{IsIntact, digest_id, needs_check, trailer_id}
use Rattle.gix_index.specs.Outcome.{ExtensionFault}
use Rattle.gix_index.specs.Kind.{Kind}
use Rattle.gix_index.specs.Stat.{nanoseconds_of, seconds_of}
use Rattle.gix_index.specs.FileFaults.ReadError.{Error as ReadError}
use Rattle.gix_index.specs.FileFaults.ReadError.TheVariants as reads
use Rattle.capi_table.specs.Faults.{TableReadCause}
use Rattle.capi_table.specs.Reading.{BytesEndAs, FailsOwn, FailsSo, IsWantOfMemory, LacksMemory, table_options}
use Rattle.capi_table.specs.declared.fault.Failure.{Failure}

-- an extension's error, if the error represents one
extension_says : (o : Option ExtensionFault) (P Q : Answer → Type 0) → ((a : Answer) → P a → Q a)
    → MatchOption o ⊥ (λ fault. P (Err (Extension fault)))
    → MatchOption (option_map Extension o) ⊥ (λ fault. Q (Err fault))
extension_says None P Q f h = h
extension_says (Some fault) P Q f h = f (Err (Extension fault)) h

says_refusal : (e : ReadError) (P Q : Answer → Type 0) → ((a : Answer) → P a → Q a) → FileCause (Err e) P
    → TableReadCause e Q
says_refusal (reads.Io e) P Q f h = h
says_refusal (reads.Decode (errors.Header e)) P Q f h = f _ h
says_refusal (reads.Decode errors.Hasher) P Q f h = h
says_refusal (reads.Decode errors.OutOfMemory) P Q f h = f _ h
says_refusal (reads.Decode (errors.Entry i)) P Q f h = f _ h
says_refusal (reads.Decode (errors.Extension e)) P Q f h = extension_says (extension_fault e) P Q f h
says_refusal (reads.Decode (errors.UnexpectedTrailerLength expected actual)) P Q f h = f _ h
says_refusal (reads.Decode (errors.Verify actual expected)) P Q f h = f _ h
says_refusal (reads.Decode errors.Memory) P Q f h = h
says_refusal (reads.LinkExtension e) P Q f h = h
says_refusal reads.Memory P Q f h = tt

-- a reading at the begin of 1970
pub read_by : (expected : Option ObjectId) (skip : Bool) (kind : Kind) (bytes : List ℕ) (time : FileTime)
    (options : Options) (a : Answer)
    → seconds_of time ≡ pos 0 → nanoseconds_of time ≡ 0 → options ≡ table_options expected
    → IsFileAnswer skip kind time options bytes a
    → BytesEndAs expected skip kind bytes a
read_by expected skip kind bytes time options a seconds nanoseconds e is =
    record {
      time = time;
      seconds = seconds;
      nanoseconds = nanoseconds;
      is = subst (λ (o : Options). IsFileAnswer skip kind time o bytes a) e is;
    }

-- the options that read without a limit
pub options_are : (expected : Option ObjectId) (options : Options) → options.thread_limit ≡ None
    → options.min_extension_block_in_bytes_for_threading ≡ 0 → options.expected_checksum ≡ expected
    → options.alloc_limit_bytes ≡ None
    → options ≡ table_options expected
options_are expected options a b c d = rw (a, b, c, d) refl

refusal_by : (expected : Option ObjectId) (skip : Bool) (kind : Kind) (bytes : List ℕ) (time : FileTime)
    (options : Options)
    (error : ReadError) → seconds_of time ≡ pos 0 → nanoseconds_of time ≡ 0 → options ≡ table_options expected
    → FileCause (Err error) (IsFileAnswer skip kind time options bytes)
    → TableReadCause error (BytesEndAs expected skip kind bytes)
refusal_by expected skip kind bytes time options error seconds nanoseconds e is =
    says_refusal error (IsFileAnswer skip kind time options bytes) (BytesEndAs expected skip kind bytes)
    (λ a h. read_by expected skip kind bytes time options a seconds nanoseconds e h) is

-- a value that was read is of the kind that it was read for
pub of_kind : (expected : Option ObjectId) (skip : Bool) (kind : Kind) (bytes : List ℕ) (v : Contents)
    (checksum : Option ObjectId)
    → BytesEndAs expected skip kind bytes (Ok (v, checksum)) → v.kind ≡ kind
of_kind expected skip kind bytes v checksum h =
    read_kind skip kind h.time (table_options expected) bytes v checksum h.is

-- bytes that are read as a value are intact
intact_by : (t : Bool) (E N P Q : Type 0) → (Q → ⊥) → MatchBool t ((E × P) ⊎ (N × Q)) P → MatchBool t E (Unit {0})
intact_by true E N P Q isnt (inl h) = h.0
intact_by true E N P Q isnt (inr h) = absurd (isnt h.1)
intact_by false E N P Q isnt h = tt

intact_from : (expected : Option ObjectId) (skip : Bool) (kind : Kind) (bytes : List ℕ) (v : Contents)
    (checksum : Option ObjectId)
    → BytesEndAs expected skip kind bytes (Ok (v, checksum)) → IsIntact skip kind bytes
intact_from expected skip kind bytes v checksum h =
    let Differs : Type 0 =
    ◌≡◌ {A = Answer} (Ok (v, checksum)) (Err (Verify (digest_id kind bytes) (trailer_id kind bytes))) in
    let isnt : Differs → ⊥ = λ e. absurd cc in
    intact_by (needs_check skip kind bytes) _ _ (IsAnswer kind h.time (table_options expected) bytes (Ok (v, checksum)))
    Differs isnt h.is

-- ---- out of memory

lacks_by : (expected : Option ObjectId) (skip : Bool) (kind : Kind) (bytes : List ℕ) (time : FileTime)
    (options : Options) (error : ReadError)
    → seconds_of time ≡ pos 0 → nanoseconds_of time ≡ 0 → options ≡ table_options expected
    → FileCause (Err error) (IsFileAnswer skip kind time options bytes)
    → (error ≡ reads.Memory → IsIntact skip kind bytes)
    → error ≡ reads.Memory → LacksMemory expected skip kind bytes
lacks_by expected skip kind bytes time options error seconds nanoseconds e says intact memory =
    let late : (fault : Fault) → IsEarly fault → IsFileAnswer skip kind time options bytes (Err fault) → ⊥ =
    subst (λ (x : ReadError). FileCause (Err x) (IsFileAnswer skip kind time options bytes)) memory says in
    record {
      intact = intact memory;
      time = time;
      seconds = seconds;
      nanoseconds = nanoseconds;
      late = λ fault early h. late fault early
          (subst (λ (o : Options). IsFileAnswer skip kind time o bytes (Err fault)) (sym e) h);
    }

-- what an error states about bytes
pub fails_by : (expected : Option ObjectId) (skip : Bool) (kind : Kind) (bytes : List ℕ) (time : FileTime)
    (options : Options) (error : ReadError)
    → seconds_of time ≡ pos 0 → nanoseconds_of time ≡ 0 → options ≡ table_options expected
    → FileCause (Err error) (IsFileAnswer skip kind time options bytes)
    → (error ≡ reads.Memory → IsIntact skip kind bytes) → FailsSo expected skip kind bytes error
fails_by expected skip kind bytes time options error seconds nanoseconds e says intact = record {
  fault = refusal_by expected skip kind bytes time options error seconds nanoseconds e says;
  memory = lacks_by expected skip kind bytes time options error seconds nanoseconds e says intact;
}

-- bytes that are read as a value have no fault
not_both : (skip : Bool) (kind : Kind) (time : FileTime) (options : Options) (bytes : List ℕ) (v : Contents)
    (checksum : Option ObjectId) (fault : Fault) → IsIntact skip kind bytes
    → IsFileAnswer skip kind time options bytes (Ok (v, checksum))
    → IsFileAnswer skip kind time options bytes (Err fault) → ⊥
not_both skip kind time options bytes v checksum fault intact h k =
    let same : ◌≡◌ {A = Answer} (Ok (v, checksum)) (Err fault) =
    answer_one kind time options bytes (Ok (v, checksum)) (Err fault)
    (from_file skip kind time options bytes (Ok (v, checksum)) intact h)
    (from_file skip kind time options bytes (Err fault) intact k) in
    absurd cc

pub lacks_from : (expected : Option ObjectId) (skip : Bool) (kind : Kind) (bytes : List ℕ) (v : Contents)
    (checksum : Option ObjectId)
    → BytesEndAs expected skip kind bytes (Ok (v, checksum)) → LacksMemory expected skip kind bytes
lacks_from expected skip kind bytes v checksum h =
    let intact = intact_from expected skip kind bytes v checksum h in
    record {
      intact = intact;
      time = h.time;
      seconds = h.seconds;
      nanoseconds = h.nanoseconds;
      late = λ fault early k.
          not_both skip kind h.time (table_options expected) bytes v checksum fault intact h.is k;
    }

-- running out of memory after a reading
pub own_of_memory : (skip : Bool) (kind : Kind) (bytes : List ℕ) (failure : Failure) → IsWantOfMemory failure
    → LacksMemory None skip kind bytes → FailsOwn skip kind bytes failure
own_of_memory skip kind bytes failure h lacks = record {
  whose = h.whose;
  says = record { fault = subst (λ e. TableReadCause e (BytesEndAs None skip kind bytes)) (sym h.error) tt; memory = λ e. lacks };
}
