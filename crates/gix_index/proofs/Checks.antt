-- From the answer of intact bytes to the file's, and back.
use Rattle.std.proofs.Common.{◌≡◌, ℕ, Bool, true, false, List, inl, inr, Err, refl, sym, subst}
use Rattle.std.specs.Prelude.{◌⊎◌, MatchBool}
use Rattle.index_parts.specs.declared.hash.Kind.{Kind}
use Rattle.entry_fields.specs.declared.entry.stat.FileTime.{FileTime}
use Rattle.index_model.specs.declared.decode.Options.{Options}
use Rattle.index_model.specs.declared.error.Error.{Error as Decoding}
use Rattle.index_model.specs.declared.error.Error.TheVariants as decoding
use Rattle.index_model.specs.declared.error.Extension.TheVariants as extensions
use Rattle.ext_split.specs.declared.link.decode.Error.TheVariants as links
use Rattle.entry_list.specs.Header.{header_of}
use Rattle.index_model.specs.Answer.{Answer, Header, Verify, IsAnswer}
use Rattle.index_model.specs.DecodeErrors.{DecodeCause}
use Rattle.index_model.specs.HeaderErrors.{header_fault}
use Rattle.index_model.specs.declared.error.Header.{Header as HeaderError}
use Rattle.gix_index.specs.Checked.{IsFileAnswer, FileCause}
use Rattle.file_errors.specs.ReadErrors.{error_of}
use Rattle.file_errors.specs.declared.init.Error.TheVariants as errors
use Rattle.file_windows.specs.ReadWhole.{IsRefusal}
use Rattle.file_windows.specs.ReadWhole as whole
use Rattle.file_windows.specs.Intact.{needs_check, digest_fault, digest_id, trailer_id, IsIntact, IsBroken}

to_by : (t : Bool) (E : Type 0) (P N : Type 0) → MatchBool t E (Unit {0}) → P → MatchBool t ((E × P) ⊎ N) P
to_by true E P N e p = inl (e, p)
to_by false E P N e p = p

from_by : (t : Bool) (E : Type 0) (P M : Type 0) → MatchBool t E (Unit {0}) → MatchBool t ((E × P) ⊎ ((E → ⊥) × M)) P
    → P
from_by true E P M e (inl h) = h.1
from_by true E P M e (inr h) = absurd (h.0 e)
from_by false E P M e h = h

broken_by : (t : Bool) (E P M : Type 0) → t ≡ true → (E → ⊥) → M → MatchBool t ((E × P) ⊎ ((E → ⊥) × M)) P
broken_by true E P M is n m = inr (n, m)
broken_by false E P M is n m = absurd cc

pub to_file : (skip : Bool) (kind : Kind) (time : FileTime) (options : Options) (bytes : List ℕ) (a : Answer)
    → IsIntact skip kind bytes → IsAnswer kind time options bytes a → IsFileAnswer skip kind time options bytes a
to_file skip kind time options bytes a intact h = to_by (needs_check skip kind bytes) _ _ _ intact h

pub from_file : (skip : Bool) (kind : Kind) (time : FileTime) (options : Options) (bytes : List ℕ) (a : Answer)
    → IsIntact skip kind bytes → IsFileAnswer skip kind time options bytes a → IsAnswer kind time options bytes a
from_file skip kind time options bytes a intact h =
    from_by (needs_check skip kind bytes) (digest_id kind bytes ≡ trailer_id kind bytes) _
    (a ≡ Err (Verify (digest_id kind bytes) (trailer_id kind bytes))) intact h

pub broken_file : (skip : Bool) (kind : Kind) (time : FileTime) (options : Options) (bytes : List ℕ)
    → IsBroken skip kind bytes
    → IsFileAnswer skip kind time options bytes (Err (Verify (digest_id kind bytes) (trailer_id kind bytes)))
broken_file skip kind time options bytes h =
    broken_by (needs_check skip kind bytes) (digest_id kind bytes ≡ trailer_id kind bytes) _ _ h.0 h.1 refl

-- what an error implies, if two relations hold of the same answers
fault_moved : (e : Decoding) (P Q : Answer → Type 0) → ((a : Answer) → P a → Q a) → ((a : Answer) → Q a → P a)
    → DecodeCause e P → DecodeCause e Q
fault_moved (decoding.Header e) P Q to back h = to _ h
fault_moved decoding.Hasher P Q to back h = h
fault_moved decoding.OutOfMemory P Q to back h = to _ h
fault_moved (decoding.Entry i) P Q to back h = to _ h
fault_moved (decoding.Extension (extensions.MandatoryUnimplemented signature)) P Q to back h = to _ h
fault_moved (decoding.Extension (extensions.Link (links.Corrupt text))) P Q to back h = to _ h
fault_moved (decoding.Extension (extensions.Link (links.BitmapDecode e name))) P Q to back h = to _ h
fault_moved (decoding.Extension (extensions.Link links.Memory)) P Q to back h = h
fault_moved (decoding.UnexpectedTrailerLength n m) P Q to back h = to _ h
fault_moved (decoding.Verify p q) P Q to back h = to _ h
fault_moved decoding.Memory P Q to back h = λ f early q. h f early (back _ q)

says_error : (e : Decoding) (P : Answer → Type 0) → DecodeCause e P → FileCause (Err (error_of e)) P
says_error (decoding.Header e) P h = h
says_error decoding.Hasher P h = h
says_error decoding.OutOfMemory P h = h
says_error (decoding.Entry i) P h = h
says_error (decoding.Extension e) P h = h
says_error (decoding.UnexpectedTrailerLength n m) P h = h
says_error (decoding.Verify p q) P h = h
says_error decoding.Memory P h = h

pub error_says : (skip : Bool) (kind : Kind) (time : FileTime) (options : Options) (bytes : List ℕ) (e : Decoding)
    → IsIntact skip kind bytes → DecodeCause e (IsAnswer kind time options bytes)
    → FileCause (Err (error_of e)) (IsFileAnswer skip kind time options bytes)
error_says skip kind time options bytes e intact h =
    says_error e (IsFileAnswer skip kind time options bytes)
    (fault_moved e (IsAnswer kind time options bytes) (IsFileAnswer skip kind time options bytes)
    (λ a. to_file skip kind time options bytes a intact) (λ a. from_file skip kind time options bytes a intact) h)

pub broken_says : (skip : Bool) (kind : Kind) (time : FileTime) (options : Options) (bytes : List ℕ) (e : Decoding)
    → e ≡ digest_fault kind bytes → IsBroken skip kind bytes
    → FileCause (Err (error_of e)) (IsFileAnswer skip kind time options bytes)
broken_says skip kind time options bytes e is h =
    subst (λ (d : Decoding). FileCause (Err (error_of d)) (IsFileAnswer skip kind time options bytes)) (sym is)
    (broken_file skip kind time options bytes h)

-- bytes whose header has a fault
pub refused_says : (skip : Bool) (kind : Kind) (time : FileTime) (options : Options) (bytes : List ℕ) (fault : HeaderError)
    (e : Decoding) → header_of kind bytes ≡ Err (header_fault fault) → IsRefusal skip kind bytes fault e
    → FileCause (Err (errors.Decode e)) (IsFileAnswer skip kind time options bytes)
refused_says skip kind time options bytes fault e header (whole.broken h is) =
    subst (λ (d : Decoding). FileCause (Err (errors.Decode d)) (IsFileAnswer skip kind time options bytes)) (sym is)
    (broken_file skip kind time options bytes h)
refused_says skip kind time options bytes fault e header (whole.intact h is) =
    subst (λ (d : Decoding). FileCause (Err (errors.Decode d)) (IsFileAnswer skip kind time options bytes)) (sym is)
    (to_file skip kind time options bytes (Err (Header (header_fault fault))) h (rw header refl))
