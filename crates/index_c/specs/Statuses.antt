-- What a status means, and what is reported with it (the library's own; c/gix_index.h lists the statuses).
use Rattle.std.specs.Prelude.{◌≡◌, ◌≤◌, ◌↔◌, ℕ, List, None, IsSomeAnd}
use Rattle.gix_index.specs.Kind.{Kind}
use Rattle.index_c.specs.Numbers.{kind_numbered}
use Rattle.index_c.specs.Summaries.{HasText}
use Rattle.index_c.specs.declared.status.TheConstants.{DONE, MEMORY, NO_ROOM, REFUSED, WRONG_NUMBER}
use Rattle.index_c.specs.declared.summary.Summary.{Summary}

-- ---- what a status means

-- What each status states about what was requested. With the first four statuses the request is known, and the status's
-- predicate holds of it. The status is WRONG_NUMBER exactly if the request isn't known.
pub record StatusCause {A : Type 0} (Asked : (A → Type 0) → Type 0) (Wrong : Type 0)
    (Done Refused Lacks Passes : A → Type 0) (status : ℕ) : Type 0 where
  pub at_most : status ≤ WRONG_NUMBER
  pub done : status ≡ DONE → Asked Done
  pub refused : status ≡ REFUSED → Asked Refused
  pub memory : status ≡ MEMORY → Asked Lacks
  pub no_room : status ≡ NO_ROOM → Asked Passes
  pub wrong_number : (status ≡ WRONG_NUMBER) ↔ Wrong

-- what each status states about a hash algorithm that is requested by its number, as `StatusCause` has it
abbrev pub KindStatusCause : ℕ → (Done Refused Lacks Passes : Kind → Type 0) → ℕ → Type 0
KindStatusCause number Done Refused Lacks Passes status =
    StatusCause (IsSomeAnd (kind_numbered number)) (kind_numbered number ≡ None) Done Refused Lacks Passes status

-- ---- what is reported with it

-- The status is at most a number, and a predicate holds of it and of the summary. Of the room for a text, before and
-- after, only the first bytes were written, as many as the summary has.
pub record SummaryCodes (most : ℕ) (Told : ℕ → Summary → Type 0) (status : ℕ) (s : Summary) (before after : List ℕ)
    : Type 0 where
  pub at_most : status ≤ most
  pub told : Told status s
  pub text : HasText s.text_bytes before after
