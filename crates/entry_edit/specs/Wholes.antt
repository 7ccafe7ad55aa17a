-- The paths in a complete directory of a sparse index, at which nothing is staged or removed (gitformat-index, "Sparse
-- Directory Entries"). Each definition is for any list.
use Rattle.std.specs.Prelude.{◌≡◌, ℕ, ◌-◌, ◌==◌, ◌&&◌, Bool, false, List, length, nat_eq, nat_lt, Option, Some, None}
use Rattle.std.specs.Prelude.{MatchOption, MatchResult, Result, position, slice_index, if◌then◌else◌}
use Rattle.std.specs.List.{list_any, starts_with}
use Rattle.std.specs.Option.{option_map, option_or}
use Rattle.index_parts.specs.Mode.{directory_mode}
use Rattle.entry_list.specs.Order.{IsStrictlyOrdered}
use Rattle.entry_list.specs.Record.{Record}
use Rattle.entry_edit.specs.Changes.{RejectionCause, change_path}
use Rattle.entry_edit.specs.Refusals.{AnswersFault, EditCause}
use Rattle.entry_edit.specs.declared.change.ApplyError.{ApplyError}
use Rattle.entry_edit.specs.declared.change.ApplyError.TheVariants as refusals
use Rattle.entry_edit.specs.declared.change.Change.{Change}
use Rattle.entry_edit.specs.declared.error.Error.{Error}
use Rattle.entry_edit.specs.declared.error.Error.TheVariants as errors

-- the path continues after the directory, which has a slash at the end
abbrev pub goes_on : List ℕ → List ℕ → Bool
goes_on folder path =
    (slice_index folder (length folder - 1) == 47) && (starts_with nat_eq path folder && nat_lt (length folder) (length path))

-- the record is for a complete directory, and the path is in it
abbrev pub is_around : List ℕ → Record → Bool
is_around path r = (r.mode == directory_mode) && goes_on r.path path

-- the path is in a complete directory
abbrev pub lies_in_whole : List ℕ → List Record → Bool
lies_in_whole path rs = list_any (is_around path) rs

-- ---- one change

abbrev pub whole_fault : Bool → Option Error
whole_fault inside = if inside then Some errors.InWholeDirectory else None

-- There is no error, and the path is in no complete directory. Otherwise the result is the error; or else that the path
-- is in one; or else a lack of room or memory. If the records strictly increase, it is exact whether the path is in
-- one.
pub record EditAmongCause {T : Type 0} (fault : Option Error) (len : ℕ) (path : List ℕ) (rs : List Record)
    (r : Result T Error) : Type 0 where
  pub inside : Bool
  pub exactly : IsStrictlyOrdered rs → inside ≡ lies_in_whole path rs
  pub reason : EditCause (option_or fault (whole_fault inside)) len path r

-- the path is in no complete directory, or the error is that it is, or else out of memory
pub record WholeDirectoryCause {T : Type 0} (path : List ℕ) (rs : List Record) (r : Result T Error) : Type 0 where
  pub inside : Bool
  pub exactly : IsStrictlyOrdered rs → inside ≡ lies_in_whole path rs
  pub reason : MatchResult r (λ _. inside ≡ false)
      (λ e. MatchOption (whole_fault inside) (e ≡ errors.Memory) (λ f. e ≡ f))

-- ---- several changes

-- the index of the first change whose path is in a complete directory
abbrev pub first_in_whole : List Change → List Record → Option ℕ
first_in_whole cs rs = position (λ c. lies_in_whole (change_path c) rs) cs

abbrev pub whole_refusal : Option ℕ → Option ApplyError
whole_refusal place = option_map (λ at. refusals.Refused at errors.InWholeDirectory) place

-- the rejection; or else that of the first change whose path is in a complete directory of these records
abbrev pub refusal_among : Option ApplyError → List Change → List Record → Option ApplyError
refusal_among refusal cs rs = option_or refusal (whole_refusal (first_in_whole cs rs))

-- No change is rejected, or the error is the first rejection of a change by itself. If there is none, it is that of the
-- first change whose path is in a complete directory. If the records strictly increase, it is exactly the first.
pub record AnswersAmong {T : Type 0} (refusal : Option ApplyError) (cs : List Change) (rs : List Record)
    (r : Result T ApplyError) : Type 0 where
  pub place : Option ℕ
  pub exactly : IsStrictlyOrdered rs → place ≡ first_in_whole cs rs
  pub answer : AnswersFault (option_or refusal (whole_refusal place)) r

-- no change is rejected, or the error is the first rejection, by itself or by a complete directory, or else out of
-- memory
pub record RejectionAmongCause {T : Type 0} (refusal : Option ApplyError) (cs : List Change) (rs : List Record)
    (r : Result T ApplyError) : Type 0 where
  pub place : Option ℕ
  pub exactly : IsStrictlyOrdered rs → place ≡ first_in_whole cs rs
  pub reason : RejectionCause (option_or refusal (whole_refusal place)) r
