-- Why one entry can't be staged: the error is that of one change to an index without entries.
use Rattle.std.proofs.Common.{◌≡◌, ℕ, List, [], ◌∷◌, Bor, Option, Some, None, Result, option_map, refl, sym, ap, subst, arith, ◌∙◌}
use Rattle.std.specs.Option.{option_or}
use Rattle.gix_index.specs.Kind.{Kind}
use Rattle.gix_index.specs.Order.{IsStrictlyOrdered}
use Rattle.gix_index.specs.Pathless.{Pathless}
use Rattle.gix_index.specs.Record.{Record}
use Rattle.entry_edit.specs.Changes.{refusal_from, first_rejection, room_fault}
use Rattle.entry_edit.specs.Refusals.{AnswersFault, staged_entry_fault}
use Rattle.entry_edit.specs.Wholes.{AnswersAmong, first_in_whole, whole_refusal}
use Rattle.entry_edit.specs.declared.change.ApplyError.{ApplyError}
use Rattle.entry_edit.specs.declared.change.ApplyError.TheVariants as refusals
use Rattle.entry_edit.specs.declared.change.Change.TheVariants as changes
use Rattle.entry_edit.specs.declared.error.Error.{Error}
use Rattle.entry_info.specs.Names.{name_rejection as name_refusal}
use Rattle.view_salvage.specs.Accepted.{staging_fault}
use Rattle.view_salvage.specs.declared.accepted.EntryFault.TheVariants as faults

or_none : {A : Type 0} (o : Option A) → option_or o None ≡ o
or_none None = refl
or_none (Some x) = refl

passed_by : (o : Option Error) → option_map (λ e. refusals.Refused 0 e) o ≡ None
    → option_map (λ e. faults.Refused e) o ≡ None
passed_by None e = refl
passed_by (Some x) e = absurd cc

refused_by : (o : Option Error) (at : ℕ) (cause : Error)
    → option_map (λ e. refusals.Refused 0 e) o ≡ Some (refusals.Refused at cause)
    → option_map (λ e. faults.Refused e) o ≡ Some (faults.Refused cause)
refused_by None at cause e = absurd cc
refused_by (Some x) at cause e = cc

memory_by : (o : Option Error) → option_map (λ e. refusals.Refused 0 e) o ≡ Some refusals.Memory → ⊥
memory_by None e = absurd cc
memory_by (Some x) e = absurd cc

module _ (kind : Kind) (entry : Pathless) (path : Bor (List ℕ)) where
  -- what is wrong with the entry, as an error of its edit
  abbrev wrong : Option Error
  wrong = option_or (staged_entry_fault name_refusal kind entry path.now) (room_fault 0 path.now)

  one_refusal : first_rejection name_refusal kind 0 (changes.Stage entry path ∷ [])
      ≡ option_map (λ e. refusals.Refused 0 e) wrong
  unfolding refusal_from
  one_refusal = or_none (option_map (λ e. refusals.Refused 0 e) wrong)

  -- the refusal of the change by itself
  abbrev by_itself : Option ApplyError
  by_itself = first_rejection name_refusal kind 0 (changes.Stage entry path ∷ [])

  -- among no entries there is no other
  pub among_none : {T : Type 0} (r : Result T ApplyError) (rs : List Record) → rs ≡ []
      → AnswersAmong by_itself (changes.Stage entry path ∷ []) rs r → AnswersFault by_itself r
  among_none r rs empty h =
      let place : h.place ≡ None =
      subst (λ l. IsStrictlyOrdered l → h.place ≡ first_in_whole (changes.Stage entry path ∷ []) l) empty h.exactly
      (record { less = λ i j d lt within. absurd (omega arith) }) in
      subst (λ o. AnswersFault o r) (ap (λ p. option_or by_itself (whole_refusal p)) place ∙ or_none by_itself) h.answer

  pub passed : first_rejection name_refusal kind 0 (changes.Stage entry path ∷ []) ≡ None
      → staging_fault kind entry path.now ≡ None
  passed h = passed_by wrong (sym one_refusal ∙ h)

  pub refused : (at : ℕ) (cause : Error)
      → first_rejection name_refusal kind 0 (changes.Stage entry path ∷ []) ≡ Some (refusals.Refused at cause)
      → staging_fault kind entry path.now ≡ Some (faults.Refused cause)
  refused at cause h = refused_by wrong at cause (sym one_refusal ∙ h)

  pub no_memory : first_rejection name_refusal kind 0 (changes.Stage entry path ∷ []) ≡ Some refusals.Memory → ⊥
  no_memory h = memory_by wrong (sym one_refusal ∙ h)
