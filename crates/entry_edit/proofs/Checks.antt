-- Which of several changes is the first that is refused.
use Rattle.std.proofs.Common.{◌≡◌, ℕ, ◌+◌, List, [], ◌∷◌, Some, None, refl, sym, ap, ◌∙◌, ◌<◌, length, get_or, drop, suc, arith}
use Rattle.std.proofs.Math.Seq.{drop-cons}
use Rattle.std.specs.Option.{option_map, option_or}
use Rattle.index_parts.specs.declared.hash.Kind.{Kind}
use Rattle.entry_edit.specs.Changes.{added_len, change_fault, refusal_from}
use Rattle.entry_edit.specs.Refusals.{Check}
use Rattle.entry_edit.specs.declared.change.ApplyError.TheVariants.{Refused}
use Rattle.entry_edit.specs.declared.change.Change.{Change}
use Rattle.entry_edit.specs.declared.error.Error.{Error}

module _ (check : Check) (kind : Kind) (len at : ℕ) (c : Change) (cs : List Change) where
  refusal_cons : refusal_from check kind len at (c ∷ cs)
      ≡ option_or (option_map (λ e. Refused at e) (change_fault check kind len c))
      (refusal_from check kind (len + added_len c) (at + 1) cs)
  unfolding refusal_from
  refusal_cons = refl

  pub refused : (e : Error) → change_fault check kind len c ≡ Some e
      → refusal_from check kind len at (c ∷ cs) ≡ Some (Refused at e)
  refused e h = refusal_cons ∙ ap (λ f. option_or (option_map (λ (e : Error). Refused at e) f)
      (refusal_from check kind (len + added_len c) (at + 1) cs)) h

  pub passed : change_fault check kind len c ≡ None
      → refusal_from check kind len at (c ∷ cs) ≡ refusal_from check kind (len + added_len c) (at + 1) cs
  passed h = refusal_cons ∙ ap (λ f. option_or (option_map (λ (e : Error). Refused at e) f)
      (refusal_from check kind (len + added_len c) (at + 1) cs)) h

pub none_left : (check : Check) (kind : Kind) (len at : ℕ) → refusal_from check kind len at [] ≡ None
unfolding refusal_from
none_left check kind len at = refl

-- ---- at a place of the list

module _ (check : Check) (kind : Kind) (len at : ℕ) (cs : List Change) (d : Change) (within : at < length cs) where
  here : drop at cs ≡ get_or cs at d ∷ drop (at + 1) cs
  here = let next : suc at ≡ at + 1 = omega arith in drop-cons cs at d within ∙ ap (λ n. get_or cs at d ∷ drop n cs) next

  pub refused_at : (e : Error) → change_fault check kind len (get_or cs at d) ≡ Some e
      → refusal_from check kind len at (drop at cs) ≡ Some (Refused at e)
  refused_at e h = ap (refusal_from check kind len at) here
      ∙ refused check kind len at (get_or cs at d) (drop (at + 1) cs) e h

  pub passed_at : (more : ℕ) → change_fault check kind len (get_or cs at d) ≡ None
      → more ≡ len + added_len (get_or cs at d)
      → refusal_from check kind len at (drop at cs) ≡ refusal_from check kind more (at + 1) (drop (at + 1) cs)
  passed_at more h e = ap (refusal_from check kind len at) here
      ∙ passed check kind len at (get_or cs at d) (drop (at + 1) cs) h
      ∙ ap (λ n. refusal_from check kind n (at + 1) (drop (at + 1) cs)) (sym e)
