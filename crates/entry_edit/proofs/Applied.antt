-- Several changes, one after another.
use Rattle.std.proofs.Common.{◌≡◌, ℕ, Bool, true, false, ◌||◌, List, [], ◌∷◌, ◌++◌, refl, sym, ap, ◌∙◌, append_assoc}
use Rattle.std.proofs.lemmas.List.Folds.{list_any-append}
use Rattle.entry_list.specs.Order.{IsStrictlyOrdered}
use Rattle.entry_list.specs.Record.{Record}
use Rattle.entry_lookup.specs.Range.{is_at}
use Rattle.entry_edit.specs.Changes.{IsAppliedTo, applied, applied_one, takes_out}
use Rattle.entry_edit.specs.Edits.{IsStagedInto, IsUnstagedFrom, is_displaced, staged, unstaged}
use Rattle.entry_edit.specs.declared.change.Change.{Change}

either : (a b : Bool) → (a || b) ≡ false → a ≡ false
either true b h = h
either false b h = refl

other : (a b : Bool) → (a || b) ≡ false → b ≡ false
other true b h = cc
other false b h = h

pub applied-append : (cs ds : List Change) (rs : List Record) → applied (cs ++ ds) rs ≡ applied ds (applied cs rs)
unfolding applied
applied-append [] ds rs = refl
applied-append (c ∷ cs) ds rs = applied-append cs ds (applied_one c rs)

pub applied_none : (rs : List Record) → IsStrictlyOrdered rs → IsAppliedTo [] rs rs
unfolding applied
applied_none rs o = record { is = refl; ordered = o; apart = λ h. h; others = λ r c h. c }

pub applied_then : (cs ds : List Change) (a b d : List Record) → IsAppliedTo cs a b → IsAppliedTo ds b d
    → IsAppliedTo (cs ++ ds) a d
applied_then cs ds a b d p q = record {
  is = q.is ∙ ap (applied ds) p.is ∙ sym (applied-append cs ds a);
  ordered = q.ordered;
  apart = λ h. q.apart (p.apart h);
  others = λ r c h.
      let both = sym (list_any-append (λ (c : Change). takes_out c r) cs ds) ∙ h in
      q.others r (p.others r c (either _ _ both)) (other _ _ both);
}

or_none : (b : Bool) → (b || false) ≡ b
or_none true = refl
or_none false = refl

none_after : (b : Bool) → (b || false) ≡ false → b ≡ false
none_after b h = sym (or_none b) ∙ h

module _ (c : Change) (old now : List Record) where
  pub one_staged : (new : Record) → applied_one c old ≡ staged new old
      → ((r : Record) → takes_out c r ≡ is_displaced new r) → IsStagedInto new old now → IsAppliedTo (c ∷ []) old now
  unfolding applied
  one_staged new e f s = record {
    is = s.is ∙ sym e;
    ordered = s.ordered;
    apart = s.apart;
    others = λ r h none. s.others r h (sym (f r) ∙ none_after _ none);
  }

  pub one_unstaged : (path : List ℕ) → applied_one c old ≡ unstaged path old
      → ((r : Record) → takes_out c r ≡ is_at path r) → IsUnstagedFrom path old now → IsAppliedTo (c ∷ []) old now
  unfolding applied
  one_unstaged path e f s = record {
    is = s.is ∙ sym e;
    ordered = s.ordered;
    apart = s.apart;
    others = λ r h none. s.others r h (sym (f r) ∙ none_after _ none);
  }

pub grown_twice : (a b d : List ℕ) → ((more : List ℕ) × (b ≡ a ++ more)) → ((more : List ℕ) × (d ≡ b ++ more))
    → (more : List ℕ) × (d ≡ a ++ more)
grown_twice a b d p q = (p.0 ++ q.0, q.1 ∙ ap (λ l. l ++ q.0) p.1 ∙ append_assoc a p.0 q.0)
