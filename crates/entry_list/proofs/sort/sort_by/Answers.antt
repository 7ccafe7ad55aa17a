use Rattle.std.proofs.Common.{rules, ◌≡◌, refl, ◌∙◌}
use Rattle.std.specs.Fn.{ComparesAs}
use Rattle.std.specs.Ordering.{is_lt}
use Rattle.std.specs.List.Sorted.{IsPermutation, IsSortedBy, IsStableBy}
use Rattle.std.proofs.lemmas.Fn.{answers_by}
use Rattle.std.proofs.lemmas.List.Elements.{same_from_all_zip}
use Rattle.std.proofs.lemmas.List.Sorted.{IsPermutation-trans}
use denote.Param.Always.{always_mut, mut_by}
use Rattle.entry_list.specs.declared.Entry.{Entry}
use Rattle.entry_list.specs.Sorted.{AsksThird, is_before_by}
use Rattle.entry_list.specs.Order.{record_cmp}
use Rattle.entry_list.specs.Record.{record_in}
use Rattle.entry_list.proofs.Thirdly.{still, answered, thirdly, ordered_first}
use Rattle.entry_list.proofs.sort.sort_by.Goals as goal

same_entry : (x y : Entry) → (y.stat ≡ x.stat) × ((y.id ≡ x.id)
    × ((y.flags ≡ x.flags) × ((y.mode ≡ x.mode) × (y.path ≡ x.path)))) → y ≡ x
same_entry x y e = λ i. record {
  stat = e.0 i;
  id = e.1.0 i;
  flags = e.1.1.0 i;
  mode = e.1.1.1.0 i;
  path = e.1.1.1.1 i;
}

pub sort_by-requires : goal.sort_by-requires
sort_by-requires g c = mut_by _ (λ s. always_mut g.F.FnMut s.1.now) (λ s a i. search rules) (λ s a r t i e.
    let told : AsksThird (λ f x y o k. goal.F-step g f x y o k) s.0.now s.1.now a.0 a.1.0 r t.1.now = search rules in
    still g.F.FnMut (record_cmp (record_in s.0.now a.0.now) (record_in s.0.now a.1.0.now)) s.1.now a.0 a.1.0 r t.1.now
    told i) _ c.requires.callable

pub returns-clause-permutation : goal.returns-clause-permutation
returns-clause-permutation g c =
    let old = c.args.entries.now.items in
    let same : c.in_ok-copy.copy.items ≡ old =
    same_from_all_zip _ old c.in_ok-copy.copy.items c.in_ok-copy.ensures.cases.0 same_entry in
    let one : IsPermutation old c.sort_by.new.self.items = rw (← same) c.in_ok-sort_by.ensures.permutation in
    IsPermutation-trans old c.sort_by.new.self.items c.sort.new.entries.items one c.in_ok-sort.ensures.permutation

pub returns-clause-ties : goal.returns-clause-ties
returns-clause-ties g c = λ by order compares.
    let storage = c.args.backing.now in
    let old = c.args.entries.now.items in
    let mid = c.sort_by.new.self.items in
    let before = is_before_by storage by in
    let asks = answers_by _ (λ a r. is_lt r ≡ before a.0.now a.1.0.now)
    (λ s. (s.0.now ≡ storage) × ComparesAs g.F.FnMut by s.1.now) (λ s a r t e i.
    let told : AsksThird (λ f x y o k. goal.F-step g f x y o k) s.0.now s.1.now a.0 a.1.0 r t.1.now = search rules in
    let stays : t.0.now ≡ s.0.now = search rules in
    let one = answered g.F.FnMut by
    (record_cmp (record_in s.0.now a.0.now) (record_in s.0.now a.1.0.now)) s.1.now a.0 a.1.0 r t.1.now told i.1 in
    (rw i.0 at one.0, (stays ∙ i.0, one.1))) _ (refl, compares) in
    let sorted : IsSortedBy before mid = c.in_ok-sort_by.ensures.sorted before (thirdly storage by order) asks in
    let stable : IsStableBy before c.in_ok-copy.copy.items mid =
    c.in_ok-sort_by.ensures.stable before (thirdly storage by order) asks in
    let same : c.in_ok-copy.copy.items ≡ old =
    same_from_all_zip _ old c.in_ok-copy.copy.items c.in_ok-copy.ensures.cases.0 same_entry in
    let unmoved : c.sort.new.entries.items ≡ mid =
    c.in_ok-sort.ensures.unmoved (ordered_first storage by order mid sorted) in
    rw (unmoved, ← same) (sorted, stable)
