use Rattle.std.proofs.Common.{◌≡◌, inl, inr, List, Option, option_map, length, ap, sym, subst, ◌∙◌}
use Rattle.gix_index.specs.Contents.{Contents}
use Rattle.gix_index.specs.Kind.{Kind}
use Rattle.gix_index.specs.Laws.{HasOneReading}
use Rattle.gix_index.specs.Link.{IsLink, LinkValue, link_of}
use Rattle.gix_index.specs.Record.{Record}
use Rattle.gix_index.specs.State.{contents, records}
use Rattle.view_salvage.specs.Accepted.{AreAcceptable}
use Rattle.view_salvage.specs.Laws.{IsAlone, IsReadAndSaved, KeepsAll, KeepsWhole}
use Rattle.view_salvage.specs.Choice.{IsKept, IsSortedSelection, IsFirstUnfitOrNone, fit_of}
use Rattle.view_salvage.specs.Salvage.{IsCompleted, looked_at}
use Rattle.view_salvage.specs.declared.chosen.Keep.{Keep}
use Rattle.view_salvage.specs.declared.chosen.Keep.TheVariants.{All}
use Rattle.view_salvage.specs.declared.remains.Remains.{Remains}
use Rattle.view_salvage.specs.declared.salvage.Salvaged.{Salvaged}
use Rattle.view_salvage.proofs.Completing.{none_given, none_wanted}
use Rattle.view_salvage.proofs.KeptEntries.{whole_kept}
use Rattle.view_salvage.proofs.KeptLinks.{divided_link}
use Rattle.view_salvage.proofs.Looking.{fit_looked, looked_whole}
use Rattle.view_salvage.proofs.Sameness.{one_saving}
use Rattle.view_salvage.proofs.Unreadable.{same_entries}
use Rattle.view_salvage.proofs.WholeLinks.{HasLinkAt, whole_link}
use Rattle.view_salvage.proofs.laws.whole_is_saved.Goals as goal

module _ (keep : Keep) (v : Contents) (r : Remains) (shared : Option Contents) (s : Salvaged)
    (h : IsReadAndSaved keep v r shared s) where
  pub front_same : v.records ≡ records r.front
  front_same = same_entries h.kind h.time h.options h.bytes (records r.front) h.remain.divides.pieces
      h.remain.divides.fault (v, h.checksum) h.takes_all h.read h.remain.divides.is_divided

  pub link_same : ((kind : Kind) → HasOneReading (IsLink kind)) → option_map link_of r.link ≡ v.extensions.link
  link_same one =
      let d = h.remain.divides in
      let found = subst (λ (o : Option (List _)). HasLinkAt h.kind o (option_map link_of r.link))
      (divided_link h.kind h.bytes (records r.front) h.remain.parts _ d) h.remain.link in
      whole_link h.kind h.time h.options h.bytes (records r.front) d.pieces d.fault (v, h.checksum)
      (option_map link_of r.link) h.takes_all h.read (one h.kind) d.is_divided found

  own_saved : ((kind : Kind) → HasOneReading (IsLink kind)) → IsAlone v shared → h.saves.all ≡ records r.front
  own_saved one (inl none) =
      none_wanted r.has_link shared (records r.front) h.saves.all s.shared
      (subst (λ (o : Option LinkValue). IsCompleted o r.has_link shared (records r.front) h.saves.all s.shared)
      (link_same one ∙ none) h.saves.completed)
  own_saved one (inr none) =
      none_given (option_map link_of r.link) r.has_link (records r.front) h.saves.all s.shared
      (subst (λ (o : Option Contents). IsCompleted (option_map link_of r.link) r.has_link o (records r.front)
      h.saves.all s.shared) none h.saves.completed)

  pub all_read : ((kind : Kind) → HasOneReading (IsLink kind)) → IsAlone v shared → h.saves.all ≡ v.records
  all_read one alone = own_saved one alone ∙ sym front_same

  pub keeps_whole : ((kind : Kind) → HasOneReading (IsLink kind)) → IsAlone v shared → KeepsWhole v r s
  keeps_whole one alone whole =
      let kind = (contents r.front).kind in
      let same = all_read one alone in
      let looked : looked_at s.shared h.saves.all ≡ v.records =
      looked_whole kind s.shared h.saves.all (subst (AreAcceptable kind) (sym same) whole) ∙ same in
      whole_kept keep kind v.records (records s.state) s.first whole
      (subst (λ (l : List Record). IsFirstUnfitOrNone kind l s.first) looked h.saves.first)
      (subst (λ (l : List Record). IsKept keep kind l s.first (records s.state)) looked h.saves.kept)

keeps_all : (v : Contents) (r : Remains) (shared : Option Contents) (s : Salvaged) → IsReadAndSaved All v r shared s
    → ((kind : Kind) → HasOneReading (IsLink kind)) → IsAlone v shared → KeepsAll v r s
keeps_all v r shared s h one alone =
    let kind = (contents r.front).kind in
    subst (λ (l : List Record). IsSortedSelection l (records s.state))
    (fit_looked kind s.shared h.saves.all ∙ ap (fit_of kind) (all_read All v r shared s h one alone)) h.saves.kept

pub returns-clause-link : goal.returns-clause-link
returns-clause-link c = λ keep v r shared s h. link_same keep v r shared s h c.one_reading.ensures.link

pub returns-clause-read : goal.returns-clause-read
returns-clause-read c = λ keep v r shared s h. h.saves.read ∙ sym (ap length (front_same keep v r shared s h))

pub returns-clause-saved : goal.returns-clause-saved
returns-clause-saved c = λ v r shared s h alone. keeps_all v r shared s h c.one_reading.ensures.link alone

pub returns-clause-same : goal.returns-clause-same
returns-clause-same c = λ keep v r shared s h alone. keeps_whole keep v r shared s h c.one_reading.ensures.link alone

pub returns-clause-one : goal.returns-clause-one
returns-clause-one c = one_saving
