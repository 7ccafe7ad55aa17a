use Rattle.std.proofs.Common.{refl, sym, subst}
use Rattle.ext_split.specs.Merge.{replaced}
use Rattle.std.specs.Prelude.{Some}
use Rattle.entry_list.specs.Record.{IsPlaced, record_in}
use Rattle.ext_split.proofs.Merging.{change_set, All-written}
use Rattle.ext_split.proofs.merge.take_at.Goals as goal

pub returns-clause-replaced : goal.returns-clause-replaced
returns-clause-replaced c = λ storage split_storage.
    change_set storage (λ r. replaced r (Some (record_in split_storage c.args.by.now))) c.args.shared.now.items
    c.args.place c.index_mut-entry.result.now _ c.requires c.index_mut-entry.ensures.value refl

pub returns-clause-placed : goal.returns-clause-placed
returns-clause-placed c = λ len all.
    let here : IsPlaced len c.index_mut-entry.result.now = subst (IsPlaced len) (sym c.index_mut-entry.ensures.value)
    (all c.args.place c.index_mut-entry.result.now c.requires) in
    All-written (IsPlaced len) c.args.shared.now.items c.args.place _ c.requires all
    (record { inside = here.inside })
