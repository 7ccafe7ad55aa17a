use Rattle.std.proofs.Common.{◌-◌, ℕ, List, None, length, refl, subst}
use Rattle.gix_index.specs.Entries.{AreEntries}
use Rattle.view_salvage.proofs.Endings.{ends_division}
use Rattle.view_salvage.proofs.division.divide_ending.Goals as goal

pub returns : goal.returns
returns c =
    let behind = c.split_at.result.1.now in
    let rs = c.entries_in.new.first.list.records in
    let rest = c.in_ok-rest.rest.now in
    let start : AreEntries c.args.version c.args.kind None behind c.in_ok-first.first.list.records behind =
    rw c.in_ok-first.ensures.0 refl in
    let read = subst (λ (b : List ℕ). AreEntries c.args.version c.args.kind None b rs rest) c.split_at.ensures.back
    (c.in_ok-rest.ensures.read behind start) in
    ends_division c.args.kind c.args.version c.args.bytes.now c.args.declared c.len.result
    (length c.args.bytes.now - length rest) rs rest c.in_ok-parts.field-0 c.requires.header read
    c.in_ok-rest.ensures.none c.len.ensures refl (rw c.new-none.ensures.items at c.in_ok-parts.ensures)
