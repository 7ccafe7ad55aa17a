use Rattle.std.proofs.Common.{rules, ◌≡◌, ◌-◌, ◌+◌, List, None, length, sym, subst}
use Rattle.std.specs.List.{HoldsAt}
use Rattle.entry_list.specs.Record.{Record}
use Rattle.entry_decode.proofs.Readers.{last_at}
use Rattle.entry_decode.proofs.entries.last_path.Goals as goal

pub returns : goal.returns
returns c =
    let records = c.args.list.now.records in
    let entries = c.as_slice-entries.result in
    let path = c.path.result.now in
    let at : HoldsAt (λ r. r.path ≡ path) records (c.len-len.result - 1) =
    subst (λ (rs : List Record). HoldsAt (λ r. r.path ≡ path) rs (c.len-len.result - 1)) c.as_slice-entries.ensures
    c.path.ensures in
    let some : c.len-len.result - 1 + 1 ≡ length records = search rules in
    sym (last_at None records (c.len-len.result - 1) path at some)
