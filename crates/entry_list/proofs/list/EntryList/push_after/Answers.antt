use Rattle.std.proofs.Common.{◌≡◌, ◌+◌, ◌++◌, [], List, ℕ, None, take, ap, ◌∙◌}
use Rattle.std.specs.Prelude.{slice_range, unwrap_or}
use Rattle.entry_list.specs.Entries.{last_path}
use Rattle.entry_list.specs.Held.{Held, IsFrontOfLast, pushed}
use Rattle.entry_list.specs.Record.{Record, with_path}
use Rattle.entry_list.proofs.Appended.{appended_records}
use Rattle.entry_list.proofs.list.EntryList.push_after.Goals as goal

pub returns-clause-pushed : goal.returns-clause-pushed
returns-clause-pushed c =
    let s = c.self.inside.storage.items in
    let n = c.args.shared in
    let front : IsFrontOfLast c.args.self.now n c.last_start-previous.result =
    c.last_start-previous.ensures n c.requires in
    let same : slice_range s c.last_start-previous.result (c.last_start-previous.result + n)
    ≡ take n (unwrap_or (last_path None c.args.self.now.records) []) =
    ap (λ (h : Held). slice_range h.storage c.last_start-previous.result (c.last_start-previous.result + n))
    c.self.view_is ∙ front.is in
    let behind : List ℕ → Record = λ p. with_path (p ++ c.args.path.now) c.args.entry in
    let a = c.in_ok-append_after.ensures.appended in
    let records = appended_records s c.self.inside.entries.items
    (behind (slice_range s c.last_start-previous.result (c.last_start-previous.result + n)))
    c.append_after.new.storage.items c.append_after.new.entries.items c.self.invariant a in
    (λ i. record { records = records i; storage = a.storage i })
    ∙ ap (λ (h : Held). pushed h
    (behind (slice_range s c.last_start-previous.result (c.last_start-previous.result + n)))) c.self.view_is
    ∙ ap (λ (p : List ℕ). pushed c.args.self.now (behind p)) same
