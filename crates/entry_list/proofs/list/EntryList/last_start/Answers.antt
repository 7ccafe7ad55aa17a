use Rattle.std.proofs.Common.{◌≤◌, ℕ, [], None, length, subst}
use Rattle.std.specs.Prelude.{unwrap_or}
use Rattle.entry_list.specs.Entries.{last_path}
use Rattle.entry_list.specs.Held.{Held, IsFrontOfLast}
use Rattle.entry_list.proofs.LastPath.{last_front}
use Rattle.entry_list.proofs.list.EntryList.last_start.Goals as goal

pub returns-in-Some : goal.returns-in-Some
returns-in-Some c =
    let P : Held → Type 0 = λ h. (shared : ℕ) → shared ≤ length (unwrap_or (last_path None h.records) [])
    → IsFrontOfLast h shared c.start.result in
    subst P c.self.view_is (rw c.start.ensures
    (last_front c.self.inside.storage.items c.self.inside.entries.items c.in-Some.last.now
    (rw c.deref.ensures.value at c.in-Some.ensures.value) c.self.invariant))
