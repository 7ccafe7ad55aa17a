use Rattle.std.proofs.Common.{◌≡◌, List, ℕ, ◌≤◌, ◌<◌, length, take, drop, map, not, get_or}
use Rattle.std.specs.List.{FoldsTo, filter}
use Rattle.entry_list.specs.Removed.{Call, IsCalled}
use Rattle.entry_list.proofs.remove.remove_entries.Given as goal

abbrev pub invariant-loop-i : goal.invariant-loop-i
invariant-loop-i g l =
    goal.F-IsAlwaysCallable g l.remove
    × (l.retained ≤ l.i)
    × (length l.entries.items ≡ length l.initial.entries.items)
    × (drop l.i l.entries.items ≡ drop l.i l.initial.entries.items)
    × ((calls : List Call)
    × FoldsTo (λ f c h. IsCalled (λ f i p e b o k. goal.F-step g f i p e b o k) l.backing f c h) l.initial.remove calls
    l.remove
    × (map (λ (c : Call). c.before) calls ≡ take l.i l.initial.entries.items)
    × ((k : ℕ) (d : Call) → k < length calls → (get_or calls k d).place ≡ k)
    × (take l.retained l.entries.items ≡ map (λ (c : Call). c.after) (filter (λ (c : Call). not c.is_removed) calls)))
