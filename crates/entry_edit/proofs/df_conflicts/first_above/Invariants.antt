use Rattle.std.proofs.Common.{◌≡◌, ℕ, ◌<◌, ◌≤◌, false, All, get_or, take}
use Rattle.entry_list.specs.Order.{IsStrictlyOrdered}
use Rattle.entry_lookup.specs.Lookup.{has_key}
use Rattle.entry_fields.specs.Flags.{stage_code}
use Rattle.entry_edit.proofs.df_conflicts.first_above.Given as goal

abbrev pub invariant-loop-at : goal.invariant-loop-at
invariant-loop-at l = (k : ℕ) → l.checked_len ≤ k → k < l.at → get_or l.path k 0 ≡ 47 → IsStrictlyOrdered l.entries
    → All (λ r. has_key (take k l.path) (stage_code l.stage) r ≡ false) l.entries
