use Rattle.std.proofs.Common.{◌≡◌, ◌≤◌, ◌+◌, ◌++◌, ℕ, List, [], length}
use Rattle.std.specs.Prelude.{vec_len, if◌then◌else◌}
use Rattle.file_windows.specs.Windowed.{IsPassedOn, moment_of}
use Rattle.file_windows.proofs.extensions.pass_extension.Given as goal

abbrev pub invariant-pieces : goal.invariant-pieces
invariant-pieces g l = record {
  inside : l.place.start ≤ vec_len l.window;
  passed : (count : ℕ) × (count + l.place.left ≡ l.fn.place.left) × (passed : List ℕ)
      × (length passed + l.rest ≡ l.extension.len)
      × (l.held.items ≡ l.fn.held.items ++ (if l.extension.is_held then passed else []))
      × IsPassedOn l.plan
      (moment_of g.S.Source l.fn.file l.fn.hasher l.fn.window.items l.fn.place.start [])
      (moment_of g.S.Source l.file l.hasher l.window.items l.place.start [])
      count passed;
  stored : g.S.Source.stored l.file ≡ g.S.Source.stored l.fn.file;
  works : g.S.Source.works l.file ≡ g.S.Source.works l.fn.file;
}

abbrev pub decreases-pieces : goal.decreases-pieces
decreases-pieces g l = l.place.left
