use Rattle.std.proofs.Common.{◌≡◌, ◌≤◌, ◌+◌, ◌-◌, ℕ, [], length}
use Rattle.std.specs.Prelude.{vec_len}
use Rattle.file_windows.specs.Abridged.{IsAbridgedOn}
use Rattle.file_windows.specs.Windowed.{moment_of}
use Rattle.file_windows.proofs.extensions.pass_extensions.Given as goal

abbrev pub invariant-extensions : goal.invariant-extensions
invariant-extensions g l = record {
  inside : l.place.start ≤ vec_len l.window;
  abridged : (count : ℕ) × (count + l.place.left ≡ l.fn.place.left) × IsAbridgedOn l.plan
      (moment_of g.S.Source l.fn.file l.fn.hasher l.fn.window.items l.fn.place.start [])
      (moment_of g.S.Source l.file l.hasher l.window.items l.place.start [])
      count l.held.bytes.items l.held.heads;
  stored : g.S.Source.stored l.file ≡ g.S.Source.stored l.fn.file;
  works : g.S.Source.works l.file ≡ g.S.Source.works l.fn.file;
}

abbrev pub decreases-extensions : goal.decreases-extensions
decreases-extensions g l = length l.window.items - l.place.start + l.place.left
