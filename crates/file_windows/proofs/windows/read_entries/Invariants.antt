use Rattle.std.proofs.Common.{◌≡◌, ◌+◌, ℕ}
use Rattle.file_windows.specs.Entries.{FitPlan}
use Rattle.file_windows.specs.Windowed.{IsReadOn, moment_of}
use Rattle.file_windows.proofs.windows.read_entries.Given as goal

abbrev pub invariant-windows : goal.invariant-windows
invariant-windows g l = record {
  fit : FitPlan l.plan l.first;
  read : (count : ℕ) × (count + l.left ≡ l.fn.left) × IsReadOn l.plan
      (moment_of g.S.Source l.fn.file l.fn.hasher l.fn.window.items 12 l.fn.first.list.records)
      (moment_of g.S.Source l.file l.hasher l.window.items l.start l.first.list.records)
      count;
  stored : g.S.Source.stored l.file ≡ g.S.Source.stored l.fn.file;
  works : g.S.Source.works l.file ≡ g.S.Source.works l.fn.file;
}

abbrev pub decreases-windows : goal.decreases-windows
decreases-windows g l = l.left
