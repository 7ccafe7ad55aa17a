use Rattle.std.proofs.Common.{◌≡◌, ◌≤◌, ◌-◌, ◌^◌, length}
use Rattle.file_windows.proofs.Counts.{Counts}
use Rattle.file_windows.proofs.Hashed.{IsHashedOn}
use Rattle.file_windows.proofs.disk.read_pieces.Given as goal

abbrev pub invariant-pieces : goal.invariant-pieces
invariant-pieces g l =
    record {
      so_far : IsHashedOn l.kind l.is_hashed l.is_held (g.S.Source.remaining l.fn.file) (g.S.Source.remaining l.file)
          l.hasher l.fn.bytes.items l.bytes.items l.passed l.len;
      len : l.len ≤ 2 ^ 63;
      counted : Counts (g.S.Source.remaining l.fn.file) (g.S.Source.remaining l.file) (length l.fn.bytes.items) l.len;
      stored : g.S.Source.stored l.file ≡ g.S.Source.stored l.fn.file;
      works : g.S.Source.works l.file ≡ g.S.Source.works l.fn.file;
    }

abbrev pub decreases-pieces : goal.decreases-pieces
decreases-pieces g l = 2 ^ 64 - l.len
