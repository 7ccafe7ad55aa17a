use Rattle.std.proofs.Common.{◌≡◌, ◌≤◌, ◌-◌, ◌^◌, length}
use Rattle.std.specs.Io.{StartsWith, appended_bytes}
use Rattle.std.specs.Io.KnownBytes.{Consumes}
use Rattle.file_place.proofs.pieces.fill.Given as goal

abbrev pub invariant-pieces : goal.invariant-pieces
invariant-pieces g l =
    record {
      len : length l.fn.bytes.items ≤ length l.bytes.items;
      appends : StartsWith l.bytes.items l.fn.bytes.items;
      consumed : Consumes (g.S.Source.remaining l.fn.file) (g.S.Source.remaining l.file)
          (appended_bytes l.fn.bytes.items l.bytes.items);
      stored : g.S.Source.stored l.file ≡ g.S.Source.stored l.fn.file;
      works : g.S.Source.works l.file ≡ g.S.Source.works l.fn.file;
    }

abbrev pub decreases-pieces : goal.decreases-pieces
decreases-pieces g l = 2 ^ 64 - length l.bytes.items
