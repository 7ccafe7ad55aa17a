use Rattle.std.proofs.Common.{◌≡◌, List, ◌++◌, length, take, drop, None}
use Rattle.gix_index.specs.Entries.{last_path}
use Rattle.gix_index.specs.Header.{header_len}
use Rattle.gix_index.specs.Reader.{IsBehind}
use Rattle.view_layout.specs.Piece.{laid, one_piece}
use Rattle.view_salvage.specs.Spelling.{Spelling, AreSpelled, entries_spelled, entry_pieces}
use Rattle.view_layout.specs.declared.part.What.TheVariants as whats
use Rattle.view_salvage.proofs.front.read_front.Given as goal

-- so many entries were read, with their parts
abbrev pub invariant-loop-number : goal.invariant-loop-number
invariant-loop-number l = (spellings : List Spelling)
    × AreSpelled l.version l.kind None (drop header_len l.bytes) spellings l.reader.rest
    × IsBehind l.version l.kind (last_path None l.entries.records) l.reader
    × (l.entries.records ≡ entries_spelled spellings)
    × (length spellings ≡ l.number)
    × (l.parts.items ≡ laid 0 (one_piece whats.Header (take header_len l.bytes) ++ entry_pieces 0 spellings))
