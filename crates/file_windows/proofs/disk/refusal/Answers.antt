use Rattle.std.proofs.Common.{rules, ◌≡◌, ◌≢◌, sym, ◌∙◌}
use Rattle.file_windows.proofs.Endings.{trailer_is}
use Rattle.file_windows.proofs.Refused.{refusal_differs, refusal_same}
use Rattle.file_windows.proofs.disk.refusal.Goals as goal

pub returns-then-ne : goal.returns-then-ne
returns-then-ne c = λ bytes at is.
    let differ : c.args.actual ≢ c.in-Some.expected = search rules in
    refusal_differs c.args.kind bytes c.args.trailer.now at c.requires c.args.fault c.args.actual c.in-Some.expected is
    (sym c.checksum.ensures ∙ c.in-Some.is)
    (trailer_is c.args.kind c.args.trailer.now c.checksum.result c.in-Some.expected c.checksum.ensures c.in-Some.is)
    differ

pub returns : goal.returns
returns c = λ bytes at is.
    let same : c.args.actual ≡ c.in-Some.expected = search rules in
    refusal_same c.args.kind bytes c.args.trailer.now at c.requires c.args.fault c.args.actual c.in-Some.expected is
    (trailer_is c.args.kind c.args.trailer.now c.checksum.result c.in-Some.expected c.checksum.ensures c.in-Some.is)
    same
