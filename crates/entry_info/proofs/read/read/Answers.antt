use Rattle.std.proofs.Common.{◌<◌, ◌∙◌, ◌∷◌, [], ap, length, rules, sym, map, arith}
use Rattle.std.proofs.lemmas.List.{length-map, map-append}
use Rattle.entry_info.specs.Line.{change_of}
use Rattle.entry_info.specs.Text.{end_of, line_value, lines_of}
use Rattle.entry_info.proofs.Lines.{left, next_line, one_read, one_wrong}
use Rattle.entry_info.proofs.read.read.Goals as goal

pub loop-rest-preserved : goal.loop-rest-preserved
loop-rest-preserved c =
    let line = c.first_line.result.0.now in
    let behind = lines_of (end_of c.args.nul) c.first_line.result.1.now in
    let done = map line_value c.loop-rest.lines.items in
    let some : 0 < length c.loop-rest.rest.now = search rules in
    let next = next_line (end_of c.args.nul) c.end_of-end.result c.loop-rest.rest.now line c.first_line.result.1.now
    c.end_of-end.ensures some c.first_line.ensures.line c.first_line.ensures.rest in
    let h = rw c.in-Ok.is at c.in_ok-line.ensures in
    let e = one_read c.args.nul c.args.kind done line behind (line_value c.in-Ok.line) h in
    record {
      comes = rw (
        c.in_ok-push-in-Ok.ensures.items,
        map-append line_value c.loop-rest.lines.items (c.in-Ok.line ∷ []),
      ) (sym e ∙ ap (left c.args.nul c.args.kind done) (sym next) ∙ c.loop-rest.invariant.comes);
    }

pub returns-in-Err-clause-fault : goal.returns-in-Err-clause-fault
returns-in-Err-clause-fault c =
    let line = c.first_line.result.0.now in
    let behind = lines_of (end_of c.args.nul) c.first_line.result.1.now in
    let done = map line_value c.loop-rest.lines.items in
    let some : 0 < length c.loop-rest.rest.now = search rules in
    let next = next_line (end_of c.args.nul) c.end_of-end.result c.loop-rest.rest.now line c.first_line.result.1.now
    c.end_of-end.ensures some c.first_line.ensures.line c.first_line.ensures.rest in
    let h = rw c.in-Err.is at c.in_ok-line.ensures in
    record {
      before = done;
      behind = map (λ l. change_of c.args.nul c.args.kind l) behind;
      is = sym c.loop-rest.invariant.comes ∙ ap (left c.args.nul c.args.kind done) next
          ∙ one_wrong c.args.nul c.args.kind done line behind c.in-Err.fault h;
      counted = omega (arith, length-map c.loop-rest.lines.items line_value, c.len-number.ensures);
    }
