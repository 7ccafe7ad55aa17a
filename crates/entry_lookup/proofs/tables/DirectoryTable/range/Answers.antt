use Rattle.std.proofs.Common.{List, Some, None, get_or, sym, subst}
use Rattle.entry_list.specs.Record.{Record}
use Rattle.entry_lookup.specs.Closest.{is_below}
use Rattle.entry_lookup.specs.Range.{IsRange}
use Rattle.entry_lookup.specs.SpanSteps.{AreSpans}
use Rattle.entry_lookup.specs.declared.walk.Span.{Span}
use Rattle.entry_lookup.proofs.Lookup.{err_is, ok_is}
use Rattle.entry_lookup.proofs.TableSearch.{all_none, no_span, span_found, range_found}
use Rattle.entry_lookup.proofs.tables.DirectoryTable.range.Goals as goal

pub returns-in-Ok : goal.returns-in-Ok
returns-in-Ok c =
    let rs = c.self.inside.entries in
    let directory = c.args.directory.now in
    let spans = c.deref-spans.result.now in
    let are : AreSpans rs spans =
    subst (λ (ss : List Span). AreSpans rs ss) (sym c.deref-spans.ensures.value) c.self.invariant in
    let s = get_or spans c.in-Ok.place no_span in
    let P : List Record → Type 0 =
    λ xs. IsRange (is_below directory) xs (Some (record { start = s.start; end = s.end })) in
    subst P c.self.view_is (range_found rs directory s
    (span_found rs spans directory c.in-Ok.place no_span
    (ok_is c.find.result.0 c.in-Ok.place _ c.in-Ok.is c.find.ensures.found) are.each))

pub returns-in-Err : goal.returns-in-Err
returns-in-Err c =
    let rs = c.self.inside.entries in
    let directory = c.args.directory.now in
    let spans = c.deref-spans.result.now in
    let are : AreSpans rs spans =
    subst (λ (ss : List Span). AreSpans rs ss) (sym c.deref-spans.ensures.value) c.self.invariant in
    let P : List Record → Type 0 = λ xs. IsRange (is_below directory) xs None in
    subst P c.self.view_is (all_none (is_below directory) rs
    (err_is c.find.result.0 _ _ c.in-Err.is (c.find.ensures.absent rs are.dirs)))
