use Rattle.std.proofs.Common.{◌+◌, ◌-◌, List, arith, get_or, length, length-take, map, sym, subst, take, ◌∙◌}
use Rattle.std.proofs.lemmas.List.{length-map}
use Rattle.base_search.specs.Digits.{digits}
use Rattle.entry_list.specs.Record.{Record}
use Rattle.entry_lookup.specs.SpanSteps.{AreSpans, IsWindow, span_names}
use Rattle.entry_lookup.specs.Tables.{IsBounded}
use Rattle.entry_lookup.specs.WalkSteps.{SpanValue, span_value}
use Rattle.entry_lookup.specs.declared.walk.Span.{Span}
use Rattle.entry_lookup.proofs.Lookup.{err_is, ok_is}
use Rattle.entry_lookup.proofs.SpanTable.{dirs_bounded}
use Rattle.entry_lookup.proofs.TableSearch.{no_span, quarter_small, slash_at, span_found, window_absent, window_is}
use Rattle.entry_lookup.proofs.TableSearch.{window_count, window_whole}
use Rattle.entry_lookup.proofs.tables.DirectoryTable.window.Goals as goal

pub slice_bounds-find-end : goal.slice_bounds-find-end
slice_bounds-find-end c =
    omega (
      arith,
      (slash_at c.args.path.now c.in-Some.slash (sym c.last_slash.ensures ∙ c.in-Some.is)).0,
      length-take c.in-Some.slash c.args.path.now,
    )

pub returns-in_default-clause-count : goal.returns-in_default-clause-count
returns-in_default-clause-count c =
    let rs = c.self.inside.entries in
    let path = c.args.path.now in
    let names = span_names c.self.inside.spans.items in
    let P : List Record → Type 0 = λ xs. IsBounded xs path (0 + digits (c.len.result - 0) + 1) in
    subst P c.self.view_is (dirs_bounded rs path names _ c.self.invariant.ordered c.self.invariant.dirs
    (window_whole rs path (length names) c.len.result (sym c.last_slash.ensures ∙ c.in_default.is) c.len.ensures)
    (λ some. omega arith))

pub returns-in-Ok-clause-window : goal.returns-in-Ok-clause-window
returns-in-Ok-clause-window c =
    let rs = c.self.inside.entries in
    let path = c.args.path.now in
    let spans = c.deref-spans.result.now in
    let are : AreSpans rs spans =
    subst (λ (ss : List Span). AreSpans rs ss) (sym c.deref-spans.ensures.value) c.self.invariant in
    let found = span_found rs spans (take c.in-Some.slash path) c.in-Ok.place no_span
    (ok_is c.find-place.result.0 c.in-Ok.place _ c.in-Ok.is c.find-place.ensures.found) are.each in
    let s = get_or spans c.in-Ok.place no_span in
    let P : List Record → Type 0 = λ xs. IsWindow path xs (record { start = s.start; end = s.end }) in
    subst P c.self.view_is (window_is rs path c.in-Some.slash s (sym c.last_slash.ensures ∙ c.in-Some.is) found)

pub returns-in-Ok-clause-some : goal.returns-in-Ok-clause-some
returns-in-Ok-clause-some c = λ _.
    let rs = c.self.inside.entries in
    let path = c.args.path.now in
    let spans = c.deref-spans.result.now in
    let are : AreSpans rs spans =
    subst (λ (ss : List Span). AreSpans rs ss) (sym c.deref-spans.ensures.value) c.self.invariant in
    let found = span_found rs spans (take c.in-Some.slash path) c.in-Ok.place no_span
    (ok_is c.find-place.result.0 c.in-Ok.place _ c.in-Ok.is c.find-place.ensures.found) are.each in
    found.0.some

pub returns-in-Ok-clause-few : goal.returns-in-Ok-clause-few
returns-in-Ok-clause-few c =
    let spans = c.deref-spans.result.now in
    let f : SpanValue → _ = λ s. s.name in
    omega (
      arith,
      c.find-place.ensures.count.at_most,
      quarter_small (length (span_names spans)),
      length-map (map span_value spans) f,
      length-map spans span_value,
    )

pub returns-in-Err-clause-few : goal.returns-in-Err-clause-few
returns-in-Err-clause-few c =
    let spans = c.deref-spans.result.now in
    let f : SpanValue → _ = λ s. s.name in
    omega (
      arith,
      c.find-place.ensures.count.at_most,
      quarter_small (length (span_names spans)),
      length-map (map span_value spans) f,
      length-map spans span_value,
    )

pub returns-in-Ok-clause-count : goal.returns-in-Ok-clause-count
returns-in-Ok-clause-count c =
    let rs = c.self.inside.entries in
    let path = c.args.path.now in
    let spans = c.deref-spans.result.now in
    let are : AreSpans rs spans =
    subst (λ (ss : List Span). AreSpans rs ss) (sym c.deref-spans.ensures.value) c.self.invariant in
    let found = span_found rs spans (take c.in-Some.slash path) c.in-Ok.place no_span
    (ok_is c.find-place.result.0 c.in-Ok.place _ c.in-Ok.is c.find-place.ensures.found) are.each in
    let s = get_or spans c.in-Ok.place no_span in
    let P : List Record → Type 0 = λ xs. IsBounded xs path (c.find-place.result.1 + digits (s.end - s.start) + 1) in
    subst P c.self.view_is (dirs_bounded rs path (span_names spans) _ are.ordered are.dirs
    (window_count rs path (length (span_names spans)) c.in-Some.slash c.find-place.result.1 s
    (sym c.last_slash.ensures ∙ c.in-Some.is) found c.find-place.ensures.count.at_most) (λ some. omega arith))

pub returns-in-Err-clause-count : goal.returns-in-Err-clause-count
returns-in-Err-clause-count c =
    let rs = c.self.inside.entries in
    let path = c.args.path.now in
    let spans = c.deref-spans.result.now in
    let are : AreSpans rs spans =
    subst (λ (ss : List Span). AreSpans rs ss) (sym c.deref-spans.ensures.value) c.self.invariant in
    let P : List Record → Type 0 = λ xs. IsBounded xs path (c.find-place.result.1 + digits (c.len.result - 0) + 1) in
    subst P c.self.view_is (dirs_bounded rs path (span_names spans) _ are.ordered are.dirs
    (window_absent rs path (length (span_names spans)) c.in-Some.slash c.find-place.result.1
    c.len.result (sym c.last_slash.ensures ∙ c.in-Some.is) (err_is c.find-place.result.0 _ _ c.in-Err.is
    (c.find-place.ensures.absent rs are.dirs)) c.len.ensures c.find-place.ensures.count.at_most) (λ some. omega arith))
