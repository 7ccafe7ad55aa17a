use Rattle.std.proofs.Common.{List, ap, arith, map, subst, sym, take, true, ◌≡◌, ◌∙◌}
use Rattle.std.proofs.lemmas.List.{take_all}
use Rattle.entry_lookup.specs.Folded.{stands_in_folded}
use Rattle.entry_lookup.specs.NameSteps.{IsTableOf, NamedValue, NamedValuesRise, named_value}
use Rattle.entry_lookup.specs.WalkSteps.{span_value}
use Rattle.entry_lookup.specs.declared.walk.Span.{Span}
use Rattle.entry_lookup.proofs.Extents.{table_of_extents, start_value}
use Rattle.entry_lookup.proofs.walk.directory_table.Goals as goal

pub returns : goal.returns
returns c =
    let i = c.args.ignore_case in
    let rs = c.args.entries.now in
    let spans : List Span = c.in_ok-spans.spans.items in
    let items : List Span = c.deref-span-items.result.now in
    let table : IsTableOf true i (stands_in_folded i) rs (map start_value (map span_value spans))
    × NamedValuesRise true i (map start_value (map span_value spans)) =
    table_of_extents i rs (map span_value spans) c.in_ok-spans.ensures in
    let whole : take c.loop-span.span-index items ≡ spans =
    take_all c.loop-span.span-index items (omega (arith, c.loop-span-test.false))
    ∙ c.deref-span-items.ensures.value in
    let same : map named_value c.loop-span.names.items ≡ map start_value (map span_value spans) =
    c.loop-span.invariant ∙ ap (λ (xs : List Span). map start_value (map span_value xs)) whole in
    subst (λ (ks : List NamedValue). IsTableOf true i (stands_in_folded i) rs ks × NamedValuesRise true i ks)
    (sym same) table
