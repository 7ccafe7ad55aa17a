use Rattle.std.proofs.Common.{◌≡◌, ◌+◌, ◌≤◌, ◌^◌, ◌∙◌, [], ap, length, arith, subst}
use Rattle.std.specs.List.{flat_map}
use Rattle.entry_list.specs.Counted.{counted_in}
use Rattle.entry_list.specs.EntryImage.{written}
use Rattle.ext_encode.specs.Chosen.{Extensions as Chosen, items}
use Rattle.index_extensions.specs.Encoding.{item_bytes}
use Rattle.index_model.specs.Contents.{parts_contents}
use Rattle.index_model.specs.Image.{image_version, extension_items}
use Rattle.index_encode.proofs.Bodies.{unmarked_within}
use Rattle.index_encode.proofs.layout.layout_by.Goals as goal

pub returns-in_default-clause-none : goal.returns-in_default-clause-none
returns-in_default-clause-none c =
    let v = parts_contents c.args.parts.now in
    let large : 2 ^ 32 ≤ 12 + counted_in c.args.precision (image_version v c.args.options) [] (written v.records) =
    rw (c.deref.ensures.value, c.deref-2.ensures.value) at c.in_default.ensures.none in
    omega (arith, large)

pub returns-in_default-of-clause-none : goal.returns-in_default-of-clause-none
returns-in_default-of-clause-none c =
    let v = parts_contents c.args.parts.now in
    let large : 2 ^ 32 ≤ length (flat_map item_bytes (extension_items v c.args.options)) =
    subst (λ (e : Chosen). 2 ^ 32 ≤ length (flat_map item_bytes (items v.kind e))) c.chosen_of-list.ensures
    c.in_default-of.ensures.none in
    omega (arith, large)

pub returns-then-total-from-clause-none : goal.returns-then-total-from-clause-none
returns-then-total-from-clause-none c =
    let v = parts_contents c.args.parts.now in
    let version : c.in-Some.entries.version ≡ image_version v c.args.options =
    rw (c.deref.ensures.value, c.deref-2.ensures.value) at c.in-Some.ensures.version in
    let counted : c.in-Some.entries.most
    ≡ 12 + counted_in c.args.precision c.in-Some.entries.version [] (written v.records) =
    rw (c.deref.ensures.value, c.deref-2.ensures.value) at c.in-Some.ensures.most in
    let most = counted ∙ ap (λ x. 12 + counted_in c.args.precision x [] (written v.records)) version in
    let total : c.total.result ≡ length (flat_map item_bytes (extension_items v c.args.options)) =
    c.total.ensures.len ∙ ap (λ (e : Chosen). length (flat_map item_bytes (items v.kind e))) c.chosen_of-list.ensures in
    omega (arith, most, total, c.from.ensures, c.if-total-from.true, c.from-2.ensures)

pub returns-clause-some : goal.returns-clause-some
returns-clause-some c =
    let v = parts_contents c.args.parts.now in
    let count : c.in-Some.entries.count ≡ length (written v.records) =
    rw (c.deref.ensures.value, c.deref-2.ensures.value) at c.in-Some.ensures.count in
    let version : c.in-Some.entries.version ≡ image_version v c.args.options =
    rw (c.deref.ensures.value, c.deref-2.ensures.value) at c.in-Some.ensures.version in
    let counted : c.in-Some.entries.most
    ≡ 12 + counted_in c.args.precision c.in-Some.entries.version [] (written v.records) =
    rw (c.deref.ensures.value, c.deref-2.ensures.value) at c.in-Some.ensures.most in
    let most = counted ∙ ap (λ x. 12 + counted_in c.args.precision x [] (written v.records)) version in
    let total : c.total.result ≡ length (flat_map item_bytes (extension_items v c.args.options)) =
    c.total.ensures.len ∙ ap (λ (e : Chosen). length (flat_map item_bytes (items v.kind e))) c.chosen_of-list.ensures in
    record {
      is_version = version;
      is_count = count;
      is_list = c.chosen_of-list.ensures;
      are_lens = c.in-Some-of.ensures.some;
      small = omega (
        arith,
        unmarked_within c.args.precision v c.args.options,
        most,
        total,
        c.from.ensures,
        c.if-total-from.false,
        c.from-2.ensures,
      );
    }
