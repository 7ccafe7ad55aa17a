use Rattle.std.proofs.Common.{◌≡◌, arith, ap, sym, take, ◌∙◌}
use Rattle.gix_index.proofs.Links.{no_link_fault}
use Rattle.view_salvage.specs.Remains.{part_bytes}
use Rattle.view_salvage.proofs.LastLinks.{link_within, none_spelled}
use Rattle.view_salvage.proofs.remains.link_in.Goals as goal

pub split_at-requires : goal.split_at-requires
split_at-requires c =
    let is = sym c.last_link.ensures ∙ c.in-Some.is in
    omega (arith, link_within c.requires.0 _ c.args.parts.now c.in-Some.part c.requires.1 is)

pub split_at-requires-2 : goal.split_at-requires-2
split_at-requires-2 c =
    let is = sym c.last_link.ensures ∙ c.in-Some.is in
    omega (
      arith,
      c.split_at.ensures.back_len,
      link_within c.requires.0 _ c.args.parts.now c.in-Some.part c.requires.1 is,
    )

pub returns-in-Err-Corrupt-clause-link : goal.returns-in-Err-Corrupt-clause-link
returns-in-Err-Corrupt-clause-link c =
    let content = c.split_at-2.result.0.now in
    let is : content ≡ part_bytes c.args.bytes.now c.in-Some.part =
    c.split_at-2.ensures.front ∙ ap (take c.in-Some.part.len) c.split_at.ensures.back in
    let says = rw c.in-Err-Corrupt.field-0-is at c.in-Err-Corrupt.ensures.fault in
    none_spelled c.args.kind c.args.bytes.now content c.args.parts.now c.in-Some.part is
    (sym c.last_link.ensures ∙ c.in-Some.is) (λ l h. no_link_fault c.args.kind content l _ h says)

pub returns-in-Err-BitmapDecode-clause-link : goal.returns-in-Err-BitmapDecode-clause-link
returns-in-Err-BitmapDecode-clause-link c =
    let content = c.split_at-2.result.0.now in
    let is : content ≡ part_bytes c.args.bytes.now c.in-Some.part =
    c.split_at-2.ensures.front ∙ ap (take c.in-Some.part.len) c.split_at.ensures.back in
    let says = rw c.in-Err-BitmapDecode.field-0-is at c.in-Err-BitmapDecode.ensures.fault in
    none_spelled c.args.kind c.args.bytes.now content c.args.parts.now c.in-Some.part is
    (sym c.last_link.ensures ∙ c.in-Some.is) (λ l h. no_link_fault c.args.kind content l _ h says)
