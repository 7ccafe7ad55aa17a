use Rattle.std.proofs.Common.{◌++◌, codes, decimal}
use Rattle.std.proofs.lemmas.Result.{on_ok_weaker}
use Rattle.base_text.proofs.Appended.{on_ok_items, two_more}
use Rattle.view_json.proofs.lines.append_num_entries.Goals as goal

pub returns : goal.returns
returns c =
    let old = c.args.text.now.items in
    let named = c.extend_from_slice.new.self.items in
    let counted = c.append_decimal.new.text.items in
    let new = c.extend_from_slice-2.new.self.items in
    on_ok_weaker c.extend_from_slice-2.result
    (λ h. two_more old counted new (codes ",\"num_entries\":" ++ decimal c.args.count) (codes "}\n")
    (two_more old named counted (codes ",\"num_entries\":") (decimal c.args.count)
    c.in_ok-extend_from_slice.ensures.items c.in_ok-append_decimal.ensures) h)
    (on_ok_items c.extend_from_slice-2.result _ _ _ c.extend_from_slice-2.ensures.items)
