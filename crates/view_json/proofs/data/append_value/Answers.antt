use Rattle.std.proofs.Common.{ℕ, ◌++◌, ◌∙◌, ap, codes, decimal}
use Rattle.std.proofs.lemmas.Result.{on_ok_weaker}
use Rattle.view_json.specs.Json.{block_value}
use Rattle.view_json.specs.Values.{member, number_member_text}
use Rattle.base_text.proofs.Appended.{on_ok_items, two_more}
use Rattle.view_json.proofs.data.append_value.Goals as goal

pub returns-in_ok-append_decimal-in-Block-2 : goal.returns-in_ok-append_decimal-in-Block-2
unfolding block_value member
returns-in_ok-append_decimal-in-Block-2 c =
    let old = c.args.text.now.items in
    let named = c.extend_from_slice-in-Block.new.self.items in
    let placed = c.append_decimal-in-Block.new.text.items in
    let apart = c.extend_from_slice-in-Block-2.new.self.items in
    let counted = c.append_decimal-in-Block-2.new.text.items in
    let new = c.extend_from_slice-in-Block-3.new.self.items in
    rw c.in-Block.is (on_ok_weaker c.extend_from_slice-in-Block-3.result
    (λ h. two_more old counted new _ _
    (two_more old placed counted
    (number_member_text (codes "{") (codes "from_beginning_of_file") c.in-Block.block.from_beginning_of_file)
    (number_member_text (codes ",") (codes "num_entries") c.in-Block.block.num_entries)
    (two_more old named placed _ (decimal c.in-Block.block.from_beginning_of_file)
    c.in_ok-extend_from_slice-in-Block.ensures.items
    (c.in_ok-append_decimal-in-Block.ensures ∙ ap (λ (n : ℕ). named ++ decimal n) c.from-in-Block.ensures))
    (two_more placed apart counted _ (decimal c.in-Block.block.num_entries)
    c.in_ok-extend_from_slice-in-Block-2.ensures.items
    (c.in_ok-append_decimal-in-Block-2.ensures ∙ ap (λ (n : ℕ). apart ++ decimal n) c.from-in-Block-2.ensures))) h)
    (on_ok_items c.extend_from_slice-in-Block-3.result _ _ _ c.extend_from_slice-in-Block-3.ensures.items))
