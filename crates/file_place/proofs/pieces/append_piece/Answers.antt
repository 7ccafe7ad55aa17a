use Rattle.std.proofs.Common.{◌≡◌, ◌≤◌, ◌+◌, ◌-◌, length, take, ap, subst, sym, ◌∙◌, arith, rules}
use Rattle.std.specs.Io.{appended_bytes}
use Rattle.std.specs.Io.KnownBytes.{Consumes}
use Rattle.std.proofs.lemmas.Grind.{common_steps}
use Rattle.std.proofs.lemmas.List.{with_items_is, places}
use borrow.Rule.Slice.PartMut.{post_of, put_mid}
use Rattle.file_place.proofs.Readers.{came_behind, piece_read}
use Rattle.file_place.proofs.pieces.append_piece.Goals as goal

pub returns : goal.returns
returns g c =
    let old = c.args.bytes.now.items in
    let xs = c.deref_mut.result.now in
    let room = c.read_once.new.room in
    let at = c.len-filled.result in
    let count = c.in_ok-count.count in
    let is : length old ≡ at = search (rules, places) in
    let within : at ≤ length xs = search (rules, places) in
    let items : c.truncate.new.self.items ≡ take (at + count) (put_mid at (length xs - at) xs room) =
    c.truncate.ensures.items ∙ ap (take (at + count))
    (with_items_is c.resize.new.self (put_mid at (length xs - at) xs room) (search (rules, places))) in
    let consumes = subst (Consumes (g.S.Source.remaining c.args.file.now) (g.S.Source.remaining c.read_once.new.file))
    (sym (ap (appended_bytes old) items
    ∙ piece_read old xs room (post_of at (length xs - at) xs) at count is within c.in_ok-count.ensures.bound.0))
    c.in_ok-count.ensures.bytes.0 in
    came_behind count (grind (arith, common_steps)) (search rules) consumes (search rules) (search rules) (search rules)
