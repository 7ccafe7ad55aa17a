use Rattle.std.proofs.Common.{rules, arith, ◌≡◌, ℕ, ◌+◌, List, [], ◌∷◌, ◌++◌, length, length-append, map, refl, sym, ap}
use Rattle.std.proofs.Common.{◌∙◌}
use Rattle.std.proofs.lemmas.List.{map-append}
use Rattle.ext_untracked.specs.Blocks.{block, how_many_blocks, blocks_size, bare_directory, places_from}
use Rattle.ext_untracked.specs.Blocks.{directory_value}
use Rattle.ext_untracked.specs.CacheSteps.{own_start}
use Rattle.ext_untracked.proofs.BlockHeads.{start_there}
use Rattle.index_extensions.proofs.Errors.{at_err}
use Rattle.ext_untracked.proofs.Nests.{blocks_from, next_block, no_block, block_from, block_row_push, number_of_row}
use Rattle.ext_untracked.proofs.Nests.{block_depth_push, places_push, directories_len, directories_push}
use Rattle.ext_untracked.proofs.Nests.{directories_done}
use Rattle.ext_untracked.proofs.blocks.+read_block.Goals as goal

pub returns-in_default-clause-none : goal.returns-in_default-clause-none
returns-in_default-clause-none t c = λ b rest p d.
    no_block c.args.limit b c.args.bytes.now rest (sym (rw c.in_default.is at c.in_ok-start.ensures.found)) p

pub returns-then-levels-eq0-clause-none : goal.returns-then-levels-eq0-clause-none
returns-then-levels-eq0-clause-none t c = λ b rest p d.
    let inv = c.loop-i.invariant in
    let start = sym (rw c.in-Some.is at c.in_ok-start.ensures.found) in
    let f = next_block c.args.limit (own_start c.in-Some.start) c.in-Some.tail.now c.loop-i.rest.now rest
    c.args.bytes.now inv.0 b c.args.levels start p d inv.1 (omega arith) in
    omega (arith, f.level)

pub returns-in_default-2-clause-none : goal.returns-in_default-2-clause-none
returns-in_default-2-clause-none t c = λ b rest p d.
    let inv = c.loop-i.invariant in
    let start = sym (rw c.in-Some.is at c.in_ok-start.ensures.found) in
    let f = next_block c.args.limit (own_start c.in-Some.start) c.in-Some.tail.now c.loop-i.rest.now rest
    c.args.bytes.now inv.0 b c.args.levels start p d inv.1 (omega arith) in
    let none = rw c.in_default-2.is at c.in_ok-after.ensures.none in
    none f.first f.after f.is_first f.shallow

pub loop-i-preserved : goal.loop-i-preserved
loop-i-preserved t c =
    let inv = c.loop-i.invariant in
    let us = inv.0 in
    let h = rw c.in-Some-2.is at c.in_ok-after.ensures.some in
    let place = c.len-place.result in
    let dirs = c.loop-i.directories.items in
    let pushed = c.push.new.self.items in
    let pushed_len : length pushed ≡ place + 1 = search rules in
    let n : length dirs ≡ place + 1 + blocks_size (blocks_from us) =
    directories_len dirs pushed place (blocks_from us) inv.4 pushed_len in
    let len_is : c.len.result ≡ length dirs = search rules in (
      us ++ h.0 ∷ [],
      block_row_push c.args.limit us h.0 c.in-Some.tail.now c.loop-i.rest.now c.in-Some-2.after.now inv.1 h.1,
      length-append us (h.0 ∷ []) ∙ ap (λ (k : ℕ). k + 1) inv.2,
      omega (arith, block_depth_push us h.0, h.2, inv.3, c.if-levels-eq0.false),
      directories_push _ dirs pushed place (length dirs) us h.0 h.3 n inv.4,
      c.in_ok-push-2.ensures.items ∙ ap (λ (l : List ℕ). l ++ c.len.result ∷ []) inv.5
          ∙ ap (λ (m : ℕ). places_from (place + 1) (blocks_from us) ++ m ∷ []) (len_is ∙ n)
          ∙ sym (places_push (place + 1) us h.0),
    )

pub returns-clause-some : goal.returns-clause-some
returns-clause-some t c =
    let inv = c.loop-i.invariant in
    let place = c.len-place.result in
    let start = own_start c.in-Some.start in
    let number : how_many_blocks (blocks_from inv.0) ≡ c.in-Some.start.subs =
    number_of_row inv.0 ∙ inv.2 ∙ omega arith in
    let place_is : place ≡ length c.args.directories.now.items = search rules in
    let bs = blocks_from inv.0 in
    let pushed_is : map directory_value c.push.new.self.items
    ≡ map directory_value c.args.directories.now.items ++ bare_directory start.name start.untracked [] ∷ [] =
    rw (c.in_ok-push.ensures.items, map-append, c.new.ensures.items) refl in (
      block start.name start.untracked bs,
      block_from c.args.limit start c.in-Some.tail.now c.loop-i.rest.now c.args.bytes.now inv.0
          (sym (rw c.in-Some.is at c.in_ok-start.ensures.found)) inv.1 number,
      inv.3,
      directories_done _ c.loop-i.directories.items c.push.new.self.items c.args.directories.now.items place start.name
          start.untracked c.loop-i.subs.items bs c.set_subs.ensures inv.4 pushed_is inv.5 place_is,
    )

pub returns-in_err-push-clause-memory : goal.returns-in_err-push-clause-memory
returns-in_err-push-clause-memory t c =
    at_err c.from_residual-in_err-push.result (start_there c.args.limit c.args.bytes.now
    (own_start c.in-Some.start) c.in-Some.tail.now (sym (rw c.in-Some.is at c.in_ok-start.ensures.found)))

pub returns-in_err-push-2-clause-memory : goal.returns-in_err-push-2-clause-memory
returns-in_err-push-2-clause-memory t c =
    at_err c.from_residual-in_err-push-2.result (start_there c.args.limit c.args.bytes.now
    (own_start c.in-Some.start) c.in-Some.tail.now (sym (rw c.in-Some.is at c.in_ok-start.ensures.found)))

pub returns-in_err-after-clause-memory : goal.returns-in_err-after-clause-memory
returns-in_err-after-clause-memory t c =
    at_err c.from_residual-in_err-after.result (start_there c.args.limit c.args.bytes.now
    (own_start c.in-Some.start) c.in-Some.tail.now (sym (rw c.in-Some.is at c.in_ok-start.ensures.found)))
