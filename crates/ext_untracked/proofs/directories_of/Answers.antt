use Rattle.std.proofs.Common.{rules, ◌≡◌, List, ◌++◌, length, map, sym, ap, subst, ◌∙◌}
use Rattle.std.specs.List.{AllByRecursion}
use Rattle.std.proofs.lemmas.List.{length-map}
use Rattle.ext_untracked.specs.Blocks.{block_size, DirectoryValue, directory_value, preorder_directories}
use Rattle.ext_untracked.specs.BitmapSteps.{IsBare}
use Rattle.ext_untracked.specs.CacheBitmaps.{IsTail}
use Rattle.ext_untracked.specs.declared.Directory.{Directory}
use Rattle.ext_untracked.proofs.Caches.{first_block, nest_is, nest_of, root_of}
use Rattle.index_extensions.proofs.Errors.{at_err}
use Rattle.ext_untracked.proofs.Nests.{listed_len, listed_unmarked}
use Rattle.ext_untracked.proofs.directories_of.Goals as goal

pub returns-then-len-count-clause-read : goal.returns-then-len-count-clause-read
returns-then-len-count-clause-read c = λ ds p.
    let h = rw c.in-Some.is at c.in_ok-rest.ensures.some in
    let items = c.read_block.new.directories.items in
    let are : map directory_value items ≡ preorder_directories 0 h.0 = h.3
    ∙ ap (λ (l : List Directory). map directory_value l ++ preorder_directories (length l) h.0)
    c.new-directories.ensures.items in
    let number : length items ≡ block_size h.0 =
    sym (length-map items directory_value) ∙ ap length are ∙ listed_len 0 h.0 in
    let some : c.args.count ≡ 0 → ⊥ = search rules in
    let q = root_of c.args.kind c.args.limit c.args.count c.args.bytes.now h.0 c.in-Some.rest.now ds h.1
    (nest_of c.args.kind c.args.limit c.args.count c.args.bytes.now ds some p) in
    let len : c.len.result ≡ length items = search rules in
    c.if-len-count.true (len ∙ number ∙ q.size)

pub read_bitmaps-requires : goal.read_bitmaps-requires
read_bitmaps-requires c =
    let h = rw c.in-Some.is at c.in_ok-rest.ensures.some in
    let are : map directory_value c.read_block.new.directories.items ≡ preorder_directories 0 h.0 = h.3
    ∙ ap (λ (l : List Directory). map directory_value l ++ preorder_directories (length l) h.0)
    c.new-directories.ensures.items in
    subst (AllByRecursion IsBare) (sym are) (listed_unmarked 0 h.0)

pub returns-then-not-branch-clause-read : goal.returns-then-not-branch-clause-read
returns-then-not-branch-clause-read c = λ ds p.
    let h = rw c.in-Some.is at c.in_ok-rest.ensures.some in
    let items = c.read_block.new.directories.items in
    let rest = c.in-Some.rest.now in
    let are : map directory_value items ≡ preorder_directories 0 h.0 = h.3
    ∙ ap (λ (l : List Directory). map directory_value l ++ preorder_directories (length l) h.0)
    c.new-directories.ensures.items in
    let some : c.args.count ≡ 0 → ⊥ = search rules in
    let q = root_of c.args.kind c.args.limit c.args.count c.args.bytes.now h.0 rest ds h.1
    (nest_of c.args.kind c.args.limit c.args.count c.args.bytes.now ds some p) in
    c.in_ok-read_bitmaps.ensures.torn c.if-not-branch.true ds
    (subst (λ (l : List DirectoryValue). IsTail c.args.kind l rest ds) (sym are) q.is_tail)

pub returns-clause-read : goal.returns-clause-read
returns-clause-read c =
    let h = rw c.in-Some.is at c.in_ok-rest.ensures.some in
    let items = c.read_block.new.directories.items in
    let rest = c.in-Some.rest.now in
    let ds = map directory_value c.read_bitmaps.new.directories.items in
    let are : map directory_value items ≡ preorder_directories 0 h.0 = h.3
    ∙ ap (λ (l : List Directory). map directory_value l ++ preorder_directories (length l) h.0)
    c.new-directories.ensures.items in
    let number : length items ≡ block_size h.0 =
    sym (length-map items directory_value) ∙ ap length are ∙ listed_len 0 h.0 in
    let some : c.args.count ≡ 0 → ⊥ = search rules in
    let len : length items ≡ c.args.count = search rules in
    let tail : IsTail c.args.kind (preorder_directories 0 h.0) rest ds =
    subst (λ (l : List DirectoryValue). IsTail c.args.kind l rest ds) are
    (c.in_ok-read_bitmaps.ensures.whole c.if-not-branch.false) in
    nest_is c.args.kind c.args.limit c.args.count c.args.bytes.now ds some
    (record { root = h.0; rest = rest; is_root = h.1; shallow = h.2; size = sym number ∙ len; is_tail = tail })

pub returns-in_err-read_bitmaps-clause-memory : goal.returns-in_err-read_bitmaps-clause-memory
returns-in_err-read_bitmaps-clause-memory c =
    let h = rw c.in-Some.is at c.in_ok-rest.ensures.some in
    let some : c.args.count ≡ 0 → ⊥ = search rules in
    at_err c.from_residual-in_err-read_bitmaps.result
    (first_block c.args.limit c.args.count c.args.bytes.now h.0 c.in-Some.rest.now some h.1)
