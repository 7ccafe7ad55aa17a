use Rattle.std.proofs.Common.{rules, ◌≡◌, true, map, sym}
use Rattle.ext_untracked.specs.Blocks.{directory_value}
use Rattle.ext_untracked.specs.CacheSteps.{ends_with_nul, lent_preamble}
use Rattle.ext_untracked.proofs.Caches.{preamble_read, agrees, no_count, nul_again, cache_from, start_from}
use Rattle.ext_untracked.proofs.Caches.{first_there}
use Rattle.index_extensions.proofs.Errors.{at_err}
use Rattle.ext_untracked.proofs.decode.Goals as goal

pub returns-in_default-clause-read : goal.returns-in_default-clause-read
returns-in_default-clause-read c = λ x p.
    let some = preamble_read c.args.object_hash c.args.alloc_limit_bytes c.args.data.now x p in
    cc (some, c.in_default.ensures)

pub returns-in_default-directory_count_of-clause-read : goal.returns-in_default-directory_count_of-clause-read
returns-in_default-directory_count_of-clause-read c =
    λ x p. no_count c.args.object_hash c.args.alloc_limit_bytes c.args.data.now x (lent_preamble c.in-Some.preamble)
    c.in-Some.rest.now (sym c.in-Some.ensures) (sym c.in_default-directory_count_of.ensures) p

pub returns-in_default-2-clause-read : goal.returns-in_default-2-clause-read
returns-in_default-2-clause-read c = λ x p.
    let a = agrees c.args.object_hash c.args.alloc_limit_bytes c.args.data.now x (lent_preamble c.in-Some.preamble)
    c.in-Some.rest.now c.in-Some-directory_count_of.count c.in-Some-directory_count_of.rest.now
    (sym c.in-Some.ensures) (sym c.in-Some-directory_count_of.ensures) p in
    let none = rw c.in_default-2.is at c.in_ok-directories.ensures.read in
    none x.directories a.are_directories

pub returns-clause-read : goal.returns-clause-read
returns-clause-read c =
    let last : ends_with_nul c.args.data.now ≡ true = search rules in
    let read = rw c.in-Some-2.is at c.in_ok-directories.ensures.read in
    rw (c.in_ok-from_slice.ensures, c.in_ok-from_slice-2.ensures)
    (cache_from c.args.object_hash c.args.alloc_limit_bytes c.args.data.now (lent_preamble c.in-Some.preamble)
    c.in-Some.rest.now c.in-Some-directory_count_of.count c.in-Some-directory_count_of.rest.now (map directory_value
    c.in-Some-2.directories.items) last (sym c.in-Some.ensures) (sym c.in-Some-directory_count_of.ensures) read)

pub returns-then-not-ends_with_nul-clause-read : goal.returns-then-not-ends_with_nul-clause-read
returns-then-not-ends_with_nul-clause-read c = λ x p.
    let last = nul_again c.args.data.now p.before p.last in
    cc (last, c.if-not-ends_with_nul.ensures)

pub returns-in_err-directories-clause-memory : goal.returns-in_err-directories-clause-memory
returns-in_err-directories-clause-memory c =
    let last : ends_with_nul c.args.data.now ≡ true = search rules in
    at_err c.from_residual.result
    (start_from c.args.object_hash c.args.alloc_limit_bytes c.args.data.now (lent_preamble c.in-Some.preamble)
    c.in-Some.rest.now c.in-Some-directory_count_of.count c.in-Some-directory_count_of.rest.now last
    (sym c.in-Some.ensures) (sym c.in-Some-directory_count_of.ensures) c.in_err-directories.ensures.memory)

pub returns-in_err-from_slice-clause-memory : goal.returns-in_err-from_slice-clause-memory
returns-in_err-from_slice-clause-memory c =
    let last : ends_with_nul c.args.data.now ≡ true = search rules in
    let read = rw c.in-Some-2.is at c.in_ok-directories.ensures.read in
    let first = first_there c.args.object_hash c.args.alloc_limit_bytes c.in-Some-directory_count_of.count
    c.in-Some-directory_count_of.rest.now (map directory_value c.in-Some-2.directories.items) read in
    at_err c.from_residual-in_err-from_slice.result
    (start_from c.args.object_hash c.args.alloc_limit_bytes c.args.data.now (lent_preamble c.in-Some.preamble)
    c.in-Some.rest.now c.in-Some-directory_count_of.count c.in-Some-directory_count_of.rest.now last
    (sym c.in-Some.ensures) (sym c.in-Some-directory_count_of.ensures) first)

pub returns-in_err-from_slice-2-clause-memory : goal.returns-in_err-from_slice-2-clause-memory
returns-in_err-from_slice-2-clause-memory c =
    let last : ends_with_nul c.args.data.now ≡ true = search rules in
    let read = rw c.in-Some-2.is at c.in_ok-directories.ensures.read in
    let first = first_there c.args.object_hash c.args.alloc_limit_bytes c.in-Some-directory_count_of.count
    c.in-Some-directory_count_of.rest.now (map directory_value c.in-Some-2.directories.items) read in
    at_err c.from_residual-in_err-from_slice-2.result
    (start_from c.args.object_hash c.args.alloc_limit_bytes c.args.data.now (lent_preamble c.in-Some.preamble)
    c.in-Some.rest.now c.in-Some-directory_count_of.count c.in-Some-directory_count_of.rest.now last
    (sym c.in-Some.ensures) (sym c.in-Some-directory_count_of.ensures) first)
