use Rattle.std.proofs.Common.{rules, ◌≡◌, ℕ, length, map, sym, subst, ◌∙◌}
use Rattle.std.proofs.lemmas.Bool.{eqb-true, eqb-false}
use Rattle.std.proofs.lemmas.List.{length-map}
use Rattle.ext_untracked.specs.Blocks.{directory_value}
use Rattle.ext_untracked.specs.CacheBitmaps.{AreBitmaps}
use Rattle.ext_untracked.specs.CacheSteps.{own_bitmaps}
use Rattle.ext_untracked.proofs.Tails.{list_ascends, marked_all, tail_from, pieces_of, few_stats, few_ids, one_left}
use Rattle.ext_untracked.proofs.bitmaps.read_bitmaps.Goals as goal

pub returns-in_default-clause-torn : goal.returns-in_default-clause-torn
returns-in_default-clause-torn c = λ no ds t.
    let none = rw c.in_default.is at c.in_ok-bitmaps.ensures.none in
    let len : c.len.result ≡ length c.args.directories.now.items = search rules in
    let count : length (map directory_value c.args.directories.now.items) ≡ c.len.result =
    length-map c.args.directories.now.items directory_value ∙ sym len in
    none t.bitmaps t.behind_bitmaps
    (subst (λ (n : ℕ). AreBitmaps n c.args.bytes.now t.bitmaps t.behind_bitmaps) count t.are_bitmaps)

pub returns-in_default-read_stats-clause-torn : goal.returns-in_default-read_stats-clause-torn
returns-in_default-read_stats-clause-torn c = λ no ds t.
    let bare = map directory_value c.args.directories.now.items in
    let m = own_bitmaps c.in-Some.bitmaps in
    let behind = c.in-Some.rest.now in
    let len : c.len.result ≡ length c.args.directories.now.items = search rules in
    let count : c.len.result ≡ length bare = len ∙ sym (length-map c.args.directories.now.items directory_value) in
    let found = rw c.in-Some.is at c.in_ok-bitmaps.ensures.found in
    let bitmaps : AreBitmaps (length bare) c.args.bytes.now m behind =
    subst (λ (n : ℕ). AreBitmaps n c.args.bytes.now m behind) count found in
    let few = rw c.deref-2.ensures.value at c.in_default-read_stats.ensures.none in
    few_stats c.args.kind bare c.args.bytes.now m behind
    (pieces_of c.args.kind bare c.args.bytes.now m behind ds bitmaps t) few

pub returns-in_default-read_excludes-clause-torn : goal.returns-in_default-read_excludes-clause-torn
returns-in_default-read_excludes-clause-torn c = λ no ds t.
    let bare = map directory_value c.args.directories.now.items in
    let m = own_bitmaps c.in-Some.bitmaps in
    let behind = c.in-Some.rest.now in
    let len : c.len.result ≡ length c.args.directories.now.items = search rules in
    let count : c.len.result ≡ length bare = len ∙ sym (length-map c.args.directories.now.items directory_value) in
    let found = rw c.in-Some.is at c.in_ok-bitmaps.ensures.found in
    let bitmaps : AreBitmaps (length bare) c.args.bytes.now m behind =
    subst (λ (n : ℕ). AreBitmaps n c.args.bytes.now m behind) count found in
    let stats = rw c.deref-2.ensures.value at c.in-Some-read_stats.ensures.found in
    let few = rw c.deref-3.ensures.value at c.in_default-read_excludes.ensures.none in
    few_ids c.args.kind bare c.args.bytes.now m behind stats.0 c.in-Some-read_stats.rest.now
    (pieces_of c.args.kind bare c.args.bytes.now m behind ds bitmaps t) stats.1 few

pub returns-clause-whole : goal.returns-clause-whole
returns-clause-whole c = λ one.
    let bare = map directory_value c.args.directories.now.items in
    let m = own_bitmaps c.in-Some.bitmaps in
    let behind = c.in-Some.rest.now in
    let len : c.len.result ≡ length c.args.directories.now.items = search rules in
    let count : c.len.result ≡ length bare = len ∙ sym (length-map c.args.directories.now.items directory_value) in
    let found = rw c.in-Some.is at c.in_ok-bitmaps.ensures.found in
    let bitmaps : AreBitmaps (length bare) c.args.bytes.now m behind =
    subst (λ (n : ℕ). AreBitmaps n c.args.bytes.now m behind) count found in
    let checks = rw c.deref.ensures.value at c.check_each.ensures.value in
    let stats = rw c.deref-2.ensures.value at c.in-Some-read_stats.ensures.found in
    let ids = rw c.deref-3.ensures.value at c.in-Some-read_excludes.ensures.found in
    let all = marked_all c.args.kind m stats.0 ids.0
    (list_ascends (length bare) c.args.bytes.now m.valid bitmaps.behind_valid bitmaps.is_valid)
    (list_ascends (length bare) bitmaps.behind_check_only m.hash_valid behind bitmaps.is_hash_valid) bare
    (map directory_value c.check_each.new.directories.items)
    (map directory_value c.read_stats.new.directories.items)
    (map directory_value c.read_excludes.new.directories.items) c.requires checks stats.2 ids.2 in
    tail_from c.args.kind bare c.args.bytes.now m behind stats.0 c.in-Some-read_stats.rest.now ids.0
    c.in-Some-read_excludes.rest.now _ bitmaps stats.1 ids.1
    (eqb-true (length c.in-Some-read_excludes.rest.now) 1 one) all

pub returns-clause-torn : goal.returns-clause-torn
returns-clause-torn c = λ no ds t.
    let bare = map directory_value c.args.directories.now.items in
    let m = own_bitmaps c.in-Some.bitmaps in
    let behind = c.in-Some.rest.now in
    let len : c.len.result ≡ length c.args.directories.now.items = search rules in
    let count : c.len.result ≡ length bare = len ∙ sym (length-map c.args.directories.now.items directory_value) in
    let found = rw c.in-Some.is at c.in_ok-bitmaps.ensures.found in
    let bitmaps : AreBitmaps (length bare) c.args.bytes.now m behind =
    subst (λ (n : ℕ). AreBitmaps n c.args.bytes.now m behind) count found in
    let stats = rw c.deref-2.ensures.value at c.in-Some-read_stats.ensures.found in
    let ids = rw c.deref-3.ensures.value at c.in-Some-read_excludes.ensures.found in
    eqb-false (length c.in-Some-read_excludes.rest.now) 1 no (one_left c.args.kind bare c.args.bytes.now m behind
    stats.0 c.in-Some-read_stats.rest.now ids.0 c.in-Some-read_excludes.rest.now
    (pieces_of c.args.kind bare c.args.bytes.now m behind ds bitmaps t) stats.1 ids.1)
