use Rattle.std.proofs.Common.{List, Option, ap, rules, subst, sym, ℕ, ◌≡◌, ◌∙◌}
use Rattle.std.specs.Io.KnownBytes.{Consumes}
use Rattle.file_place.specs.World.{whole_of}
use Rattle.file_windows.proofs.Counts.{faults_behind}
use Rattle.file_windows.proofs.Refused.{refused_file}
use Rattle.file_windows.proofs.disk.bytes_of.Goals as goal

pub returns-in-Some-clause-whole : goal.returns-in-Some-clause-whole
returns-in-Some-clause-whole g c =
    let stored = g.S.Source.stored c.args.file in
    let now = g.S.Source.remaining c.fill.new.file in
    let head = c.fill.new.bytes.items in
    let left = c.in_ok-is_hashed.ensures.left in
    let consumed : Consumes (whole_of stored) now head =
    subst (λ (o : Option (List ℕ)). Consumes o now head) (left.start ∙ ap whole_of left.stored)
    (rw c.in_ok-is_hashed.ensures.room at c.in_ok-fill.ensures.consumes) in
    refused_file stored now head c.args.skip_hash c.in_ok-is_hashed.is_hashed c.args.kind c.in-Some.fault
    c.in_ok-error.error consumed (rw c.deref.ensures.value at c.in-Some.ensures.fault)
    c.in_ok-is_hashed.ensures.wanted c.in_ok-is_hashed.ensures.unchecked c.in_ok-error.ensures.unread
    c.in_ok-error.ensures.read

pub returns-in_err-error-clause-fault : goal.returns-in_err-error-clause-fault
returns-in_err-error-clause-fault g c =
    let now = g.S.Source.remaining c.fill.new.file in
    let head = c.fill.new.bytes.items in
    let left = c.in_ok-is_hashed.ensures.left in
    let consumed : Consumes (whole_of (g.S.Source.stored c.args.file)) now head =
    subst (λ (o : Option (List ℕ)). Consumes o now head) (left.start ∙ ap whole_of left.stored)
    (rw c.in_ok-is_hashed.ensures.room at c.in_ok-fill.ensures.consumes) in
    λ works. faults_behind (whole_of (g.S.Source.stored c.args.file)) now head c.from_residual-in_err-error.result consumed
    (search (rules, works))

pub returns-in_err-digest-clause-fault : goal.returns-in_err-digest-clause-fault
returns-in_err-digest-clause-fault g c =
    let now = g.S.Source.remaining c.fill.new.file in
    let head = c.fill.new.bytes.items in
    let left = c.in_ok-is_hashed.ensures.left in
    let consumed : Consumes (whole_of (g.S.Source.stored c.args.file)) now head =
    subst (λ (o : Option (List ℕ)). Consumes o now head) (left.start ∙ ap whole_of left.stored)
    (rw c.in_ok-is_hashed.ensures.room at c.in_ok-fill.ensures.consumes) in
    let same : c.reserve.new.self.items ≡ head = search rules in
    λ works. faults_behind (whole_of (g.S.Source.stored c.args.file)) now c.reserve.new.self.items
    c.from_residual-in_err-digest.result
    (subst (λ (l : List ℕ). Consumes (whole_of (g.S.Source.stored c.args.file)) now l) (sym same) consumed)
    (search (rules, works))
