use Rattle.std.proofs.Common.{List, Option, rules, subst, sym, ℕ, ◌≡◌}
use Rattle.std.specs.Io.KnownBytes.{Consumes}
use Rattle.file_place.specs.World.{whole_of}
use Rattle.file_windows.proofs.Counts.{faults_behind}
use Rattle.file_windows.proofs.disk.counted_of.Goals as goal

pub returns-in_err-len-clause-fault : goal.returns-in_err-len-clause-fault
returns-in_err-len-clause-fault g c =
    let now = g.S.Source.remaining c.fill.new.file in
    let head = c.fill.new.bytes.items in
    let consumed : Consumes (whole_of (g.S.Source.stored c.args.file)) now head =
    subst (λ (o : Option (List ℕ)). Consumes o now head) c.requires
    (rw c.in_ok-bytes.ensures.room at c.in_ok-fill.ensures.consumes) in
    λ works. faults_behind (whole_of (g.S.Source.stored c.args.file)) now head c.from_residual-in_err-len.result consumed
    (search (rules, works))

pub returns-in_err-read_whole-clause-fault : goal.returns-in_err-read_whole-clause-fault
returns-in_err-read_whole-clause-fault g c =
    let now = g.S.Source.remaining c.fill.new.file in
    let head = c.fill.new.bytes.items in
    let consumed : Consumes (whole_of (g.S.Source.stored c.args.file)) now head =
    subst (λ (o : Option (List ℕ)). Consumes o now head) c.requires
    (rw c.in_ok-bytes.ensures.room at c.in_ok-fill.ensures.consumes) in
    let same : c.reserve.new.self.items ≡ head = search rules in
    λ works. faults_behind (whole_of (g.S.Source.stored c.args.file)) now c.reserve.new.self.items
    c.from_residual-in_err-read_whole.result
    (subst (λ (l : List ℕ). Consumes (whole_of (g.S.Source.stored c.args.file)) now l) (sym same) consumed)
    (search (rules, works))
