use Rattle.std.proofs.Common.{◌≡◌, Bool, true, false, List, ℕ, length, sym, subst, ◌∙◌}
use Rattle.entry_list.specs.Record.{Record}
use Rattle.entry_lookup.specs.Folded.{IsNamed}
use Rattle.entry_lookup.proofs.Extents.{directories_named}
use Rattle.entry_lookup.proofs.folded.AccelerateLookup.directories.Goals as goal

pub returns-then-ignore_case : goal.returns-then-ignore_case
returns-then-ignore_case c =
    let v = c.self.inside.folded_directories in
    let P : Bool → List Record → Type 0 =
    λ b xs. (names : List (List ℕ)) × IsNamed b xs names × (c.len.result ≡ length names) in
    subst (λ (b : Bool). P b c.args.self.now) (sym c.if-ignore_case.true)
    (subst (P true) c.self.view_is (directories_named (λ n. c.len.result ≡ n) true c.self.inside.entries v.items
    c.self.invariant.folded_directories_is (c.len.ensures ∙ v.ok.0)))

pub returns-else-ignore_case : goal.returns-else-ignore_case
returns-else-ignore_case c =
    let v = c.self.inside.directories in
    let P : Bool → List Record → Type 0 =
    λ b xs. (names : List (List ℕ)) × IsNamed b xs names × (c.len-else-ignore_case.result ≡ length names) in
    subst (λ (b : Bool). P b c.args.self.now) (sym c.if-ignore_case.false)
    (subst (P false) c.self.view_is (directories_named (λ n. c.len-else-ignore_case.result ≡ n) false
    c.self.inside.entries v.items c.self.invariant.directories_is (c.len-else-ignore_case.ensures ∙ v.ok.0)))
