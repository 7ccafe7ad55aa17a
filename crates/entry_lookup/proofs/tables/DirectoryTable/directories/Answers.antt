use Rattle.std.proofs.Common.{◌≡◌, List, ℕ, length, map, sym, subst, ◌∙◌}
use Rattle.std.proofs.lemmas.List.{length-map}
use Rattle.entry_list.specs.Record.{Record}
use Rattle.entry_lookup.specs.SpanSteps.{span_names}
use Rattle.entry_lookup.specs.Tables.{IsDirs}
use Rattle.entry_lookup.specs.WalkSteps.{SpanValue, span_value}
use Rattle.entry_lookup.proofs.SpanTable.{dirs_named}
use Rattle.entry_lookup.proofs.tables.DirectoryTable.directories.Goals as goal

pub returns : goal.returns
returns c =
    let v = c.self.inside.spans in
    let f : SpanValue → List ℕ = λ s. s.name in
    let Q : List Record → Type 0 = λ rs. (names : List (List ℕ)) × IsDirs rs names × (c.len.result ≡ length names) in
    subst Q c.self.view_is
    (dirs_named (λ n. c.len.result ≡ n) c.self.inside.entries (span_names v.items) c.self.invariant.dirs
    (c.len.ensures ∙ v.ok.0 ∙ sym (length-map (map span_value v.items) f ∙ length-map v.items span_value)))
