use Rattle.std.proofs.Common.{◌≡◌, All, List, ℕ, take, refl, sym, subst, ◌∙◌, arith}
use Rattle.std.specs.Prelude.{◌≢◌}
use Rattle.std.proofs.lemmas.List.{take_all}
use Rattle.entry_list.specs.EntryImage.{LackNul}
use Rattle.entry_list.specs.Record.{records_in}
use Rattle.entry_list.specs.declared.Entry.{Entry}
use Rattle.entry_list.proofs.Written.{lack_at, lack_push}
use Rattle.entry_list.proofs.paths.paths_without_nul.Goals as goal

pub returns-then-not-lacks_nul : goal.returns-then-not-lacks_nul
returns-then-not-lacks_nul c = (
  λ t. absurd cc,
  λ all.
      let here = lack_at c.args.storage.now c.args.entries.now c.loop-entry.entry-index _ c.loop-entry-test.true
      (sym c.is_removed.ensures ∙ c.if-is_removed.false) all in
      let found = c.lacks_nul.ensures.1 (subst (λ (p : List ℕ). All (λ b. b ≢ 0) p) (sym c.path_in.ensures) here) in
      rw c.if-not-lacks_nul.true at found,
)

pub loop-entry-preserved : goal.loop-entry-preserved
loop-entry-preserved c =
    let lacks = c.lacks_nul.ensures.0 c.if-not-lacks_nul.false in
    lack_push c.args.storage.now c.args.entries.now c.loop-entry.entry-index _ c.loop-entry-test.true
    (sym c.is_removed.ensures ∙ c.if-is_removed.false) c.loop-entry.invariant
    (subst (λ (p : List ℕ). All (λ b. b ≢ 0) p) c.path_in.ensures lacks)

pub returns : goal.returns
returns c =
    let whole : take c.loop-entry.entry-index c.args.entries.now ≡ c.args.entries.now =
    take_all c.loop-entry.entry-index c.args.entries.now (omega (arith, c.loop-entry-test.false)) in (
      λ t. subst (λ (es : List Entry). LackNul (records_in c.args.storage.now es)) whole c.loop-entry.invariant,
      λ all. refl,
    )
