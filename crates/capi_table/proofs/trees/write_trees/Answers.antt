use Rattle.std.proofs.Common.{◌≡◌, ℕ, List, Some, Err, refl, subst, sym, rules}
use Rattle.std.proofs.lemmas.Result.{IfOk-weaker}
use Rattle.gix_index.specs.Kind.{Kind}
use Rattle.gix_index.specs.Record.{Record}
use Rattle.gix_index.specs.Refusals.{AreRefused, Refusal, TreesFaultCause}
use Rattle.gix_index.specs.State.{contents}
use Rattle.gix_index.specs.TreeDirectory.{objects}
use Rattle.entry_info.specs.Names as names
use Rattle.capi_table.specs.Blaming.{HasNoTrees}
use Rattle.capi_table.specs.Collecting.{collected}
use Rattle.capi_table.specs.Trees.{HoldTrees, IfTreesRejected, MakesTrees, Objects, PassRoom}
use Rattle.capi_table.specs.declared.trees.Counts.{Counts}
use Rattle.capi_table.specs.declared.trees.Unmade.{Unmade}
use Rattle.capi_table.proofs.Blames.{refused_told}
use Rattle.capi_table.proofs.Makes.{makes, of_table, passed_weaker, taken, unrefused}
use Rattle.capi_table.proofs.trees.write_trees.Goals as goal

pub returns-in-Ok-write_trees-clause-made : goal.returns-in-Ok-write_trees-clause-made
returns-in-Ok-write_trees-clause-made c =
    record {
      done = let v = contents c.in-Ok.state in
          let w = c.in-Ok-write_trees.ensures in
          let os : Objects = objects v.kind w.written.0 in
          let all : collected c.write_trees.new.sink ≡ Some os =
          taken (collected c.new-collected.result) (collected c.write_trees.new.sink) os c.new-collected.ensures
          w.written.3 in
          let Holds : Counts → Objects → Type 0 = λ told. HoldTrees told c.args.trees.now c.put_into.new.trees
          c.args.bytes.now c.put_into.new.bytes in
          IfOk-weaker c.put_into.result (λ (told : Counts). (x : Objects) → collected c.write_trees.new.sink ≡ Some
          x → Holds told x)
          (λ (told : Counts). MakesTrees c.args.kind c.args.paths.now c.args.rows.now (Holds told))
          (λ told h. makes c.args.kind c.args.paths.now c.args.rows.now v c.in-Ok.ensures.spelled (Holds told)
          w.written.0
          (c.in_default.ensures.fit refl) w.fit w.few w.written.1 (h os all))
          c.put_into.ensures.done;
      refused = unrefused c.put_into.result (HasNoTrees c.args.kind c.args.paths.now c.args.rows.now)
          c.put_into.ensures.refused;
      no_room = let v = contents c.in-Ok.state in
          let w = c.in-Ok-write_trees.ensures in
          let os : Objects = objects v.kind w.written.0 in
          let all : collected c.write_trees.new.sink ≡ Some os =
          taken (collected c.new-collected.result) (collected c.write_trees.new.sink) os c.new-collected.ensures
          w.written.3 in
          let Holds : Counts → Objects → Type 0 = λ told. PassRoom told c.args.trees.now c.args.bytes.now in
          passed_weaker c.put_into.result (λ (told : Counts). (x : Objects) → collected c.write_trees.new.sink ≡
          Some x → Holds told x)
          (λ (told : Counts). MakesTrees c.args.kind c.args.paths.now c.args.rows.now (Holds told))
          (λ told h. makes c.args.kind c.args.paths.now c.args.rows.now v c.in-Ok.ensures.spelled (Holds told)
          w.written.0
          (c.in_default.ensures.fit refl) w.fit w.few w.written.1 (h os all))
          c.put_into.ensures.no_room;
      trees = search rules;
      bytes = search rules;
    }

pub returns-clause-made : goal.returns-clause-made
returns-clause-made c =
    record {
      done = search rules;
      refused = let S : ℕ → Type 0 = λ n. Some 0 ≡ Some n in
          let K : Type 0 = c.write_trees.new.sink ≡ c.new-collected.result in
          let F : Kind → List Record → Type 0 = λ k rs. TreesFaultCause c.in-Err.e S
          (λ (f : Refusal). AreRefused names.name_rejection k rs f × K) in
          subst (λ (u : Unmade). IfTreesRejected (Err u) (HasNoTrees c.args.kind c.args.paths.now c.args.rows.now))
          (sym c.reason_of.ensures)
          (refused_told c.args.paths.now c.args.rows.now c.args.kind (c.in_default.ensures.fit refl) S K c.in-Err.e
          (of_table c.args.kind c.args.paths.now c.args.rows.now (contents c.in-Ok.state) c.in-Ok.ensures.spelled F
          c.in-Err.ensures.fault));
      no_room = search rules;
      trees = search rules;
      bytes = search rules;
    }
