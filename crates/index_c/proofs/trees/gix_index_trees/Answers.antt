use Rattle.std.proofs.Common.{◌≡◌, true, rules}
use Rattle.gix_index.specs.Kind.{Kind}
use Rattle.index_c.specs.Giving.{AreCountsReported, IsErrorReported, empty_report}
use Rattle.capi_table.specs.Fitting.{IsFitTable}
use Rattle.capi_table.specs.Blaming.{HasNoTrees}
use Rattle.capi_table.specs.Trees.{HoldTrees, MakesTrees, PassRoom}
use Rattle.capi_table.specs.declared.trees.Counts.{Counts}
use Rattle.index_c.proofs.Tellings.{with_kind}
use Rattle.index_c.proofs.Giving.{done_told, error_reported, kept_told, memory_told, passed_told}
use Rattle.index_c.proofs.trees.gix_index_trees.Goals as goal

pub returns : goal.returns
returns c =
    record {
      says = record {
        at_most = search rules;
        done = λ is. let P : Kind → Counts → Type 0 = λ k counts. MakesTrees k c.args.paths.now c.args.rows.now
            (HoldTrees counts c.args.trees.now c.write_trees-written.new.trees c.args.bytes.now
            c.write_trees-written.new.bytes) in
            with_kind c.args.kind (λ (k : Kind). AreCountsReported c.tell.new.told (P k)) c.in-Some.kind
            c.in-Some.ensures
            (done_told c.tell.result c.tell.new.told c.write_trees-written.result (P c.in-Some.kind)
            c.write_trees-written.ensures.made.done c.tell.ensures.told is);
        refused = λ is. with_kind c.args.kind
            (λ (k : Kind). IsErrorReported c.tell.new.told (HasNoTrees k c.args.paths.now c.args.rows.now))
            c.in-Some.kind
            c.in-Some.ensures
            (error_reported c.tell.result c.tell.new.told c.write_trees-written.result
            (HasNoTrees c.in-Some.kind c.args.paths.now c.args.rows.now) c.write_trees-written.ensures.made.refused
            c.tell.ensures.told is);
        memory = λ is. with_kind c.args.kind
            (λ (k : Kind). IsFitTable k true c.args.paths.now c.args.rows.now × (c.tell.new.told ≡ empty_report))
            c.in-Some.kind c.in-Some.ensures
            (memory_told c.tell.result c.tell.new.told c.write_trees-written.result
            (IsFitTable c.in-Some.kind true c.args.paths.now c.args.rows.now) c.write_trees-written.ensures.memory
            c.tell.ensures.told is);
        no_room = λ is. let P : Kind → Counts → Type 0 = λ k counts. MakesTrees k c.args.paths.now c.args.rows.now
            (PassRoom counts c.args.trees.now c.args.bytes.now) in
            with_kind c.args.kind (λ (k : Kind). AreCountsReported c.tell.new.told (P k)) c.in-Some.kind
            c.in-Some.ensures
            (passed_told c.tell.result c.tell.new.told c.write_trees-written.result (P c.in-Some.kind)
            c.write_trees-written.ensures.made.no_room c.tell.ensures.told is);
        wrong_number = search rules;
      };
      untold = search rules;
      trees = λ isnt. kept_told c.tell.result c.tell.new.told c.write_trees-written.result
          (c.write_trees-written.new.trees ≡ c.args.trees.now) c.write_trees-written.ensures.made.trees
          c.tell.ensures.told isnt;
      bytes = λ isnt. kept_told c.tell.result c.tell.new.told c.write_trees-written.result
          (c.write_trees-written.new.bytes ≡ c.args.bytes.now) c.write_trees-written.ensures.made.bytes
          c.tell.ensures.told isnt;
    }
