use Rattle.std.proofs.Common.{◌≡◌, arith, rules}
use Rattle.gix_index.specs.Contents.{Contents}
use Rattle.gix_index.specs.Kind.{Kind}
use Rattle.index_c.specs.Joined.{AreRefusedBoth, LackMemory}
use Rattle.index_c.specs.Summaries.{IsSummaryWith}
use Rattle.capi_table.specs.Joining.{AreReadSo, FailBoth}
use Rattle.capi_table.specs.Reading.{Fills, IsTooSmall}
use Rattle.capi_table.proofs.Joins.{both_weaker}
use Rattle.index_c.proofs.Refusals.{lack_both, refused_both}
use Rattle.index_c.proofs.Tellings.{done_told, failure_told, kept_told, no_room_told, with_kind}
use Rattle.index_c.proofs.read.gix_index_read_split.Goals as goal

pub returns : goal.returns
returns c =
    record {
      says = record {
        at_most = search rules;
        done = λ is. let F : Contents → Type 0 = λ v. Fills v c.args.rows.now c.read_split-read.new.rows
            c.args.paths.now
            c.read_split-read.new.paths in
            with_kind c.args.kind (λ (k : Kind). AreReadSo c.args.skip_hash k c.args.bytes.now c.args.shared.now
            (IsSummaryWith
            c.tell.new.summary F)) c.in-Some.kind c.in-Some.ensures
            (done_told (AreReadSo c.args.skip_hash c.in-Some.kind c.args.bytes.now c.args.shared.now) (both_weaker
            c.args.skip_hash c.in-Some.kind c.args.bytes.now c.args.shared.now)
            c.read_split-read.result F c.tell.result c.tell.new.summary c.read_split-read.ensures.done
            c.tell.ensures.told is);
        refused = λ is. let f = failure_told c.read_split-read.result (FailBoth c.args.skip_hash c.in-Some.kind
            c.args.bytes.now
            c.args.shared.now)
            c.tell.result c.tell.new.summary c.read_split-read.ensures.failed c.tell.ensures.told (λ e. omega
            (arith, is, e))
            (λ e. omega (arith, is, e)) in
            with_kind c.args.kind (λ (k : Kind). AreRefusedBoth c.args.skip_hash k c.args.bytes.now c.args.shared.now
            c.tell.new.summary) c.in-Some.kind c.in-Some.ensures
            (refused_both c.args.skip_hash c.in-Some.kind c.args.bytes.now f.0 c.tell.result c.tell.new.summary f.2
            c.args.shared.now f.1 is);
        memory = λ is. let f = failure_told c.read_split-read.result (FailBoth c.args.skip_hash c.in-Some.kind
            c.args.bytes.now
            c.args.shared.now)
            c.tell.result c.tell.new.summary c.read_split-read.ensures.failed c.tell.ensures.told (λ e. omega
            (arith, is, e))
            (λ e. omega (arith, is, e)) in
            with_kind c.args.kind (λ (k : Kind). LackMemory c.args.skip_hash k c.args.bytes.now c.args.shared.now
            c.tell.new.summary) c.in-Some.kind c.in-Some.ensures
            (lack_both c.args.skip_hash c.in-Some.kind c.args.bytes.now f.0 c.tell.result c.tell.new.summary f.2
            c.args.shared.now f.1 is);
        no_room = λ is. let F : Contents → Type 0 = λ v. IsTooSmall v c.args.rows.now c.args.paths.now in
            with_kind c.args.kind (λ (k : Kind). AreReadSo c.args.skip_hash k c.args.bytes.now c.args.shared.now
            (IsSummaryWith
            c.tell.new.summary F)) c.in-Some.kind c.in-Some.ensures
            (no_room_told (AreReadSo c.args.skip_hash c.in-Some.kind c.args.bytes.now c.args.shared.now) (both_weaker
            c.args.skip_hash c.in-Some.kind c.args.bytes.now c.args.shared.now)
            c.read_split-read.result F c.tell.result c.tell.new.summary c.read_split-read.ensures.no_room
            c.tell.ensures.told
            is);
        wrong_number = search rules;
      };
      untold = search rules;
      rows = λ isnt. kept_told c.read_split-read.result (c.read_split-read.new.rows ≡ c.args.rows.now) c.tell.result
          c.tell.new.summary
          c.read_split-read.ensures.rows c.tell.ensures.told isnt;
      paths = λ isnt. kept_told c.read_split-read.result (c.read_split-read.new.paths ≡ c.args.paths.now)
          c.tell.result
          c.tell.new.summary
          c.read_split-read.ensures.paths c.tell.ensures.told isnt;
      text = c.tell.ensures.text;
    }
