use Rattle.std.proofs.Common.{◌≡◌, arith, rules}
use Rattle.gix_index.specs.Contents.{Contents}
use Rattle.gix_index.specs.Kind.{Kind}
use Rattle.index_c.specs.Summaries.{IsRefusedIndex, IsUnread}
use Rattle.index_c.specs.Summaries.{IsSummaryWith}
use Rattle.capi_table.specs.Reading.{FailsOwn, IsReadSo}
use Rattle.capi_table.specs.Reading.{Fills, IsTooSmall}
use Rattle.capi_table.proofs.Joins.{read_weaker}
use Rattle.index_c.proofs.Refusals.{refused_from, unread_from}
use Rattle.index_c.proofs.Tellings.{done_told, failure_told, kept_told, no_room_told, with_kind}
use Rattle.index_c.proofs.read.gix_index_read.Goals as goal

pub returns : goal.returns
returns c =
    record {
      says = record {
        at_most = search rules;
        done = λ is. let F : Contents → Type 0 = λ v. Fills v c.args.rows.now c.read_table-read.new.rows
            c.args.paths.now
            c.read_table-read.new.paths in
            with_kind c.args.kind (λ (k : Kind). IsReadSo c.args.skip_hash k c.args.bytes.now
            (IsSummaryWith c.tell.new.summary
            F)) c.in-Some.kind c.in-Some.ensures
            (done_told (IsReadSo c.args.skip_hash c.in-Some.kind c.args.bytes.now) (read_weaker c.args.skip_hash
            c.in-Some.kind c.args.bytes.now)
            c.read_table-read.result F c.tell.result c.tell.new.summary c.read_table-read.ensures.done
            c.tell.ensures.told is);
        refused = λ is. let f = failure_told c.read_table-read.result (FailsOwn c.args.skip_hash c.in-Some.kind
            c.args.bytes.now)
            c.tell.result c.tell.new.summary c.read_table-read.ensures.failed c.tell.ensures.told (λ e. omega
            (arith, is, e))
            (λ e. omega (arith, is, e)) in
            with_kind c.args.kind (λ (k : Kind). IsRefusedIndex c.args.skip_hash k c.args.bytes.now
            c.tell.new.summary)
            c.in-Some.kind c.in-Some.ensures
            (refused_from c.args.skip_hash c.in-Some.kind c.args.bytes.now f.0 c.tell.result c.tell.new.summary f.2
            f.1 is);
        memory = λ is. let f = failure_told c.read_table-read.result (FailsOwn c.args.skip_hash c.in-Some.kind
            c.args.bytes.now)
            c.tell.result c.tell.new.summary c.read_table-read.ensures.failed c.tell.ensures.told (λ e. omega
            (arith, is, e))
            (λ e. omega (arith, is, e)) in
            with_kind c.args.kind (λ (k : Kind). IsUnread c.args.skip_hash k c.args.bytes.now c.tell.new.summary)
            c.in-Some.kind c.in-Some.ensures
            (unread_from c.args.skip_hash c.in-Some.kind c.args.bytes.now f.0 c.tell.result c.tell.new.summary f.2
            f.1 is);
        no_room = λ is. let F : Contents → Type 0 = λ v. IsTooSmall v c.args.rows.now c.args.paths.now in
            with_kind c.args.kind (λ (k : Kind). IsReadSo c.args.skip_hash k c.args.bytes.now
            (IsSummaryWith c.tell.new.summary
            F)) c.in-Some.kind c.in-Some.ensures
            (no_room_told (IsReadSo c.args.skip_hash c.in-Some.kind c.args.bytes.now) (read_weaker c.args.skip_hash
            c.in-Some.kind c.args.bytes.now)
            c.read_table-read.result F c.tell.result c.tell.new.summary c.read_table-read.ensures.no_room
            c.tell.ensures.told
            is);
        wrong_number = search rules;
      };
      untold = search rules;
      rows = λ isnt. kept_told c.read_table-read.result (c.read_table-read.new.rows ≡ c.args.rows.now) c.tell.result
          c.tell.new.summary
          c.read_table-read.ensures.rows c.tell.ensures.told isnt;
      paths = λ isnt. kept_told c.read_table-read.result (c.read_table-read.new.paths ≡ c.args.paths.now)
          c.tell.result
          c.tell.new.summary
          c.read_table-read.ensures.paths c.tell.ensures.told isnt;
      text = c.tell.ensures.text;
    }
