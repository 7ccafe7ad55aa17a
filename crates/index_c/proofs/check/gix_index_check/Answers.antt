use Rattle.std.proofs.Common.{◌⊎◌, rules}
use Rattle.gix_index.specs.Kind.{Kind}
use Rattle.index_c.specs.Checking.{IsSoundSummary, IsUnsoundIndex}
use Rattle.index_c.specs.Summaries.{IsRefusedIndex, IsUnread}
use Rattle.capi_table.specs.Reading.{IsReadSo}
use Rattle.capi_table.proofs.Joins.{read_weaker}
use Rattle.index_c.proofs.Checks.{check_refused, check_unread}
use Rattle.index_c.proofs.Tellings.{sound_told, with_kind}
use Rattle.index_c.proofs.check.gix_index_check.Goals as goal

pub returns : goal.returns
returns c =
    record {
      status_is = search rules;
      done = λ is. with_kind c.args.kind (λ (k : Kind). IsSoundSummary c.args.skip_hash k c.args.bytes.now
          c.tell.new.summary)
          c.in-Some.kind c.in-Some.ensures
          (sound_told (IsReadSo c.args.skip_hash c.in-Some.kind c.args.bytes.now) (read_weaker c.args.skip_hash
          c.in-Some.kind c.args.bytes.now)
          c.check_index-found.result c.tell.result c.tell.new.summary c.check_index-found.ensures.found
          c.tell.ensures.told
          is);
      refused = λ is. with_kind c.args.kind (λ (k : Kind). IsRefusedIndex c.args.skip_hash k c.args.bytes.now
          c.tell.new.summary ⊎
          IsUnsoundIndex c.args.skip_hash k c.args.bytes.now c.tell.new.summary) c.in-Some.kind c.in-Some.ensures
          (check_refused c.args.skip_hash c.in-Some.kind c.args.bytes.now c.tell.result c.tell.new.summary
          c.check_index-found.result c.check_index-found.ensures.found c.check_index-found.ensures.failed
          c.tell.ensures.told is);
      memory = λ is. with_kind c.args.kind (λ (k : Kind). IsUnread c.args.skip_hash k c.args.bytes.now
          c.tell.new.summary)
          c.in-Some.kind c.in-Some.ensures
          (check_unread c.args.skip_hash c.in-Some.kind c.args.bytes.now c.tell.result c.tell.new.summary
          c.check_index-found.result c.check_index-found.ensures.found c.check_index-found.ensures.failed
          c.tell.ensures.told is);
      wrong_number = search rules;
      untold = search rules;
      text = search rules;
    }
