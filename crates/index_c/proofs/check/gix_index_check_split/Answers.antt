use Rattle.std.proofs.Common.{◌⊎◌, rules}
use Rattle.gix_index.specs.Kind.{Kind}
use Rattle.index_c.specs.Checking.{AreSoundBoth, AreUnsoundBoth}
use Rattle.index_c.specs.Joined.{AreRefusedBoth, LackMemory}
use Rattle.capi_table.specs.Joining.{AreReadSo}
use Rattle.capi_table.proofs.Joins.{both_weaker}
use Rattle.index_c.proofs.Checks.{both_lack, both_refused}
use Rattle.index_c.proofs.Tellings.{sound_told, with_kind}
use Rattle.index_c.proofs.check.gix_index_check_split.Goals as goal

pub returns : goal.returns
returns c =
    record {
      status_is = search rules;
      done = λ is. with_kind c.args.kind (λ (k : Kind). AreSoundBoth c.args.skip_hash k c.args.bytes.now
          c.args.shared.now
          c.tell.new.summary) c.in-Some.kind c.in-Some.ensures
          (sound_told (AreReadSo c.args.skip_hash c.in-Some.kind c.args.bytes.now c.args.shared.now) (both_weaker
          c.args.skip_hash c.in-Some.kind c.args.bytes.now c.args.shared.now)
          c.checked_both-found.result c.tell.result c.tell.new.summary c.checked_both-found.ensures.found
          c.tell.ensures.told is);
      refused = λ is. with_kind c.args.kind (λ (k : Kind). AreRefusedBoth c.args.skip_hash k c.args.bytes.now
          c.args.shared.now
          c.tell.new.summary ⊎ AreUnsoundBoth c.args.skip_hash k c.args.bytes.now c.args.shared.now
          c.tell.new.summary)
          c.in-Some.kind c.in-Some.ensures
          (both_refused c.args.skip_hash c.in-Some.kind c.args.bytes.now c.tell.result c.tell.new.summary
          c.args.shared.now
          c.checked_both-found.result c.checked_both-found.ensures.found c.checked_both-found.ensures.failed
          c.tell.ensures.told is);
      memory = λ is. with_kind c.args.kind (λ (k : Kind). LackMemory c.args.skip_hash k c.args.bytes.now
          c.args.shared.now
          c.tell.new.summary) c.in-Some.kind c.in-Some.ensures
          (both_lack c.args.skip_hash c.in-Some.kind c.args.bytes.now c.tell.result c.tell.new.summary
          c.args.shared.now
          c.checked_both-found.result c.checked_both-found.ensures.found c.checked_both-found.ensures.failed
          c.tell.ensures.told is);
      wrong_number = search rules;
      untold = search rules;
      text = search rules;
    }
