use Rattle.std.proofs.Common.{◌≡◌, inl, refl, rules}
use Rattle.std.proofs.lemmas.Result.{IfErr-weaker, IfOk-weaker}
use Rattle.gix_index.specs.Contents.{Contents}
use Rattle.gix_index.specs.Link.{link_of}
use Rattle.gix_index.specs.State.{contents}
use Rattle.gix_index.specs.StateType.{State}
use Rattle.capi_table.specs.Joining.{AreReadSo, FailBoth, FailsJoined, IsJoinedBy}
use Rattle.capi_table.proofs.Joins.{failed, joined, own, same_kind}
use Rattle.capi_table.proofs.Refusals.{of_kind}
use Rattle.capi_table.proofs.split.both_of.Goals as goal

pub returns-in-Err : goal.returns-in-Err
returns-in-Err c =
    record {
      read = search rules;
      placed = search rules;
      storable = search rules;
      failed = inl (record { whose = refl; says = c.in-Err.ensures.failed });
    }

pub returns-in_default : goal.returns-in_default
returns-in_default c =
    record {
      read = let t = c.take_followed_link.ensures in
          own c.args.skip_hash c.args.kind c.args.bytes.now c.args.shared.now (contents c.in-Ok.state)
          (contents c.take_followed_link.new.state) c.in-Ok.ensures.read.0 c.in-Ok.ensures.read.1 t.removed
          (λ (v : Contents). v ≡ contents c.take_followed_link.new.state) (rw c.in_default.is at t.given) refl;
      placed = search rules;
      storable = search rules;
      failed = search rules;
    }

pub join-requires-clause-kind : goal.join-requires-clause-kind
join-requires-clause-kind c =
    same_kind (contents c.in-Ok.state) (contents c.take_followed_link.new.state) c.args.kind c.take_followed_link.ensures.removed
    (of_kind _ c.args.skip_hash c.args.kind c.args.bytes.now (contents c.in-Ok.state) c.in-Ok.ensures.read.0
    c.in-Ok.ensures.read.1)

pub returns : goal.returns
returns c =
    record {
      read = let t = c.take_followed_link.ensures in
          IfOk-weaker c.join.result
          (λ (s : State). IsJoinedBy c.args.skip_hash c.args.kind (link_of c.in-Some.link) c.args.shared.now
          (λ (v : Contents). v ≡ contents s) (contents c.take_followed_link.new.state))
          (λ (s : State). AreReadSo c.args.skip_hash c.args.kind c.args.bytes.now c.args.shared.now
          (λ (v : Contents). v ≡ contents s))
          (λ s h. joined c.args.skip_hash c.args.kind c.args.bytes.now c.args.shared.now (contents c.in-Ok.state)
          (contents c.take_followed_link.new.state) c.in-Ok.ensures.read.0 c.in-Ok.ensures.read.1 t.removed
          (λ (v : Contents). v ≡ contents s) (link_of c.in-Some.link)
          (rw c.in-Some.is at t.given) h) c.join.ensures.read;
      placed = search rules;
      storable = search rules;
      failed = let t = c.take_followed_link.ensures in
          IfErr-weaker c.join.result
          (FailsJoined c.args.skip_hash c.args.kind (link_of c.in-Some.link) c.args.shared.now
          (contents c.take_followed_link.new.state))
          (FailBoth c.args.skip_hash c.args.kind c.args.bytes.now c.args.shared.now)
          (λ failure h. failed c.args.skip_hash c.args.kind c.args.bytes.now c.args.shared.now (contents
          c.in-Ok.state)
          (contents c.take_followed_link.new.state) c.in-Ok.ensures.read.0 c.in-Ok.ensures.read.1 t.removed
          failure (link_of c.in-Some.link)
          (rw c.in-Some.is at t.given) h) c.join.ensures.failed;
    }
