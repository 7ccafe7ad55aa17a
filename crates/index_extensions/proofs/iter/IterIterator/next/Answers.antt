use Rattle.std.proofs.Common.{◌≡◌, ◌+◌, ◌<◌, length, sym, refl, arith}
use Rattle.std.proofs.lemmas.Bool.{le-ltb}
use Rattle.index_extensions.specs.Walk.{Item, unread}
use Rattle.index_extensions.proofs.Items.{item_takes, item_len, no_item}
use Rattle.index_extensions.proofs.iter.IterIterator.next.Goals as goal

pub returns-in_default-clause-steps : goal.returns-in_default-clause-steps
returns-in_default-clause-steps c = record {
  ended = no_item (unread c.args.self.now) (sym c.in_default.ensures);
  leaves = rw (le-ltb _ _ c.if-self-lt-MIN_SIZE.false) (refl, refl);
}

pub signature_of-requires : goal.signature_of-requires
signature_of-requires c =
    (item_takes (unread c.args.self.now) (
      record {
        signature = c.in-Some.signature.now;
        size = c.in-Some.field-0-1.now;
        content = c.in-Some.content.now;
      },
      c.in-Some.rest.now,
    ) (sym c.in-Some.ensures)).signature_len

pub returns-clause-steps : goal.returns-clause-steps
returns-clause-steps c = rw c.signature_of.ensures (record {
  size = c.in-Some.field-0-1.now;
  is_item = item_takes (unread c.args.self.now) (
    record { signature = c.in-Some.signature.now; size = c.in-Some.field-0-1.now; content = c.in-Some.content.now },
    c.in-Some.rest.now,
  ) (sym c.in-Some.ensures);
  counted = omega arith;
})

pub returns-clause-goes : goal.returns-clause-goes
returns-clause-goes c =
    let i : Item = record {
      signature = c.in-Some.signature.now;
      size = c.in-Some.field-0-1.now;
      content = c.in-Some.content.now;
    } in
    let len : length (unread c.args.self.now) ≡ 8 + length i.content + length c.in-Some.rest.now =
    item_len (unread c.args.self.now) i c.in-Some.rest.now
    (item_takes (unread c.args.self.now) (i, c.in-Some.rest.now) (sym c.in-Some.ensures)) in
    let lt : length c.in-Some.rest.now < length (unread c.args.self.now) = omega arith in
    record { on = λ _. (tt, tt, lt); keeps = tt; rests = λ _. tt }
