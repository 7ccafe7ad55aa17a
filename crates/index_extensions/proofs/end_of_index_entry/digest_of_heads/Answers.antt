use Rattle.std.proofs.Common.{◌≡◌, [], ◌∷◌, ◌++◌, length, sym, ap, ◌∙◌, arith, append_assoc}
use Rattle.std.proofs.lemmas.Bool.{eqb-true, eqb-false}
use Rattle.index_parts.specs.Digest.{digest}
use Rattle.index_parts.specs.Id.{id_bytes, make_id}
use Rattle.index_parts.specs.declared.hash.Kind.{Kind}
use Rattle.index_parts.specs.declared.hash.Kind.TheVariants.{Sha1}
use Rattle.index_extensions.specs.EndMarker.{heads}
use Rattle.index_extensions.specs.Walk.{Item}
use Rattle.index_extensions.proofs.EndMarks.{heads_push, some_items}
use Rattle.index_extensions.proofs.Items.{item_takes, item_len, no_item}
use Rattle.index_extensions.proofs.Walks.{items_push, walk_one, no_empty}
use Rattle.index_extensions.proofs.end_of_index_entry.digest_of_heads.Goals as goal
use Rattle.index_extensions.proofs.end_of_index_entry.digest_of_heads.Goals.{then-is_empty-via-then-is_empty}
use Rattle.index_extensions.proofs.end_of_index_entry.digest_of_heads.Goals.{then-is_empty-via-else-is_empty+then-not-is_empty}

pub loop-signature-smaller : goal.loop-signature-smaller
loop-signature-smaller c =
    let i : Item =
    record { signature = c.in-Some.signature.now; size = c.in-Some.size.now; content = c.in-Some.field-0-2.now } in
    omega (
      arith,
      item_len c.loop-signature.rest.now i c.in-Some.after.now
          (item_takes c.loop-signature.rest.now (i, c.in-Some.after.now) (sym c.in-Some.ensures)),
    )

pub loop-signature-preserved : goal.loop-signature-preserved
loop-signature-preserved c =
    let i : Item =
    record { signature = c.in-Some.signature.now; size = c.in-Some.size.now; content = c.in-Some.field-0-2.now } in
    let inv = c.loop-signature.invariant in
    let grown = c.update-in-Some.ensures.more _ (c.update.ensures.more _ inv.1.hashed) in
    let same : (heads inv.0 ++ i.signature) ++ i.size ≡ heads (inv.0 ++ i ∷ []) =
    append_assoc (heads inv.0) i.signature i.size ∙ sym (heads_push inv.0 i) in (
      inv.0 ++ i ∷ [],
      record {
        items_are = items_push c.args.bytes.now inv.0 i c.loop-signature.rest.now c.in-Some.after.now inv.1.items_are
            (item_takes c.loop-signature.rest.now (i, c.in-Some.after.now) (sym c.in-Some.ensures));
        hashed = rw same at grown;
        kind = c.update-in-Some.ensures.kind ∙ c.update.ensures.kind ∙ inv.1.kind;
      },
    )

pub returns-then-is_empty-clause-none : goal.returns-then-is_empty-clause-none
returns-then-is_empty-clause-none c = λ first others h.
    let inv = c.loop-signature.invariant in
    elim c.then-is_empty.branch [
      | then-is_empty-via-then-is_empty w ↦
          let none : length c.args.bytes.now ≡ 0 = eqb-true _ _ (sym w.if-is_empty.ensures) in
          absurd (omega (arith, item_len c.args.bytes.now first h.0 h.1))
      | then-is_empty-via-else-is_empty+then-not-is_empty w ↦
          let ended = no_item c.loop-signature.rest.now (sym c.in_default.ensures) in
          let e = (walk_one c.args.bytes.now inv.0 (first ∷ others) c.loop-signature.rest.now []
          (record { items_are = inv.1.items_are; ended = ended }) (record { items_are = h; ended = no_empty })).1 in
          eqb-false _ _ (sym w.if-not-is_empty.ensures) (ap length e)
    ]

pub returns-clause-some : goal.returns-clause-some
returns-clause-some c =
    let inv = c.loop-signature.invariant in
    let hash : id_bytes c.finalize.result ≡ digest Sha1 (heads inv.0) =
    ap id_bytes (c.finalize.ensures (heads inv.0) inv.1.hashed)
    ∙ ap (λ (k : Kind). id_bytes (make_id k (digest k (heads inv.0)))) inv.1.kind in
    some_items inv.0 c.args.bytes.now c.loop-signature.rest.now (id_bytes c.finalize.result)
    (eqb-false _ _ (sym c.if-is_empty.ensures)) (eqb-true _ _ (sym c.if-not-is_empty.ensures)) inv.1.items_are hash
