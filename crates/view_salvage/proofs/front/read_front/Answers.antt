use Rattle.std.proofs.Common.{◌≡◌, ◌+◌, ◌-◌, ℕ, List, [], ◌∷◌, ◌++◌, length, take, drop, None, refl, sym, ap, subst}
use Rattle.std.proofs.Common.{◌∙◌, length-append, length-take, Option, arith}
use Rattle.gix_index.specs.Entries.{last_path}
use Rattle.gix_index.specs.Header.{header_len}
use Rattle.gix_index.specs.Held.{Held}
use Rattle.gix_index.proofs.Readers.{behind_lent, lent_entry, lent_len}
use Rattle.gix_index.specs.Lent.{borrowed_record}
use Rattle.gix_index.specs.Reader.{IsBehind, LeftToRead}
use Rattle.gix_index.specs.Record.{Record}
use Rattle.view_salvage.proofs.Spelled.{spelling_of}
use Rattle.view_salvage.proofs.SpelledFronts.{entries_push, front_grown, front_len, spelled_push}
use Rattle.view_salvage.specs.FrontSteps.{own_len}
use Rattle.view_layout.specs.Piece.{laid, one_piece}
use Rattle.view_salvage.specs.Spelling.{Spelling, IsSpelled}
use Rattle.view_layout.specs.declared.part.Part.{Part}
use Rattle.view_layout.specs.declared.part.What.TheVariants as whats
use Rattle.view_salvage.proofs.front.read_front.Goals as goal

pub loop-number-init : goal.loop-number-init
loop-number-init c =
    let head = take header_len c.args.bytes.now in
    let made = c.in_ok-push_part.ensures head (omega (arith, length-take header_len c.args.bytes.now, c.requires)) in (
      [],
      sym c.split_at.ensures.back ∙ sym (ap (λ (x : LeftToRead). x.rest) c.new-reader.ensures),
      subst (λ (rs : List Record). IsBehind c.args.version c.args.kind (last_path None rs) c.new-reader.result)
          (sym (ap (λ (h : Held). h.records) c.new-entries.ensures))
          (subst (IsBehind c.args.version c.args.kind None) (sym c.new-reader.ensures)
          (record { version_is = refl; kind_is = refl; room_is = refl })),
      ap (λ (h : Held). h.records) c.new-entries.ensures,
      refl,
      made ∙ ap (λ (l : List Part). l ++ laid 0 (one_piece whats.Header head)) c.new-parts.ensures.items,
    )

pub overflow_sub-total : goal.overflow_sub-total
overflow_sub-total c =
    let last = last_path None c.loop-number.entries.records in
    let left = c.loop-number.reader in
    let after = c.next.new.self in
    let is = lent_entry c.args.version c.args.kind last left c.in-Some.lent after c.loop-number.invariant.2
    c.in-Some.ensures.lent in
    let sp = spelling_of c.args.version c.args.kind last left.rest _ after.rest is in
    omega (arith, sp.whole, ap length c.rest-rest.ensures, ap length c.rest.ensures)

pub overflow_sub-offset : goal.overflow_sub-offset
overflow_sub-offset c =
    omega (
      arith,
      front_len c.args.version c.args.kind c.args.bytes.now c.loop-number.invariant.0 c.loop-number.reader.rest
          c.requires c.loop-number.invariant.1,
      ap length c.rest-rest.ensures,
    )

pub loop-number-preserved : goal.loop-number-preserved
loop-number-preserved c =
    let inv = c.loop-number.invariant in
    let ss = inv.0 in
    let last = last_path None c.loop-number.entries.records in
    let lent = c.in-Some.lent in
    let r : Record = borrowed_record last lent in
    let left = c.loop-number.reader in
    let next = c.next.new.self in
    let rest = left.rest in
    let after = next.rest in
    let is = lent_entry c.args.version c.args.kind last left lent next inv.2 c.in-Some.ensures.lent in
    let sp = spelling_of c.args.version c.args.kind last rest r after is in
    let s : Spelling = record { entry = r; own = sp.own; padding = sp.padding } in
    let path : length r.path ≡ lent.shared + length lent.path.now =
    lent_len last left.room lent.shared lent.path.now inv.2.room_is c.in-Some.ensures.shared in
    let total : length rest - length after ≡ length c.rest-rest.result.now - length c.rest.result.now =
    rw (c.rest-rest.ensures, c.rest.ensures) refl in
    let own : length sp.own ≡ c.own_len-own.result = sp.own_is
    ∙ ap (λ (n : ℕ). own_len c.args.version c.args.kind r.flags n (length rest - length after)) path
    ∙ ap (own_len c.args.version c.args.kind r.flags (lent.shared + length lent.path.now)) total
    ∙ sym c.own_len-own.ensures.value in
    let len = front_len c.args.version c.args.kind c.args.bytes.now ss rest c.requires inv.1 in
    let pushed : c.push_after.new.self.records ≡ c.loop-number.entries.records ++ r ∷ [] =
    ap (λ (h : Held). h.records) c.in_ok-push_after.ensures.pushed in
    let grown = c.in_ok-push_entry.ensures sp.own sp.padding own (omega (arith, sp.whole, own, total)) in (
      ss ++ s ∷ [],
      spelled_push c.args.version c.args.kind None (drop header_len c.args.bytes.now) ss s rest after inv.1
          (subst (λ (p : Option (List ℕ)). IsSpelled c.args.version c.args.kind p rest s after)
          (ap (last_path None) inv.3) sp.is_spelled),
      subst (λ (rs : List Record). IsBehind c.args.version c.args.kind (last_path None rs) next) (sym pushed)
          (behind_lent c.args.version c.args.kind c.loop-number.entries.records left lent next inv.2
          c.in-Some.ensures.lent c.in-Some.ensures.shared),
      pushed ∙ ap (λ (l : List Record). l ++ r ∷ []) inv.3 ∙ sym (entries_push ss s),
      omega (arith, length-append ss (s ∷ []), inv.4),
      front_grown _ c.loop-number.number (one_piece whats.Header (take header_len c.args.bytes.now)) ss s _ _
          (sym inv.4) inv.5 (omega (arith, len, ap length c.rest-rest.ensures)) grown,
    )
