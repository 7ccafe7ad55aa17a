use Rattle.std.proofs.Common.{rules, ◌≡◌, ◌-◌, length, true, ap, ◌∙◌}
use Rattle.file_place.specs.World.{from_place}
use Rattle.index_parts.specs.Id.{id_len, is_null}
use Rattle.file_windows.specs.Intact.{ends_in_null}
use Rattle.file_windows.proofs.Refused.{ends_null, null_ending}
use Rattle.file_windows.proofs.disk.has_null_trailer.Goals as goal
use Rattle.file_windows.proofs.disk.has_null_trailer.Goals.{then-len, else-len}

pub returns-clause-null : goal.returns-clause-null
returns-clause-null g c = λ is. elim c.if-len.branch [
  | then-len w ↦
      let room = c.fill.new.bytes.items in
      let ending : ends_in_null c.args.kind room ≡ true = search (rules, is) in
      let long : length room ≡ id_len c.args.kind = search rules in
      let null : is_null room ≡ true = null_ending c.args.kind room long ending in
      let at : c.saturating_sub.result ≡ c.in_ok-status.status.len - id_len c.args.kind = search rules in
      ends_null c.args.kind (g.S.Source.stored c.args.file.now) c.in_ok-status.status c.saturating_sub.result
      (g.S.Source.remaining c.go_to.new.self) (g.S.Source.remaining c.fill.new.file) room c.in_ok-status.ensures.told at
      (c.in_ok-go_to.ensures.remaining ∙ ap (from_place c.saturating_sub.result) c.go_to.ensures.stored)
      (rw c.requires.room at c.in_ok-fill.ensures.consumes) long null
  | else-len w ↦ search (rules, is)
]
