use Rattle.std.proofs.Common.{rules, ◌≡◌, Bool, Some}
use Rattle.std.specs.Path.{path_bytes}
use Rattle.file_place.specs.World.{Moves}
use Rattle.file_place.proofs.Worlds.{durable_there, moved, stayed, stays_there, taken_out, told_apart, told_same, when_alone}
use Rattle.file_place.specs.Shelf.{kept_in, world_by}
use Rattle.file_place.proofs.shelf.ShelfFolder.put.Goals as goal

pub returns-then-ne-clause-moved : goal.returns-then-ne-clause-moved
returns-then-ne-clause-moved c = λ alone.
    let old = kept_in c.args.self.now.files in
    let new = kept_in c.remove.new.self in
    let made = c.args.made in
    let P : Bool → Type 0 = λ b. Moves (world_by b old) (world_by b new) (path_bytes c.args.from) (path_bytes c.args.to)
    (Some made.bytes.items) (λ time. made.time ≡ time) in
    rw c.in_ok-keep.ensures.alone (when_alone P c.args.self.now.is_alone
    (moved old (kept_in c.keep.new.self.files) new (path_bytes c.args.from) (path_bytes c.args.to) _
    c.in_ok-keep.ensures.here c.in_ok-keep.ensures.others
    (told_apart c.as_str.result.now c.as_str-2.result.now (path_bytes c.args.from) (path_bytes c.args.to)
    c.as_str.ensures c.as_str-2.ensures (search rules))
    (taken_out c.as_str-then-ne.result.now (path_bytes c.args.from) c.keep.new.self.files c.remove.new.self
    c.as_str-then-ne.ensures c.remove.ensures.updates)) alone)

pub returns-then-ne-clause-durable : goal.returns-then-ne-clause-durable
returns-then-ne-clause-durable c = λ synced.
    durable_there _ _
    (stays_there (kept_in c.args.self.now.files) (kept_in c.keep.new.self.files) (kept_in c.remove.new.self)
    (path_bytes c.args.from) (path_bytes c.args.to) _ c.in_ok-keep.ensures.here c.in_ok-keep.ensures.others
    (told_apart c.as_str.result.now c.as_str-2.result.now (path_bytes c.args.from) (path_bytes c.args.to)
    c.as_str.ensures c.as_str-2.ensures (search rules))
    (taken_out c.as_str-then-ne.result.now (path_bytes c.args.from) c.keep.new.self.files c.remove.new.self
    c.as_str-then-ne.ensures c.remove.ensures.updates)) synced

pub returns-else-ne-clause-moved : goal.returns-else-ne-clause-moved
returns-else-ne-clause-moved c = λ alone.
    let old = kept_in c.args.self.now.files in
    let new = kept_in c.keep.new.self.files in
    let made = c.args.made in
    let P : Bool → Type 0 = λ b. Moves (world_by b old) (world_by b new) (path_bytes c.args.from) (path_bytes c.args.to)
    (Some made.bytes.items) (λ time. made.time ≡ time) in
    rw c.in_ok-keep.ensures.alone (when_alone P c.args.self.now.is_alone
    (stayed old new new (path_bytes c.args.from) (path_bytes c.args.to) _ c.in_ok-keep.ensures.here
    c.in_ok-keep.ensures.others
    (told_same c.as_str.result.now c.as_str-2.result.now (path_bytes c.args.from) (path_bytes c.args.to)
    c.as_str.ensures c.as_str-2.ensures (search rules))) alone)

pub returns-else-ne-clause-durable : goal.returns-else-ne-clause-durable
returns-else-ne-clause-durable c = λ synced. durable_there _ _ c.in_ok-keep.ensures.here synced
