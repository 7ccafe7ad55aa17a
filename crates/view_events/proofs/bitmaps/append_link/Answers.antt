use Rattle.std.proofs.Common.{Some, [], ◌∷◌}
use Rattle.ext_bitmap.specs.Bitmap.{bitmap}
use Rattle.view_events.specs.declared.event.Datum.TheVariants.{Absent, Id}
use Rattle.view_events.specs.declared.event.Key.TheVariants as keys
use Rattle.view_events.specs.declared.event.Where.TheVariants.{Member}
use Rattle.view_events.specs.Event.{begin_object, datum_field, end_object}
use Rattle.view_events.specs.Bitmaps.{bitmap_events, link_events, pair_events}
use Rattle.view_events.proofs.Steps.{behind_last, end_all, end_is, then_all, then_one}
use Rattle.view_events.proofs.bitmaps.append_link.Goals as goal

pub returns-in_default-bitmaps : goal.returns-in_default-bitmaps
unfolding link_events pair_events
returns-in_default-bitmaps g c =
    let spell = g.P.Printer.spell in
    let r = c.put_all-in_default-bitmaps.result in
    let new = c.put_all-in_default-bitmaps.new.self.bytes.items in
    let at = Member keys.Link 0 5 in
    rw (c.in-Some.is, c.in_default-bitmaps.is) (then_all spell r new
    (begin_object at ∷ datum_field (Member keys.SharedIndexChecksum 1 0)
    (Id (Some c.in-Some.link.now.shared_index_checksum)) ∷ [])
    c.in_ok-put_all.ensures
    (end_all spell r new _ (datum_field (Member keys.Bitmaps 1 1) Absent ∷ end_object at ∷ [])
    c.put_all-in_default-bitmaps.ensures)).is

pub returns : goal.returns
unfolding link_events pair_events
returns g c =
    let spell = g.P.Printer.spell in
    let r = c.put_all-2.result in
    let new = c.put_all-2.new.self.bytes.items in
    let at = Member keys.Link 0 5 in
    let bitmaps = Member keys.Bitmaps 1 1 in
    let deleted = bitmap_events (Member keys.Delete 2 0) 3 (bitmap c.in-Some-bitmaps.pair.delete) in
    let replaced = bitmap_events (Member keys.Replace 2 1) 3 (bitmap c.in-Some-bitmaps.pair.replace) in
    rw (c.in-Some.is, c.in-Some-bitmaps.is) (then_all spell r new
    (begin_object at ∷ datum_field (Member keys.SharedIndexChecksum 1 0)
    (Id (Some c.in-Some.link.now.shared_index_checksum)) ∷ [])
    c.in_ok-put_all.ensures
    (then_one spell r new c.in_ok-put.ensures
    (end_is spell r new
    (then_all spell r new deleted c.in_ok-append_bitmap.ensures
    (then_all spell r new replaced c.in_ok-append_bitmap-2.ensures
    (end_all spell r new _ (end_object bitmaps ∷ end_object at ∷ []) c.put_all-2.ensures)))
    (behind_last deleted replaced (end_object bitmaps ∷ []) (end_object at ∷ []))))).is
