use Rattle.std.proofs.Common.{arith}
use Rattle.ext_bitmap.specs.Bitmap.{bitmap}
use Rattle.ext_untracked.proofs.BitmapPlaces.{bitmap_is}
use Rattle.ext_untracked.proofs.bitmaps.places_of.Goals as goal

pub returns-in_default-clause-none : goal.returns-in_default-clause-none
returns-in_default-clause-none c = λ places rest p.
    let none = rw c.in_default.is at c.in_ok-bitmap.ensures.none in
    none p.bitmap rest p.is_bitmap

pub returns-then-num_bits-count-clause-none : goal.returns-then-num_bits-count-clause-none
returns-then-num_bits-count-clause-none c = λ places rest p.
    let found = rw c.in-Some.is at c.in_ok-bitmap.ensures.found in
    let same =
    bitmap_is c.args.count c.args.bytes.now (bitmap c.in-Some.bitmap) c.in-Some.rest.now places rest found p in
    omega (arith, same.few, c.num_bits.ensures, c.if-num_bits-count.true)

pub returns-in_default-2-clause-none : goal.returns-in_default-2-clause-none
returns-in_default-2-clause-none c = λ places rest p.
    let found = rw c.in-Some.is at c.in_ok-bitmap.ensures.found in
    let same =
    bitmap_is c.args.count c.args.bytes.now (bitmap c.in-Some.bitmap) c.in-Some.rest.now places rest found p in
    let none = rw c.in_default-2.is at c.in_ok-places.ensures.none in
    none places same.listed same.below
