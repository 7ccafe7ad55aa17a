use Rattle.std.proofs.Common.{rules, sym}
use Rattle.index_parts.proofs.Readers.{number_takes}
use Rattle.ext_bitmap.proofs.ewah.reading.parts_of.Goals as goal

pub returns-then-rest-size-clause-fault : goal.returns-then-rest-size-clause-fault
returns-then-rest-size-clause-fault c =
    let bits = number_takes 4 c.args.bytes.now (c.in-Some.num_bits, c.in-Some.rest.now) (sym c.in-Some.ensures) in
    let len =
    number_takes 4 c.in-Some.rest.now (c.in-Some-u32.len, c.in-Some-u32.rest.now) (sym c.in-Some-u32.ensures) in
    search (rules, bits, len)

pub returns-in_default-u32-2-clause-fault : goal.returns-in_default-u32-2-clause-fault
returns-in_default-u32-2-clause-fault c =
    let bits = number_takes 4 c.args.bytes.now (c.in-Some.num_bits, c.in-Some.rest.now) (sym c.in-Some.ensures) in
    let len =
    number_takes 4 c.in-Some.rest.now (c.in-Some-u32.len, c.in-Some-u32.rest.now) (sym c.in-Some-u32.ensures) in
    search (rules, bits, len)

pub returns-clause-found : goal.returns-clause-found
returns-clause-found c =
    let bits = number_takes 4 c.args.bytes.now (c.in-Some.num_bits, c.in-Some.rest.now) (sym c.in-Some.ensures) in
    let len =
    number_takes 4 c.in-Some.rest.now (c.in-Some-u32.len, c.in-Some-u32.rest.now) (sym c.in-Some-u32.ensures) in
    let last = number_takes 4 c.split_at.result.1.now (c.in-Some-u32-2.field-0-0, c.in-Some-u32-2.rest.now)
    (sym c.in-Some-u32-2.ensures) in
    search (rules, bits, len, last)
