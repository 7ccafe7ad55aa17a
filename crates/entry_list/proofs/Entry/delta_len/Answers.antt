use Rattle.std.proofs.Common.{◌≡◌, ◌-◌, length, ap, ◌∙◌, arith}
use Rattle.index_parts.specs.Offset.{offset_bytes}
use Rattle.entry_list.specs.Record.{record_in}
use Rattle.entry_list.specs.Shared.{shared_len}
use Rattle.entry_list.proofs.Lengths.{length_delta, path_within}
use Rattle.entry_list.proofs.SharedFronts.{shared_within_second}
use Rattle.entry_list.proofs.Entry.delta_len.Goals as goal

pub overflow_sub-result : goal.overflow_sub-result
overflow_sub-result c =
    let r = record_in c.args.storage.now c.args.self.now in
    let path : c.path_in.result.now ≡ r.path = c.path_in.ensures in
    omega (arith, c.shared_len-shared.ensures.second, ap length path, path_within r, c.unpadded_len.ensures.len)

pub returns-clause-len : goal.returns-clause-len
returns-clause-len c =
    let r = record_in c.args.storage.now c.args.self.now in
    let previous = c.args.previous.now in
    let shared : c.shared_len-shared.result ≡ shared_len previous r.path =
    c.shared_len-shared.ensures.value ∙ ap (shared_len previous) c.path_in.ensures in
    let number : length c.split_at.result.1.now ≡ length (offset_bytes (length previous - shared_len previous r.path)) =
    ap length (c.split_at.ensures.back ∙ c.offset-start.ensures.bytes)
    ∙ ap (λ n. length (offset_bytes (length previous - n))) shared in
    omega (
      arith,
      shared,
      number,
      length_delta previous r,
      c.unpadded_len.ensures.len,
      path_within r,
      shared_within_second previous r.path,
    )
