use Rattle.std.proofs.Common.{arith}
use Rattle.std.specs.Prelude.{codes}
use Rattle.index_parts.proofs.Puts.{puts_after, puts_is, puts_stopped}
use Rattle.ext_untracked.specs.Untracked.{cache_of}
use Rattle.ext_encode.specs.UntrackedImage.{cache_bytes}
use Rattle.ext_bitmap.proofs.Lengths.{item_parts}
use Rattle.ext_encode.proofs.WrittenDirectories.{many_bytes}
use Rattle.ext_encode.proofs.untracked_cache.put_item.Goals as goal

pub returns-in_err-put_head : goal.returns-in_err-put_head
returns-in_err-put_head g c =
    let content = cache_bytes c.args.kind (cache_of c.args.cache.now) in
    record {
      written = puts_stopped c.from_residual.result content c.from_residual.ensures.0
          (item_parts (codes "UNTR") content c.args.len c.requires.len) c.in_err-put_head.ensures;
    }

pub put_content-requires : goal.put_content-requires
put_content-requires g c = record {
  few = omega (arith, many_bytes c.args.kind (cache_of c.args.cache.now), c.requires.len, c.ranges.len.fits);
}

pub returns : goal.returns
returns g c =
    let content = cache_bytes c.args.kind (cache_of c.args.cache.now) in
    record {
      written = puts_is c.put_content.result (item_parts (codes "UNTR") content c.args.len c.requires.len)
          (puts_after c.put_content.result c.in_ok-put_head.ensures c.put_content.ensures);
    }
