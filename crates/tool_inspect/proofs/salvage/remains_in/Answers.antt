use Rattle.std.proofs.Common.{refl, rules}
use Rattle.gix_index.specs.DecodeError.TheVariants.{Header}
use Rattle.gix_index.specs.FileFaults.ReadError.TheVariants.{Decode}
use Rattle.tool_inspect.proofs.salvage.remains_in.Goals as goal

pub returns-in-Err-Header : goal.returns-in-Err-Header
returns-in-Err-Header c = record {
  remains = tt;
  kind = tt;
  plain = tt;
  fault = λ works world held. record {
    file = c.args.path;
    names = refl;
    fault = Decode (Header c.in-Err-Header.e);
    is = refl;
    says = (c.args.bytes.now, held, search rules);
  };
}
