-- Which `config` counts in a git folder.
use Rattle.std.proofs.Common.{◌≡◌, ℕ, List, subst, sym}
use Rattle.std.specs.Prelude.{Err, IfOk, Ok, Result}
use Rattle.std.specs.Global.{Global}
use Rattle.std.specs.Path.{path_buf_bytes}
use Rattle.std.specs.declared.path.buf.PathBuf.{PathBuf}
use Rattle.gix_index.specs.Disk.{MayHave}
use Rattle.gix_index.specs.Disk.World.{MayBeMissing, World}
use Rattle.tool_defaults.specs.KindCalls.{LeadsToConfig}
use Rattle.tool_defaults.specs.Repository.{IsConfigOf, common_beside, config_beside, in_common, its_own}
use Rattle.tool_defaults.specs.declared.error.Error.{Error}

-- the `config` in the directory that the text of `commondir` names
pub counts_common : (world : World) (path at read text : List ℕ) (r : Result (PathBuf Global) Error)
    → at ≡ common_beside path → MayHave (world at) read → text ≡ read → IfOk r (LeadsToConfig path text)
    → IfOk r (λ config. IsConfigOf world path (path_buf_bytes config))
counts_common world path at read text (Ok config) is held same leads =
    in_common text leads.0 (path_buf_bytes config)
    (subst (λ (p : List ℕ). MayHave (world p) text) is (subst (λ (t : List ℕ). MayHave (world at) t) (sym same) held))
    leads.1 leads.2
counts_common world path at read text (Err e) is held same leads = tt

-- the `config` next to the file
pub counts_own : (world : World) (path at config : List ℕ) → at ≡ common_beside path → MayBeMissing (world at)
    → config ≡ config_beside path → IsConfigOf world path config
counts_own world path at config is missing same =
    its_own config (subst (λ (p : List ℕ). MayBeMissing (world p)) is missing) same
