-- The requirements for extensions that are preserved, except the cache tree (gitformat-index, "Resolve undo",
-- "Untracked cache", "File System Monitor cache"). Extensions that were read from a file always meet them.
use Rattle.std.specs.Prelude.{◌≡◌, true, IfSome, None}
use Rattle.index_parts.specs.declared.hash.Kind.{Kind}
use Rattle.ext_encode.specs.MonitorImage.{IsSpellableMonitor}
use Rattle.ext_encode.specs.ResolveUndoImage.{AreSpellablePaths}
use Rattle.ext_encode.specs.SpellableCache.{IsSpellableCache, names_are_some}
use Rattle.index_model.specs.Outcome.{Outcome}

-- Each extension that is present can be encoded for ids of this hash algorithm. For an untracked cache this is required
-- only if no untracked name is empty.
pub record AreKeepable (kind : Kind) (o : Outcome) : Type 0 where
  pub resolve_undo : IfSome o.resolve_undo (AreSpellablePaths kind)
  pub untracked : IfSome o.untracked (λ c. names_are_some c ≡ true → IsSpellableCache kind None c)
  pub fs_monitor : IfSome o.fs_monitor IsSpellableMonitor
