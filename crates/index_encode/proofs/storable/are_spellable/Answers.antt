use Rattle.std.proofs.lemmas.List.Elements.{All-map}
use Rattle.ext_small.specs.ResolveUndo.{path_stages}
use Rattle.ext_encode.specs.ResolveUndoImage.{IsSpellablePath}
use Rattle.ext_encode.proofs.WrittenPaths.{all_unmapped}
use Rattle.index_encode.proofs.storable.are_spellable.Goals as goal

pub returns : goal.returns
returns c =
    let P = IsSpellablePath c.args.kind in
    let paths = c.args.paths.now in
    let each = c.is_each_spellable.ensures in (
      λ h. All-map P path_stages paths (each.0 h),
      λ h. each.1 (all_unmapped P path_stages paths h),
    )
