-- What the error of a link implies for its extension.
use Rattle.std.proofs.Common.{◌≡◌, true, refl}
use Rattle.std.specs.Prelude.{codes}
use Rattle.index_parts.specs.declared.hash.Kind.{Kind}
use Rattle.index_extensions.specs.ExtensionValue.{has_signature}
use Rattle.index_extensions.specs.Walk.{Item}
use Rattle.index_model.specs.DecodeErrors.{link_error}
use Rattle.index_model.specs.ExtensionSteps.{ExtensionItemCause}
use Rattle.ext_split.specs.Link.{Corrupt, BitmapDecode, LinkCause}
use Rattle.index_model.specs.Outcome.{Link, broken_link}
use Rattle.ext_split.specs.declared.link.decode.Error.{Error}
use Rattle.ext_split.specs.declared.link.decode.Error.TheVariants as errors

-- the error of a link, as that of the extension with this name
pub says_item : (kind : Kind) (i : Item) (e : Error) → has_signature (codes "link") i ≡ true
    → LinkCause kind i.content e
    → ExtensionItemCause kind i (link_error e)
says_item kind i (errors.Corrupt text) named h =
    (Link (Corrupt text.now), refl, broken_link (Corrupt text.now) named h refl)
says_item kind i (errors.BitmapDecode error name) named h =
    (Link (BitmapDecode error name.now), refl, broken_link (BitmapDecode error name.now) named h refl)
says_item kind i errors.Memory named h = tt
