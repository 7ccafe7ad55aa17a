-- What is wrong with an extension, by what is wrong with the content of a link.
use Rattle.std.proofs.Common.{◌≡◌, true, List, ℕ, Option, Some, None, refl}
use Rattle.std.specs.Prelude.{MatchOption, codes, nat_eq}
use Rattle.std.specs.Cmp.Lexicographic.{pointwise}
use Rattle.gix_index.specs.ExtensionError.{Extension}
use Rattle.gix_index.specs.Kind.{Kind}
use Rattle.gix_index.specs.Outcome.{ExtensionFault, IsFault, Link, broken_link, is_understood, unknown}
use Rattle.gix_index.specs.Walk.{Item}
use Rattle.view_salvage.specs.ItemSteps.{IsSoundItem, IsSoundLink, ItemFaultCause, LinkFaultCause}

sound_by : (kind : Kind) (i : Item) (fault : ExtensionFault) → is_understood i.signature i.content ≡ true
    → IsSoundLink kind i.content → IsFault kind i fault → ⊥
sound_by kind i fault u s (unknown n f) = absurd cc
sound_by kind i fault u s (broken_link f named h e) = s f h

pub link_item : (kind : Kind) (signature content : List ℕ) (o : Option Extension) → is_understood signature content ≡ true
    → pointwise nat_eq signature (codes "link") ≡ true
    → MatchOption o (IsSoundLink kind content) (LinkFaultCause kind content)
    → MatchOption o (IsSoundItem kind signature content) (ItemFaultCause kind signature content)
link_item kind signature content None u named h =
    λ size fault f. sound_by kind (record { signature = signature; size = size; content = content }) fault u h f
link_item kind signature content (Some e) u named h = λ size. (Link h.0, (h.1.0, broken_link h.0 named h.1.1 refl))
