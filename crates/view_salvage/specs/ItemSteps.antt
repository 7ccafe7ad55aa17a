-- The result of traversing extensions with their positions (gitformat-index, "Extensions"). Public clauses cite none of
-- these.
use Rattle.std.specs.Prelude.{◌≡◌, ℕ, ◌+◌, List, ◌++◌, length, Option, Some, MatchOption}
use Rattle.gix_index.specs.DecodeErrors.{extension_fault}
use Rattle.gix_index.specs.ExtensionError.{Extension}
use Rattle.gix_index.specs.Kind.{Kind}
use Rattle.gix_index.specs.Link.{LinkFault, IsLinkFault, LinkCause}
use Rattle.gix_index.specs.LinkError.{Error as LinkError}
use Rattle.gix_index.specs.Outcome.{AreSound, ExtensionFault, IsFault, Link}
use Rattle.gix_index.specs.Walk.{Item, AreItems, IsItem, NoItem, left_of}
use Rattle.view_layout.specs.Piece.{item_pieces, laid}
use Rattle.view_salvage.specs.declared.items.Walked.{Walked}
use Rattle.view_layout.specs.declared.part.Part.{Part}

-- The content of a link is valid.
abbrev pub IsSoundLink : Kind → List ℕ → Type 0
IsSoundLink kind content = (f : LinkFault) → IsLinkFault kind content f → ⊥

-- The content of a link has the `LinkFault` for an error.
abbrev pub LinkFaultCause : Kind → List ℕ → Extension → Type 0
LinkFaultCause kind content e = (f : LinkFault) × ((extension_fault e ≡ Some (Link f)) × IsLinkFault kind content f)

-- The error of the extension describes what the error of reading its link describes.
abbrev pub IsSameLinkError : LinkError → Extension → Type 0
IsSameLinkError e told = (kind : Kind) (content : List ℕ) → LinkCause kind content e → LinkFaultCause kind content told

-- The extension is valid, whatever the bytes of its size are.
abbrev pub IsSoundItem : Kind → List ℕ → List ℕ → Type 0
IsSoundItem kind signature content = (size : List ℕ) (fault : ExtensionFault)
    → IsFault kind (record { signature = signature; size = size; content = content }) fault → ⊥

-- The extension has the `ExtensionFault` for an error.
abbrev pub ItemFaultCause : Kind → List ℕ → List ℕ → Extension → Type 0
ItemFaultCause kind signature content e = (size : List ℕ) → (fault : ExtensionFault) × ((extension_fault e ≡ Some fault)
    × IsFault kind (record { signature = signature; size = size; content = content }) fault)

-- The extension is valid, or has the `ExtensionFault` for the error.
abbrev pub IsItemFault : Kind → List ℕ → List ℕ → Option Extension → Type 0
IsItemFault kind signature content e =
    MatchOption e (IsSoundItem kind signature content) (ItemFaultCause kind signature content)

-- The bytes begin with an invalid extension, and the error is for its `ExtensionFault`.
pub record IsAtFault (kind : Kind) (tail : List ℕ) (e : Extension) : Type 0 where
  pub item : Item
  pub rest : List ℕ
  pub fault : ExtensionFault
  pub is_item : IsItem tail item rest
  pub is_fault : IsFault kind item fault
  pub told : extension_fault e ≡ Some fault

-- Valid extensions were traversed, up to the end or to an invalid one.
pub record IsWalked (kind : Kind) (place : ℕ) (bytes : List ℕ) (old : List Part) (w : Walked) : Type 0 where
  pub items : List Item
  pub tail : List ℕ
  pub items_are : AreItems bytes items tail
  pub sound : AreSound kind items
  pub are : w.parts.items ≡ old ++ laid place (item_pieces items)
  pub end : w.end + length tail ≡ place + length bytes
  pub ended : MatchOption w.fault (NoItem tail × (w.left ≡ left_of tail)) (IsAtFault kind tail)
