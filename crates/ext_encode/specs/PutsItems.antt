-- The contract of a call that writes extensions, one after another.
use Rattle.std.specs.Prelude.{ℕ, List, Option, Result}
use Rattle.std.specs.List.{flat_map}
use Rattle.index_parts.specs.Puts.{Puts}
use Rattle.index_parts.specs.declared.hash.Kind.{Kind}
use Rattle.index_parts.specs.declared.hash.io.Out.{Ghosts}
use Rattle.index_extensions.specs.Encoding.{item_bytes}
use Rattle.index_extensions.specs.Walk.{Item}
use Rattle.ext_encode.specs.Chosen.{extensions_of, item_if, items}
use Rattle.ext_encode.specs.declared.chosen.Chosen.{Chosen}

-- the call writes the bytes of these extensions
abbrev pub PutsItems : {S T E : Type 0} → Ghosts S → S → S → Result T E → List Item → Type 0
PutsItems writer old new answer written = Puts writer old new answer (flat_map item_bytes written)

-- the call writes the bytes of an extension, if there is one
abbrev pub PutsIf : {S T E A : Type 0} → Ghosts S → S → S → Result T E → (A → Item) → Option A → Type 0
PutsIf writer old new answer item value = PutsItems writer old new answer (item_if item value)

-- the bytes of all chosen extensions
abbrev pub chosen_bytes : Kind → Chosen → List ℕ
chosen_bytes kind chosen = flat_map item_bytes (items kind (extensions_of chosen))
