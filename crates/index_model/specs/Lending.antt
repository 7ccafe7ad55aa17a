-- The parts of an index in memory after a mutable borrow of one of them (the library's own).
use Rattle.std.specs.Prelude.{ℕ, false, List, Option, Some}
use Rattle.std.specs.Borrow.{Lends, LendsIf, MutBor, Fml, Array}
use Rattle.std.specs.Vec.{with_item, with_items}
use Rattle.ext_tree.specs.declared.Tree.{Tree}
use Rattle.ext_tree.specs.contracts.Tree as tree
use Rattle.entry_list.specs.declared.Entry.{Entry}
use Rattle.entry_list.specs.contracts.Entry as entry
use Rattle.index_model.specs.declared.Parts.{Parts}
use Rattle.index_model.specs.contracts.Parts as parts
use Rattle.index_model.specs.declared.extension.Outcome.{Outcome}
use Rattle.index_model.specs.contracts.extension.Outcome as outcome

-- the extensions end with the last cache tree of the borrow, if there is one; everything else is unchanged
abbrev pub LendsOwnTree : MutBor Outcome → Option (MutBor Tree) → Fml
LendsOwnTree o r = LendsIf outcome.the_row tree.the_row o r (λ t. record o.now { tree = Some t }) o.now

-- The parts with these entries, as many as there are; with another entry at an index; or with this cache tree. The
-- extensions aren't known to match entries that may have changed. Everything else is unchanged.
abbrev pub parts_with_entries : Parts → List Entry → Parts
parts_with_entries p entries = record p { entries = with_items p.entries entries; extensions_fit = false }

abbrev pub parts_with_entry_at : Parts → ℕ → Entry → Parts
parts_with_entry_at p i e = record p { entries = with_item p.entries i e; extensions_fit = false }

abbrev pub parts_with_tree : Parts → Tree → Parts
parts_with_tree p t = record p { extensions = record p.extensions { tree = Some t } }

-- the parts end with the last entries of the borrow, with the last entry at an index, or with the last cache tree, if
-- one is borrowed
abbrev pub LendsPartsEntries : MutBor Parts → MutBor (List Entry) → Fml
LendsPartsEntries p r = Lends parts.the_row (Array entry.the_row 0) p r (parts_with_entries p.now)

abbrev pub LendsPartsEntryAt : ℕ → MutBor Parts → MutBor Entry → Fml
LendsPartsEntryAt i p r = Lends parts.the_row entry.the_row p r (parts_with_entry_at p.now i)

abbrev pub LendsPartsTree : MutBor Parts → Option (MutBor Tree) → Fml
LendsPartsTree p r = LendsIf parts.the_row tree.the_row p r (parts_with_tree p.now) p.now
