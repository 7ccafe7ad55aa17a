use Rattle.std.proofs.Common.{◌≡◌, ℕ, List, ◌++◌, None, length}
use Rattle.std.specs.Prelude.{codes}
use Rattle.index_parts.specs.Id.{id_len}
use Rattle.index_extensions.specs.ExtensionValue.{first_content}
use Rattle.index_extensions.specs.Walk.{Item, AreItems, unread}
use Rattle.ext_small.proofs.index_entry_offset_table.find.Given as goal

-- the extensions before the unread bytes hold no table
abbrev pub invariant-loop-item : goal.invariant-loop-item
invariant-loop-item l = (start : List ℕ) × (trailer : List ℕ) × (items : List Item) × record {
  parts : l.extensions ≡ start ++ trailer;
  trailer_len : length trailer ≡ id_len l.fn.object_hash;
  items_are : AreItems start items (unread l.walk);
  none : first_content (codes "IEOT") items ≡ None;
}
