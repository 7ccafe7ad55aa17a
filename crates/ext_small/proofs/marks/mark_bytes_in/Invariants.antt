use Rattle.std.proofs.Common.{◌≡◌, List, option_map}
use Rattle.std.specs.Prelude.{codes}
use Rattle.index_extensions.specs.ExtensionValue.{first_content, last_content}
use Rattle.index_extensions.specs.Walk.{AreItems, Item, unread}
use Rattle.ext_small.proofs.marks.mark_bytes_in.Given as goal

-- the contents are those of the extensions before the unread bytes
abbrev pub invariant-loop-item : goal.invariant-loop-item
invariant-loop-item l = (items : List Item) × record {
  items_are : AreItems (unread l.fn.walk) items (unread l.walk);
  table : option_map (λ b. b.now) l.table ≡ first_content (codes "IEOT") items;
  end : option_map (λ b. b.now) l.end ≡ last_content (codes "EOIE") items;
}
