-- What a store of a row's objects has: a list with an item for each first byte of an id. This belongs to the rows
-- alone.
use Rattle.std.specs.Prelude.{Option, Some, None}
use Rattle.gix_index.specs.Object.{Found, absent, object, fault}
use Rattle.test_change_rows.specs.declared.objects.Object.{Object}
use Rattle.test_change_rows.specs.declared.objects.Object.TheVariants as objects

-- What the store has for an id, from its item of the list. An id past the list has no object. An object that can't be
-- read for lack of memory counts as absent, and then nothing is stated of the result.
abbrev pub found_at : Option Object → Found
found_at None = absent
found_at (Some objects.Absent) = absent
found_at (Some objects.Unread) = absent
found_at (Some (objects.Fault number)) = fault number
found_at (Some (objects.Whole kind bytes)) = object kind bytes.items
