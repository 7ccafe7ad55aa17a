-- A cached tree that was read has its siblings in order.
use Rattle.std.proofs.Common.{ℕ, List, Option, Some, None, Ok, subst, sym}
use Rattle.std.specs.Prelude.{IfSome}
use Rattle.index_parts.specs.declared.hash.Kind.{Kind}
use Rattle.index_parts.specs.declared.hash.ObjectId.{ObjectId}
use Rattle.entry_fields.specs.declared.entry.stat.FileTime.{FileTime}
use Rattle.ext_tree.specs.Tree.{IsTree, Node}
use Rattle.index_extensions.specs.ExtensionValue.{IsValue}
use Rattle.tree_encode.specs.Kept.{HasNamesInOrder}
use Rattle.tree_encode.proofs.Keeps.{sorts_in_order}
use Rattle.index_model.specs.Answer.{IsAnswer}
use Rattle.index_model.specs.Contents.{Contents}
use Rattle.index_model.specs.declared.decode.Options.{Options}
use Rattle.index_model.proofs.ReadValues.{value_is}

value_in_order : (kind : Kind) (limit : Option ℕ) (content : Option (List ℕ)) (value : Option Node)
    → IsValue (IsTree kind limit) content value → IfSome value HasNamesInOrder
value_in_order kind limit content None h = tt
value_in_order kind limit None (Some t) h = absurd cc
value_in_order kind limit (Some bytes) (Some t) h = sorts_in_order h.spelled t h.sorts

pub read_in_order : (kind : Kind) (time : FileTime) (options : Options) (bytes : List ℕ) (v : Contents)
    (c : Option ObjectId) → IsAnswer kind time options bytes (Ok (v, c))
    → IfSome v.extensions.tree HasNamesInOrder
read_in_order kind time options bytes v c h =
    let value = value_is kind time options bytes v c h in
    subst (λ (w : Contents). IfSome w.extensions.tree HasNamesInOrder) (sym value.is)
    (value_in_order kind options.alloc_limit_bytes _ value.outcome.tree value.is_outcome.tree)
