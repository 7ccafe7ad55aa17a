use Rattle.std.proofs.Common.{ℕ, List, Option, subst}
use Rattle.std.specs.Option.{option_map}
use Rattle.index_extensions.specs.ExtensionValue.{IsValue}
use Rattle.ext_small.specs.OffsetTable.{IsTable}
use Rattle.ext_small.specs.Marks.{IsEndMark}
use Rattle.ext_small.proofs.marks.marks_of.Goals as goal

pub returns : goal.returns
returns c =
    let found = c.mark_bytes_of-contents.ensures in
    let table = option_map (λ v. v.items) c.in_ok-table_of.field-0 in
    record {
      items = found.0;
      has = found.1;
      table = subst (λ (o : Option (List ℕ)). IsValue IsTable o table) found.2.table c.in_ok-table_of.ensures;
      end = subst (λ (o : Option (List ℕ)). IsValue (IsEndMark c.args.kind) o c.end_of.result) found.2.end
          c.end_of.ensures;
    }
