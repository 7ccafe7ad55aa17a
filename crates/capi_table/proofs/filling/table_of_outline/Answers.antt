use Rattle.std.proofs.Common.{◌≡◌, ap, sym, arith, rules}
use Rattle.gix_index.specs.Outlined.Passed.{paths_len}
use Rattle.capi_table.specs.declared.read.Sizes.{Sizes}
use Rattle.capi_table.proofs.OutlinedTables.{outlined_entries}
use Rattle.capi_table.proofs.filling.table_of_outline.Goals as goal

pub fill_entries-requires-clause-entries : goal.fill_entries-requires-clause-entries
fill_entries-requires-clause-entries c =
    let v = c.requires.0 in
    let h = c.requires.1 in
    let path_bytes : c.sizes_of_outline-sizes.result.path_bytes ≡ paths_len v.records =
    ap (λ (s : Sizes). s.path_bytes) (c.sizes_of_outline-sizes.ensures v h) in (
      v.records,
      h.after,
      outlined_entries v c.args.outline.now h,
      sym h.count,
      omega (arith, path_bytes, c.lacks_room.ensures.paths_fit c.if-lacks_room.false),
      c.requires.2.fits,
    )

pub returns : goal.returns
returns c =
    record {
      done = λ v h. record {
        sizes_are = c.sizes_of_outline-sizes.ensures v h;
        holds = c.fill_entries.ensures v.records h.after (outlined_entries v c.args.outline.now h) (sym h.count);
      };
      no_room = search rules;
      failed = search rules;
      rows = search rules;
      paths = search rules;
    }
