use Rattle.std.proofs.Common.{Ok, refl, subst, sym, rules}
use Rattle.gix_index.specs.File.{checksum_of}
use Rattle.gix_index.specs.State.{contents}
use Rattle.gix_index.specs.StateType.{State}
use Rattle.capi_table.specs.Reading.{BytesEndAs}
use Rattle.capi_table.proofs.Refusals.{fails_by, options_are, read_by}
use Rattle.capi_table.proofs.read.index_of.Goals as goal

pub returns-in-Ok : goal.returns-in-Ok
returns-in-Ok c =
    record {
      read = let d = c.default.ensures in
          let P : State → Type 0 =
          λ s. BytesEndAs c.args.expected c.args.skip_hash c.args.kind c.args.bytes.now
          (Ok (contents s, checksum_of c.in-Ok.file)) in (
            checksum_of c.in-Ok.file,
            subst P (sym c.into_parts.ensures.state)
                (read_by c.args.expected c.args.skip_hash c.args.kind c.args.bytes.now _ _ _ refl refl
                (options_are c.args.expected _ d.0 d.1.0 refl d.1.1.1) c.in-Ok.ensures.answer),
          );
      placed = search rules;
      storable = search rules;
      failed = search rules;
    }

pub returns-in-Err : goal.returns-in-Err
returns-in-Err c =
    record {
      read = search rules;
      placed = search rules;
      storable = search rules;
      failed = let d = c.default.ensures in
          fails_by c.args.expected c.args.skip_hash c.args.kind c.args.bytes.now _ _ _ refl refl
          (options_are c.args.expected _ d.0 d.1.0 refl d.1.1.1) c.in-Err.ensures.answer c.in-Err.ensures.intact;
    }
