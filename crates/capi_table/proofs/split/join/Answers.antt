use Rattle.std.proofs.Common.{inl, inr, refl, sym, ◌∙◌, rules}
use Rattle.gix_index.specs.State.{contents}
use Rattle.capi_table.proofs.Refusals.{of_kind}
use Rattle.capi_table.proofs.split.join.Goals as goal

pub returns-in-Err : goal.returns-in-Err
returns-in-Err c =
    record {
      read = search rules;
      placed = search rules;
      storable = search rules;
      failed = inl (record { whose = refl; says = c.in-Err.ensures.failed });
    }

pub returns-in-Ok-dissolve_into : goal.returns-in-Ok-dissolve_into
returns-in-Ok-dissolve_into c =
    record {
      read = record {
        index = contents c.in-Ok.state;
        checksum = c.in-Ok.ensures.read.0;
        read = c.in-Ok.ensures.read.1;
        value = contents c.dissolve_into.new.split;
        dissolved = c.in-Ok-dissolve_into.ensures.dissolved c.in-Ok.ensures.placed;
        holds = refl;
      };
      placed = c.dissolve_into.ensures.placed c.requires.placed c.in-Ok.ensures.placed;
      storable = let r = c.in-Ok.ensures.read in
          let same = of_kind _ c.args.skip_hash c.args.kind c.args.shared.now (contents c.in-Ok.state) r.0 r.1 ∙ sym
          c.requires.kind in
          c.dissolve_into.ensures.storable c.in-Ok.ensures.placed c.requires.storable c.in-Ok.ensures.storable same;
      failed = search rules;
    }

pub returns-in-Err-dissolve_into : goal.returns-in-Err-dissolve_into
returns-in-Err-dissolve_into c =
    record {
      read = search rules;
      placed = search rules;
      storable = search rules;
      failed = inr
          (record {
            index = contents c.in-Ok.state;
            checksum = c.in-Ok.ensures.read.0;
            read = c.in-Ok.ensures.read.1;
            error = c.in-Err-dissolve_into.e;
            says = c.in-Err-dissolve_into.ensures.fault;
            whose = refl;
            is = c.from.ensures;
          });
    }
