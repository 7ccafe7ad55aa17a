use Rattle.std.proofs.Common.{arith, ◌≡◌, ◌<◌, ◌++◌, [], false, length, ◌∙◌, rules}
use Rattle.std.specs.List.{HoldsAt}
use Rattle.std.proofs.lemmas.List.{length-map}
use Rattle.gix_index.specs.Range.{is_at}
use Rattle.gix_index.specs.Record.{Record}
use Rattle.entry_lookup.proofs.Closest.{any_here, closest_at, closest_below}
use Rattle.entry_lookup.proofs.RunsFound.{rising_prefixes}
use Rattle.capi_table.specs.Table.{records_of, spelled}
use Rattle.index_c.proofs.Directories.{below_stands, none_at, parted_at}
use Rattle.index_c.proofs.closest.closest_place.Goals as goal
use Rattle.index_c.proofs.closest.closest_place.Goals.{else-low-rows-via-then-low-rows+else-has_path}
use Rattle.index_c.proofs.closest.closest_place.Goals.{else-low-rows-via-else-low-rows}

pub returns-then-has_path : goal.returns-then-has_path
returns-then-has_path c =
    record {
      found = search rules;
      answer = λ o. let rs = records_of c.args.paths.now c.args.rows.now in
          let many : length rs ≡ length c.args.rows.now = length-map c.args.rows.now (spelled c.args.paths.now) in
          let directory = c.args.directory.now in
          closest_at directory rs c.first_itself.result
          (any_here (is_at directory) rs c.part-low.result.0
          (omega (arith, many, c.if-low-rows.true), λ d. c.has_path.ensures d ∙ c.if-has_path.true))
          (c.first_itself.ensures.answer o (parted_at directory rs c.part-low.result.0
          (c.part-low.ensures.parts (rising_prefixes (directory ++ []) rs o))));
    }

pub returns : goal.returns
returns c =
    record {
      found = below_stands c.args.directory.now (records_of c.args.paths.now c.args.rows.now) (length c.args.rows.now)
          c.first_below.result (length-map c.args.rows.now (spelled c.args.paths.now)) c.first_below.ensures.found;
      answer = λ o. let rs = records_of c.args.paths.now c.args.rows.now in
          let many : length rs ≡ length c.args.rows.now = length-map c.args.rows.now (spelled c.args.paths.now) in
          let directory = c.args.directory.now in
          let other : c.part-low.result.0 < length rs
          → HoldsAt (λ (r : Record). is_at directory r ≡ false) rs c.part-low.result.0 =
          elim c.else-low-rows.branch [
            | else-low-rows-via-then-low-rows+else-has_path w ↦ λ within d. w.has_path.ensures d ∙ w.if-has_path.false
            | else-low-rows-via-else-low-rows w ↦ λ within. absurd (omega (arith, w.if-low-rows.false, within, many))
          ] in
          closest_below directory rs c.first_below.result
          (none_at directory rs c.part-low.result.0 (parted_at directory rs c.part-low.result.0
          (c.part-low.ensures.parts (rising_prefixes (directory ++ []) rs o))) o
          other)
          (c.first_below.ensures.answer o);
    }
