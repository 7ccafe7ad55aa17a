use Rattle.std.proofs.Common.{arith, ◌≡◌, length, true, false, ◌∙◌, refl, rules}
use Rattle.std.specs.List.{HoldsAt}
use Rattle.std.proofs.lemmas.List.{length-map}
use Rattle.gix_index.specs.Closest.{is_directory, is_itself}
use Rattle.gix_index.specs.Record.{Record}
use Rattle.capi_table.specs.Table.{records_of, spelled}
use Rattle.index_c.proofs.Directories.{itself_at, none_itself, none_past}
use Rattle.index_c.proofs.RowsAt.{row_gives, within_more}
use Rattle.index_c.proofs.closest.first_itself.Goals as goal

pub returns-then-not-has_path : goal.returns-then-not-has_path
returns-then-not-has_path c =
    record {
      found = search rules;
      answer = λ o parted. let rs = records_of c.args.paths.now c.args.rows.now in
          let many : length rs ≡ length c.args.rows.now = length-map c.args.rows.now (spelled c.args.paths.now) in
          none_past c.args.directory.now rs c.args.low parted c.loop-place.place c.loop-place.invariant o (omega
          arith)
          (omega (arith, many, c.loop-place-test.true))
          (λ d. c.has_path.ensures d ∙ c.if-not-has_path.true);
    }

pub returns-then-is_directory : goal.returns-then-is_directory
returns-then-is_directory c =
    let rs = records_of c.args.paths.now c.args.rows.now in
    let gives = row_gives is_directory c.args.paths.now c.args.rows.now c.loop-place.place _ c.is_directory.result
    c.loop-place-test.true c.is_directory.ensures in
    let here : HoldsAt (λ (r : Record). is_itself c.args.directory.now r ≡ true) rs c.loop-place.place =
    λ d. rw (c.has_path.ensures d ∙ c.if-not-has_path.false, gives d ∙ c.if-is_directory.true) refl in
    record {
      found = (c.loop-place-test.true, here);
      answer = λ o parted.
          let many : length rs ≡ length c.args.rows.now = length-map c.args.rows.now (spelled c.args.paths.now) in
          itself_at c.args.directory.now rs c.args.low parted c.loop-place.place c.loop-place.invariant
          (omega (arith, many, c.loop-place-test.true)) here;
    }

pub loop-place-preserved : goal.loop-place-preserved
loop-place-preserved c =
    let rs = records_of c.args.paths.now c.args.rows.now in
    let gives = row_gives is_directory c.args.paths.now c.args.rows.now c.loop-place.place _ c.is_directory.result
    c.loop-place-test.true c.is_directory.ensures in
    let here : HoldsAt (λ (r : Record). is_itself c.args.directory.now r ≡ false) rs c.loop-place.place =
    λ d. rw (c.has_path.ensures d ∙ c.if-not-has_path.false, gives d ∙ c.if-is_directory.false) refl in
    within_more (λ (r : Record). is_itself c.args.directory.now r ≡ false) rs c.args.low c.loop-place.place
    c.loop-place.invariant here

pub returns : goal.returns
returns c =
    record {
      found = search rules;
      answer = λ o parted. let rs = records_of c.args.paths.now c.args.rows.now in
          let many : length rs ≡ length c.args.rows.now = length-map c.args.rows.now (spelled c.args.paths.now) in
          none_itself c.args.directory.now rs c.args.low parted c.loop-place.place c.loop-place.invariant
          (omega (arith, many, c.loop-place-test.false));
    }
