use Rattle.std.proofs.Common.{◌∷◌, [], ◌++◌, length, refl, sym}
use Rattle.std.proofs.lemmas.Bool.{eqb-true, eqb-false}
use Rattle.index_parts.proofs.Puts.{puts_after, puts_from, puts_is, puts_stopped}
use Rattle.index_parts.proofs.Taking.{Took-nil}
use Rattle.ext_encode.specs.declared.marks.Mark.TheVariants as marks
use Rattle.ext_encode.proofs.WrittenDirectories.{directories_whole, lent_ids, lent_marks, lent_stats}
use Rattle.ext_encode.proofs.WrittenDirectories.{no_directories, tail_pieces}
use Rattle.ext_encode.proofs.untracked_cache.put_directories.Goals as goal

pub returns-then-is_empty : goal.returns-then-is_empty
returns-then-is_empty g c =
    puts_is _ (no_directories c.args.directories.now
    (eqb-true (length c.args.directories.now) 0 (sym c.if-is_empty.ensures))) (record {
      takes = Took-nil g.W.Out.taken g.W.Out.hashed c.args.out.now;
      failed = refl;
      loan = refl;
    })

pub returns-in_err-put_blocks : goal.returns-in_err-put_blocks
returns-in_err-put_blocks g c =
    let ds = c.args.directories.now in
    let r = c.from_residual.result in
    let some = eqb-false (length ds) 0 (sym c.if-is_empty.ensures) in
    puts_is r (directories_whole ds some)
    (puts_stopped r (tail_pieces ds) c.from_residual.ensures.0 refl
    c.in_err-put_blocks.ensures)

pub returns-in_err-put : goal.returns-in_err-put
returns-in_err-put g c =
    let ds = c.args.directories.now in
    let r = c.from_residual-in_err-put.result in
    let some = eqb-false (length ds) 0 (sym c.if-is_empty.ensures) in
    puts_is r (directories_whole ds some)
    (puts_after r c.in_ok-put_blocks.ensures
    (puts_stopped r (lent_marks marks.CheckOnly ds ++ (lent_marks marks.HashValid ds ++ (lent_stats ds ++ (lent_ids ds ++ 0 ∷ [])))) c.from_residual-in_err-put.ensures.0 refl
    c.in_err-put.ensures.written))

pub returns-in_err-put-2 : goal.returns-in_err-put-2
returns-in_err-put-2 g c =
    let ds = c.args.directories.now in
    let r = c.from_residual-in_err-put-2.result in
    let some = eqb-false (length ds) 0 (sym c.if-is_empty.ensures) in
    puts_is r (directories_whole ds some)
    (puts_after r c.in_ok-put_blocks.ensures (puts_after r c.in_ok-put.ensures.written
    (puts_stopped r (lent_marks marks.HashValid ds ++ (lent_stats ds ++ (lent_ids ds ++ 0 ∷ []))) c.from_residual-in_err-put-2.ensures.0 refl
    c.in_err-put-2.ensures.written)))

pub returns-in_err-put-3 : goal.returns-in_err-put-3
returns-in_err-put-3 g c =
    let ds = c.args.directories.now in
    let r = c.from_residual-in_err-put-3.result in
    let some = eqb-false (length ds) 0 (sym c.if-is_empty.ensures) in
    puts_is r (directories_whole ds some)
    (puts_after r c.in_ok-put_blocks.ensures (puts_after r c.in_ok-put.ensures.written
    (puts_after r c.in_ok-put-2.ensures.written
    (puts_stopped r (lent_stats ds ++ (lent_ids ds ++ 0 ∷ [])) c.from_residual-in_err-put-3.ensures.0 refl
    c.in_err-put-3.ensures.written))))

pub returns-in_err-put_stats : goal.returns-in_err-put_stats
returns-in_err-put_stats g c =
    let ds = c.args.directories.now in
    let r = c.from_residual-in_err-put_stats.result in
    let some = eqb-false (length ds) 0 (sym c.if-is_empty.ensures) in
    puts_is r (directories_whole ds some)
    (puts_after r c.in_ok-put_blocks.ensures (puts_after r c.in_ok-put.ensures.written
    (puts_after r c.in_ok-put-2.ensures.written (puts_after r c.in_ok-put-3.ensures.written
    (puts_stopped r (lent_ids ds ++ 0 ∷ []) c.from_residual-in_err-put_stats.ensures.0 refl
    c.in_err-put_stats.ensures)))))

pub returns-in_err-put_ids : goal.returns-in_err-put_ids
returns-in_err-put_ids g c =
    let ds = c.args.directories.now in
    let r = c.from_residual-in_err-put_ids.result in
    let some = eqb-false (length ds) 0 (sym c.if-is_empty.ensures) in
    puts_is r (directories_whole ds some)
    (puts_after r c.in_ok-put_blocks.ensures (puts_after r c.in_ok-put.ensures.written
    (puts_after r c.in_ok-put-2.ensures.written (puts_after r c.in_ok-put-3.ensures.written
    (puts_after r c.in_ok-put_stats.ensures
    (puts_stopped r (0 ∷ []) c.from_residual-in_err-put_ids.ensures.0 refl
    c.in_err-put_ids.ensures))))))

pub returns : goal.returns
returns g c =
    let ds = c.args.directories.now in
    let r = c.put-4.result in
    let some = eqb-false (length ds) 0 (sym c.if-is_empty.ensures) in
    puts_is r (directories_whole ds some)
    (puts_after r c.in_ok-put_blocks.ensures (puts_after r c.in_ok-put.ensures.written
    (puts_after r c.in_ok-put-2.ensures.written (puts_after r c.in_ok-put-3.ensures.written
    (puts_after r c.in_ok-put_stats.ensures (puts_after r c.in_ok-put_ids.ensures
    (puts_from r c.put-4.ensures.bytes c.put-4.ensures.has_failed c.put-4.ensures.loan)))))))
