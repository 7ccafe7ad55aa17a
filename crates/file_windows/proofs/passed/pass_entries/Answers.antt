use Rattle.std.proofs.Common.{◌++◌, [], ◌∷◌, ◌∙◌, None, arith, length-append, ap, sym}
use Rattle.entry_list.proofs.Storing.{entries_push}
use Rattle.entry_list.specs.Entries.{last_path}
use Rattle.entry_list.specs.Record.{Record}
use Rattle.entry_decode.proofs.Readers.{behind_lent, lent_entry}
use Rattle.entry_decode.specs.Lent.{borrowed_record}
use Rattle.file_windows.specs.Passed.{in_64_bits, paths_len}
use Rattle.file_windows.proofs.PassedSums.{paths_more, sparse_more}
use Rattle.file_windows.proofs.passed.pass_entries.Goals as goal

pub loop-place-preserved : goal.loop-place-preserved
loop-place-preserved c =
    let inv = c.loop-place.invariant in
    let previous = last_path None inv.0 in
    let lent = c.in-Some.lent in
    let left = c.loop-place.reader in
    let after = c.next.new.self in
    let at = inv.1.behind in
    let r : Record = borrowed_record previous lent in
    let is = lent_entry c.args.version c.args.kind previous left lent after at c.in-Some.ensures.lent in (
      inv.0 ++ r ∷ [],
      record {
        entries = entries_push c.args.version c.args.kind None c.args.bytes.now inv.0 r left.rest after.rest
            inv.1.entries is;
        count = omega (arith, length-append inv.0 (r ∷ []), inv.1.count);
        path_bytes = c.sum_of-path_bytes.ensures (paths_len inv.0) inv.1.path_bytes
            ∙ ap in_64_bits (sym (paths_more inv.0 left.room lent at.room_is c.in-Some.ensures.shared));
        sparse = sparse_more inv.0 r c.loop-place.sparse c.is_sparse-sparse.result inv.1.sparse
            c.is_sparse-sparse.ensures;
        behind = behind_lent c.args.version c.args.kind inv.0 left lent after at c.in-Some.ensures.lent
            c.in-Some.ensures.shared;
      },
    )
