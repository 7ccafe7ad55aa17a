use Rattle.std.proofs.Common.{◌≡◌, List, ℕ, ◌++◌, append_assoc, arith, codes, drop}
use Rattle.view_json.specs.EntryValues.{stat_value, time_value}
use Rattle.view_json.specs.Values.{member, number_member_text}
use Rattle.view_json.proofs.entries.prepend_stat.Goals as goal

grouped : (t c d i u g s e from : List ℕ) → t ++ (c ++ (d ++ (i ++ (u ++ (g ++ (s ++ (e ++ from)))))))
    ≡ (((((((t ++ c) ++ d) ++ i) ++ u) ++ g) ++ s) ++ e) ++ from
grouped t c d i u g s e from = simp append_assoc

pub returns : goal.returns
unfolding stat_value member
returns c =
    let end = c.prepend-end.ensures.prepends in
    let size = c.prepend_number-end.ensures in
    let gid = c.prepend_number-end-2.ensures in
    let uid = c.prepend_number-end-3.ensures in
    let ino = c.prepend_number-end-4.ensures in
    let dev = c.prepend_number-end-5.ensures in
    let ctime = c.prepend_time-end.ensures in
    let mtime = c.prepend_time.ensures in
    let s = c.args.stat in
    record {
      short = omega (arith, end.short, size.short, gid.short, uid.short, ino.short, dev.short, ctime.short, mtime.short);
      within = mtime.within;
      written = rw (
        mtime.written,
        ctime.written,
        dev.written,
        ino.written,
        uid.written,
        gid.written,
        size.written,
        end.written,
      )
          (grouped (member (codes "{") (codes "mtime") (time_value s.mtime))
          (member (codes ",") (codes "ctime") (time_value s.ctime)) (number_member_text (codes ",") (codes "dev") s.dev)
          (number_member_text (codes ",") (codes "ino") s.ino) (number_member_text (codes ",") (codes "uid") s.uid)
          (number_member_text (codes ",") (codes "gid") s.gid) (number_member_text (codes ",") (codes "size") s.size)
          (codes "}") (drop c.args.end c.args.room.now));
    }
