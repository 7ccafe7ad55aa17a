-- The value of an entry (the library's own). The parts of an entry are those of gitformat-index, "Index entry".
use Rattle.std.specs.Prelude.{List, ℕ, ◌++◌, codes}
use Rattle.entry_fields.specs.Flags.{stage_number}
use Rattle.entry_list.specs.Record.{Record}
use Rattle.entry_fields.specs.declared.entry.stat.Stat.{Stat}
use Rattle.entry_fields.specs.declared.entry.stat.Time.{Time}
use Rattle.view_json.specs.Names.{first}
use Rattle.view_json.specs.Values.{id_member, member, number_member_text, text_value}

abbrev pub time_value : Time → List ℕ
time_value t = number_member_text (codes "{") (codes "secs") t.secs
    ++ number_member_text (codes ",") (codes "nsecs") t.nsecs ++ codes "}"

unfoldable pub stat_value : Stat → List ℕ
stat_value s =
    member (codes "{") (codes "mtime") (time_value s.mtime) ++ member (codes ",") (codes "ctime") (time_value s.ctime)
    ++ number_member_text (codes ",") (codes "dev") s.dev ++ number_member_text (codes ",") (codes "ino") s.ino
    ++ number_member_text (codes ",") (codes "uid") s.uid ++ number_member_text (codes ",") (codes "gid") s.gid
    ++ number_member_text (codes ",") (codes "size") s.size ++ codes "}"

-- The members of an entry after its path. The flags are one number of 32 bits. It includes the stage, which also has a
-- member of its own.
abbrev pub behind_path : Record → List ℕ
behind_path r =
    id_member (codes ",") (codes "id") r.id ++ number_member_text (codes ",") (codes "mode") r.mode
    ++ number_member_text (codes ",") (codes "stage") (stage_number r.flags)
    ++ number_member_text (codes ",") (codes "flags") r.flags ++ member (codes ",") (codes "stat") (stat_value r.stat)
    ++ codes "}"

unfoldable pub entry_value : Record → List ℕ
entry_value r = codes "{" ++ text_value (first (codes "path")) r.path ++ behind_path r
