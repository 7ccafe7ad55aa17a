-- The text of an entry is that of its value, and so are those of a stat, a range, a side and a block.
use Rattle.std.proofs.Common.{◌≡◌, ℕ, List, ◌∷◌, ◌++◌, append_assoc, append-nil, ap, codes, decimal}
use Rattle.std.proofs.Common.{Option, Some, None, false, refl, true, ◌∙◌}
use Rattle.json.specs.Print.{escape_byte}
use Rattle.ext_bitmap.specs.declared.ranges.Range.{Range}
use Rattle.entry_list.specs.Record.{Record}
use Rattle.entry_fields.specs.Flags.{stage_number}
use Rattle.entry_fields.specs.declared.entry.stat.Stat.{Stat}
use Rattle.entry_fields.specs.declared.entry.stat.Time.{Time}
use Rattle.index_parts.specs.Id.{id_bytes}
use Rattle.ext_small.specs.declared.index_entry_offset_table.Offset.{Offset}
use Rattle.ext_small.specs.declared.resolve_undo.Stage.{Stage}
use Rattle.ext_untracked.specs.declared.OidStat.{OidStat}
use Rattle.view_json.specs.EntryValues.{entry_value, stat_value, time_value}
use Rattle.view_json.specs.Json.{block_value, datum_value, exclude_value, optional_stat, range_value}
use Rattle.view_json.specs.Json.{side_value as written_side}
use Rattle.view_json.specs.Values.{array as written_array, member as written_member}
use Rattle.view_events.specs.declared.event.Datum.{Datum}
use Rattle.view_events.specs.declared.event.Datum.TheVariants.{Absent, Answer, Block, Count, Id, Malformed, Number}
use Rattle.view_events.specs.declared.event.Datum.TheVariants.{Side}
use Rattle.view_json.specs.Names.{first}
use Rattle.view_json.specs.Values.{begin_with, text_value}
use Rattle.view_json_laws.specs.EventValues.{block_object, entry_object, exclude_object, range_array, side_object}
use Rattle.view_json_laws.specs.EventValues.{stat_object, stat_or_null}
use Rattle.view_json_laws.specs.EventValues.{time_object, value_of_datum}
use Rattle.view_json_laws.specs.Value.{array, digits, items_of, number, spelling}
use Rattle.view_json_laws.proofs.Pieces.{values_text}
use Rattle.view_json_laws.proofs.Members.{member_spelled, none_spelled, text_spelled}

-- pieces one after another, whichever are put together first
eight_and : (a b c d e f g z : List ℕ) → a ++ b ++ c ++ d ++ e ++ f ++ g ++ z
    ≡ a ++ (b ++ (c ++ (d ++ (e ++ (f ++ (g ++ z))))))
eight_and a b c d e f g z = simp append_assoc

six_and : (o a b c d e f z : List ℕ) → o ++ a ++ (b ++ c ++ d ++ e ++ f ++ z)
    ≡ o ++ (a ++ (b ++ (c ++ (d ++ (e ++ (f ++ z))))))
six_and o a b c d e f z = simp append_assoc

pub time_text : (t : Time) → time_value t ≡ spelling (time_object t)
unfolding written_member escape_byte
time_text t = simp (append_assoc, append-nil) refl

pub stat_text : (s : Stat) → stat_value s ≡ spelling (stat_object s)
unfolding stat_value written_member escape_byte
stat_text s =
    eight_and (written_member (codes "{") (codes "mtime") (time_value s.mtime))
    (written_member (codes ",") (codes "ctime") (time_value s.ctime))
    (written_member (codes ",") (codes "dev") (decimal s.dev))
    (written_member (codes ",") (codes "ino") (decimal s.ino))
    (written_member (codes ",") (codes "uid") (decimal s.uid))
    (written_member (codes ",") (codes "gid") (decimal s.gid))
    (written_member (codes ",") (codes "size") (decimal s.size)) (codes "}")
    ∙ (member_spelled (codes "{") (codes "mtime") (time_value s.mtime) (time_object s.mtime) refl (time_text s.mtime)
    (member_spelled (codes ",") (codes "ctime") (time_value s.ctime) (time_object s.ctime) refl (time_text s.ctime)
    (member_spelled (codes ",") (codes "dev") (decimal s.dev) (number s.dev) refl refl
    (member_spelled (codes ",") (codes "ino") (decimal s.ino) (number s.ino) refl refl
    (member_spelled (codes ",") (codes "uid") (decimal s.uid) (number s.uid) refl refl
    (member_spelled (codes ",") (codes "gid") (decimal s.gid) (number s.gid) refl refl
    (member_spelled (codes ",") (codes "size") (decimal s.size) (number s.size) refl refl
    (none_spelled (codes ",") (codes "}"))))))))).is

pub range_text : (r : Range) → range_value r ≡ spelling (range_array r)
unfolding range_value
range_text r = simp (append_assoc, append-nil) refl

pub ranges_text : (rs : List Range) → written_array range_value rs ≡ spelling (array (items_of range_array rs))
ranges_text rs = ap (λ (l : List ℕ). codes "[" ++ l ++ codes "]") (values_text range_value range_array range_text 0 rs)

side_text : (side : Stage) → written_side side ≡ spelling (side_object side)
unfolding written_side written_member escape_byte
side_text side = simp (append_assoc, append-nil) refl

block_text : (o : Offset) → block_value o ≡ spelling (block_object o)
unfolding block_value written_member escape_byte
block_text o = simp (append_assoc, append-nil) refl

pub stat_or_null_text : (s : Option Stat) → optional_stat s ≡ spelling (stat_or_null s)
unfolding optional_stat
stat_or_null_text None = refl
stat_or_null_text (Some s) = stat_text s

pub exclude_text : (file : Option OidStat) → exclude_value file ≡ spelling (exclude_object file)
unfolding exclude_value begin_with escape_byte
exclude_text None = refl
exclude_text (Some file) = simp (append_assoc, append-nil, stat_text file.stat) refl

pub datum_text : (d : Datum) → datum_value d ≡ spelling (value_of_datum d)
datum_text (Number n) = refl
datum_text (Id None) = refl
datum_text (Id (Some id)) = refl
datum_text (Answer true) = refl
datum_text (Answer false) = refl
datum_text (Side None) = refl
datum_text (Side (Some side)) = side_text side
datum_text (Block o) = block_text o
datum_text (Count None) = refl
datum_text (Count (Some n)) = refl
datum_text Absent = refl
datum_text Malformed = refl

pub entry_text : (r : Record) → entry_value r ≡ spelling (entry_object r)
unfolding entry_value written_member escape_byte
entry_text r =
    six_and (codes "{") (text_value (first (codes "path")) r.path)
    (written_member (codes ",") (codes "id") (spelling (digits (id_bytes r.id))))
    (written_member (codes ",") (codes "mode") (decimal r.mode))
    (written_member (codes ",") (codes "stage") (decimal (stage_number r.flags)))
    (written_member (codes ",") (codes "flags") (decimal r.flags))
    (written_member (codes ",") (codes "stat") (stat_value r.stat)) (codes "}")
    ∙ ap (λ (l : List ℕ). 123 ∷ l)
    (text_spelled (codes "path") r.path refl
    (member_spelled (codes ",") (codes "id") (spelling (digits (id_bytes r.id))) (digits (id_bytes r.id)) refl refl
    (member_spelled (codes ",") (codes "mode") (decimal r.mode) (number r.mode) refl refl
    (member_spelled (codes ",") (codes "stage") (decimal (stage_number r.flags)) (number (stage_number r.flags)) refl refl
    (member_spelled (codes ",") (codes "flags") (decimal r.flags) (number r.flags) refl refl
    (member_spelled (codes ",") (codes "stat") (stat_value r.stat) (stat_object r.stat) refl (stat_text r.stat)
    (none_spelled (codes ",") (codes "}")))))))).is
