-- The list between entries and trailer has only bytes, if the complete list has.
use Rattle.std.proofs.Common.{◌≡◌, ℕ, List, [], ◌∷◌, ◌++◌, Option, Some, subst}
use Rattle.index_parts.specs.declared.hash.Kind.{Kind}
use Rattle.entry_list.specs.Entries.{AreEntries}
use Rattle.entry_list.specs.Entry.{IsEntry, IsEntry23, IsEntry4, head_bytes}
use Rattle.entry_list.specs.Record.{AreBytes, Record}
use Rattle.entry_list.specs.declared.Version.{Version}
use Rattle.entry_list.specs.declared.Version.TheVariants.{V2, V3, V4}
use Rattle.ext_bitmap.proofs.WrittenBitmaps.{bytes_behind, bytes_first}

behind23 : (kind : Kind) (bytes : List ℕ) (r : Record) (rest : List ℕ) → IsEntry23 kind bytes r rest → AreBytes bytes
    → AreBytes rest
behind23 kind bytes r rest h b = bytes_behind h.padding rest (bytes_behind r.path (h.padding ++ rest)
    (bytes_behind (head_bytes h.head) (r.path ++ (h.padding ++ rest)) (subst AreBytes h.parts b)))

behind4 : (kind : Kind) (previous : Option (List ℕ)) (bytes : List ℕ) (r : Record) (rest : List ℕ)
    → IsEntry4 kind previous bytes r rest → AreBytes bytes → AreBytes rest
behind4 kind previous bytes r rest h b =
    let after = bytes_behind (head_bytes h.head) h.after (subst AreBytes h.parts b) in
    let delta = bytes_behind h.is_offset.spelling h.delta (subst AreBytes h.is_offset.parts after) in
    bytes_behind (0 ∷ []) rest (bytes_behind h.tail (0 ∷ rest) (subst AreBytes h.is_tail.parts delta))

behind_entry : (version : Version) (kind : Kind) (previous : Option (List ℕ)) (bytes : List ℕ) (r : Record)
    (rest : List ℕ) → IsEntry version kind previous bytes r rest → AreBytes bytes → AreBytes rest
behind_entry V2 kind previous bytes r rest h b = behind23 kind bytes r rest h b
behind_entry V3 kind previous bytes r rest h b = behind23 kind bytes r rest h b
behind_entry V4 kind previous bytes r rest h b = behind4 kind previous bytes r rest h b

pub behind_entries : (version : Version) (kind : Kind) (previous : Option (List ℕ)) (bytes : List ℕ)
    (rs : List Record) (rest : List ℕ) → AreEntries version kind previous bytes rs rest → AreBytes bytes
    → AreBytes rest
behind_entries version kind previous bytes [] rest h b = subst AreBytes h b
behind_entries version kind previous bytes (r ∷ rs) rest h b = behind_entries version kind (Some r.path) h.0 rs rest h.2
    (behind_entry version kind previous bytes r h.0 h.1 b)

-- the bytes before a trailer
pub before_trailer : (bytes extensions trailer : List ℕ) → bytes ≡ extensions ++ trailer → AreBytes bytes
    → AreBytes extensions
before_trailer bytes extensions trailer parts b = bytes_first extensions trailer (subst AreBytes parts b)
