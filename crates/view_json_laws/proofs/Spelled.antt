-- The value of events has the text that is printed for them.
use Rattle.std.proofs.Common.{◌≡◌, ℕ, zero, suc, Bool, true, false, List, [], ◌∷◌, ◌++◌, append_assoc, ap}
use Rattle.std.proofs.Common.{arith, codes, refl, subst, sym, ◌∙◌, Option, Some, None, ◌==◌}
use Rattle.std.proofs.lemmas.Bool.{cond_both, ne_eqb}
use Rattle.std.specs.Prelude.{if◌then◌else◌}
use Rattle.view_events.specs.Event.{Event, begin_array, begin_collection, begin_object, datum_field, directory_facts}
use Rattle.view_events.specs.Event.{end_array, end_object, end_text, entry_item, exclude_file, print, ranges_field}
use Rattle.view_events.specs.Event.{text_field}
use Rattle.view_events.specs.declared.event.Datum.TheVariants.{Answer, Id}
use Rattle.ext_untracked.specs.Blocks.{DirectoryValue}
use Rattle.view_json.specs.Names.{Position, alone, element, first, next, position_of}
use Rattle.view_json.specs.EntryValues.{entry_value}
use Rattle.view_json.specs.Json.{datum_value, directory_members, event_text, exclude_value, optional_stat, range_value}
use Rattle.view_json.specs.Values.{array as written_array, begin_of, begin_with, separator, text_value}
use Rattle.view_json_laws.specs.EventValues.{entry_object, exclude_object, range_array, stat_or_null, text_or_digits}
use Rattle.view_json_laws.specs.EventValues.{value_of_datum}
use Rattle.view_json_laws.specs.Telling.{Behind, astray, has_plain_name, in_array, in_object, nothing, place_before}
use Rattle.view_json_laws.specs.Telling.{put, put_array, put_before, put_end, put_facts, put_object, put_text}
use Rattle.view_json_laws.specs.Telling.{read_event}
use Rattle.view_json_laws.specs.Telling.{text_end, text_position, read_events, value_of, whole, whole_value}
use Rattle.view_json_laws.specs.Value.{Items, Value, array, item, items_of, items_spelling}
use Rattle.view_json_laws.specs.Value.{members_spelling, no_items, no_members, object, spelling}
use Rattle.view_json_laws.proofs.Entries.{datum_text, entry_text, exclude_text, ranges_text, stat_or_null_text}
use Rattle.view_json_laws.proofs.Members.{member_spelled}
use Rattle.view_json_laws.proofs.Pieces.{between, plain_name, plain_text_position, text_told}

abbrev comma_if : Bool → List ℕ
comma_if follows = if follows then codes "," else []

abbrev comma_behind : Option ℕ → List ℕ
comma_behind None = []
comma_behind (Some place) = codes ","

-- The text of what follows an index; nothing is stated of `astray`.
abbrev IsText : Behind → List ℕ → Type 0
IsText nothing text = text ≡ []
IsText astray text = Unit {0}
IsText text_end text = text ≡ codes "\n"
IsText (whole x) text = text ≡ spelling x ++ codes "\n"
IsText (in_object ms follows b) text = (rest : List ℕ)
    × IsText b rest × (text ≡ members_spelling (comma_if follows) ms ++ (codes "}" ++ rest))
IsText (in_array xs before b) text = (rest : List ℕ)
    × IsText b rest × (text ≡ items_spelling (comma_behind before) xs ++ (codes "]" ++ rest))

-- ---- a value before what follows it

place_text : (place : ℕ) → separator place ≡ comma_behind (place_before place)
place_text zero = refl
place_text (suc place) = rw (ne_eqb (suc place) 0 (λ e. omega arith)) refl

item_spelled : (place : ℕ) (x : Value) (xs : Items) (rest text : List ℕ)
    → text ≡ items_spelling (codes ",") xs ++ rest → separator place ++ spelling x ++ text
    ≡ items_spelling (comma_behind (place_before place)) (item x xs) ++ rest
item_spelled place x xs rest text e =
    ap (λ (l : List ℕ). l ++ spelling x ++ text) (place_text place)
    ∙ ap (λ (l : List ℕ). comma_behind (place_before place) ++ spelling x ++ l) e
    ∙ sym (append_assoc (comma_behind (place_before place) ++ spelling x) (items_spelling (codes ",") xs) rest)

put_before_spelled : (position : Position) (x : Value) (b : Behind) (text : List ℕ) → has_plain_name position ≡ true
    → IsText b text → IsText (put_before position x b) (begin_of position ++ spelling x ++ text)
unfolding begin_with
put_before_spelled alone x text_end text p h = ap (λ (l : List ℕ). spelling x ++ l) h
put_before_spelled (first name) x (in_object ms true b) text p h =
    (h.0, h.1, (member_spelled [] name (spelling x) x (plain_name name p) refl (record { is = h.2 })).is)
put_before_spelled (next name) x (in_object ms true b) text p h =
    (h.0, h.1, (member_spelled (codes ",") name (spelling x) x (plain_name name p) refl (record { is = h.2 })).is)
put_before_spelled (element place) x (in_array no_items None b) text p h =
    (h.0, h.1, item_spelled place x no_items (codes "]" ++ h.0) text h.2)
put_before_spelled (element place) x (in_array xs (Some before) b) text p h =
    cond_both (place == before) (in_array (item x xs) (place_before place) b) astray
    (λ (c : Behind). IsText c (separator place ++ spelling x ++ text))
    (λ e. (h.0, h.1, item_spelled place x xs (codes "]" ++ h.0) text h.2)) (λ e. tt)
put_before_spelled position x b text p h = tt

put_spelled : (position : Position) (x : Value) (b : Behind) (printed text : List ℕ) → printed ≡ spelling x
    → IsText b text → IsText (put position x b) (begin_of position ++ printed ++ text)
put_spelled position x b printed text e h =
    cond_both (has_plain_name position) (put_before position x b) astray
    (λ (c : Behind). IsText c (begin_of position ++ printed ++ text))
    (λ p. subst (λ (l : List ℕ). IsText (put_before position x b) (begin_of position ++ l ++ text)) (sym e)
    (put_before_spelled position x b text p h)) (λ p. tt)

text_spelled : (position : Position) (bytes : List ℕ) (b : Behind) (text : List ℕ) → IsText b text
    → IsText (put_text position bytes b) (text_value position bytes ++ text)
text_spelled position bytes b text h =
    let at = text_position position bytes in
    let x = text_or_digits bytes in
    cond_both (has_plain_name position) (put_before at x b) astray
    (λ (c : Behind). IsText c (text_value position bytes ++ text))
    (λ p. subst (λ (l : List ℕ). IsText (put_before at x b) (l ++ text)) (sym (text_told position bytes))
    (put_before_spelled at x b text (plain_text_position position bytes p) h)) (λ p. tt)

-- ---- an object or an array

object_spelled : (position : Position) (b : Behind) (text : List ℕ) → IsText b text
    → IsText (put_object position b) (begin_of position ++ codes "{" ++ text)
object_spelled position (in_object ms false b) text h =
    subst (IsText (put position (object ms) b))
    (sym (between (begin_of position) (codes "{") (members_spelling [] ms) (codes "}") h.0 text h.2))
    (put_spelled position (object ms) b (spelling (object ms)) h.0 refl h.1)
object_spelled position (in_object no_members true b) text h =
    subst (IsText (put position (object no_members) b))
    (sym (between (begin_of position) (codes "{") [] (codes "}") h.0 text h.2))
    (put_spelled position (object no_members) b (spelling (object no_members)) h.0 refl h.1)
object_spelled position b text h = tt

array_spelled : (position : Position) (b : Behind) (text : List ℕ) → IsText b text
    → IsText (put_array position b) (begin_of position ++ codes "[" ++ text)
array_spelled position (in_array xs None b) text h =
    subst (IsText (put position (array xs) b))
    (sym (between (begin_of position) (codes "[") (items_spelling [] xs) (codes "]") h.0 text h.2))
    (put_spelled position (array xs) b (spelling (array xs)) h.0 refl h.1)
array_spelled position b text h = tt

end_spelled : (b : Behind) (text : List ℕ) → IsText b text → IsText (put_end b) (codes "\n" ++ text)
end_spelled nothing text h = ap (λ (l : List ℕ). codes "\n" ++ l) h
end_spelled b text h = tt

-- ---- events

facts_spelled : (d : DirectoryValue) (b : Behind) (text : List ℕ) → IsText b text
    → IsText (put_facts d b) (directory_members d ++ text)
unfolding directory_members
facts_spelled d b text h =
    let name = codes "name" in
    let stat = next (codes "stat") in
    let exclude = next (codes "exclude_file_oid") in
    let check = next (codes "check_only") in
    let id = Id d.exclude in
    let answer = Answer d.check_only in
    let b2 = put check (value_of_datum answer) b in
    let b1 = put exclude (value_of_datum id) b2 in
    let b0 = put stat (stat_or_null d.stat) b1 in
    let t2 = (begin_of check ++ datum_value answer) ++ text in
    let t1 = (begin_of exclude ++ datum_value id) ++ t2 in
    let t0 = (begin_of stat ++ optional_stat d.stat) ++ t1 in
    subst (IsText (put_facts d b))
    (grouped (text_value (first name) d.name) (begin_of stat ++ optional_stat d.stat)
    (begin_of exclude ++ datum_value id) (begin_of check ++ datum_value answer) text)
    (text_spelled (first name) d.name b0 t0
    (put_spelled stat (stat_or_null d.stat) b1 (optional_stat d.stat) t1 (stat_or_null_text d.stat)
    (put_spelled exclude (value_of_datum id) b2 (datum_value id) t2 (datum_text id)
    (put_spelled check (value_of_datum answer) b (datum_value answer) text (datum_text answer) h))))
  where
    grouped : (a b c d e : List ℕ) → a ++ (b ++ (c ++ (d ++ e))) ≡ (a ++ b ++ c ++ d) ++ e
    grouped a b c d e = simp append_assoc

event_spelled : (event : Event) (b : Behind) (text : List ℕ) → IsText b text
    → IsText (read_event event b) (event_text event ++ text)
unfolding begin_with
event_spelled (datum_field at d) b text h =
    put_spelled (position_of at) (value_of_datum d) b (datum_value d) text (datum_text d) h
event_spelled (text_field at bytes) b text h = text_spelled (position_of at) bytes b text h
event_spelled (ranges_field at ranges) b text h =
    put_spelled (position_of at) (array (items_of range_array ranges)) b (written_array range_value ranges) text
    (ranges_text ranges) h
event_spelled (entry_item place r) b text h =
    put_spelled (element place) (entry_object r) b (entry_value r) text (entry_text r) h
event_spelled (exclude_file at file) b text h =
    put_spelled (position_of at) (exclude_object file) b (exclude_value file) text (exclude_text file) h
event_spelled (directory_facts d) b text h = facts_spelled d b text h
event_spelled (begin_object at) b text h = object_spelled (position_of at) b text h
event_spelled (begin_collection at count) b text h = object_spelled (position_of at) b text h
event_spelled (end_object at) b text h = (text, h, refl)
event_spelled (begin_array at count) b text h = array_spelled (position_of at) b text h
event_spelled (end_array at) b text h = (text, h, refl)
event_spelled end_text b text h = end_spelled b text h

events_spelled : (events : List Event) → IsText (read_events events nothing) (print event_text events)
events_spelled [] = refl
events_spelled (event ∷ events) =
    event_spelled event (read_events events nothing) (print event_text events) (events_spelled events)

-- the text of events that describe a value is the text of that value, and a newline
pub value_spelled : (events : List Event) (x : Value) → value_of events ≡ Some x
    → print event_text events ≡ spelling x ++ codes "\n"
value_spelled events x e = go (read_events events nothing) (events_spelled events) e
  where
    same : (y z : Value) → Some y ≡ Some z → y ≡ z
    same y z e = cc

    go : (b : Behind) → IsText b (print event_text events) → whole_value b ≡ Some x
        → print event_text events ≡ spelling x ++ codes "\n"
    go (whole y) h e = h ∙ ap (λ (l : Value). spelling l ++ codes "\n") (same y x e)
    go b h e = cc
