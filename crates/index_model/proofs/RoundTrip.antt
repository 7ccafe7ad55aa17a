-- The answer to the bytes that are written is what a file keeps.
use Rattle.std.proofs.Common.{◌≡◌, ℕ, ◌+◌, ◌-◌, ◌*◌, ◌/◌, ◌^◌, ◌<◌, ◌≤◌, Bool, true, false, not, cond, ltb, List, []}
use Rattle.std.proofs.Common.{◌∷◌, ◌++◌, length, map, drop, Option, Some, None, Ok, All, refl, sym, ap, subst, ◌∙◌}
use Rattle.std.proofs.Common.{append_assoc, append-nil, eqb, length-append, arith}
use Rattle.std.specs.Prelude.{◌≢◌, ◌||◌, replicate, codes}
use Rattle.std.specs.List.{flat_map, list_any, AllByRecursion}
use Rattle.std.proofs.lemmas.Bool.{le-ltb, and_parts}
use Rattle.std.proofs.lemmas.Grind.{flat_map-append}
use Rattle.std.proofs.lemmas.List.{length-map, length-replicate}
use Rattle.std.proofs.lemmas.List.Elements.{All-head, All-tail, recursion_from_All}
use Rattle.std.proofs.lemmas.Nat.{le-div}
use Rattle.index_parts.proofs.Digests.{length-digest}
use Rattle.index_parts.specs.Digest.{digest}
use Rattle.entry_fields.specs.Flags.{is_extended}
use Rattle.index_parts.specs.Id.{id_len, id_kind}
use Rattle.index_parts.specs.declared.hash.Kind.{Kind}
use Rattle.index_parts.specs.declared.hash.Kind.TheVariants as kinds
use Rattle.index_parts.specs.declared.hash.ObjectId.{ObjectId}
use Rattle.entry_fields.specs.declared.entry.stat.FileTime.{FileTime}
use Rattle.index_extensions.specs.EndMarker.{heads, EndsInMarker, IsMarker}
use Rattle.index_extensions.specs.Encoding.{item_bytes, marker_item}
use Rattle.index_extensions.specs.Walk.{Item, AreItems}
use Rattle.ext_encode.specs.Marked.{marker_if}
use Rattle.ext_encode.proofs.Wholes.{all_whole, some_whole}
use Rattle.index_extensions.proofs.Walks.{no_empty}
use Rattle.index_extensions.proofs.WrittenItems.{IsWhole, items_there, marker_there}
use Rattle.entry_list.specs.declared.Version.{Version}
use Rattle.entry_list.specs.declared.Version.TheVariants.{V2, V3, V4}
use Rattle.entry_list.specs.declared.write.VersionChoice.{VersionChoice}
use Rattle.entry_list.specs.declared.write.VersionChoice.TheVariants as choices
use Rattle.entry_list.specs.Entries.{AreEntries}
use Rattle.entry_list.specs.EntryImage.{is_removed, written, header_bytes, stored_record, version_by}
use Rattle.entry_list.specs.Header.{header_of, count_of}
use Rattle.entry_list.specs.Limits.{block_len, most_entries, smallest_entry, is_too_large}
use Rattle.entry_list.specs.Record.{Record, IsSized, has_directory}
use Rattle.entry_list.proofs.Again.{IsStorableIn}
use Rattle.entry_list.proofs.EntriesAgain.{HasPath, entries_again, smallest_entries}
use Rattle.entry_list.proofs.Words.{be_be32}
use Rattle.index_model.specs.declared.decode.Options.{Options as ReadOptions}
use Rattle.index_model.specs.declared.write.Options.{Options}
use Rattle.index_model.specs.Answer.{Answer, trailer_checksum, IsVerified, answer_contents, whole, IsEnding, walked}
use Rattle.index_model.specs.Answer.{IsBehindHeader, has, IsCounted, IsAnswer}
use Rattle.index_model.specs.Image.{asks_for, is_kept, image_version, entries_bytes, entries_end, chosen_extensions, extension_items, has_marker}
use Rattle.index_model.specs.Image.{fits_written, marks_extensions, marker_of, unmarked, body, trailer, image}
use Rattle.index_model.specs.Kept.{kept, read_as, tree_and_mark}
use Rattle.index_model.specs.Outcome.{Outcome, AreSound, IsOutcome}
use Rattle.index_model.specs.Contents.{Contents}
use Rattle.index_model.specs.Storable.{CanEncode, IsKeepable, IsStorable, IsWritable, IsUnmistakable}
use Rattle.index_model.specs.Stored.{expected}
use Rattle.index_model.proofs.WrittenExtensions.{all_sound, chosen_spellable, read_back}

-- ---- the records that are written can be read again

kept_by : (b : Bool) (P : Record → Type 0) (r : Record) (rs : List Record) → P r → AllByRecursion P rs
    → AllByRecursion P (cond b (r ∷ rs) rs)
kept_by true P r rs p ps = (p, ps)
kept_by false P r rs p ps = ps

storable_from : (kind : Kind) (rs : List Record) → All (λ r. id_kind r.id ≡ kind) rs
    → All (λ r. 4095 ≤ length r.path → All (λ b. b ≢ 0) r.path) rs → All IsSized rs
    → AllByRecursion (IsStorableIn kind) (written rs)
storable_from kind [] i p f = tt
storable_from kind (r ∷ rs) i p f =
    let here : IsStorableIn kind r = record {
      id = All-head (λ x. id_kind x.id ≡ kind) r rs i;
      path =
          All-head (λ x. 4095 ≤ length x.path → All (λ b. b ≢ 0) x.path) r rs p;
      fits = All-head IsSized r rs f;
    } in
    kept_by (not (is_removed r.flags)) (IsStorableIn kind) r (written rs) here
    (storable_from kind rs (All-tail (λ x. id_kind x.id ≡ kind) r rs i)
    (All-tail (λ x. 4095 ≤ length x.path → All (λ b. b ≢ 0) x.path) r rs p) (All-tail IsSized r rs f))

fewer_by : (b : Bool) (r : Record) (rs : List Record) → length (cond b (r ∷ rs) rs) ≤ 1 + length rs
fewer_by true r rs = omega arith
fewer_by false r rs = omega arith

fewer_written : (rs : List Record) → length (written rs) ≤ length rs
fewer_written [] = omega arith
fewer_written (r ∷ rs) = omega (arith, fewer_by (not (is_removed r.flags)) r (written rs), fewer_written rs)

-- These bytes are read as these records, as entries of a version, whatever follows them. None has fewer bytes than the
-- smallest entry.
record AreWritten (version : Version) (kind : Kind) (rs : List Record) (es : List ℕ) : Type 0 where
  read : (rest : List ℕ) → 1 ≤ length rest → AreEntries version kind None (es ++ rest) (map stored_record rs) rest
  room : length rs * smallest_entry kind version ≤ length es

each_path : (version : Version) (rs : List Record) → ((r : Record) → HasPath version r)
    → AllByRecursion (HasPath version) rs
each_path version [] h = tt
each_path version (r ∷ rs) h = (h r, each_path version rs h)

paths_by : (choice : VersionChoice) (extended : Bool) (v : Contents) → CanEncode choice v
    → AllByRecursion (HasPath (version_by choice extended)) (written v.records)
paths_by choices.Smallest true v h = each_path V3 (written v.records) (λ r. tt)
paths_by choices.Smallest false v h = each_path V2 (written v.records) (λ r. tt)
paths_by choices.V4 extended v h = recursion_from_All (λ r. All (λ b. b ≢ 0) r.path) (written v.records) h

-- the entries of an image, in the version that it has
entries_there : (v : Contents) (options : Options) → IsStorable v → CanEncode options.version v
    → length (entries_bytes v options) < 2 ^ 64
    → AreWritten (image_version v options) v.kind (written v.records) (entries_bytes v options)
entries_there v options h paths small =
    let version : Version = image_version v options in
    let each = storable_from v.kind v.records h.ids h.paths h.fits in
    let spelled = paths_by options.version (list_any (λ r. is_extended r.flags) v.records) v paths in
    record {
      read = λ rest some.
          entries_again version v.kind None [] (written v.records) rest refl each spelled (omega arith) some;
      room = smallest_entries version v.kind [] (written v.records) each;
    }

-- ---- the header

header_again : (version : Version) (kind : Kind) (n : ℕ) (rest : List ℕ) → id_len kind ≤ length rest
    → header_of kind (header_bytes version n ++ rest) ≡ Ok version
header_again V2 kind n rest le =
    let long : ltb (length (header_bytes V2 n ++ rest)) (12 + id_len kind) ≡ false = le-ltb _ _ (omega arith) in
    rw long refl
header_again V3 kind n rest le =
    let long : ltb (length (header_bytes V3 n ++ rest)) (12 + id_len kind) ≡ false = le-ltb _ _ (omega arith) in
    rw long refl
header_again V4 kind n rest le =
    let long : ltb (length (header_bytes V4 n ++ rest)) (12 + id_len kind) ≡ false = le-ltb _ _ (omega arith) in
    rw long refl

count_again : (version : Version) (n : ℕ) (rest : List ℕ) → n < 2 ^ 32 → count_of (header_bytes version n ++ rest) ≡ n
count_again version n rest lt = be_be32 n lt

behind_header : (version : Version) (n : ℕ) (rest : List ℕ)
    → (drop 12 (header_bytes version n ++ rest) ≡ rest) × (length (header_bytes version n ++ rest) ≡ 12 + length rest)
behind_header version n rest = (refl, omega arith)

-- ---- the parts of an answer

some_entry : (version : Version) (kind : Kind) → 0 < smallest_entry kind version
some_entry V2 kinds.Sha1 = omega arith
some_entry V3 kinds.Sha1 = omega arith
some_entry V4 kinds.Sha1 = omega arith
some_entry V2 kinds.Sha256 = omega arith
some_entry V3 kinds.Sha256 = omega arith
some_entry V4 kinds.Sha256 = omega arith

no_limit : (limit : Option ℕ) (count len : ℕ) (offset : Option ℕ) (kind : Kind) (version : Version) → limit ≡ None
    → is_too_large limit count len offset kind version ≡ false
no_limit limit count len offset kind version e = rw e refl

unchecked : (expected_id actual : Option ObjectId) (a : Answer) → expected_id ≡ None → IsVerified expected_id actual a a
unchecked expected_id actual a e = rw e refl

-- the parts of a file
record AreParts (version : Version) (kind : Kind) (rs : List Record) (es : List ℕ) (items : List Item)
    (ending : List ℕ) : Type 0 where
  entries : AreWritten version kind rs es
  few : length rs < 2 ^ 32
  whole_items : AllByRecursion IsWhole items
  sound : AreSound kind items
  len : length ending ≡ id_len kind

abbrev bytes_of : Version → List Record → List ℕ → List Item → List ℕ → List ℕ
bytes_of version rs es items ending = header_bytes version (length rs) ++ (es ++ (flat_map item_bytes items ++ ending))

some_id : (kind : Kind) → 1 ≤ id_len kind
some_id kinds.Sha1 = omega arith
some_id kinds.Sha256 = omega arith

-- the answer to a file of such parts is that of the parts, if a marker leaves the entries their room
file_again : (version : Version) (kind : Kind) (time : FileTime) (options : ReadOptions) (rs : List Record)
    (es : List ℕ) (items : List Item) (ending : List ℕ) (o : Outcome) (offset : Option ℕ)
    → AreParts version kind rs es items ending
    → IsOutcome kind None items o → options.alloc_limit_bytes ≡ None → options.expected_checksum ≡ None
    → IsMarker kind (bytes_of version rs es items ending) offset
    → length es ≤ block_len (length (bytes_of version rs es items ending)) offset kind
    → IsAnswer kind time options (bytes_of version rs es items ending)
    (Ok (answer_contents kind time version (map stored_record rs) o, trailer_checksum kind ending))
file_again version kind time options rs es items ending o offset h out limit check marker room =
    let xs : List ℕ = flat_map item_bytes items in
    let behind : List ℕ = xs ++ ending in
    let rest : List ℕ = es ++ behind in
    let bytes : List ℕ = bytes_of version rs es items ending in
    let a : Answer = Ok (answer_contents kind time version (map stored_record rs) o, trailer_checksum kind ending) in
    let after = behind_header version (length rs) rest in
    let rest_len : length rest ≡ length es + length behind = length-append es behind in
    let behind_len : length behind ≡ length xs + length ending = length-append xs ending in
    let some : 1 ≤ length behind = omega (arith, h.len, some_id kind) in
    let count : count_of bytes ≡ length rs = count_again version (length rs) rest h.few in
    let header : header_of kind bytes ≡ Ok version =
    header_again version kind (length rs) rest (omega (arith, h.len)) in
    let wide : length rs ≤ block_len (length bytes) offset kind / smallest_entry kind version =
    le-div (length rs) (block_len (length bytes) offset kind) (smallest_entry kind version)
    (some_entry version kind) (omega (arith, h.entries.room)) in
    let enough : ltb (most_entries (length bytes) offset kind version) (count_of bytes) ≡ false =
    le-ltb _ _ (omega arith) in
    let small = no_limit options.alloc_limit_bytes (count_of bytes) (length bytes) offset kind version limit in
    let outcome : IsOutcome kind options.alloc_limit_bytes items o = rw limit out in
    let walk = subst (λ (l : List ℕ). AreItems l items []) (append-nil xs) (items_there items [] h.whole_items) in
    let last : IsEnding kind time options version (map stored_record rs) behind a =
    walked xs ending items [] refl h.len (record { items_are = walk; ended = no_empty })
    (whole o h.sound refl outcome (unchecked options.expected_checksum (trailer_checksum kind ending) a check)) in
    let read = subst (λ (l : List ℕ). AreEntries version kind None l (map stored_record rs) behind) (sym after.0)
    (h.entries.read behind some) in
    let entries : IsBehindHeader kind time options version (count_of bytes) (drop 12 bytes) a =
    has (map stored_record rs) behind read (length-map rs stored_record ∙ sym count) last in
    let counted : IsCounted offset kind time options bytes a version = rw (enough, small) entries in
    rw header (offset, marker, counted)

-- ---- the image of a value

trailer_len : (b : Bool) (kind : Kind) (l : List ℕ)
    → length (cond b (replicate (id_len kind) 0) (digest kind l)) ≡ id_len kind
trailer_len true kind l = length-replicate (id_len kind) 0
trailer_len false kind l = length-digest kind l

length-trailer : (v : Contents) (options : Options) → length (trailer v options) ≡ id_len v.kind
length-trailer v options = trailer_len options.skip_hash v.kind (body v options)

regroup : (h es x m t : List ℕ) → ((h ++ (es ++ x)) ++ m) ++ t ≡ h ++ (es ++ ((x ++ m) ++ t))
regroup h es x m t = simp append_assoc refl

body_parts : (v : Contents) (options : Options) (t : List ℕ) → body v options ++ t ≡ bytes_of (image_version v options)
    (written v.records) (entries_bytes v options) (extension_items v options ++ marker_of v options) t
unfolding body unmarked
body_parts v options t =
    let xs : List Item = extension_items v options in
    let ms : List Item = marker_of v options in
    let h : List ℕ = header_bytes (image_version v options) (length (written v.records)) in
    let es : List ℕ = entries_bytes v options in
    regroup h es (flat_map item_bytes xs) (flat_map item_bytes ms) t
    ∙ ap (λ (l : List ℕ). h ++ (es ++ (l ++ t))) (sym (flat_map-append item_bytes xs ms))

unmarked_len : (v : Contents) (options : Options) → length (unmarked v options)
    ≡ 12 + (length (entries_bytes v options) + length (flat_map item_bytes (extension_items v options)))
unfolding unmarked
unmarked_len v options =
    omega (arith, length-append (entries_bytes v options) (flat_map item_bytes (extension_items v options)))

-- ---- the end marker of an image

front_parts : (h es x m t : List ℕ) → h ++ (es ++ ((x ++ m) ++ t)) ≡ (h ++ es) ++ (x ++ (m ++ t))
front_parts h es x m t = simp append_assoc refl

first_item : (items : List Item) → not (eqb (length items) 0) ≡ true
    → (first : Item) × (others : List Item) × (items ≡ first ∷ others)
first_item [] e = absurd cc
first_item (i ∷ items) e = (i, items, refl)

-- if it has an end marker after other extensions, the marker has the offset after the entries
marked : (v : Contents) (options : Options) → v.kind ≡ kinds.Sha1 → marks_extensions v options ≡ true
    → AllByRecursion IsWhole (extension_items v options) → entries_end v options < 2 ^ 32
    → EndsInMarker v.kind (image v options) (entries_end v options)
marked v options e b each low =
    let t : List ℕ = trailer v options in
    let items : List Item = extension_items v options in
    let h : List ℕ = header_bytes (image_version v options) (length (written v.records)) in
    let es : List ℕ = entries_bytes v options in
    let n : ℕ = entries_end v options in
    let m : Item = marker_item v.kind n (heads items) in
    let one : marker_of v options ≡ m ∷ [] =
    ap (λ (k : Bool). marker_if k v.kind n (chosen_extensions v options)) (and_parts _ _ b).0 in
    let some = first_item items (and_parts _ _ b).1 in
    let len : length (h ++ es) ≡ n = omega (arith, length-append h es) in
    let made = marker_there (h ++ es) t some.0 some.1 (omega (arith, len)) (omega (arith, len))
    (subst (AllByRecursion IsWhole) some.2 each) (length-trailer v options ∙ ap id_len e) in
    let listed = subst (λ (is : List Item). EndsInMarker kinds.Sha1 ((h ++ es) ++ (flat_map item_bytes is
    ++ (item_bytes (marker_item kinds.Sha1 (length (h ++ es)) (heads is)) ++ t))) (length (h ++ es)))
    (sym some.2) made in
    let named = subst (λ (k : ℕ). EndsInMarker kinds.Sha1 ((h ++ es)
    ++ (flat_map item_bytes items ++ (item_bytes (marker_item kinds.Sha1 k (heads items)) ++ t))) k) len listed in
    let kinded = subst (λ (k : Kind). EndsInMarker k ((h ++ es)
    ++ (flat_map item_bytes items ++ (item_bytes (marker_item k n (heads items)) ++ t))) n) (sym e) named in
    let flat : flat_map item_bytes (marker_of v options) ≡ item_bytes m =
    ap (flat_map item_bytes) one ∙ append-nil (item_bytes m) in
    let whole_image : image v options ≡ (h ++ es) ++ (flat_map item_bytes items ++ (item_bytes m ++ t)) =
    body_parts v options t
    ∙ ap (λ (l : List ℕ). h ++ (es ++ (l ++ t))) (flat_map-append item_bytes items (marker_of v options)
    ∙ ap (λ (l : List ℕ). flat_map item_bytes items ++ l) flat)
    ∙ front_parts h es (flat_map item_bytes items) (item_bytes m) t in
    subst (λ (l : List ℕ). EndsInMarker v.kind l n) (sym whole_image) kinded

-- the marker that is read in an image, and the entries have room before it
record HasRoom (v : Contents) (options : Options) : Type 0 where
  offset : Option ℕ
  marker : IsMarker v.kind (image v options) offset
  room : length (entries_bytes v options) ≤ block_len (length (image v options)) offset v.kind

room_by : (v : Contents) (options : Options) (kind : Kind) (b : Bool) → v.kind ≡ kind → marks_extensions v options ≡ b
    → AllByRecursion IsWhole (extension_items v options) → entries_end v options < 2 ^ 32 → IsUnmistakable v options
    → length (entries_bytes v options) ≤ length (image v options) - id_len v.kind - 12 → HasRoom v options
room_by v options kinds.Sha256 b e m each low u room =
    record { offset = None; marker = λ place h. (let f = h.is_sha1 in absurd cc); room = room }
room_by v options kinds.Sha1 true e m each low u room =
    record { offset = Some (entries_end v options); marker = marked v options e m each low; room = omega arith }
room_by v options kinds.Sha1 false e m each low u room = record { offset = None; marker = u e m; room = room }

-- ---- the answer to an image

chosen_sparse : (v : Contents) (options : Options) → (chosen_extensions v options).sparse ≡ v.extensions.sparse
chosen_sparse v options = by (is_kept options.extensions)
  where
    by : (k : Bool) → (cond k (kept (fits_written v) (length (written v.records)) v.extensions)
        (tree_and_mark (asks_for options.extensions (codes "TREE")) v.extensions)).sparse ≡ v.extensions.sparse
    by true = refl
    by false = refl

-- reading the image of a storable value gives what is expected, and the trailer
pub written_reads_back : (v : Contents) (options : Options) (time : FileTime) (reading : ReadOptions) → IsStorable v
    → IsKeepable v options → IsWritable v options → IsUnmistakable v options
    → reading.alloc_limit_bytes ≡ None → reading.expected_checksum ≡ None
    → IsAnswer v.kind time reading (image v options)
    (Ok (expected v options time, trailer_checksum v.kind (trailer v options)))
written_reads_back v options time reading storable keepable writable unmistakable limit check =
    let version : Version = image_version v options in
    let rs : List Record = written v.records in
    let es : List ℕ = entries_bytes v options in
    let t : List ℕ = trailer v options in
    let e = chosen_extensions v options in
    let m : Bool = has_marker v options in
    let place : ℕ = entries_end v options in
    let is : List Item = extension_items v options ++ marker_of v options in
    let o : Outcome = read_as m v.kind e in
    let small : 12 + (length es + length (flat_map item_bytes (extension_items v options))) < 2 ^ 32 =
    omega (arith, writable.small, unmarked_len v options) in
    let spelled = chosen_spellable v options storable keepable (omega (arith, small)) in
    let image_is : image v options ≡ bytes_of version rs es is t = body_parts v options t in
    let parts : AreParts version v.kind rs es is t = record {
      entries = entries_there v options storable writable.paths (omega (arith, small));
      few = omega (arith, fewer_written v.records, writable.few);
      whole_items = all_whole m v.kind place e spelled.small;
      sound = all_sound m v.kind place e;
      len = length-trailer v options;
    } in
    let out = read_back m v.kind place e spelled in
    let long : length (image v options) ≡ 12 + (length es + (length (flat_map item_bytes is) + length t)) =
    ap length image_is ∙ omega (
      arith,
      length-append es (flat_map item_bytes is ++ t),
      length-append (flat_map item_bytes is) t,
    ) in
    let each = some_whole v.kind e spelled.small in
    let room = room_by v options v.kind (marks_extensions v options) refl refl each (omega (arith, small)) unmistakable
    (omega (arith, long, length-trailer v options)) in
    let marker = subst (λ (l : List ℕ). IsMarker v.kind l room.offset) image_is room.marker in
    let fits = subst (λ (l : List ℕ). length es ≤ block_len (length l) room.offset v.kind) image_is room.room in
    let read = file_again version v.kind time reading rs es is t o room.offset parts out limit check marker fits in
    let value : answer_contents v.kind time version (map stored_record rs) o ≡ expected v options time =
    ap (λ (b : Bool). record (expected v options time) {
      extensions = record (expected v options time).extensions { sparse = b || has_directory (map stored_record rs) };
    }) (chosen_sparse v options) in
    subst (λ (x : Contents). IsAnswer v.kind time reading (image v options) (Ok (x, trailer_checksum v.kind t))) value
    (subst (λ (l : List ℕ). IsAnswer v.kind time reading l
    (Ok (answer_contents v.kind time version (map stored_record rs) o, trailer_checksum v.kind t))) (sym image_is) read)
