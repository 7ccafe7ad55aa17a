-- An index that was read, written and read again is written as it was.
use Rattle.std.proofs.Common.{◌≡◌, ℕ, ◌+◌, Bool, true, false, not, cond, eqb, List, [], ◌∷◌, ◌++◌, length, Option}
use Rattle.std.proofs.Common.{None, Ok, refl, sym, ap, subst, ◌∙◌}
use Rattle.std.specs.Prelude.{◌||◌, ◌&&◌, codes, replicate, IfSome}
use Rattle.std.specs.List.{flat_map}
use Rattle.std.specs.Option.{option_map}
use Rattle.index_parts.specs.Digest.{digest}
use Rattle.index_parts.specs.Id.{id_len}
use Rattle.index_parts.specs.declared.hash.Kind.{Kind}
use Rattle.index_parts.specs.declared.hash.ObjectId.{ObjectId}
use Rattle.entry_fields.specs.declared.entry.stat.FileTime.{FileTime}
use Rattle.index_extensions.specs.EndMarker.{heads}
use Rattle.index_extensions.specs.Encoding.{item_bytes, marker_item}
use Rattle.index_extensions.specs.Walk.{Item}
use Rattle.ext_tree.specs.GitOrder.{in_git_order}
use Rattle.ext_tree.specs.StoredTree.{stored_node}
use Rattle.ext_tree.specs.Tree.{Node}
use Rattle.entry_list.specs.EntryImage.{chosen_version, entries_in, header_bytes, stored_record, stored_records}
use Rattle.entry_list.specs.EntryImage.{written}
use Rattle.entry_list.specs.Record.{Record, AreBytes, has_directory}
use Rattle.entry_list.proofs.ReadRecords.{AreKept}
use Rattle.ext_encode.specs.Chosen.{Extensions as Chosen, items}
use Rattle.ext_encode.specs.Marked.{marker_if}
use Rattle.entry_list.specs.declared.Version.{Version}
use Rattle.ext_small.specs.FsMonitor.{Monitor}
use Rattle.ext_small.specs.ResolveUndo.{PathStages}
use Rattle.ext_untracked.specs.Untracked.{Cache}
use Rattle.index_model.specs.declared.decode.Options.{Options as ReadOptions}
use Rattle.index_model.specs.declared.write.Extensions.{Extensions}
use Rattle.index_model.specs.declared.write.Options.{Options}
use Rattle.index_model.specs.Answer.{IsAnswer}
use Rattle.index_model.specs.Contents.{Contents}
use Rattle.index_model.specs.Image.{asks_for, body, chosen_extensions, entries_bytes, entries_end, has_marker, image, image_version}
use Rattle.index_model.specs.Image.{fits_written, is_kept, extension_items, unmarked}
use Rattle.index_model.specs.Kept.{AreWellFormed, kept, tree_and_mark, where_fit}
use Rattle.index_model.specs.Outcome.{Outcome}
use Rattle.index_model.specs.Storable.{IsWritable, IsUnmistakable}
use Rattle.index_model.specs.Stored.{expected, kept_value}
use Rattle.index_model.proofs.KeptExtensions.{all_written, cache_again, count_again, monitor_again, same_cache, same_monitor}
use Rattle.index_model.proofs.KeptExtensions.{ordered_whole, tree_stays, where_twice}
use Rattle.index_model.proofs.OnceAnswers.{answer_one}
use Rattle.index_model.proofs.ReadValues.{same_value, IsReadValue, answer_read}
use Rattle.index_model.proofs.RoundTrip.{written_reads_back}

-- ---- the parts of an image: the hash algorithm, the records, the extensions, and whether an end marker follows them

abbrev marks : Bool → Kind → List Record → List Item → Options → List Item
marks marker kind rs is options = cond marker
    (marker_item kind (12 + length (entries_in (chosen_version options.version rs) [] (written rs))) (heads is) ∷ []) []

abbrev bytes_before : Bool → Kind → List Record → List Item → Options → List ℕ
bytes_before marker kind rs is options =
    (header_bytes (chosen_version options.version rs) (length (written rs))
    ++ (entries_in (chosen_version options.version rs) [] (written rs) ++ flat_map item_bytes is))
    ++ flat_map item_bytes (marks marker kind rs is options)

abbrev image_of : Bool → Kind → List Record → List Item → Options → List ℕ
image_of marker kind rs is options = bytes_before marker kind rs is options
    ++ cond options.skip_hash (replicate (id_len kind) 0) (digest kind (bytes_before marker kind rs is options))

marks_are : (b : Bool) (v : Contents) (options : Options)
    → marker_if b v.kind (entries_end v options) (chosen_extensions v options) ≡ marks b v.kind v.records (extension_items v options) options
marks_are true v options = refl
marks_are false v options = refl

image_parts : (v : Contents) (options : Options)
    → image v options ≡ image_of (has_marker v options) v.kind v.records (extension_items v options) options
unfolding body unmarked
image_parts v options =
    ap (λ (ms : List Item). let before = (header_bytes (image_version v options) (length (written v.records))
    ++ (entries_bytes v options ++ flat_map item_bytes (extension_items v options))) ++ flat_map item_bytes ms in
    before ++ cond options.skip_hash (replicate (id_len v.kind) 0) (digest v.kind before))
    (marks_are (has_marker v options) v options)

same_image : (v w : Contents) (options : Options) → v.kind ≡ w.kind → v.records ≡ w.records
    → extension_items v options ≡ extension_items w options → has_marker v options ≡ has_marker w options
    → image v options ≡ image w options
same_image v w options k r i m =
    image_parts v options
    ∙ ap (λ (x : Bool). image_of x v.kind v.records (extension_items v options) options) m
    ∙ ap (λ (x : Kind). image_of (has_marker w options) x v.records (extension_items v options) options) k
    ∙ ap (λ (x : List Record). image_of (has_marker w options) w.kind x (extension_items v options) options) r
    ∙ ap (λ (x : List Item). image_of (has_marker w options) w.kind w.records x options) i ∙ sym (image_parts w options)

-- ---- what a file keeps of a value that was read

records_stay : (kind : Kind) (rs : List Record) → AreKept kind rs → stored_records rs ≡ rs
records_stay kind [] h = refl
records_stay kind (r ∷ rs) h =
    let stays : stored_record r ≡ r = h.0.stays in
    rw h.0.unmarked (ap (λ (x : Record). x ∷ stored_records rs) stays
    ∙ ap (λ (xs : List Record). r ∷ xs) (records_stay kind rs h.1))

abbrev of_parts : Option Node → Option (List PathStages) → Option Cache → Option Monitor → Bool → Chosen
of_parts t u c m s = record { tree = t; resolve_undo = u; untracked = c; fs_monitor = m; sparse = s }

same_parts : (t v : Option Node) (u : Option (List PathStages)) (c d : Option Cache) (m n : Option Monitor) (a b : Bool)
    → t ≡ v → c ≡ d → m ≡ n → a ≡ b → of_parts t u c m a ≡ of_parts v u d n b
same_parts t v u c d m n a b h i j k = rw (h, i, j, k) refl

-- what a reader has of a value's extensions, by whether all is kept, and whether a cached tree is asked for
abbrev chosen_by : Bool → Bool → Bool → ℕ → Outcome → Chosen
chosen_by all asked fit count o = cond all (kept fit count o) (tree_and_mark asked o)

abbrev read_of : Kind → Chosen → Bool → Outcome → Outcome
read_of kind e sparse o = record o {
  tree = option_map (stored_node kind) e.tree;
  link = None;
  resolve_undo = e.resolve_undo;
  untracked = e.untracked;
  fs_monitor = e.fs_monitor;
  sparse = sparse;
}

chosen_again : (all asked fit : Bool) (more count : ℕ) (kind : Kind) (o : Outcome) (sparse : Bool) → more ≡ count
    → sparse ≡ o.sparse → IfSome o.tree (λ t. stored_node kind t ≡ t)
    → chosen_by all asked true more (read_of kind (chosen_by all asked fit count o) sparse o)
    ≡ chosen_by all asked fit count o
chosen_again true asked fit more count kind o sparse n s h =
    same_parts _ _ o.resolve_undo _ _ _ _ _ _ (ap (option_map in_git_order) (ordered_whole kind fit o.tree h))
    (cache_again fit o.untracked)
    (monitor_again fit more count o.fs_monitor n) s
chosen_again false asked fit more count kind o sparse n s h =
    same_parts _ _ None _ _ _ _ _ _ (ap (where_fit asked) (tree_stays kind asked o.tree h) ∙ where_twice asked o.tree)
    refl refl s

had_by : (all had other : Bool) → all ≡ true → cond all had other ≡ had
had_by all had other e = ap (λ (k : Bool). cond k had other) e

marker_stays : (all asked new had : Bool) (rs ss : List Record) (xs ys : List Item) → rs ≡ ss → xs ≡ ys
    → (all ≡ true → new ≡ had) → cond all new (not (eqb (length rs) 0) && (asked && not (eqb (length xs) 0)))
    ≡ cond all had (not (eqb (length ss) 0) && (asked && not (eqb (length ys) 0)))
marker_stays true asked new had rs ss xs ys r i h = h refl
marker_stays false asked new had rs ss xs ys r i h = rw (r, i) refl

-- what reading an image of such a value gives has the same image, by all options that choose the same extensions
expected_stays : (kind : Kind) (bytes : List ℕ) (v : Contents) (options other : Options) (time : FileTime)
    → other.extensions ≡ options.extensions → IsReadValue kind bytes v
    → image (expected v options time) other ≡ image v other
expected_stays kind bytes v options other time same h =
    let e : Contents = expected v options time in
    let all : Bool = is_kept other.extensions in
    let asked : Bool = asks_for other.extensions (codes "TREE") in
    let rs : stored_records v.records ≡ v.records = records_stay kind v.records h.kept in
    let tree : IfSome v.extensions.tree (λ t. stored_node v.kind t ≡ t) =
    subst (λ (k : Kind). IfSome v.extensions.tree (λ t. stored_node k t ≡ t)) (sym h.is_kind) h.tree in
    let mark : e.extensions.sparse ≡ v.extensions.sparse =
    ap (λ (xs : List Record). v.extensions.sparse || has_directory xs) rs ∙ h.sparse in
    let before : chosen_by all asked (fits_written e) (length (written e.records)) e.extensions ≡ chosen_by all asked
    true (length (written e.records)) (read_of v.kind (chosen_by all asked (fits_written v)
    (length (written v.records)) v.extensions) e.extensions.sparse e.extensions) =
    ap (λ (fit : Bool). chosen_by all asked fit (length (written e.records)) e.extensions) (all_written v.records)
    ∙ ap (λ (x : Extensions). chosen_by all asked true (length (written e.records)) (read_of v.kind
    (chosen_by (is_kept x) (asks_for x (codes "TREE")) (fits_written v) (length (written v.records)) v.extensions)
    e.extensions.sparse e.extensions)) (sym same) in
    let again : chosen_extensions e other ≡ chosen_extensions v other =
    before ∙ chosen_again all asked (fits_written v) (length (written e.records)) (length (written v.records)) v.kind v.extensions
    e.extensions.sparse (count_again v.records) mark tree in
    let is : extension_items e other ≡ extension_items v other = ap (items v.kind) again in
    let had : all ≡ true → has_marker v options ≡ v.extensions.had_end_marker = λ k.
    had_by (is_kept options.extensions) v.extensions.had_end_marker _ (sym (ap is_kept same) ∙ k) in
    let marker : has_marker e other ≡ has_marker v other = marker_stays all (asks_for other.extensions (codes "EOIE"))
    (has_marker v options) v.extensions.had_end_marker e.records v.records (extension_items e other) (extension_items v
    other) rs is
    had in
    same_image e v other refl rs is marker

-- ---- what is kept is what was read

-- a value with these records and extensions, at this time, by this version
abbrev with_all : Contents → FileTime → Version → List Record → Option Node → Chosen → Bool → Bool → Contents
with_all v time version rs t e sparse marker = record {
  kind = v.kind;
  time = time;
  version = version;
  records = rs;
  extensions = record {
    tree = t;
    link = None;
    resolve_undo = e.resolve_undo;
    untracked = e.untracked;
    fs_monitor = e.fs_monitor;
    sparse = sparse;
    had_end_marker = marker;
    had_offset_table = false;
  };
  fit = true;
}

-- A value was read, and its extensions match and are well formed. If all of them are written, a reader gets all of it,
-- except a link and an offset table.
pub kept_is_whole : (kind : Kind) (bytes : List ℕ) (v : Contents) (options : Options) (time : FileTime)
    → IsReadValue kind bytes v → is_kept options.extensions ≡ true → v.fit ≡ true
    → AreWellFormed (length (written v.records)) v.extensions
    → expected v options time ≡ kept_value v time (image_version v options)
kept_is_whole kind bytes v options time h all fit well =
    let n : ℕ = length (written v.records) in
    let o : Outcome = v.extensions in
    let version : Version = image_version v options in
    let rs : stored_records v.records ≡ v.records = records_stay kind v.records h.kept in
    let tree : IfSome o.tree (λ t. stored_node v.kind t ≡ t) =
    subst (λ (k : Kind). IfSome o.tree (λ t. stored_node k t ≡ t)) (sym h.is_kind) h.tree in
    let mark : (o.sparse || has_directory (stored_records v.records)) ≡ o.sparse =
    ap (λ (xs : List Record). o.sparse || has_directory xs) rs ∙ h.sparse in
    let whole : eqb (length (written v.records)) (length v.records) ≡ true =
    subst (λ (l : List Record). eqb (length (written l)) (length l) ≡ true) rs (all_written v.records) in
    let fits : fits_written v ≡ true =
    ap (λ (b : Bool). b && eqb (length (written v.records)) (length v.records)) fit ∙ whole in
    let ordered : Option Node = option_map in_git_order o.tree in
    let e : chosen_extensions v options ≡ of_parts ordered o.resolve_undo o.untracked o.fs_monitor o.sparse =
    ap (λ (k : Bool). chosen_by k (asks_for options.extensions (codes "TREE")) (fits_written v) n o) all
    ∙ ap (λ (b : Bool). kept b n o) fits
    ∙ same_parts _ _ o.resolve_undo _ _ _ _ _ _ refl (same_cache o.untracked well.names)
    (same_monitor n o.fs_monitor well.bits) refl in
    ap (λ (xs : List Record). with_all v time version xs (option_map (stored_node v.kind) (chosen_extensions v
    options).tree)
    (chosen_extensions v options) (o.sparse || has_directory xs) (has_marker v options)) rs
    ∙ ap (λ (b : Bool). with_all v time version v.records (option_map (stored_node v.kind) (chosen_extensions v
    options).tree)
    (chosen_extensions v options) b (has_marker v options)) h.sparse
    ∙ ap (λ (x : Chosen). with_all v time version v.records (option_map (stored_node v.kind) x.tree) x o.sparse
    (has_marker v options)) e
    ∙ ap (λ (t : Option Node). with_all v time version v.records t
    (of_parts ordered o.resolve_undo o.untracked o.fs_monitor o.sparse) o.sparse (has_marker v options))
    (ordered_whole v.kind true o.tree tree)
    ∙ ap (λ (b : Bool). with_all v time version v.records o.tree
    (of_parts ordered o.resolve_undo o.untracked o.fs_monitor o.sparse) o.sparse b)
    (had_by (is_kept options.extensions) o.had_end_marker _ all)

-- what a value that was read, written and read again is
reread_is : (kind : Kind) (time again : FileTime) (first second : ReadOptions) (bytes : List ℕ)
    (v w : Contents) (c d : Option ObjectId) (options : Options) → AreBytes bytes
    → IsAnswer kind time first bytes (Ok (v, c))
    → IsWritable v options → IsUnmistakable v options → second.alloc_limit_bytes ≡ None
    → second.expected_checksum ≡ None
    → IsAnswer kind again second (image v options) (Ok (w, d)) → w ≡ expected v options again
reread_is kind time again first second bytes v w c d options are read writable unmistakable limit check reread =
    let facts = answer_read kind time first bytes v c read in
    let back = written_reads_back v options again second (facts.storable are) (λ k. facts.keepable are) writable
    unmistakable limit check in
    let there =
    subst (λ (k : Kind). IsAnswer k again second (image v options) (Ok (w, d))) (sym facts.is_kind) reread in
    same_value w (expected v options again) d _ (answer_one v.kind again second (image v options) _ _ there back)

-- A value that was read, written and read again is written as before, by all options that choose the same extensions.
pub version_change_loses_nothing : (kind : Kind) (time again : FileTime) (first second : ReadOptions) (bytes : List ℕ)
    (v w : Contents) (c d : Option ObjectId) (options : Options) → AreBytes bytes
    → IsAnswer kind time first bytes (Ok (v, c))
    → IsWritable v options → IsUnmistakable v options → second.alloc_limit_bytes ≡ None
    → second.expected_checksum ≡ None
    → IsAnswer kind again second (image v options) (Ok (w, d)) → (other : Options)
    → other.extensions ≡ options.extensions → image w other ≡ image v other
version_change_loses_nothing kind time again first second bytes v w c d options are read writable unmistakable limit
    check reread other extensions =
    ap (λ (x : Contents). image x other) (reread_is kind time again first second bytes v w c d options are read writable
    unmistakable limit check reread)
    ∙ expected_stays kind bytes v options other again extensions (answer_read kind time first bytes v c read)

-- a value that was read, written with all that fits, and read again, is what was read
pub kept_reads_back : (kind : Kind) (time again : FileTime) (first second : ReadOptions) (bytes : List ℕ)
    (v w : Contents) (c d : Option ObjectId) (options : Options) → AreBytes bytes
    → IsAnswer kind time first bytes (Ok (v, c))
    → IsWritable v options → IsUnmistakable v options → second.alloc_limit_bytes ≡ None
    → second.expected_checksum ≡ None
    → IsAnswer kind again second (image v options) (Ok (w, d)) → is_kept options.extensions ≡ true
    → v.fit ≡ true → AreWellFormed (length (written v.records)) v.extensions → w ≡ kept_value v again (image_version v options)
kept_reads_back kind time again first second bytes v w c d options are read writable unmistakable limit check reread all
    fit well =
    reread_is kind time again first second bytes v w c d options are read writable unmistakable limit check reread
    ∙ kept_is_whole kind bytes v options again (answer_read kind time first bytes v c read) all fit well

-- a value that was read, written, read and written again by the same options is the same bytes twice
pub rewrite_is_canonical : (kind : Kind) (time again : FileTime) (first second : ReadOptions) (bytes : List ℕ)
    (v w : Contents) (c d : Option ObjectId) (options : Options) → AreBytes bytes
    → IsAnswer kind time first bytes (Ok (v, c))
    → IsWritable v options → IsUnmistakable v options → second.alloc_limit_bytes ≡ None
    → second.expected_checksum ≡ None
    → IsAnswer kind again second (image v options) (Ok (w, d)) → image w options ≡ image v options
rewrite_is_canonical kind time again first second bytes v w c d options are read writable unmistakable limit check
    reread =
    version_change_loses_nothing kind time again first second bytes v w c d options are read writable unmistakable limit
    check reread options refl
