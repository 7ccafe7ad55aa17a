-- An index as bytes (gitformat-index): the encoding that is written for a value.
use Rattle.std.specs.Prelude.{ℕ, ◌+◌, ◌==◌, nat_eq, ◌&&◌, not, Bool, true, false, List, [], ◌++◌, length}
use Rattle.std.specs.Prelude.{replicate, codes, if◌then◌else◌}
use Rattle.std.specs.Cmp.Lexicographic.{pointwise}
use Rattle.std.specs.List.{flat_map}
use Rattle.index_parts.specs.Digest.{digest}
use Rattle.index_parts.specs.Id.{id_len}
use Rattle.index_extensions.specs.Encoding.{item_bytes}
use Rattle.ext_encode.specs.Chosen.{Extensions as Chosen, items}
use Rattle.ext_encode.specs.Marked.{marker_if}
use Rattle.index_extensions.specs.Walk.{Item}
use Rattle.entry_list.specs.EntryImage.{chosen_version, entries_in, header_bytes, written}
use Rattle.entry_list.specs.Header.{header_len}
use Rattle.entry_list.specs.declared.Version.{Version}
use Rattle.index_model.specs.declared.write.Extensions.{Extensions}
use Rattle.index_model.specs.declared.write.Extensions.TheVariants as extensions
use Rattle.index_model.specs.declared.write.Options.{Options}
use Rattle.index_model.specs.Contents.{Contents}
use Rattle.index_model.specs.Kept.{kept, tree_and_mark}

-- ---- header and entries

-- the version that is written
abbrev pub image_version : Contents → Options → Version
image_version v options = chosen_version options.version v.records

-- the entries that are written, in their order
abbrev pub entries_bytes : Contents → Options → List ℕ
entries_bytes v options = entries_in (image_version v options) [] (written v.records)

-- the offset after the entries
abbrev pub entries_end : Contents → Options → ℕ
entries_end v options = header_len + length (entries_bytes v options)

-- ---- the extensions ("Extensions")

-- whether all extensions that match are written
abbrev pub is_kept : Extensions → Bool
is_kept extensions.Kept = true
is_kept extensions.All = false
is_kept (extensions.Given tree marker) = false
is_kept extensions.None = false

-- whether an optional extension is requested
abbrev pub asks_for : Extensions → List ℕ → Bool
asks_for extensions.Kept signature = true
asks_for extensions.All signature = true
asks_for (extensions.Given tree marker) signature =
    if pointwise nat_eq signature (codes "TREE") then tree else if pointwise nat_eq signature (codes "EOIE") then marker
    else false
asks_for extensions.None signature = false

-- whether the extensions about the list of entries match those that are written: they match all of them, and none is
-- omitted
abbrev pub fits_written : Contents → Bool
fits_written v = v.fit && (length (written v.records) == length v.records)

-- The extensions that are chosen. They are all that match the entries that are written; or the cache tree, if it is
-- requested, and the mark of a sparse index, which no option omits.
abbrev pub chosen_extensions : Contents → Options → Chosen
chosen_extensions v options =
    if is_kept options.extensions then kept (fits_written v) (length (written v.records)) v.extensions
    else tree_and_mark (asks_for options.extensions (codes "TREE")) v.extensions

-- all extensions before the end marker
abbrev pub extension_items : Contents → Options → List Item
extension_items v options = items v.kind (chosen_extensions v options)

-- An end marker is written again if there was one and all extensions are. Otherwise it comes after other extensions, if
-- there are entries, written or omitted, and it is requested.
abbrev pub has_marker : Contents → Options → Bool
has_marker v options =
    if is_kept options.extensions then v.extensions.had_end_marker
    else not (length v.records == 0) &&
    (asks_for options.extensions (codes "EOIE") && not (length (extension_items v options) == 0))

-- an end marker that readers follow comes after other extensions
abbrev pub marks_extensions : Contents → Options → Bool
marks_extensions v options = has_marker v options && not (length (extension_items v options) == 0)

-- the end marker with the offset after the entries, if it is written
abbrev pub marker_of : Contents → Options → List Item
marker_of v options = marker_if (has_marker v options) v.kind (entries_end v options) (chosen_extensions v options)

-- ---- the file

-- all bytes before the end marker
unfoldable pub unmarked : Contents → Options → List ℕ
unmarked v options =
    header_bytes (image_version v options) (length (written v.records)) ++
    (entries_bytes v options ++ flat_map item_bytes (extension_items v options))

-- all bytes before the trailer
unfoldable pub body : Contents → Options → List ℕ
body v options = unmarked v options ++ flat_map item_bytes (marker_of v options)

-- the digest of all bytes before it, or zeros if it is omitted
abbrev pub trailer : Contents → Options → List ℕ
trailer v options = if options.skip_hash then replicate (id_len v.kind) 0 else digest v.kind (body v options)

abbrev pub image : Contents → Options → List ℕ
image v options = body v options ++ trailer v options
