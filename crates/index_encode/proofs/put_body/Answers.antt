use Rattle.std.proofs.Common.{◌≡◌, ◌++◌, ◌∙◌, append-nil, length, refl, sym, ap}
use Rattle.std.specs.List.{flat_map}
use Rattle.index_parts.proofs.Puts.{puts_after, puts_broken, puts_is, puts_stopped, puts_then}
use Rattle.ext_encode.specs.Chosen.{Extensions as Chosen, extensions_of, items}
use Rattle.ext_encode.proofs.Heads.{heads_are}
use Rattle.index_extensions.specs.EndMarker.{heads}
use Rattle.index_extensions.specs.Encoding.{item_bytes, marker_item}
use Rattle.entry_list.specs.EntryImage.{header_bytes, written}
use Rattle.index_model.specs.Contents.{parts_contents}
use Rattle.index_model.specs.Image.{entries_bytes, entries_end, image_version, extension_items, marker_of}
use Rattle.index_encode.proofs.Bodies.{body_pieces, marker_is, no_marker, small_end}
use Rattle.index_encode.proofs.put_body.Goals as goal

pub returns-in_err-put : goal.returns-in_err-put
returns-in_err-put g c =
    let v = parts_contents c.args.parts.now in
    let o = c.args.options in
    let rest = entries_bytes v o ++ (flat_map item_bytes (extension_items v o) ++ flat_map item_bytes (marker_of v o))
    in
    let header : c.header.result ≡ header_bytes (image_version v o) (length (written v.records)) =
    rw (c.header.ensures, c.requires.layout.is_version, c.requires.layout.is_count) refl in
    puts_broken c.from_residual.result rest c.from_residual.ensures.0 (ap (λ h. h ++ rest) header ∙ body_pieces v o)
    c.in_err-put.ensures.bytes c.in_err-put.ensures.has_failed c.in_err-put.ensures.loan

pub put_entries-requires : goal.put_entries-requires
put_entries-requires g c = record {
  small = rw (c.deref.ensures.value, c.deref-2.ensures.value, c.requires.layout.is_version)
      (small_end (parts_contents c.args.parts.now) c.args.options c.requires.layout.small);
}

pub returns-in_err-end : goal.returns-in_err-end
returns-in_err-end g c =
    let v = parts_contents c.args.parts.now in
    let o = c.args.options in
    let r = c.from_residual-in_err-end.result in
    let behind = flat_map item_bytes (extension_items v o) ++ flat_map item_bytes (marker_of v o) in
    let header : c.header.result ≡ header_bytes (image_version v o) (length (written v.records)) =
    rw (c.header.ensures, c.requires.layout.is_version, c.requires.layout.is_count) refl in
    let es = rw (c.deref.ensures.value, c.deref-2.ensures.value, c.requires.layout.is_version) at c.in_err-end.ensures.puts in
    puts_is r (ap (λ h. h ++ (entries_bytes v o ++ behind)) header ∙ body_pieces v o)
    (puts_then r c.in_ok-put.ensures.bytes c.in_ok-put.ensures.has_failed c.in_ok-put.ensures.loan
    (puts_stopped r behind c.from_residual-in_err-end.ensures.0 refl es))

pub returns-in_err-put_items : goal.returns-in_err-put_items
returns-in_err-put_items g c =
    let v = parts_contents c.args.parts.now in
    let o = c.args.options in
    let r = c.from_residual-in_err-put_items.result in
    let m = flat_map item_bytes (marker_of v o) in
    let header : c.header.result ≡ header_bytes (image_version v o) (length (written v.records)) =
    rw (c.header.ensures, c.requires.layout.is_version, c.requires.layout.is_count) refl in
    let es = rw (c.deref.ensures.value, c.deref-2.ensures.value, c.requires.layout.is_version) at c.in_ok-end.ensures.puts in
    puts_is r (ap (λ h. h ++ (entries_bytes v o ++ (flat_map item_bytes (extension_items v o) ++ m))) header
    ∙ body_pieces v o)
    (puts_then r c.in_ok-put.ensures.bytes c.in_ok-put.ensures.has_failed c.in_ok-put.ensures.loan (puts_after r es
    (puts_stopped r m c.from_residual-in_err-put_items.ensures.0
    (ap (λ (e : Chosen). flat_map item_bytes (items v.kind e) ++ m) c.requires.layout.is_list)
    c.in_err-put_items.ensures.written)))

pub returns-then-has_marker : goal.returns-then-has_marker
returns-then-has_marker g c =
    let v = parts_contents c.args.parts.now in
    let o = c.args.options in
    let r = c.put_marker.result in
    let list = c.args.layout.list in
    let lens = c.args.layout.lens in
    let end = c.in_ok-end.end in
    let m = flat_map item_bytes (marker_of v o) in
    let header : c.header.result ≡ header_bytes (image_version v o) (length (written v.records)) =
    rw (c.header.ensures, c.requires.layout.is_version, c.requires.layout.is_count) refl in
    let es = rw (c.deref.ensures.value, c.deref-2.ensures.value, c.requires.layout.is_version) at c.in_ok-end.ensures.puts in
    let is_end : end ≡ entries_end v o =
    rw (c.deref.ensures.value, c.deref-2.ensures.value, c.requires.layout.is_version) at c.in_ok-end.ensures.end in
    let marker = ap (λ h. item_bytes (marker_item v.kind end h)) (heads_are v.kind (extensions_of list) lens c.requires.layout.are_lens
    ∙ ap (λ (e : Chosen). heads (items v.kind e)) c.requires.layout.is_list)
    ∙ marker_is v o end is_end (sym c.has_marker.ensures ∙ c.if-has_marker.true) in
    puts_is r (ap (λ h. h ++ (entries_bytes v o ++ (flat_map item_bytes (extension_items v o) ++ m))) header
    ∙ body_pieces v o)
    (puts_then r c.in_ok-put.ensures.bytes c.in_ok-put.ensures.has_failed c.in_ok-put.ensures.loan (puts_after r es
    (puts_is r (ap (λ (e : Chosen). flat_map item_bytes (items v.kind e) ++ m) c.requires.layout.is_list)
    (puts_after r c.in_ok-put_items.ensures.written (puts_is r marker c.put_marker.ensures.written)))))

pub returns : goal.returns
returns g c =
    let v = parts_contents c.args.parts.now in
    let o = c.args.options in
    let x = flat_map item_bytes (extension_items v o) in
    let m = flat_map item_bytes (marker_of v o) in
    let header : c.header.result ≡ header_bytes (image_version v o) (length (written v.records)) =
    rw (c.header.ensures, c.requires.layout.is_version, c.requires.layout.is_count) refl in
    let es = rw (c.deref.ensures.value, c.deref-2.ensures.value, c.requires.layout.is_version) at c.in_ok-end.ensures.puts in
    let none = no_marker v o (sym c.has_marker.ensures ∙ c.if-has_marker.false) in
    let items_alone = ap (λ (e : Chosen). flat_map item_bytes (items v.kind e)) c.requires.layout.is_list
    ∙ sym (append-nil x) ∙ ap (λ l. x ++ l) none in
    puts_is _ (ap (λ h. h ++ (entries_bytes v o ++ (x ++ m))) header ∙ body_pieces v o)
    (puts_then _ c.in_ok-put.ensures.bytes c.in_ok-put.ensures.has_failed c.in_ok-put.ensures.loan
    (puts_after _ es (puts_is _ items_alone c.in_ok-put_items.ensures.written)))
