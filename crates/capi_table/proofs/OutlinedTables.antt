-- The sizes of a table of an outline.
use Rattle.std.proofs.Common.{◌≡◌, ◌∙◌, ℕ, None, ap, sym}
use Rattle.gix_index.specs.Contents.{Contents}
use Rattle.gix_index.specs.Entries.{AreEntries}
use Rattle.gix_index.specs.Outlined.{Outlines, outlined_value}
use Rattle.gix_index.specs.Outlined.Outline.{Outline}
use Rattle.capi_table.specs.Reading.{sizes_of, sizes_with}

-- the entries whose bytes an outline has
pub outlined_entries : (v : Contents) (o : Outline) (h : Outlines v o)
    → AreEntries o.version o.object_hash None o.entries.now v.records h.after
outlined_entries v o h =
    let version : o.version ≡ v.version = ap (λ (w : Contents). w.version) (sym h.value) in
    let kind : o.object_hash ≡ v.kind = ap (λ (w : Contents). w.kind) (sym h.value) in
    rw (version, kind) h.entries

-- the sizes of an outlined value, with the counts that the outline has, are the value's
pub outline_tells : (v : Contents) (o : Outline) → Outlines v o
    → sizes_with (outlined_value o v.records) o.count o.path_bytes ≡ sizes_of v
outline_tells v o h =
    ap (λ (w : Contents). sizes_with w o.count o.path_bytes) (sym h.value)
    ∙ ap (λ (k : ℕ). sizes_with v k o.path_bytes) h.count
    ∙ ap (λ (k : ℕ). record (sizes_of v) { path_bytes = k }) h.path_bytes
