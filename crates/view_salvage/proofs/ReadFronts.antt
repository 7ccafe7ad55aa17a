-- What is read of entries can be held by a file.
use Rattle.std.proofs.Common.{◌≡◌, ◌≢◌, ◌<◌, ◌≤◌, ℕ, List, [], length, drop, Option, None, All, Fits, w8, get_or, refl}
use Rattle.std.proofs.Common.{sym, subst, arith}
use Rattle.std.proofs.lemmas.List.Elements.{All-drop, All-from_get_or, All-from_recursion, All-nil, All-weaker}
use Rattle.gix_index.proofs.ReadRecords.{IsKept, all_read}
use Rattle.gix_index.specs.Answer.{Fault}
use Rattle.gix_index.specs.DecodeError.{Error}
use Rattle.gix_index.specs.Edits.{empty_contents, with_records}
use Rattle.gix_index.specs.Entries.{AreEntries}
use Rattle.gix_index.specs.FileTime.{FileTime}
use Rattle.gix_index.specs.Header.{header_len}
use Rattle.gix_index.specs.Id.{id_kind}
use Rattle.gix_index.specs.Kind.{Kind}
use Rattle.gix_index.specs.Record.{AreBytes, IsSized, Record}
use Rattle.gix_index.specs.Storable.{IsStorable}
use Rattle.gix_index.specs.Version.{Version}
use Rattle.gix_index.specs.Version.TheVariants.{V2}
use Rattle.view_salvage.specs.Division.{Divides, IsDivided, headless, headed}
use Rattle.view_layout.specs.Piece.{Piece}
use Rattle.view_salvage.specs.Spelling.{entries_spelled}
use Rattle.view_layout.specs.declared.part.Part.{Part}
use Rattle.view_salvage.proofs.Readable.{entries_of}

-- elements of a slice of bytes are bytes
pub are_bytes : (l : List ℕ) → ((i : ℕ) → Fits w8 (get_or l i 0)) → AreBytes l
are_bytes l small = All-from_get_or (λ b. b < 256) l 0 (λ i lt. omega (arith, small i))

module _ (kind : Kind) (time : FileTime) where
  -- an index of these entries and nothing else can be held
  abbrev CanHold : List Record → Type 0
  CanHold rs = IsStorable (with_records (empty_contents kind time) rs)

  read_storable : (version : Version) (bytes : List ℕ) (rs : List Record) (rest : List ℕ) → AreBytes bytes
      → AreEntries version kind None bytes rs rest → CanHold rs
  read_storable version bytes rs rest small h =
      let read = all_read version kind bytes rs rest h in
      let kept : All (IsKept kind) rs = All-from_recursion (IsKept kind) rs read.kept in
      record {
        ids = All-weaker (IsKept kind) (λ r. id_kind r.id ≡ kind) (λ r k. k.id) rs kept;
        paths = All-weaker (IsKept kind) (λ r. 4095 ≤ length r.path → All (λ b. b ≢ 0) r.path) (λ r k. k.path) rs kept;
        fits = All-from_recursion IsSized rs (read.fit small);
        tree = tt;
      }

  pieces_storable : (bytes : List ℕ) (rs : List Record) (ps : List Piece) (f : Option Fault) → AreBytes bytes
      → IsDivided kind bytes rs ps f → CanHold rs
  pieces_storable bytes rs ps f small (headless x a b e g) =
      subst CanHold (sym b) (read_storable V2 [] [] [] (All-nil (λ b. b < 256)) refl)
  pieces_storable bytes rs ps f small (headed version ss after behind is are r e h) =
      subst CanHold (sym r) (read_storable version (drop header_len bytes) (entries_spelled ss) after
      (All-drop (λ b. b < 256) header_len bytes small)
      (entries_of version kind None (drop header_len bytes) ss after are))

  pub divided_storable : (bytes : List ℕ) (rs : List Record) (parts : List Part) (e : Option Error) → AreBytes bytes
      → Divides kind bytes rs parts e → CanHold rs
  divided_storable bytes rs parts e small h = pieces_storable bytes rs h.pieces h.fault small h.is_divided
