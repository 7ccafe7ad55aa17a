-- The entries at the front of a file and what follows them, together.
use Rattle.std.proofs.Common.{◌≡◌, ℕ, ◌+◌, ◌-◌, ◌<◌, ◌≤◌, ◌⊎◌, Bool, true, false, cond, ltb, List, ◌++◌, length, take}
use Rattle.std.proofs.Common.{inl, inr, Result, Ok, Err, refl, sym, ap, ◌∙◌, append_assoc, arith}
use Rattle.std.proofs.lemmas.Bool.{ltb-false}
use Rattle.std.proofs.lemmas.List.{length-map}
use Rattle.gix_index.specs.Header.{header_len, header_of}
use Rattle.gix_index.specs.Id.{id_len}
use Rattle.gix_index.specs.Kind.{Kind}
use Rattle.gix_index.specs.Record.{Record}
use Rattle.gix_index.specs.Version.{Version}
use Rattle.view_salvage.proofs.Laid.{laid_more}
use Rattle.view_salvage.proofs.SpelledFronts.{front_len}
use Rattle.view_salvage.specs.Division.{Divides, NoEntryBehind, headed}
use Rattle.view_salvage.specs.DivisionSteps.{GoesOn}
use Rattle.view_salvage.specs.FrontSteps.{IsFront}
use Rattle.view_layout.specs.Piece.{Piece, piece_bytes, laid, one_piece}
use Rattle.view_salvage.specs.Spelling.{Spelling, entry_pieces}
use Rattle.view_salvage.specs.declared.division.Ending.{Ending}
use Rattle.view_layout.specs.declared.part.Part.{Part}
use Rattle.view_layout.specs.declared.part.What.TheVariants as whats

long_by : {A E : Type 0} (t : Bool) (n m : ℕ) (e : E) (r : Result A E) (v : A) → ltb n m ≡ t
    → cond t (Err e) r ≡ Ok v → m ≤ n
long_by true n m e r v is h = absurd cc
long_by false n m e r v is h = ltb-false n m is

-- a header that can be read is complete
pub header_long : (kind : Kind) (bytes : List ℕ) (version : Version) → header_of kind bytes ≡ Ok version
    → 12 ≤ length bytes
header_long kind bytes version h = omega (
  arith,
  long_by (ltb (length bytes) (header_len + id_len kind)) (length bytes)
      (header_len + id_len kind) _ _ version refl h,
)

pub front_rest : (version : Version) (kind : Kind) (count : ℕ) (bytes : List ℕ) (rs : List Record) (parts : List Part)
    (rest : List ℕ) → 12 ≤ length bytes → IsFront version kind count bytes rs parts rest → length rest ≤ length bytes
front_rest version kind count bytes rs parts rest le h =
    omega (arith, front_len version kind bytes h.spellings rest le h.are_spelled)

none_by : (P : Type 0) (n count : ℕ) → (n ≡ count) ⊎ ((n < count) × P) → n < count → P
none_by P n count (inl e) lt = absurd (omega arith)
none_by P n count (inr h) lt = h.1

pub front_divides : (version : Version) (kind : Kind) (count read place : ℕ) (bytes : List ℕ) (rs : List Record)
    (parts : List Part) (rest : List ℕ) (e : Ending) → header_of kind bytes ≡ Ok version
    → IsFront version kind count bytes rs parts rest → read ≡ length rs → place ≡ length bytes - length rest
    → ((ss : List Spelling) → length ss ≡ read → (read < count → NoEntryBehind version kind ss rest)
    → GoesOn kind version bytes ss rest place parts e) → Divides kind bytes rs e.parts.items e.fault
front_divides version kind count read place bytes rs parts rest e is h counted at goes =
    let ss = h.spellings in
    let same : length ss ≡ read = sym (counted ∙ ap length h.records ∙ length-map ss _) in
    let g = goes ss same (λ lt. none_by (NoEntryBehind version kind ss rest) (length ss) count h.ended (omega arith)) in
    let head : List Piece = one_piece whats.Header (take header_len bytes) in
    let middle : List Piece = entry_pieces 0 ss in
    let reach : place ≡ 0 + length (piece_bytes (head ++ middle)) =
    omega (arith, front_len version kind bytes ss rest (header_long kind bytes version is) h.are_spelled) in
    record {
      pieces = head ++ (middle ++ g.pieces);
      fault = g.fault;
      is_divided = headed version ss rest g.pieces is h.are_spelled h.records refl g.is;
      are = laid_more 0 place (head ++ middle) g.pieces parts e.parts.items h.are reach g.grows.are
          ∙ ap (laid 0) (append_assoc head middle g.pieces);
      told = g.grows.told;
    }
