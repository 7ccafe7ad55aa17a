-- Entries that are spelled one after another: one more, and which bytes and parts they are.
use Rattle.std.proofs.Common.{◌≡◌, ◌≤◌, ℕ, ◌+◌, List, [], ◌∷◌, ◌++◌, length, take, drop, Option, Some, None}
use Rattle.std.proofs.Common.{refl, sym, ap, subst, ◌∙◌, append_assoc, append-nil, length-append}
use Rattle.std.proofs.Common.{length-drop, length-take, arith}
use Rattle.gix_index.specs.Entries.{last_path}
use Rattle.gix_index.specs.Kind.{Kind}
use Rattle.gix_index.specs.Record.{Record}
use Rattle.gix_index.specs.Version.{Version}
use Rattle.view_salvage.proofs.Laid.{bytes_append, bytes_some, laid_more}
use Rattle.view_salvage.proofs.Spelled.{spelled_parts}
use Rattle.view_layout.specs.Piece.{Piece, piece_bytes, laid, one_piece, some_piece}
use Rattle.view_salvage.specs.Spelling.{Spelling, AreSpelled, IsSpelled, entries_spelled, entry_pieces}
use Rattle.view_layout.specs.declared.part.Part.{Part}
use Rattle.view_layout.specs.declared.part.What.TheVariants as whats

pub spelled_push : (version : Version) (kind : Kind) (previous : Option (List ℕ)) (bytes : List ℕ) (ss : List Spelling)
    (s : Spelling) (middle rest : List ℕ) → AreSpelled version kind previous bytes ss middle
    → IsSpelled version kind (last_path previous (entries_spelled ss)) middle s rest
    → AreSpelled version kind previous bytes (ss ++ s ∷ []) rest
spelled_push version kind previous bytes [] s middle rest h e =
    (rest, subst (λ (b : List ℕ). IsSpelled version kind previous b s rest) (sym h) e, refl)
spelled_push version kind previous bytes (x ∷ ss) s middle rest h e =
    (h.0, h.1, spelled_push version kind (Some x.entry.path) h.0 ss s middle rest h.2 e)

pub entries_push : (ss : List Spelling) (s : Spelling)
    → entries_spelled (ss ++ s ∷ []) ≡ entries_spelled ss ++ s.entry ∷ []
entries_push [] s = refl
entries_push (x ∷ ss) s = ap (λ (l : List Record). x.entry ∷ l) (entries_push ss s)

pub pieces_push : (n m : ℕ) (ss : List Spelling) (s : Spelling) → m ≡ n + length ss
    → entry_pieces n (ss ++ s ∷ [])
    ≡ entry_pieces n ss ++ (record { what = whats.Entry m; bytes = s.own } ∷ some_piece whats.Padding s.padding)
pieces_push n m [] s e =
    ap (λ (k : ℕ). record { what = whats.Entry k; bytes = s.own } ∷ (some_piece whats.Padding s.padding ++ []))
    (let k : n ≡ m = omega arith in k)
    ∙ ap (λ (l : List Piece). record { what = whats.Entry m; bytes = s.own } ∷ l)
    (append-nil (some_piece whats.Padding s.padding))
pieces_push n m (x ∷ ss) s e =
    let last : List Piece = record { what = whats.Entry m; bytes = s.own } ∷ some_piece whats.Padding s.padding in
    ap (λ (l : List Piece). record { what = whats.Entry n; bytes = x.own } ∷ l)
    (ap (λ (l : List Piece). some_piece whats.Padding x.padding ++ l) (pieces_push (n + 1) m ss s (omega arith))
    ∙ sym (append_assoc (some_piece whats.Padding x.padding) (entry_pieces (n + 1) ss) last))

pub bytes_spelled : (version : Version) (kind : Kind) (previous : Option (List ℕ)) (n : ℕ) (bytes : List ℕ)
    (ss : List Spelling) (rest : List ℕ) → AreSpelled version kind previous bytes ss rest
    → bytes ≡ piece_bytes (entry_pieces n ss) ++ rest
bytes_spelled version kind previous n bytes [] rest h = h
bytes_spelled version kind previous n bytes (s ∷ ss) rest h =
    let more = entry_pieces (n + 1) ss in
    let inner : s.padding ++ h.0 ≡ piece_bytes (some_piece whats.Padding s.padding ++ more) ++ rest =
    ap (λ (t : List ℕ). s.padding ++ t) (bytes_spelled version kind (Some s.entry.path) (n + 1) h.0 ss rest h.2)
    ∙ sym (append_assoc s.padding (piece_bytes more) rest)
    ∙ ap (λ (t : List ℕ). t ++ rest) (ap (λ (t : List ℕ). t ++ piece_bytes more) (sym (bytes_some whats.Padding
    s.padding))
    ∙ sym (bytes_append (some_piece whats.Padding s.padding) more)) in
    spelled_parts version kind previous bytes s h.0 h.1 ∙ ap (λ (t : List ℕ). s.own ++ t) inner
    ∙ sym (append_assoc s.own (piece_bytes (some_piece whats.Padding s.padding ++ more)) rest)

-- an entry's parts follow the header's and those of others
pub front_grown : (place m : ℕ) (head : List Piece) (ss : List Spelling) (s : Spelling) (old new : List Part)
    → m ≡ length ss → old ≡ laid 0 (head ++ entry_pieces 0 ss)
    → place ≡ length (piece_bytes (head ++ entry_pieces 0 ss))
    → new ≡ old ++ laid place (one_piece (whats.Entry m) s.own ++ some_piece whats.Padding s.padding)
    → new ≡ laid 0 (head ++ entry_pieces 0 (ss ++ s ∷ []))
front_grown place m head ss s old new e o p h =
    let last : List Piece = record { what = whats.Entry m; bytes = s.own } ∷ some_piece whats.Padding s.padding in
    laid_more 0 place (head ++ entry_pieces 0 ss) last old new o (omega (arith, p)) h
    ∙ ap (laid 0) (append_assoc head (entry_pieces 0 ss) last
    ∙ ap (λ (l : List Piece). head ++ l) (sym (pieces_push 0 m ss s (omega arith))))

-- the number of bytes after the header and this number of entries
pub front_len : (version : Version) (kind : Kind) (bytes : List ℕ) (ss : List Spelling) (rest : List ℕ)
    → 12 ≤ length bytes → AreSpelled version kind None (drop 12 bytes) ss rest
    → length (piece_bytes (one_piece whats.Header (take 12 bytes) ++ entry_pieces 0 ss)) + length rest ≡ length bytes
front_len version kind bytes ss rest le are =
    let middle = piece_bytes (entry_pieces 0 ss) in
    let head : List Piece = one_piece whats.Header (take 12 bytes) in
    omega (
      arith,
      ap length (bytes_spelled version kind None 0 (drop 12 bytes) ss rest are),
      length-append middle rest,
      length-drop 12 bytes,
      length-take 12 bytes,
      ap length (bytes_append head (entry_pieces 0 ss)),
      length-append (piece_bytes head) middle,
      length-append (take 12 bytes) [],
    )
