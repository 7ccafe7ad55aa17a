-- The parts after the entries of a file determine its links and its last part.
use Rattle.std.proofs.Common.{◌≡◌, ℕ, suc, ◌+◌, ◌-◌, ◌<◌, Bool, false, List, [], ◌∷◌, ◌++◌, length, take, drop}
use Rattle.std.proofs.Common.{Option, Some, None, Ok, refl, sym, ap, subst, ◌∙◌, append_assoc, length-append, arith}
use Rattle.std.specs.List.{list_any}
use Rattle.std.specs.Prelude.{◌||◌, slice_get, if◌then◌else◌}
use Rattle.std.proofs.lemmas.List.{length-map}
use Rattle.std.proofs.lemmas.List.Folds.{list_any-append}
use Rattle.gix_index.specs.Answer.{Fault}
use Rattle.gix_index.specs.DecodeError.{Error}
use Rattle.gix_index.specs.Entries.{AreEntries, last_path}
use Rattle.gix_index.specs.Entry.{IsEntry}
use Rattle.gix_index.specs.ExtensionValue.{option_or}
use Rattle.gix_index.specs.Header.{header_len, header_of}
use Rattle.gix_index.specs.Kind.{Kind}
use Rattle.gix_index.specs.Record.{Record}
use Rattle.gix_index.specs.Version.{Version}
use Rattle.view_salvage.specs.Division.{IsBehindEntries, IsFileEnd, NoEntryBehind, lacks, crowded, short, walked}
use Rattle.view_salvage.specs.Division.{faulty, left, broken, whole, headed, unread_piece}
use Rattle.view_salvage.specs.DivisionSteps.{EndsDivision, GoesOn}
use Rattle.view_layout.specs.Piece.{LieBetween, Piece, piece_bytes, item_pieces, laid, one_piece, some_piece}
use Rattle.view_salvage.specs.Remains.{begin_or_zero, has_link, is_link_content, is_link_fault, is_link_head}
use Rattle.view_salvage.specs.Remains.{last_begin, last_link}
use Rattle.view_salvage.specs.Spelling.{Spelling, AreSpelled, entries_spelled, entry_pieces}
use Rattle.view_salvage.specs.declared.division.Ending.{Ending}
use Rattle.view_layout.specs.declared.part.Part.{Part}
use Rattle.view_layout.specs.declared.part.What.TheVariants as whats
use Rattle.view_salvage.proofs.Covered.{behind_covered, lie_laid}
use Rattle.view_salvage.proofs.Fronts.{header_long}
use Rattle.view_salvage.proofs.Laid.{laid_more}
use Rattle.view_salvage.proofs.LastLinks.{last_append, or_else_none}
use Rattle.view_salvage.proofs.Spelled.{spelling_of}
use Rattle.view_salvage.proofs.SpelledFronts.{front_len}

-- ---- the last part

get_behind : {A : Type 0} (xs ys : List A) (i : ℕ) → slice_get (xs ++ ys) (length xs + i) ≡ slice_get ys i
get_behind [] ys i = ap (slice_get ys) (let e : 0 + i ≡ i = omega arith in e)
get_behind (x ∷ xs) ys i =
    ap (slice_get (x ∷ (xs ++ ys))) (let e : suc (length xs) + i ≡ suc (length xs + i) = omega arith in e)
    ∙ get_behind xs ys i

last_behind : (ps qs : List Part) → 0 < length qs → last_begin (ps ++ qs) ≡ last_begin qs
last_behind ps qs some =
    let e : length (ps ++ qs) - 1 ≡ length ps + (length qs - 1) = omega (arith, length-append ps qs) in
    ap (λ (n : ℕ). begin_or_zero (slice_get (ps ++ qs) n)) e ∙ ap begin_or_zero (get_behind ps qs (length qs - 1))

laid_len : (n : ℕ) (ps : List Piece) → length (laid n ps) ≡ length ps
laid_len n [] = refl
laid_len n (p ∷ ps) = ap suc (laid_len (n + length p.bytes) ps)

end_some : (kind : Kind) (bytes tail trailer : List ℕ) (ps : List Piece) (f : Option Fault)
    → IsFileEnd kind bytes tail trailer ps f → 0 < length ps
end_some kind bytes tail trailer ps f (faulty i rest x a b e g) = omega (arith, ap length e)
end_some kind bytes tail trailer ps f (left a b e g) = omega (arith, ap length e)
end_some kind bytes tail trailer ps f (broken a b c e g) =
    omega (arith, ap length e, length-append (some_piece whats.LeftOver tail) (unread_piece trailer))
end_some kind bytes tail trailer ps f (whole a b c e g) =
    omega (arith, ap length e, length-append (some_piece whats.LeftOver tail) (one_piece whats.Trailer trailer))

behind_some : (kind : Kind) (version : Version) (bytes : List ℕ) (ss : List Spelling) (after : List ℕ)
    (ps : List Piece) (f : Option Fault) → IsBehindEntries kind version bytes ss after ps f → 0 < length ps
behind_some kind version bytes ss after ps f (lacks a b e g) = omega (arith, ap length e)
behind_some kind version bytes ss after ps f (crowded a b e g) = omega (arith, ap length e)
behind_some kind version bytes ss after ps f (short a b c e g) = omega (arith, ap length e)
behind_some kind version bytes ss after ps f
    (walked a b items tail trailer extensions last parted l are sound e is_end) =
    omega (
      arith,
      ap length e,
      length-append (item_pieces items) last,
      end_some kind bytes tail trailer last f is_end,
    )

-- ---- links

-- none of the parts is of a link
record AreLinkless (ps : List Part) : Type 0 where
  heads : list_any (λ p. is_link_head p.what) ps ≡ false
  content : last_link ps ≡ None

linkless_more : (p : Part) (ps : List Part) → is_link_head p.what ≡ false → is_link_content p.what ≡ false
    → AreLinkless ps → AreLinkless (p ∷ ps)
linkless_more p ps head content h = record {
  heads = ap (λ (b : Bool). b || list_any (λ (q : Part). is_link_head q.what) ps) head ∙ h.heads;
  content = ap (λ (b : Bool). option_or (last_link ps) (if b then Some p else None)) content
      ∙ or_else_none (last_link ps) ∙ h.content;
}

padded_linkless : (n : ℕ) (padding : List ℕ) (more : List Piece) → ((m : ℕ) → AreLinkless (laid m more))
    → AreLinkless (laid n (some_piece whats.Padding padding ++ more))
padded_linkless n [] more h = h n
padded_linkless n (b ∷ padding) more h =
    linkless_more (record { offset = n; len = length (b ∷ padding); what = whats.Padding })
    (laid (n + length (b ∷ padding)) more) refl refl (h (n + length (b ∷ padding)))

entries_linkless : (n number : ℕ) (ss : List Spelling) → AreLinkless (laid n (entry_pieces number ss))
entries_linkless n number [] = record { heads = refl; content = refl }
entries_linkless n number (s ∷ ss) =
    let more = entry_pieces (number + 1) ss in
    linkless_more (record { offset = n; len = length s.own; what = whats.Entry number })
    (laid (n + length s.own) (some_piece whats.Padding s.padding ++ more)) refl refl
    (padded_linkless (n + length s.own) s.padding more (λ m. entries_linkless m (number + 1) ss))

front_linkless : (head : List ℕ) (ss : List Spelling)
    → AreLinkless (laid 0 (one_piece whats.Header head ++ entry_pieces 0 ss))
front_linkless head ss =
    linkless_more (record { offset = 0; len = length head; what = whats.Header })
    (laid (0 + length head) (entry_pieces 0 ss)) refl refl (entries_linkless (0 + length head) 0 ss)

heads_behind : (ps qs : List Part) (e : Option Error) → AreLinkless ps → has_link (ps ++ qs) e ≡ has_link qs e
heads_behind ps qs e h =
    let head : Part → Bool = λ p. is_link_head p.what in
    ap (λ (b : Bool). b || is_link_fault e)
    (list_any-append head ps qs ∙ ap (λ (b : Bool). b || list_any head qs) h.heads)

link_behind : (ps qs : List Part) → AreLinkless ps → last_link (ps ++ qs) ≡ last_link qs
link_behind ps qs h = last_append ps qs ∙ ap (option_or (last_link qs)) h.content ∙ or_else_none (last_link qs)

-- ---- entries that were read without their places

-- what spells them
record AreSpelledBy (version : Version) (kind : Kind) (previous : Option (List ℕ)) (bytes : List ℕ) (rs : List Record)
    (rest : List ℕ) : Type 0 where
  spellings : List Spelling
  are : AreSpelled version kind previous bytes spellings rest
  records : rs ≡ entries_spelled spellings

spelled_by : (version : Version) (kind : Kind) (previous : Option (List ℕ)) (bytes : List ℕ) (rs : List Record)
    (rest : List ℕ) → AreEntries version kind previous bytes rs rest
    → AreSpelledBy version kind previous bytes rs rest
spelled_by version kind previous bytes [] rest h = record { spellings = []; are = h; records = refl }
spelled_by version kind previous bytes (r ∷ rs) rest h =
    let own = spelling_of version kind previous bytes r h.0 h.1 in
    let s : Spelling = record { entry = r; own = own.own; padding = own.padding } in
    let more = spelled_by version kind (Some r.path) h.0 rs rest h.2 in
    record {
      spellings = s ∷ more.spellings;
      are = (h.0, own.is_spelled, more.are);
      records = ap (λ (l : List Record). r ∷ l) more.records;
    }

-- the parts after them end the parts of the file
pub ends_division : (kind : Kind) (version : Version) (bytes : List ℕ) (count read place : ℕ) (rs : List Record)
    (rest : List ℕ) (e : Ending) → header_of kind bytes ≡ Ok version
    → AreEntries version kind None (drop header_len bytes) rs rest
    → (length rs < count → (r : Record) (after : List ℕ) → IsEntry version kind (last_path None rs) rest r after → ⊥)
    → read ≡ length rs → place ≡ length bytes - length rest
    → ((ss : List Spelling) → length ss ≡ read → (read < count → NoEntryBehind version kind ss rest)
    → GoesOn kind version bytes ss rest place [] e) → EndsDivision kind bytes rs e.parts.items e.fault
ends_division kind version bytes count read place rs rest e is h none counted at goes =
    let by = spelled_by version kind None (drop header_len bytes) rs rest h in
    let ss = by.spellings in
    let same : length ss ≡ read = sym (counted ∙ ap length by.records ∙ length-map ss _) in
    let g = goes ss same (λ lt.
    subst (λ (l : List Record). (r : Record) (after : List ℕ) → IsEntry version kind (last_path None l) rest r after
    → ⊥) by.records (none (omega arith))) in
    let head : List Piece = one_piece whats.Header (take header_len bytes) in
    let middle : List Piece = entry_pieces 0 ss in
    let front : List Part = laid 0 (head ++ middle) in
    let ending : List Part = e.parts.items in
    let are : ending ≡ laid place g.pieces = g.grows.are in
    let len = front_len version kind bytes ss rest (header_long kind bytes version is) by.are in
    let reach : place ≡ 0 + length (piece_bytes (head ++ middle)) = omega (arith, len) in
    let any : 0 < length g.pieces = behind_some kind version bytes ss rest g.pieces g.fault g.is in
    let some : 0 < length ending = omega (arith, ap length are, laid_len place g.pieces) in
    let end : length bytes ≡ place + length (piece_bytes g.pieces) =
    omega (arith, len, ap length (behind_covered kind version bytes ss rest g.pieces g.fault g.is)) in
    let linkless = front_linkless (take header_len bytes) ss in
    record {
      front = front;
      divides = record {
        pieces = head ++ (middle ++ g.pieces);
        fault = g.fault;
        is_divided = headed version ss rest g.pieces is by.are by.records refl g.is;
        are = laid_more 0 place (head ++ middle) g.pieces front (front ++ ending) refl reach
            (ap (λ (l : List Part). front ++ l) are) ∙ ap (laid 0) (append_assoc head middle g.pieces);
        told = g.grows.told;
      };
      place = place;
      lie = subst (λ (l : List Part). LieBetween place l (length bytes)) (sym are)
          (lie_laid place (length bytes) g.pieces end);
      begin = last_behind front ending some;
      has_link = heads_behind front ending e.fault linkless;
      link = link_behind front ending linkless;
    }
