-- What the steps of a division append to parts (all of gitformat-index). Public clauses cite none of these.
use Rattle.std.specs.Prelude.{◌≡◌, ℕ, List, ◌++◌, length, Option}
use Rattle.gix_index.specs.Answer.{Fault}
use Rattle.gix_index.specs.Id.{id_len}
use Rattle.gix_index.specs.Kind.{Kind}
use Rattle.gix_index.specs.Outcome.{AreSound}
use Rattle.gix_index.specs.Version.{Version}
use Rattle.gix_index.specs.Walk.{Item, AreItems}
use Rattle.gix_index.specs.DecodeError.{Error}
use Rattle.gix_index.specs.Record.{Record}
use Rattle.view_salvage.specs.Division.{Divides, IsBehindEntries, IsFileEnd, FaultCause}
use Rattle.view_layout.specs.Piece.{LieBetween, Piece, item_pieces, laid}
use Rattle.view_salvage.specs.Remains.{has_link, last_begin, last_link}
use Rattle.view_salvage.specs.Spelling.{Spelling}
use Rattle.view_salvage.specs.declared.division.Ending.{Ending}
use Rattle.view_layout.specs.declared.part.Part.{Part}

-- Pieces were appended to parts, from an offset on, with an error for the `Fault`.
pub record Grows (place : ℕ) (old : List Part) (e : Ending) (pieces : List Piece) (fault : Option Fault) : Type 0 where
  pub are : e.parts.items ≡ old ++ laid place pieces
  pub told : FaultCause e.fault fault

-- What follows valid extensions was appended to parts.
pub record EndsIn (kind : Kind) (bytes tail trailer : List ℕ) (place : ℕ) (old : List Part) (e : Ending) : Type 0 where
  pub pieces : List Piece
  pub fault : Option Fault
  pub is_end : IsFileEnd kind bytes tail trailer pieces fault
  pub grows : Grows place old e pieces fault

-- Extensions and what follows them were appended to parts.
pub record WalksOn (kind : Kind) (bytes after : List ℕ) (place : ℕ) (old : List Part) (e : Ending) : Type 0 where
  pub items : List Item
  pub tail : List ℕ
  pub trailer : List ℕ
  pub extensions : List ℕ
  pub last : List Piece
  pub fault : Option Fault
  pub parted : after ≡ extensions ++ trailer
  pub trailer_len : length trailer ≡ id_len kind
  pub items_are : AreItems extensions items tail
  pub sound : AreSound kind items
  pub is_end : IsFileEnd kind bytes tail trailer last fault
  pub grows : Grows place old e (item_pieces items ++ last) fault

-- What follows the entries was appended to parts.
pub record GoesOn (kind : Kind) (version : Version) (bytes : List ℕ) (spellings : List Spelling) (after : List ℕ)
    (place : ℕ) (old : List Part) (e : Ending) : Type 0 where
  pub pieces : List Piece
  pub fault : Option Fault
  pub is : IsBehindEntries kind version bytes spellings after pieces fault
  pub grows : Grows place old e pieces fault

-- The parts of a file end with these, which determine its links and its last part.
pub record EndsDivision (kind : Kind) (bytes : List ℕ) (rs : List Record) (parts : List Part)
    (error : Option Error) : Type 0 where
  pub front : List Part
  pub divides : Divides kind bytes rs (front ++ parts) error
  pub place : ℕ
  pub lie : LieBetween place parts (length bytes)
  pub begin : last_begin (front ++ parts) ≡ last_begin parts
  pub has_link : has_link (front ++ parts) error ≡ has_link parts error
  pub link : last_link (front ++ parts) ≡ last_link parts
