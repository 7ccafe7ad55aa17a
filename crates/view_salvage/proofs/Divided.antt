-- What the steps of a division append, from the contracts of their calls.
use Rattle.std.proofs.Common.{◌≡◌, ℕ, ◌+◌, List, ◌++◌, length, Option, Some, Result, Ok, Err, refl, sym, subst}
use Rattle.std.specs.Prelude.{IfOk}
use Rattle.gix_index.specs.Answer.{Fault}
use Rattle.gix_index.specs.DecodeError.{Error}
use Rattle.view_salvage.proofs.Laid.{grown_more}
use Rattle.view_salvage.specs.Division.{FaultCause, fault_of}
use Rattle.view_salvage.specs.DivisionSteps.{Grows}
use Rattle.view_layout.specs.Piece.{Piece, piece_bytes, laid}
use Rattle.view_salvage.specs.declared.division.Ending.{Ending}
use Rattle.view_layout.specs.declared.part.Part.{Part}

pub if_ok_both : {A E : Type 0} (r : Result A E) (P Q R : A → Type 0) → IfOk r P → IfOk r Q
    → ((x : A) → P x → Q x → R x) → IfOk r R
if_ok_both (Ok x) P Q R p q f = f x p q
if_ok_both (Err e) P Q R p q f = tt

pub if_ok_then : {A E : Type 0} (r : Result A E) (P R : A → Type 0) → IfOk r P → ((x : A) → P x → R x) → IfOk r R
if_ok_then (Ok x) P R p f = f x p
if_ok_then (Err e) P R p f = tt

pub tells : (error : Option Error) (e : Error) (f : Fault) → error ≡ Some e → fault_of e ≡ Some f
    → FaultCause error (Some f)
tells error e f is stands = subst (λ (x : Option Error). FaultCause x (Some f)) (sym is) (f, stands, refl)

-- an ending with an error, after pieces
pub refused_grows : (n place : ℕ) (ps qs : List Piece) (front old : List Part) (x : Ending) (e : Error) (f : Fault)
    → old ≡ front ++ laid n ps → place ≡ n + length (piece_bytes ps) → x.parts.items ≡ old ++ laid place qs
    → x.fault ≡ Some e → fault_of e ≡ Some f → Grows n front x (ps ++ qs) (Some f)
refused_grows n place ps qs front old x e f o p parts is stands = record {
  are = grown_more n place ps qs front old x.parts.items o p parts;
  told = tells x.fault e f is stands;
}
