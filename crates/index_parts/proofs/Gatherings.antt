-- Bytes that are held before they go out.
use Rattle.std.proofs.Common.{◌≡◌, ℕ, List, [], ◌++◌, length, take, false, Option, Some, Result, Ok, Err, is_ok, refl}
use Rattle.std.proofs.Common.{sym, ap, subst, ◌∙◌, append_assoc, append-nil}
use Rattle.std.specs.Prelude.{IsErr, OnOk}
use Rattle.std.proofs.lemmas.List.{take_at}
use Rattle.index_parts.specs.Gathered.{Gathers}
use Rattle.index_parts.specs.Puts.{Puts}
use Rattle.index_parts.specs.Taking.{Takes}
use Rattle.index_parts.specs.declared.hash.Kind.{Kind}
use Rattle.index_parts.specs.declared.hash.io.Out.{Ghosts}
use Rattle.index_parts.proofs.Puts.{puts_stopped_after, puts_then}
use Rattle.index_parts.proofs.Taking.{Took-nil, Took-trans}

-- a writer that was given nothing yet, and all that is held
pub gathers_held : {S : Type 0} (w : Ghosts S) (a : S) (xs ys : List ℕ) → ys ≡ xs → Gathers w a a xs ys
gathers_held w a xs ys e =
    record { gone = []; took = Took-nil w.taken w.hashed a; parts = e; failed = refl; loan = refl }

-- all went out, and nothing is held
pub gathers_none : {S T E : Type 0} {w : Ghosts S} {a b : S} {xs : List ℕ} (r : Result T E) (held : List ℕ) → held ≡ []
    → Puts w a b r xs → OnOk r (Gathers w a b held xs)
gathers_none {xs = xs} (Ok x) held e p = record {
  gone = xs;
  took = p.takes;
  parts = sym (append-nil xs) ∙ ap (λ (l : List ℕ). xs ++ l) (sym e);
  failed = p.failed;
  loan = p.loan;
}
gathers_none (Err e) held h p = tt

-- what was held before a call that failed, and may have added to it
pub held_before : {S T E : Type 0} (taken : S → Option (List ℕ)) (hashed : S → ℕ → Kind → List ℕ → Type 0) (a b : S)
    (x y xs : List ℕ) (r : Result T E) → is_ok r ≡ false → taken a ≡ Some x → taken b ≡ Some y
    → Takes taken hashed a b r xs → take (length x) y ≡ x
held_before taken hashed a b x y xs (Ok v) e p q h = absurd cc
held_before taken hashed a b x y xs (Err f) e p q h =
    let more = rw (p, q) at h.taken in
    ap (take (length x)) more ∙ take_at x h.prefix (length x) refl

-- more bytes after those that are held
pub gathers_more : {S : Type 0} {w : Ghosts S} {a b c : S} {held xs next all : List ℕ} (ys : List ℕ) → xs ++ ys ≡ all
    → Gathers w a b held xs → Gathers w b c next (held ++ ys) → Gathers w a c next all
gathers_more {held = held} {xs = xs} {next = next} ys e p q = record {
  gone = p.gone ++ q.gone;
  took = Took-trans p.took q.took;
  parts = sym e ∙ ap (λ (l : List ℕ). l ++ ys) p.parts ∙ append_assoc p.gone held ys
      ∙ ap (λ (l : List ℕ). p.gone ++ l) q.parts ∙ sym (append_assoc p.gone q.gone next);
  failed = q.failed ∙ p.failed;
  loan = q.loan ∙ p.loan;
}

-- what is held goes out, and all is out then
pub puts_held : {S T E : Type 0} {w : Ghosts S} {a b c : S} {held xs : List ℕ} (r : Result T E) → Gathers w a b held xs
    → Puts w b c r held → Puts w a c r xs
puts_held {w = w} {a = a} {c = c} r p q =
    subst (λ (l : List ℕ). Puts w a c r l) (sym p.parts) (puts_then r p.took p.failed p.loan q)

-- at the exit of a `?`: of what was held and more a prefix went out
pub puts_stopped_held : {S T E U F : Type 0} {w : Ghosts S} {a b c : S} {e : F} (r : Result T E) {held xs all : List ℕ}
    (ys rest : List ℕ) → IsErr r → (xs ++ ys) ++ rest ≡ all → Gathers w a b held xs
    → Puts {T = U} {E = F} w b c (Err e) (held ++ ys) → Puts w a c r all
puts_stopped_held r {held = held} ys rest h whole p q =
    let parts : (p.gone ++ (held ++ ys)) ++ rest ≡ _ =
    ap (λ (l : List ℕ). l ++ rest) (sym (append_assoc p.gone held ys) ∙ ap (λ (l : List ℕ). l ++ ys) (sym p.parts))
    ∙ whole in
    puts_stopped_after r rest h parts p.took p.loan q
