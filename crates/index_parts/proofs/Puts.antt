-- Calls that write, one after another.
use Rattle.std.proofs.Common.{◌≡◌, ℕ, List, ◌++◌, Result, Ok, Err, Bool, true, ◌||◌, refl, ap, subst, ◌∙◌}
use Rattle.std.specs.Prelude.{IsErr, is_err}
use Rattle.index_parts.specs.declared.hash.io.Out.{Ghosts}
use Rattle.index_parts.specs.Taking.{AppendsPrefix, Takes, Took}
use Rattle.index_parts.specs.Puts.{Puts}
use Rattle.index_parts.proofs.Taking.{takes_after, Takes-err, prefix_after, prefix_before}

-- the three facts of a writer's own call
pub puts_from : {S T E : Type 0} {w : Ghosts S} {a b : S} {xs : List ℕ} (r : Result T E)
    → Takes w.taken w.hashed a b r xs → w.failed b ≡ (is_err r || w.failed a) → w.loan b ≡ w.loan a → Puts w a b r xs
puts_from r p q l = record { takes = p; failed = q; loan = l }

pub puts_is : {S T E : Type 0} {w : Ghosts S} {a b : S} (r : Result T E) {xs ys : List ℕ} → xs ≡ ys → Puts w a b r xs
    → Puts w a b r ys
puts_is {w = w} {a = a} {b = b} r e p = subst (λ (l : List ℕ). Puts w a b r l) e p

-- what comes after bytes that were taken whole
pub puts_then : {S T E : Type 0} {w : Ghosts S} {a b c : S} {xs ys : List ℕ} (r : Result T E)
    → Took w.taken w.hashed a b xs → w.failed b ≡ w.failed a → w.loan b ≡ w.loan a → Puts w b c r ys
    → Puts w a c r (xs ++ ys)
puts_then {c = c} {ys = ys} r p f l q = record {
  takes = takes_after c ys r p q.takes;
  failed = q.failed ∙ ap (λ (m : Bool). is_err r || m) f;
  loan = q.loan ∙ l;
}

-- the same after a call of this library
pub puts_after : {S T E U F : Type 0} {w : Ghosts S} {a b c : S} {xs ys : List ℕ} {x : U} (r : Result T E)
    → Puts {T = U} {E = F} w a b (Ok x) xs → Puts w b c r ys → Puts w a c r (xs ++ ys)
puts_after r p q = puts_then r p.takes p.failed p.loan q

failed_too : {T E : Type 0} (r : Result T E) (m : Bool) → IsErr r → true ≡ (is_err r || m)
failed_too (Ok x) m h = absurd cc
failed_too (Err e) m h = refl

-- at the exit of a `?`: a prefix of the bytes that come next was taken, and of the rest none
pub puts_broken : {S T E : Type 0} {w : Ghosts S} {a b : S} (r : Result T E) {xs all : List ℕ} (rest : List ℕ) → IsErr r
    → xs ++ rest ≡ all → AppendsPrefix (w.taken a) (w.taken b) xs → w.failed b ≡ true → w.loan b ≡ w.loan a
    → Puts w a b r all
puts_broken {w = w} {a = a} {b = b} r rest h whole p q l = record {
  takes = Takes-err w.taken w.hashed a b r _ h
      (subst (λ (l : List ℕ). AppendsPrefix (w.taken a) (w.taken b) l) whole (prefix_before p rest));
  failed = q ∙ failed_too r (w.failed a) h;
  loan = l;
}

-- the same of a call of this library
pub puts_stopped : {S T E U F : Type 0} {w : Ghosts S} {a b : S} {e : F} (r : Result T E) {xs all : List ℕ}
    (rest : List ℕ) → IsErr r → xs ++ rest ≡ all → Puts {T = U} {E = F} w a b (Err e) xs → Puts w a b r all
puts_stopped r rest h whole p = puts_broken r rest h whole p.takes p.failed p.loan

-- the same after bytes that were taken whole
pub puts_stopped_after : {S T E U F : Type 0} {w : Ghosts S} {a b c : S} {e : F} (r : Result T E) {xs ys all : List ℕ}
    (rest : List ℕ) → IsErr r → (xs ++ ys) ++ rest ≡ all → Took w.taken w.hashed a b xs
    → w.loan b ≡ w.loan a → Puts {T = U} {E = F} w b c (Err e) ys → Puts w a c r all
puts_stopped_after {w = w} {a = a} {b = b} {c = c} r {xs = xs} {ys = ys} rest h whole before kept p =
    puts_broken r rest h whole (prefix_after (w.taken a) (w.taken b) (w.taken c) xs ys before.grew p.takes)
    p.failed (p.loan ∙ kept)
