-- Events that are appended after others.
use Rattle.std.proofs.Common.{◌≡◌, ℕ, List, [], ◌∷◌, ◌++◌, Result, Ok, Err, ap, append-nil, append_assoc, refl, sym}
use Rattle.std.proofs.Common.{subst, ◌∙◌}
use Rattle.std.proofs.lemmas.Grind.{flat_map-append}
use Rattle.std.specs.IoError.{error_kind}
use Rattle.std.specs.declared.io.Error.{Error}
use Rattle.std.specs.declared.io.ErrorKind.TheVariants.{OutOfMemory}
use Rattle.index_parts.specs.declared.hash.io.Out.{Ghosts}
use Rattle.base_text.proofs.Blocks.{blocks_broken, blocks_then, more_waits, no_memory, none_out}
use Rattle.base_text.specs.Blocks.{PutsBlocks}
use Rattle.view_events.specs.Event.{Event, print}

-- ---- texts

module _ (spell : Event → List ℕ) (old : List ℕ) (es fs : List Event) where
  pub printed_more : (old ++ print spell es) ++ print spell fs ≡ old ++ print spell (es ++ fs)
  printed_more = append_assoc old (print spell es) (print spell fs)
      ∙ ap (λ (l : List ℕ). old ++ l) (sym (flat_map-append spell es fs))

  -- what was appended
  pub appended_more : (mid new : List ℕ) → mid ≡ old ++ print spell es → new ≡ mid ++ print spell fs
      → new ≡ old ++ print spell (es ++ fs)
  appended_more mid new a b = b ∙ ap (λ (l : List ℕ). l ++ print spell fs) a ∙ printed_more

-- ---- calls

-- the value of an `Ok` doesn't matter
pub done_as : {S T U : Type 0} {w : Ghosts S} {a b : S} {x : U} {y : T} {waiting text : List ℕ}
    → PutsBlocks w a b (Ok x) waiting text → PutsBlocks w a b (Ok y) waiting text
done_as p = record { ok = p.ok; err = tt; going = p.going; cause = tt; loan = p.loan }

-- the first events wait
pub first_sent : {S : Type 0} {w : Ghosts S} {a : S} (spell : Event → List ℕ) (old : List ℕ) (es : List Event)
    {new : List ℕ} → new ≡ old ++ print spell es
    → PutsBlocks {T = Unit {0}} w a a (Ok tt) new (old ++ print spell es)
first_sent spell old es e = none_out e

-- more events wait
pub told_then : {S U : Type 0} {w : Ghosts S} {a b : S} {x : U} (spell : Event → List ℕ) (old : List ℕ)
    (es fs : List Event) {mid new : List ℕ} → PutsBlocks w a b (Ok x) mid (old ++ print spell es)
    → new ≡ mid ++ print spell fs → PutsBlocks w a b (Ok x) new (old ++ print spell (es ++ fs))
told_then {w = w} {a = a} {b = b} {x = x} spell old es fs {new = new} p e =
    subst (λ (l : List ℕ). PutsBlocks w a b (Ok x) new l) (printed_more spell old es fs)
    (more_waits (print spell fs) p e)

-- a call appends more events
pub sent_then : {S T U : Type 0} {w : Ghosts S} {a b c : S} {x : U} (spell : Event → List ℕ) (old : List ℕ)
    (es fs : List Event) (r : Result T Error) {mid later : List ℕ}
    → PutsBlocks w a b (Ok x) mid (old ++ print spell es) → PutsBlocks w b c r later (mid ++ print spell fs)
    → PutsBlocks w a c r later (old ++ print spell (es ++ fs))
sent_then {w = w} {a = a} {c = c} spell old es fs r {later = later} p q =
    subst (λ (l : List ℕ). PutsBlocks w a c r later l) (printed_more spell old es fs)
    (blocks_then r (print spell fs) p q)

-- after a failure no more events are appended
pub rest_untold : {S T U : Type 0} {w : Ghosts S} {a b : S} (spell : Event → List ℕ) (old : List ℕ)
    (es fs : List Event) (e : Error) {waiting later : List ℕ}
    → PutsBlocks {T = U} w a b (Err e) waiting (old ++ print spell es)
    → PutsBlocks {T = T} w a b (Err e) later (old ++ print spell (es ++ fs))
rest_untold spell old es fs e p = blocks_broken (Err e) (print spell fs) refl p (printed_more spell old es fs)

-- nor if an allocation fails
pub rest_unheld : {S T U : Type 0} {w : Ghosts S} {a b : S} {x : U} (spell : Event → List ℕ) (old : List ℕ)
    (es fs : List Event) (r : Result T Error) {e : Error} {waiting later : List ℕ} → r ≡ Err e
    → error_kind e ≡ OutOfMemory → PutsBlocks w a b (Ok x) waiting (old ++ print spell es)
    → PutsBlocks w a b r later (old ++ print spell (es ++ fs))
rest_unheld spell old es fs r is kind p = no_memory r (print spell fs) is kind p (printed_more spell old es fs)

-- ---- calls one after another

-- these events were sent
pub record Sent {S : Type 0} (w : Ghosts S) (a b : S) (spell : Event → List ℕ) (old waiting : List ℕ)
    (es : List Event) : Type 0 where
  pub is : PutsBlocks {T = Unit {0}} w a b (Ok tt) waiting (old ++ print spell es)

-- the lists after the first one
abbrev pub all_behind : List Event → List (List Event) → List Event
all_behind es [] = es
all_behind es (fs ∷ rest) = all_behind (es ++ fs) rest

-- after a failure no event of the other lists is appended
pub none_left : {S T U : Type 0} {w : Ghosts S} {a b : S} (spell : Event → List ℕ) (old : List ℕ) (es : List Event)
    (rest : List (List Event)) (e : Error) {waiting later : List ℕ}
    → PutsBlocks {T = U} w a b (Err e) waiting (old ++ print spell es)
    → PutsBlocks {T = T} w a b (Err e) later (old ++ print spell (all_behind es rest))
none_left spell old es [] e p = record { ok = tt; err = p.err; going = tt; cause = p.cause; loan = p.loan }
none_left {T = T} {U = U} spell old es (fs ∷ rest) e {waiting = waiting} p =
    none_left {T = T} {U = T} spell old (es ++ fs) rest e {waiting = waiting}
    (rest_untold {T = T} {U = U} spell old es fs e {later = waiting} p)

module _ {S : Type 0} {w : Ghosts S} {a : S} {spell : Event → List ℕ} {old : List ℕ} where
  -- the first event waits
  pub begun : {new : List ℕ} (e : Event) → new ≡ old ++ spell e → Sent w a a spell old new (e ∷ [])
  begun e h = record {
    is = first_sent spell old (e ∷ []) (h ∙ ap (λ (l : List ℕ). old ++ l) (sym (append-nil (spell e))));
  }

  module _ {b : S} {mid later : List ℕ} {es : List Event} (fs : List Event) (s : Sent w a b spell old mid es) where
    -- a call sent more
    pub and_sent : {T : Type 0} {c : S} {x : T} → PutsBlocks w b c (Ok x) later (mid ++ print spell fs)
        → Sent w a c spell old later (es ++ fs)
    and_sent {x = x} q = record { is = done_as (sent_then spell old es fs (Ok x) s.is q) }

    -- a call appended more
    pub and_told : later ≡ mid ++ print spell fs → Sent w a b spell old later (es ++ fs)
    and_told q = record { is = told_then spell old es fs s.is q }

  module _ {b : S} {mid later : List ℕ} {es : List Event} (fs : List Event) (rest : List (List Event))
      (s : Sent w a b spell old mid es) {e : Error} where
    -- the first call that breaks off
    pub first_broken : {T U : Type 0} {c : S} {waiting : List ℕ}
        → PutsBlocks {T = U} w b c (Err e) waiting (mid ++ print spell fs)
        → PutsBlocks {T = T} w a c (Err e) later (old ++ print spell (all_behind (es ++ fs) rest))
    first_broken {U = U} {waiting = waiting} q =
        none_left spell old (es ++ fs) rest e {waiting = waiting} (sent_then {T = U} spell old es fs (Err e) s.is q)

    -- the first one that there is no memory for
    pub none_held : {T : Type 0} (r : Result T Error) → r ≡ Err e → error_kind e ≡ OutOfMemory
        → PutsBlocks w a b r later (old ++ print spell (all_behind (es ++ fs) rest))
    none_held {T} r is kind = rw is
        (none_left {U = T} spell old (es ++ fs) rest e {waiting = mid}
        (rest_unheld {T = T} spell old es fs (Err e) refl kind s.is))
