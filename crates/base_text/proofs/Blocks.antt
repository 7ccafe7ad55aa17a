-- Calls that let text out block by block, one after another.
use Rattle.std.proofs.Common.{◌≡◌, ℕ, List, [], ◌++◌, Result, Ok, Err, true, refl, ap, sym, subst, ◌∙◌}
use Rattle.std.proofs.Common.{append-nil, append_assoc}
use Rattle.index_parts.proofs.Taking.{Appends-nil}
use Rattle.std.specs.Prelude.{Option}
use Rattle.std.specs.Io.KnownBytes.{Appends}
use Rattle.std.specs.IoError.{error_kind}
use Rattle.std.specs.declared.io.Error.{Error}
use Rattle.std.specs.declared.io.ErrorKind.TheVariants.{OutOfMemory}
use Rattle.index_parts.specs.declared.hash.io.Out.{Ghosts}
use Rattle.index_parts.specs.Puts.{Puts}
use Rattle.index_parts.specs.Taking.{AppendsPrefix}
use Rattle.index_parts.proofs.Taking.{Appends-trans, prefix_after, prefix_before}
use Rattle.base_text.specs.Blocks.{Passes, PutsBlocks, PutsText}

-- ---- what went out, and what waits

front_of_all : {a b : Option (List ℕ)} {xs : List ℕ} → Appends a b xs → AppendsPrefix a b xs
front_of_all {a} {b} {xs} p = record { prefix = xs; rest = []; parts = sym (append-nil xs); taken = p }

-- the bytes that were written are a prefix of the text and of all after it
front_passed : (u v : Option (List ℕ)) {waiting text : List ℕ} (rest : List ℕ) → Passes u v waiting text
    → AppendsPrefix u v (text ++ rest)
front_passed u v {waiting} {text} rest p =
    prefix_before (subst (λ (l : List ℕ). AppendsPrefix u v l) p.2 (prefix_before (front_of_all p.1) waiting)) rest

joined : (u v : Option (List ℕ)) {waiting text all : List ℕ} (more : List ℕ) (p : Passes u v waiting text)
    → all ≡ waiting ++ more → p.0 ++ all ≡ text ++ more
joined u v {waiting = waiting} more p e =
    ap (λ (l : List ℕ). p.0 ++ l) e ∙ sym (append_assoc p.0 waiting more) ∙ ap (λ (l : List ℕ). l ++ more) p.2

passed_then : (u v w : Option (List ℕ)) {waiting text later : List ℕ} (more : List ℕ) → Passes u v waiting text
    → Passes v w later (waiting ++ more) → Passes u w later (text ++ more)
passed_then u v w {later = later} more p q = (
  p.0 ++ q.0,
  Appends-trans u v w p.0 q.0 p.1 q.1,
  append_assoc p.0 q.0 later ∙ joined u v more p q.2,
)

broken_then : (u v w : Option (List ℕ)) {waiting text : List ℕ} (more : List ℕ) → Passes u v waiting text
    → AppendsPrefix v w (waiting ++ more) → AppendsPrefix u w (text ++ more)
broken_then u v w {waiting} {text} more p q =
    subst (λ (l : List ℕ). AppendsPrefix u w l) (joined u v more p refl)
    (prefix_after u v w p.0 (waiting ++ more) p.1 q)

whole_then : (u v w : Option (List ℕ)) {waiting text all : List ℕ} → Passes u v waiting text → all ≡ waiting
    → Appends v w all → Appends u w text
whole_then u v w {waiting} {text} {all} p e q =
    subst (λ (l : List ℕ). Appends u w l) (ap (λ (l : List ℕ). p.0 ++ l) e ∙ p.2)
    (Appends-trans u v w p.0 all p.1 q)

cut_then : (u v w : Option (List ℕ)) {waiting text all : List ℕ} → Passes u v waiting text → all ≡ waiting
    → AppendsPrefix v w all → AppendsPrefix u w text
cut_then u v w {waiting} {text} {all} p e q =
    subst (λ (l : List ℕ). AppendsPrefix u w l) (ap (λ (l : List ℕ). p.0 ++ l) e ∙ p.2)
    (prefix_after u v w p.0 all p.1 q)

-- ---- calls

-- nothing went out yet
pub none_out : {S : Type 0} {w : Ghosts S} {a : S} {waiting text : List ℕ} → waiting ≡ text
    → PutsBlocks {T = Unit {0}} w a a (Ok tt) waiting text
none_out {w = w} {a = a} e = record {
  ok = ([], Appends-nil (w.taken a), e);
  err = tt;
  going = refl;
  cause = tt;
  loan = refl;
}

-- more came to what waits
pub more_waits : {S T : Type 0} {w : Ghosts S} {a b : S} {x : T} {waiting text all : List ℕ} (more : List ℕ)
    → PutsBlocks w a b (Ok x) waiting text → all ≡ waiting ++ more → PutsBlocks w a b (Ok x) all (text ++ more)
more_waits {w = w} {a = a} {b = b} more p e = record {
  ok = (p.ok.0, p.ok.1, joined (w.taken a) (w.taken b) more p.ok e);
  err = tt;
  going = p.going;
  cause = tt;
  loan = p.loan;
}

-- a call writes the buffered bytes and more after them
pub blocks_then : {S T U : Type 0} {w : Ghosts S} {a b c : S} {x : U} (r : Result T Error)
    {waiting text later : List ℕ} (more : List ℕ) → PutsBlocks w a b (Ok x) waiting text
    → PutsBlocks w b c r later (waiting ++ more) → PutsBlocks w a c r later (text ++ more)
blocks_then {w = w} {a = a} {b = b} {c = c} (Ok y) more p q = record {
  ok = passed_then (w.taken a) (w.taken b) (w.taken c) more p.ok q.ok;
  err = tt;
  going = q.going ∙ p.going;
  cause = tt;
  loan = q.loan ∙ p.loan;
}
blocks_then {w = w} {a = a} {b = b} {c = c} (Err e) more p q = record {
  ok = tt;
  err = broken_then (w.taken a) (w.taken b) (w.taken c) more p.ok q.err;
  going = tt;
  cause = q.cause;
  loan = q.loan ∙ p.loan;
}

-- it lets out a block of what waits
pub block_out : {S T U : Type 0} {w : Ghosts S} {a b c : S} {x : U} {y : T} {waiting text later : List ℕ}
    → PutsBlocks w a b (Ok x) waiting text → Passes (w.taken b) (w.taken c) later waiting
    → w.failed c ≡ w.failed b → w.loan c ≡ w.loan b → PutsBlocks w a c (Ok y) later text
block_out {w = w} {a = a} {b = b} {c = c} {waiting = waiting} {text = text} {later = later} p q going loan = record {
  ok = (
    p.ok.0 ++ q.0,
    Appends-trans (w.taken a) (w.taken b) (w.taken c) p.ok.0 q.0 p.ok.1 q.1,
    append_assoc p.ok.0 q.0 later ∙ ap (λ (l : List ℕ). p.ok.0 ++ l) q.2 ∙ p.ok.2,
  );
  err = tt;
  going = going ∙ p.going;
  cause = tt;
  loan = loan ∙ p.loan;
}

-- at the exit of a `?`: the writer failed over a block of what waits
pub block_broken : {S T U : Type 0} {w : Ghosts S} {a b c : S} {x : U} (r : Result T Error) {e : Error}
    {waiting text later all : List ℕ} (rest : List ℕ) → r ≡ Err e → PutsBlocks w a b (Ok x) waiting text
    → AppendsPrefix (w.taken b) (w.taken c) waiting → w.failed c ≡ true → w.loan c ≡ w.loan b → text ++ rest ≡ all
    → PutsBlocks w a c r later all
block_broken {w = w} {a = a} {b = b} {c = c} r rest is p q failed loan whole = rw is (record {
  ok = tt;
  err = subst (λ (l : List ℕ). AppendsPrefix (w.taken a) (w.taken c) l) whole
      (prefix_before (cut_then (w.taken a) (w.taken b) (w.taken c) p.ok refl q) rest);
  going = tt;
  cause = λ n. failed;
  loan = loan ∙ p.loan;
})

-- a call of this library did not let out all
pub blocks_broken : {S T U : Type 0} {w : Ghosts S} {a b : S} (r : Result T Error) {e : Error}
    {waiting text later all : List ℕ} (rest : List ℕ) → r ≡ Err e → PutsBlocks {T = U} w a b (Err e) waiting text
    → text ++ rest ≡ all → PutsBlocks w a b r later all
blocks_broken {w = w} {a = a} {b = b} r rest is p whole = rw is (record {
  ok = tt;
  err = subst (λ (l : List ℕ). AppendsPrefix (w.taken a) (w.taken b) l) whole (prefix_before p.err rest);
  going = tt;
  cause = p.cause;
  loan = p.loan;
})

-- there is no memory for more text
pub no_memory : {S T U : Type 0} {w : Ghosts S} {a b : S} {x : U} (r : Result T Error) {e : Error}
    {waiting text later all : List ℕ} (rest : List ℕ) → r ≡ Err e → error_kind e ≡ OutOfMemory
    → PutsBlocks w a b (Ok x) waiting text → text ++ rest ≡ all → PutsBlocks w a b r later all
no_memory {w = w} {a = a} {b = b} r rest is kind p whole = rw is (record {
  ok = tt;
  err = subst (λ (l : List ℕ). AppendsPrefix (w.taken a) (w.taken b) l) whole
      (front_passed (w.taken a) (w.taken b) rest p.ok);
  going = tt;
  cause = λ n. absurd (n kind);
  loan = p.loan;
})

-- ---- texts

-- the rest goes out, and nothing waits
pub text_out : {S T U : Type 0} {w : Ghosts S} {a b c : S} {x : U} (r : Result T Error) {waiting text all : List ℕ}
    → PutsBlocks w a b (Ok x) waiting text → all ≡ waiting → Puts w b c r all → PutsText w a c r text
text_out {w = w} {a = a} {b = b} {c = c} (Ok y) p e q = record {
  ok = whole_then (w.taken a) (w.taken b) (w.taken c) p.ok e q.takes.grew;
  err = tt;
  going = q.failed ∙ p.going;
  cause = tt;
  loan = q.loan ∙ p.loan;
}
text_out {w = w} {a = a} {b = b} {c = c} (Err y) p e q = record {
  ok = tt;
  err = cut_then (w.taken a) (w.taken b) (w.taken c) p.ok e q.takes;
  going = tt;
  cause = λ n. q.failed;
  loan = q.loan ∙ p.loan;
}

-- a text goes out
pub text_put : {S T : Type 0} {w : Ghosts S} {a b : S} (r : Result T Error) {text : List ℕ} → Puts w a b r text
    → PutsText w a b r text
text_put (Ok y) p = record { ok = p.takes.grew; err = tt; going = p.failed; cause = tt; loan = p.loan }
text_put (Err y) p = record { ok = tt; err = p.takes; going = tt; cause = λ n. p.failed; loan = p.loan }

-- a text that breaks off as what waits of it does
pub text_broken : {S T : Type 0} {w : Ghosts S} {a b : S} (r : Result T Error) {e : Error} {waiting text : List ℕ}
    → r ≡ Err e → PutsBlocks w a b r waiting text → PutsText w a b r text
text_broken (Ok y) is p = absurd cc
text_broken (Err y) is p = record { ok = tt; err = p.err; going = tt; cause = p.cause; loan = p.loan }

-- there is no memory for a text
pub no_text : {S T : Type 0} {w : Ghosts S} {a : S} (r : Result T Error) {e : Error} (text : List ℕ) → r ≡ Err e
    → error_kind e ≡ OutOfMemory → PutsText w a a r text
no_text {w = w} {a = a} r text is kind = rw is (record {
  ok = tt;
  err = prefix_before (front_of_all (Appends-nil (w.taken a))) text;
  going = tt;
  cause = λ n. absurd (n kind);
  loan = refl;
})

-- texts one after another
pub texts_then : {S T U : Type 0} {w : Ghosts S} {a b c : S} {x : U} (r : Result T Error) {one other : List ℕ}
    → PutsText w a b (Ok x) one → PutsText w b c r other → PutsText w a c r (one ++ other)
texts_then {w = w} {a = a} {b = b} {c = c} (Ok y) {one = one} {other = other} p q = record {
  ok = Appends-trans (w.taken a) (w.taken b) (w.taken c) one other p.ok q.ok;
  err = tt;
  going = q.going ∙ p.going;
  cause = tt;
  loan = q.loan ∙ p.loan;
}
texts_then {w = w} {a = a} {b = b} {c = c} (Err y) {one = one} {other = other} p q = record {
  ok = tt;
  err = prefix_after (w.taken a) (w.taken b) (w.taken c) one other p.ok q.err;
  going = tt;
  cause = q.cause;
  loan = q.loan ∙ p.loan;
}

-- at the exit of a `?`
pub texts_broken : {S T U : Type 0} {w : Ghosts S} {a b : S} (r : Result T Error) {e : Error} {text : List ℕ}
    (rest : List ℕ) → r ≡ Err e → PutsText {T = U} w a b (Err e) text → PutsText w a b r (text ++ rest)
texts_broken r rest is p = rw is (record {
  ok = tt;
  err = prefix_before p.err rest;
  going = tt;
  cause = p.cause;
  loan = p.loan;
})
