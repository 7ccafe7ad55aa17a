-- Events that are appended one after another.
use Rattle.std.proofs.Common.{◌≡◌, ℕ, List, [], ◌∷◌, ◌++◌, OnOk, Result, ap, append-nil, append_assoc, subst, sym, ◌∙◌}
use Rattle.std.proofs.lemmas.Result.{on_ok_weaker}
use Rattle.view_events.specs.Event.{Event, print}
use Rattle.view_events.proofs.Chain.{appended_more}

-- one event is a list of one
pub one_told : (spell : Event → List ℕ) {new : List ℕ} (old : List ℕ) (e : Event) → new ≡ old ++ spell e
    → new ≡ old ++ print spell (e ∷ [])
one_told spell old e h = h ∙ ap (λ (l : List ℕ). old ++ l) (sym (append-nil (spell e)))

-- two events, and three
pub two_told : (spell : Event → List ℕ) (old : List ℕ) {one new : List ℕ} (e f : Event) → one ≡ old ++ spell e
    → new ≡ one ++ spell f → new ≡ old ++ print spell (e ∷ f ∷ [])
two_told spell old e f a b =
    appended_more spell old (e ∷ []) (f ∷ []) _ _ (one_told spell old e a) (one_told spell _ f b)

pub three_told : (spell : Event → List ℕ) (old : List ℕ) {one two new : List ℕ} (e f g : Event)
    → one ≡ old ++ spell e → two ≡ one ++ spell f → new ≡ two ++ spell g
    → new ≡ old ++ print spell (e ∷ f ∷ g ∷ [])
three_told spell old e f g a b c =
    appended_more spell old (e ∷ f ∷ []) (g ∷ []) _ _ (two_told spell old e f a b) (one_told spell _ g c)

-- what is appended from here to the return, if that is an `Ok`
pub record Ends {T E : Type 0} (spell : Event → List ℕ) (r : Result T E) (new old : List ℕ) (es : List Event) : Type 0
  where
    pub is : OnOk r (new ≡ old ++ print spell es)

module _ {T E : Type 0} (spell : Event → List ℕ) (r : Result T E) (new : List ℕ) where
  pub end_all : (old : List ℕ) (es : List Event) → OnOk r (new ≡ old ++ print spell es) → Ends spell r new old es
  end_all old es h = record { is = h }

  pub end_one : (old : List ℕ) (e : Event) → OnOk r (new ≡ old ++ spell e) → Ends spell r new old (e ∷ [])
  end_one old e h = record { is = on_ok_weaker r (λ (q : new ≡ old ++ spell e). one_told spell old e q) h }

  -- known by what it is
  pub end_as : (old : List ℕ) (e f : Event) → OnOk r (new ≡ old ++ spell e) → e ≡ f → Ends spell r new old (f ∷ [])
  end_as old e f h is = end_one old f
      (on_ok_weaker r (λ (q : new ≡ old ++ spell e). q ∙ ap (λ (x : Event). old ++ spell x) is) h)

  -- the same events, put together otherwise
  pub end_is : {old : List ℕ} {es fs : List Event} → Ends spell r new old es → es ≡ fs → Ends spell r new old fs
  end_is {old} ends is = subst (Ends spell r new old) is ends

  pub then_all : {old mid : List ℕ} {fs : List Event} (es : List Event) → mid ≡ old ++ print spell es
      → Ends spell r new mid fs → Ends spell r new old (es ++ fs)
  then_all {old} {mid} {fs} es h rest = record {
    is = on_ok_weaker r (λ (q : new ≡ mid ++ print spell fs). appended_more spell old es fs mid new h q) rest.is;
  }

  pub then_one : {old mid : List ℕ} {e : Event} {fs : List Event} → mid ≡ old ++ spell e → Ends spell r new mid fs
      → Ends spell r new old (e ∷ fs)
  then_one {old} {e = e} h rest = then_all (e ∷ []) (one_told spell old e h) rest

-- what follows three lists follows the last of them
pub behind_last : (a b c d : List Event) → a ++ (b ++ (c ++ d)) ≡ (a ++ (b ++ c)) ++ d
behind_last a b c d =
    sym (append_assoc a (b ++ c) d ∙ ap (λ (l : List Event). a ++ l) (append_assoc b c d))
