-- The answer of writing trees: there is one, and no second.
use Rattle.std.proofs.Common.{◌≡◌, ◌⊎◌, inl, inr, ℕ, zero, suc, ◌<◌, ◌≤◌, ◌^◌, List, [], ◌∷◌, ◌++◌, All, length, refl}
use Rattle.std.proofs.Common.{sym, ap, subst, ◌∙◌, append_assoc, arith}
use Rattle.std.specs.Prelude.{Ok, Err}
use Rattle.std.proofs.lemmas.List.{append-nil}
use Rattle.std.proofs.lemmas.List.Elements.{All-head, All-tail}
use Rattle.index_parts.specs.declared.hash.Kind.{Kind}
use Rattle.entry_list.specs.Order.{IsStrictlyOrdered}
use Rattle.entry_list.specs.Record.{IsSized, Record}
use Rattle.tree_encode.specs.Directory.{IsTreeOf, DirectoryItems}
use Rattle.tree_encode.specs.Refusals.{AreFit, NameCheck, RecordHasFault, AreRefused, Refusal, TooMany, too_many}
use Rattle.tree_encode.specs.Refusals.{first}
use Rattle.tree_encode.specs.Staged.{staged_in}
use Rattle.tree_encode.specs.WritingSteps.{IsReady}
use Rattle.tree_encode.proofs.OneTree.{same_items}
use Rattle.tree_encode.proofs.Whole.{ready_whole, whole_below}
use Rattle.index_laws.specs.TreesAnswer.{IsTreesAnswer, TreesAnswer}
use Rattle.index_laws.proofs.RecordFaults.{Rising, fault_one, fit_front, fit_no_fault, fit_none, next_judged}
use Rattle.index_laws.proofs.RecordFaults.{rising_front}
use Rattle.index_laws.proofs.TreesMade.{tree_of}

few_or_many : (a b : ℕ) → (a < b) ⊎ (b ≤ a)
few_or_many a zero = inr (omega arith)
few_or_many zero (suc b) = inl (omega arith)
few_or_many (suc a) (suc b) = by (few_or_many a b)
  where
    by : (a < b) ⊎ (b ≤ a) → (suc a < suc b) ⊎ (suc b ≤ suc a)
    by (inl l) = inl (omega (arith, l))
    by (inr l) = inr (omega (arith, l))

module _ (check : NameCheck) (kind : Kind) where
  -- the first of records that has a fault
  record HasFirst (rs : List Record) (f : Refusal) : Type 0 where
    before : List Record
    r : Record
    behind : List Record
    is : rs ≡ before ++ r ∷ behind
    fit : AreFit check kind before
    fault : RecordHasFault check kind (staged_in before) r f

  abbrev IsJudged : List Record → Type 0
  IsJudged rs = AreFit check kind rs ⊎ ((f : Refusal) × HasFirst rs f)

  judged : (behind before : List Record) → AreFit check kind before → Rising (before ++ behind) → All IsSized behind
      → IsJudged (before ++ behind)
  judged [] before fit rising sized = inl (subst (AreFit check kind) (sym (append-nil before)) fit)
  judged (r ∷ behind) before fit rising sized = by (judged behind (before ++ r ∷ [])) (next_judged check kind before r
      fit (rising_front (before ++ r ∷ []) behind (subst Rising (sym same) rising)) (All-head IsSized r behind sized))
    where
      same : (before ++ r ∷ []) ++ behind ≡ before ++ r ∷ behind
      same = append_assoc before (r ∷ []) behind

      by : (AreFit check kind (before ++ r ∷ []) → Rising ((before ++ r ∷ []) ++ behind) → All IsSized behind
          → IsJudged ((before ++ r ∷ []) ++ behind)) → AreFit check kind (before ++ r ∷ [])
          ⊎ ((f : Refusal) × RecordHasFault check kind (staged_in before) r f) → IsJudged (before ++ r ∷ behind)
      by again (inl now) =
          subst IsJudged same (again now (subst Rising (sym same) rising) (All-tail IsSized r behind sized))
      by again (inr f) =
          inr (f.0, record { before = before; r = r; behind = behind; is = refl; fit = fit; fault = f.1 })

  pub answer_some : (rs : List Record) → IsStrictlyOrdered rs → All IsSized rs
      → (a : TreesAnswer) × IsTreesAnswer check kind rs a
  answer_some rs ordered sized =
      by (few_or_many (length rs) (2 ^ 31)) (judged rs [] (fit_none check kind) ordered.less sized)
    where
      made : AreFit check kind rs → (items : DirectoryItems) × IsTreeOf kind (staged_in rs) items
      made fit = tree_of kind 2048 (staged_in rs)
          (subst (IsReady kind 2048) (whole_below rs) (ready_whole check kind rs ordered fit))

      by : (length rs < 2 ^ 31) ⊎ (2 ^ 31 ≤ length rs) → IsJudged rs → (a : TreesAnswer) × IsTreesAnswer check kind rs a
      by (inr many) j = (Err TooMany, too_many many)
      by (inl few) (inl fit) = let t = made fit in (Ok t.0, (few, fit, t.1))
      by (inl few) (inr f) = (Err f.0, first f.1.before f.1.r f.1.behind f.0 few f.1.is f.1.fit f.1.fault)

  -- ---- no second

  -- two records of a list are the same one, or one is before the other
  data AreTwo (a c : List Record) (x y : Record) : Type 0 where
    same : a ≡ c → x ≡ y → AreTwo a c x y
    earlier : (m : List Record) → c ≡ a ++ x ∷ m → AreTwo a c x y
    later : (m : List Record) → a ≡ c ++ y ∷ m → AreTwo a c x y

  two : (a c : List Record) (x y : Record) (b d : List Record) → a ++ x ∷ b ≡ c ++ y ∷ d → AreTwo a c x y
  two [] [] x y b d e = let head : x ≡ y = cc in same refl head
  two [] (z ∷ c) x y b d e = let head : x ≡ z = cc in earlier c (ap (λ (q : Record). q ∷ c) (sym head))
  two (w ∷ a) [] x y b d e = let head : w ≡ y = cc in later a (ap (λ (q : Record). q ∷ a) head)
  two (w ∷ a) (z ∷ c) x y b d e = by (two a c x y b d tail)
    where
      head : w ≡ z
      head = cc

      tail : a ++ x ∷ b ≡ c ++ y ∷ d
      tail = cc

      by : AreTwo a c x y → AreTwo (w ∷ a) (z ∷ c) x y
      by (same p q) = same (ap (λ (l : List Record). w ∷ l) p ∙ ap (λ (r : Record). r ∷ c) head) q
      by (earlier m p) =
          earlier m (ap (λ (l : List Record). z ∷ l) p ∙ ap (λ (r : Record). r ∷ (a ++ x ∷ m)) (sym head))
      by (later m p) = later m (ap (λ (l : List Record). w ∷ l) p ∙ ap (λ (r : Record). r ∷ (c ++ y ∷ m)) head)

  -- what fits has no fault in it
  no_fault_in : (rs before : List Record) (r : Record) (m : List Record) (f : Refusal) → Rising rs
      → AreFit check kind rs → rs ≡ before ++ r ∷ m → RecordHasFault check kind (staged_in before) r f → ⊥
  no_fault_in rs before r m f rising fit is h =
      let parts : rs ≡ (before ++ r ∷ []) ++ m = is ∙ sym (append_assoc before (r ∷ []) m) in
      fit_no_fault check kind before r f (fit_front check kind (before ++ r ∷ []) m
      (subst (AreFit check kind) parts fit)) (rising_front (before ++ r ∷ []) m (subst Rising parts rising)) h

  fit_or_refused : (rs : List Record) (f : Refusal) → IsStrictlyOrdered rs → length rs < 2 ^ 31 → AreFit check kind rs
      → AreRefused check kind rs f → ⊥
  fit_or_refused rs f ordered few fit (too_many many) = omega (arith, few, many)
  fit_or_refused rs f ordered few fit (first before r behind g few' is front fault) =
      no_fault_in rs before r behind g ordered.less fit is fault

  one_refusal : (rs : List Record) (f g : Refusal) → IsStrictlyOrdered rs → AreRefused check kind rs f
      → AreRefused check kind rs g → f ≡ g
  one_refusal rs f g ordered (too_many many) (too_many more) = refl
  one_refusal rs f g ordered (too_many many) (first c y d j few is fit fault) = absurd (omega (arith, few, many))
  one_refusal rs f g ordered (first a x b i few is fit fault) (too_many many) = absurd (omega (arith, few, many))
  one_refusal rs f g ordered (first a x b i few p fit fault) (first c y d j few' q fit' fault') =
      by (two a c x y b d (sym p ∙ q))
    where
      rising : (front back : List Record) (r : Record) → rs ≡ front ++ r ∷ back → Rising front
      rising front back r e = rising_front front (r ∷ back) (subst Rising e ordered.less)

      by : AreTwo a c x y → i ≡ j
      by (same e s) = fault_one check kind (staged_in a) x fit.apart i j fault
          (subst (λ (r : Record). RecordHasFault check kind (staged_in a) r j) (sym s)
          (subst (λ (l : List Record). RecordHasFault check kind (staged_in l) y j) (sym e) fault'))
      by (earlier m e) = absurd (no_fault_in c a x m i (rising c d y q) fit' e fault)
      by (later m e) = absurd (no_fault_in a c y m j (rising a b x p) fit e fault')

  pub answer_one : (rs : List Record) → IsStrictlyOrdered rs → (a b : TreesAnswer) → IsTreesAnswer check kind rs a
      → IsTreesAnswer check kind rs b → a ≡ b
  answer_one rs ordered (Ok x) (Ok y) h g = ap Ok (same_items kind x y h.2.directory.made h.2.directory.ordered
      g.2.directory.made g.2.directory.ordered (h.2.leaves ∙ sym g.2.leaves))
  answer_one rs ordered (Ok x) (Err f) h g = absurd (fit_or_refused rs f ordered h.0 h.1 g)
  answer_one rs ordered (Err f) (Ok y) h g = absurd (fit_or_refused rs f ordered g.0 g.1 h)
  answer_one rs ordered (Err f) (Err g) h i = ap Err (one_refusal rs f g ordered h i)
