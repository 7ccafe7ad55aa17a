-- The entries that are left after a closure was called once for each of them (the library's own).
use Rattle.std.specs.Prelude.{◌≡◌, ℕ, ◌<◌, Bool, not, List, length, map, filter, zip, slice_index_or}
use Rattle.std.specs.Fn.{AlwaysReturns}
use Rattle.std.specs.List.{FoldsTo, range_with_len}
use denote.Param.Members.{Mut}
use denote.Ref.{Bor, MutBor}
use Rattle.entry_list.specs.declared.Entry.{Entry}
use Rattle.entry_list.specs.Record.{Record, record_in}

-- one call: the index, the entry before and after it, and whether the entry is to be removed
pub record Call : Type 0 where
  pub place : ℕ
  pub before : Entry
  pub is_removed : Bool
  pub after : Entry

-- the closure was called with the index, the path and the entry, and returned the answer
abbrev pub IsCalled : {F : Type 0} → (F → ℕ → Bor (List ℕ) → MutBor Entry → Bool → MutBor Entry → F → Type 0) → List ℕ
    → F → Call → F → Type 0
IsCalled step storage f c g =
    (p : Bor (List ℕ)) × (e : MutBor Entry) × (e' : MutBor Entry) × (p.now ≡ (record_in storage c.before).path)
    × (e.now ≡ c.before) × (e'.now ≡ c.after) × step f c.place p e c.is_removed e' g

-- The closure was called once for each entry, first to last, with the index that the entry has in the old list. Those
-- that are not to be removed are left, in the same order and as the closure left them.
pub record RemovesBy (calls : List Call) (old new : List Entry) : Type 0 where
  pub looked_at : map (λ c. c.before) calls ≡ old
  pub in_order : (k : ℕ) (d : Call) → k < length calls → (slice_index_or calls k d).place ≡ k
  pub retained : new ≡ map (λ c. c.after) (filter (λ c. not c.is_removed) calls)

-- the calls from one state of the closure to another, and the entries that they leave
pub record RemovesWith {F : Type 0} (step : F → ℕ → Bor (List ℕ) → MutBor Entry → Bool → MutBor Entry → F → Type 0)
    (storage : List ℕ) (first : F) (old : List Entry) (last : F) (new : List Entry) : Type 0 where
  pub calls : List Call
  pub ran : FoldsTo (λ f c g. IsCalled step storage f c g) first calls last
  pub left : RemovesBy calls old new

-- ---- closures with further properties

-- the arguments of a call: an index, a path and an entry; and its results: an answer and the entry as the call left it
abbrev pub Shown : Type 0
Shown = ℕ × (Bor (List ℕ) × (MutBor Entry × Unit {0}))

abbrev pub Answered : Type 0
Answered = Bool × (MutBor Entry × Unit {0})

-- the record of the entry and the path that a call takes
abbrev pub shown_record : Shown → Record
shown_record a =
    record {
      path = a.1.0.now;
      stat = a.1.1.0.now.stat;
      id = a.1.1.0.now.id;
      flags = a.1.1.0.now.flags.0;
      mode = a.1.1.0.now.mode.0;
    }

-- the entries are equal, except for their flags
abbrev pub IsSameButFlags : Entry → Entry → Type 0
IsSameButFlags d e = (e.path ≡ d.path) × (e.stat ≡ d.stat) × (e.id ≡ d.id) × (e.mode ≡ d.mode)

-- each call, from this state of the closure on, leaves the entry's range of the storage unchanged
abbrev pub LeavesPaths : {F : Type 0} → Mut F Shown Answered → F → Type 0
LeavesPaths g f = AlwaysReturns g (λ a r. r.1.0.now.path ≡ a.1.1.0.now.path) f

-- each call leaves the entry unchanged, except for its flags
abbrev pub ChangesFlagsAlone : {F : Type 0} → Mut F Shown Answered → F → Type 0
ChangesFlagsAlone g f = AlwaysReturns g (λ a r. IsSameButFlags a.1.1.0.now r.1.0.now) f

-- each call returns the result of a test of the index and the record, and leaves the entry unchanged
abbrev pub AnswersByPlace : {F : Type 0} → Mut F Shown Answered → (ℕ → Record → Bool) → F → Type 0
AnswersByPlace g test f = AlwaysReturns g (λ a r. (r.0 ≡ test a.0 (shown_record a)) × (r.1.0.now ≡ a.1.1.0.now)) f

-- each call returns the result of a test of the record alone, and leaves the entry unchanged
abbrev pub AnswersBy : {F : Type 0} → Mut F Shown Answered → (Record → Bool) → F → Type 0
AnswersBy g test f = AnswersByPlace g (λ place r. test r) f

-- the list without the elements for which a test of the index and the element is true
abbrev pub left_by : {A : Type 0} → (ℕ → A → Bool) → List A → List A
left_by test xs = map (λ p. p.1) (filter (λ p. not (test p.0 p.1)) (zip (range_with_len 0 (length xs)) xs))
