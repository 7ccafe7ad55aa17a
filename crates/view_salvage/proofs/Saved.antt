-- Indexes of records: after a sort, and of what is saved.
use Rattle.std.proofs.Common.{◌≡◌, ◌≢◌, ℕ, ◌≤◌, Bool, List, All, length, Result, Ok, Err, true, false, refl, sym, ap, subst, ◌∙◌}
use Rattle.std.specs.Prelude.{IfOk}
use Rattle.gix_index.specs.Contents.{Contents}
use Rattle.gix_index.specs.Edits.{edited, empty_contents, refit, with_records}
use Rattle.gix_index.specs.Kind.{Kind}
use Rattle.gix_index.specs.EntryType.{Entry}
use Rattle.gix_index.specs.FileTime.{FileTime}
use Rattle.gix_index.specs.Id.{id_kind}
use Rattle.gix_index.specs.Outcome.{Outcome, no_extension}
use Rattle.gix_index.specs.Record.{IsSized, Record, records_in}
use Rattle.gix_index.specs.State.{PathsInStorage, contents, records}
use Rattle.gix_index.specs.StateType.{State}
use Rattle.gix_index.specs.Storable.{IsStorable}
use Rattle.gix_index.specs.Version.TheVariants.{V2}
use Rattle.view_salvage.specs.Choice.{IsSortedSelection}
use Rattle.view_salvage.specs.SalvageSteps.{IsIndexOf, StaysIndex}
use Rattle.view_salvage.proofs.Saving.{saved_hold}

pub if_ok : {A E : Type 0} (r : Result A E) {P Q : A → Type 0} → ((x : A) → P x → Q x) → IfOk r P → IfOk r Q
if_ok (Ok x) f p = f x p
if_ok (Err e) f p = p

pub index_sorted : (kind : Kind) (rs : List Record) (old new : State) → IsIndexOf kind rs old
    → contents new ≡ refit (contents old) (records new) (contents new).fit → PathsInStorage new
    → (IsStorable (contents old) → IsStorable (contents new)) → IsIndexOf kind (records new) new
index_sorted kind rs old new h e placed storable = record {
  time = h.time;
  sparse = h.sparse;
  fit = (contents new).fit;
  is = e ∙ ap (λ (c : Contents). refit c (records new) (contents new).fit) h.is;
  placed = placed;
  storable = storable h.storable;
}

-- entries were taken out of an index
pub index_left : (old new : State) → contents new ≡ edited (contents old) (records new)
    → (PathsInStorage old → PathsInStorage new) → (IsStorable (contents old) → IsStorable (contents new))
    → StaysIndex old new
index_left old new e placed storable h =
    let unfit : (contents new).fit ≡ false = ap (λ (c : Contents). c.fit) e in
    index_sorted (contents old).kind (records old) old new h
    (e ∙ ap (λ (b : Bool). refit (contents old) (records new) b) (sym unfit)) (placed h.placed) storable

-- an index of what is saved of the entries of another
pub index_saved : (old new : State) → IsIndexOf (contents old).kind (records old) old
    → IsSortedSelection (records old) (records new)
    → contents new ≡ with_records (empty_contents (contents old).kind (contents old).time) (records new)
    → PathsInStorage new → IsIndexOf (contents old).kind (records new) new
index_saved old new h saved e placed = record {
  time = (contents old).time;
  sparse = false;
  fit = true;
  is = e;
  placed = placed;
  storable = subst IsStorable (sym e) (record {
    ids = saved_hold (λ r. id_kind r.id ≡ (contents old).kind) (records old) (records new) h.storable.ids saved;
    paths = saved_hold (λ r. 4095 ≤ length r.path → All (λ b. b ≢ 0) r.path) (records old) (records new)
        h.storable.paths saved;
    fits = saved_hold IsSized (records old) (records new) h.storable.fits saved;
    tree = tt;
  });
}

pub plain_contents : (old : State) (new : Contents) (kind : Kind) (time : FileTime) (storage : List ℕ)
    (entries : List Entry) (outcome : Outcome) → new ≡ record {
      kind = kind;
      time = time;
      version = V2;
      records = records_in storage entries;
      extensions = outcome;
      fit = true;
    } → kind ≡ (contents old).kind → time ≡ (contents old).time → outcome ≡ no_extension
    → new ≡ with_records (empty_contents (contents old).kind (contents old).time) (records_in storage entries)
plain_contents old new kind time storage entries outcome is a b c = is ∙ rw (a, b, c) refl

records_are : (kind : Kind) (rs : List Record) (s : State) → IsIndexOf kind rs s → records s ≡ rs
records_are kind rs s h = ap (λ (c : Contents). c.records) h.is

index_own : (kind : Kind) (rs : List Record) (s : State) → IsIndexOf kind rs s → IsIndexOf kind (records s) s
index_own kind rs s h = subst (λ (l : List Record). IsIndexOf kind l s) (sym (records_are kind rs s h)) h

pub kind_is : (kind : Kind) (rs : List Record) (s : State) → IsIndexOf kind rs s → (contents s).kind ≡ kind
kind_is kind rs s h = ap (λ (c : Contents). c.kind) h.is

pub index_itself : (kind : Kind) (rs : List Record) (s : State) → IsIndexOf kind rs s
    → IsIndexOf (contents s).kind (records s) s
index_itself kind rs s h =
    subst (λ (k : Kind). IsIndexOf k (records s) s) (sym (kind_is kind rs s h)) (index_own kind rs s h)

pub stays_then : (a b c : State) → StaysIndex a b → StaysIndex b c → StaysIndex a c
stays_then a b c first second h =
    subst (λ (k : Kind). IsIndexOf k (records c) c) (kind_is (contents a).kind (records b) b (first h))
    (second (index_itself (contents a).kind (records b) b (first h)))
