-- Changes of which none is refused stage what has no fault.
use Rattle.std.proofs.Common.{◌≡◌, ℕ, ◌+◌, List, [], ◌∷◌, All, None}
use Rattle.std.specs.Option.{option_map}
use Rattle.std.proofs.lemmas.List.Elements.{All-cons, All-head, All-nil, All-tail}
use Rattle.index_parts.specs.declared.hash.Kind.{Kind}
use Rattle.entry_list.specs.Record.{Record}
use Rattle.entry_edit.specs.Changes.{added_len, change_fault, refusal_from, first_rejection, room_fault}
use Rattle.entry_edit.specs.Refusals.{Check, staged_entry_fault}
use Rattle.entry_edit.specs.Wholes.{first_in_whole, refusal_among, whole_refusal}
use Rattle.entry_edit.specs.declared.change.ApplyError.TheVariants.{Refused}
use Rattle.entry_edit.specs.declared.change.Change.{Change}
use Rattle.entry_edit.specs.declared.change.Change.TheVariants as changes
use Rattle.entry_edit.specs.declared.error.Error.{Error}
use Rattle.entry_edit.specs.declared.error.Error.TheVariants as errors
use Rattle.index_edit.specs.StillStorable.{StagesSized}
use Rattle.entry_edit.proofs.Whys.{neither}
use Rattle.index_edit_laws.proofs.MadeOfNames.{not_some}
use Rattle.index_edit_laws.specs.Faultless.{AreFaultless, StagesFaultless, StagesShallow}

module _ (check : Check) (kind : Kind) where
  granted_one : (len : ℕ) (c : Change) → change_fault check kind len c ≡ None → StagesSized c → StagesShallow c
      → StagesFaultless check kind c
  granted_one len (changes.Stage entry path) h s d = record {
    granted = (neither (staged_entry_fault check kind entry path.now) (room_fault len path.now) h).0;
    shallow = d;
    sized = s.id;
  }
  granted_one len (changes.Unstage path) h s d = tt

  granted_from : (len at : ℕ) (cs : List Change) → refusal_from check kind len at cs ≡ None → All StagesSized cs
      → All StagesShallow cs → All (StagesFaultless check kind) cs
  unfolding refusal_from
  granted_from len at [] h s d = All-nil (StagesFaultless check kind)
  granted_from len at (c ∷ cs) h s d =
      let n = neither (option_map (λ (e : Error). Refused at e) (change_fault check kind len c))
      (refusal_from check kind (len + added_len c) (at + 1) cs) h in
      let one = not_some (λ (e : Error). Refused at e) (change_fault check kind len c) n.0 in
      All-cons (StagesFaultless check kind) c cs
      (granted_one len c one (All-head StagesSized c cs s) (All-head StagesShallow c cs d))
      (granted_from (len + added_len c) (at + 1) cs n.1 (All-tail StagesSized c cs s) (All-tail StagesShallow c cs d))

pub granted : (check : Check) (kind : Kind) (len : ℕ) (cs : List Change) (rs : List Record)
    → refusal_among (first_rejection check kind len cs) cs rs ≡ None → All StagesSized cs → All StagesShallow cs
    → AreFaultless check kind cs rs
granted check kind len cs rs h s d =
    let n = neither (first_rejection check kind len cs) (whole_refusal (first_in_whole cs rs)) h in
    record {
      each = granted_from check kind len 0 cs n.0 s d;
      outside = not_some (λ at. Refused at errors.InWholeDirectory) (first_in_whole cs rs) n.1;
    }
