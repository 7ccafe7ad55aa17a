-- The index that is written if a text has changes, and if it has none.
use Rattle.std.proofs.Common.{◌≡◌, ◌==◌, true, false, List, [], ◌∷◌, All, length, map, refl, subst, sym}
use Rattle.std.proofs.lemmas.Bool.{eqb-true}
use Rattle.std.proofs.lemmas.List.{nil_from_length}
use Rattle.gix_index.specs.Changing.Change.{Change}
use Rattle.gix_index.specs.Contents.{Contents}
use Rattle.gix_index.specs.Edits.{with_records, with_time}
use Rattle.gix_index.specs.FileTime.{FileTime}
use Rattle.index_state.specs.Racy.{MayBeTrusted, smudged}
use Rattle.tool_errors.specs.Options.{IsBeginOf1970}
use Rattle.tool_edit.specs.Updated.{IsRenewed, IsTimed}

-- without a change it stays
pub timed_none : (cs : List Change) (v : Contents) → (length cs == 0) ≡ true → IsTimed cs v v
timed_none cs v h = subst (λ (xs : List Change). IsTimed xs v v) (sym (nil_from_length cs (eqb-true _ _ h))) refl

-- with a change it gets the time of its writing
pub timed_some : (cs : List Change) (before v : Contents) → (length cs == 0) ≡ false → IsRenewed before v
    → IsTimed cs before v
timed_some [] before v h r = absurd cc
timed_some (c ∷ cs) before v h r = r

-- by the time that was asked for, the marked entries, and the time that was set
pub renewed_by : (before marked v : Contents) (asked time : FileTime) → asked ≡ before.time
    → marked ≡ with_records before (map (smudged asked) before.records)
    → ((later : FileTime) → All (λ r. MayBeTrusted later (smudged asked r) → MayBeTrusted asked r) before.records)
    → v ≡ with_time marked time → IsBeginOf1970 time → IsRenewed before v
renewed_by before marked v asked time e m t s b = record {
  time = time;
  untold = b;
  is = rw (m, e) at s;
  trusted = rw e at t;
}
