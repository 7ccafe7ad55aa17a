-- Which row a refusal is of: it is there.
use Rattle.std.proofs.Common.{◌≡◌, ◌∙◌, ℕ, ◌≤◌, ◌&&◌, ◌==◌, List, ◌∷◌, ◌++◌, All, Bool, true, false, not, cond}
use Rattle.std.proofs.Common.{Option, Some, None, Err, length, get_or, inr, nat_lt, refl, sym, ap, subst, arith}
use Rattle.std.proofs.Common.{length-append}
use Rattle.std.specs.Prelude.{position, unwrap_or}
use Rattle.std.specs.List.{position_or_len}
use Rattle.std.specs.Str.{bytes_eq}
use Rattle.std.proofs.Math.Seq.{get_or-append_seam}
use Rattle.std.proofs.lemmas.Bool.{eq-eqb, false≢true, ltb-false}
use Rattle.std.proofs.lemmas.List.Elements.{All-filter, All-map}
use Rattle.std.proofs.lemmas.List.Sums.{fails_before_first}
use Rattle.std.proofs.lemmas.Slice.Eq.{bytes_eq-Decides}
use Rattle.gix_index.specs.Owned.{bstring_bytes}
use Rattle.gix_index.specs.EntryImage.{is_removed}
use Rattle.gix_index.specs.Flags.{stage_number}
use Rattle.gix_index.specs.Kind.{Kind}
use Rattle.gix_index.specs.Record.{Record}
use Rattle.gix_index.specs.Refusals.{AreRefused, Refusal, both, first, misnamed, null_id, other_kind, other_mode}
use Rattle.gix_index.specs.Refusals.{TreesFaultCause, too_many, unmerged}
use Rattle.gix_index.specs.Refusals as refusals
use Rattle.gix_index.specs.WriteTreesError.{Error}
use Rattle.gix_index.specs.WriteTreesError.TheVariants as errors
use Rattle.entry_info.specs.Names as names
use Rattle.capi_table.specs.Fitting.{IsFitTable}
use Rattle.capi_table.specs.Table.{records_of, spelled}
use Rattle.capi_table.specs.declared.row.Row.{Row}
use Rattle.capi_table.specs.Blaming.{HasNoTrees, is_blamed, fault_row, unmade_reason}
use Rattle.capi_table.specs.Trees.{IfNoTreeRoom, IfTreesRejected, IfUnmade, records_left}
use Rattle.capi_table.specs.declared.trees.Counts.{Counts}
use Rattle.capi_table.proofs.Cuts.{unequal}

-- ---- searches

some_none : (i : ℕ) → Some i ≡ None → ⊥
some_none i e = cc

none_so : {X : Type 0} (p : X → Bool) (xs : List X) → position p xs ≡ None → All (λ x. p x ≡ false) xs
none_so p xs h = λ k d lt. fails_before_first p xs k d (omega (arith, lt, past))
  where
    past : length xs ≤ position_or_len p xs
    past = by (nat_lt (position_or_len p xs) (length xs)) refl
      where
        by : (b : Bool) → nat_lt (position_or_len p xs) (length xs) ≡ b → length xs ≤ position_or_len p xs
        by true e = absurd (some_none (position_or_len p xs)
            (sym (ap (λ (b : Bool). cond b (Some (position_or_len p xs)) None) e) ∙ h))
        by false e = ltb-false (position_or_len p xs) (length xs) e

placed : (o : Option ℕ) → (o ≡ None → ⊥) → o ≡ Some (unwrap_or o 0)
placed None h = absurd (h refl)
placed (Some i) h = refl

-- ---- rows

-- a record isn't left out, is in conflict or not, and has the path
abbrev is_so : List ℕ → Bool → Record → Bool
is_so path conflict r =
    not (is_removed r.flags)
    && (cond conflict (not (stage_number r.flags == 0)) (stage_number r.flags == 0) && bytes_eq r.path path)

in_conflict : (r : Record) → is_removed r.flags ≡ false → (stage_number r.flags ≡ 0 → ⊥) → is_so r.path true r ≡ true
in_conflict r kept stage =
    rw (kept, unequal (stage_number r.flags) 0 stage, (bytes_eq-Decides r.path r.path).1 refl) refl

merged : (r : Record) → is_removed r.flags ≡ false → stage_number r.flags ≡ 0 → is_so r.path false r ≡ true
merged r kept stage =
    rw (kept, eq-eqb (stage_number r.flags) 0 stage, (bytes_eq-Decides r.path r.path).1 refl) refl

module _ (paths : List ℕ) (rows : List Row) where
  -- there is a row for each record that isn't left out
  there : (path : List ℕ) (conflict : Bool) (before : List Record) (r : Record) (behind : List Record)
      → records_left paths rows ≡ before ++ r ∷ behind → is_so path conflict r ≡ true
      → position (is_blamed paths path conflict) rows ≡ None → ⊥
  there path conflict before r behind e so h =
      let Not : Record → Type 0 = λ x. is_so path conflict x ≡ false in
      let spelt : All Not (records_of paths rows) =
      All-map Not (spelled paths) rows (none_so (is_blamed paths path conflict) rows h) in
      let left : All Not (records_left paths rows) =
      All-filter (λ x. not (is_removed x.flags)) Not (records_of paths rows) spelt in
      let at : Not (get_or (before ++ r ∷ behind) (length before) r) =
      subst (All Not) e left (length before) r (omega (arith, length-append before (r ∷ behind))) in
      false≢true (sym (subst Not (get_or-append_seam before r behind r) at) ∙ so)

  -- there is a row for a rejection
  abbrev HasRow : Refusal → Type 0
  HasRow refusals.TooMany = Unit {0}
  HasRow (refusals.Unmerged path) = position (is_blamed paths path true) rows ≡ None → ⊥
  HasRow (refusals.Mode path mode) = position (is_blamed paths path false) rows ≡ None → ⊥
  HasRow (refusals.Path path fault) = position (is_blamed paths path false) rows ≡ None → ⊥
  HasRow (refusals.OtherKind path) = position (is_blamed paths path false) rows ≡ None → ⊥
  HasRow (refusals.NullId path) = position (is_blamed paths path false) rows ≡ None → ⊥
  HasRow (refusals.Both file below) = position (is_blamed paths below false) rows ≡ None → ⊥

  has_row : (kind : Kind) (f : Refusal) → AreRefused names.name_rejection kind (records_left paths rows) f → HasRow f
  has_row kind f (too_many many) = tt
  has_row kind f (first before r behind g few e fit (unmerged kept stage)) =
      there r.path true before r behind e (in_conflict r kept stage)
  has_row kind f (first before r behind g few e fit (other_mode m n)) =
      there r.path false before r behind e (merged r m.0 m.1)
  has_row kind f (first before r behind g few e fit (misnamed k fault m n o)) =
      there r.path false before r behind e (merged r m.0 m.1)
  has_row kind f (first before r behind g few e fit (other_kind k m p o)) =
      there r.path false before r behind e (merged r m.0 m.1)
  has_row kind f (first before r behind g few e fit (null_id k m p i o)) =
      there r.path false before r behind e (merged r m.0 m.1)
  has_row kind f (first before r behind g few e fit (both s kept own holds lies)) =
      there r.path false before r behind e (merged r kept (own kept).0)

  -- ---- the error that is returned

  module _ (kind : Kind) (table : IsFitTable kind true paths rows) (S : ℕ → Type 0) (K : Type 0) where
    abbrev Told : Error → Type 0
    Told e = IfTreesRejected (Err (unmade_reason paths rows e)) (HasNoTrees kind paths rows)

    -- a rejection whose row is in the error
    abbrev Refused : Refusal → Type 0
    Refused f = AreRefused names.name_rejection kind (records_left paths rows) f × K

    pub refused_told : (e : Error) → TreesFaultCause e S Refused → Told e
    refused_told (errors.Sink number) h = tt
    refused_told errors.Memory h = tt
    refused_told errors.TooManyEntries h = inr (record {
      table = table;
      refusal = refusals.TooMany;
      first = h.0;
      place = 0;
      of_row = tt;
      fault_is = refl;
    })
    refused_told (errors.Unmerged path) h = inr (record {
      table = table;
      refusal = refusals.Unmerged (bstring_bytes path);
      first = h.0;
      place = fault_row paths rows (errors.Unmerged path);
      of_row = placed _ (has_row kind (refusals.Unmerged (bstring_bytes path)) h.0);
      fault_is = refl;
    })
    refused_told (errors.Mode path mode) h = inr (record {
      table = table;
      refusal = refusals.Mode (bstring_bytes path) mode.0;
      first = h.0;
      place = fault_row paths rows (errors.Mode path mode);
      of_row = placed _ (has_row kind (refusals.Mode (bstring_bytes path) mode.0) h.0);
      fault_is = refl;
    })
    refused_told (errors.Path path fault) h = inr (record {
      table = table;
      refusal = refusals.Path (bstring_bytes path) fault;
      first = h.0;
      place = fault_row paths rows (errors.Path path fault);
      of_row = placed _ (has_row kind (refusals.Path (bstring_bytes path) fault) h.0);
      fault_is = refl;
    })
    refused_told (errors.OtherKind path) h = inr (record {
      table = table;
      refusal = refusals.OtherKind (bstring_bytes path);
      first = h.0;
      place = fault_row paths rows (errors.OtherKind path);
      of_row = placed _ (has_row kind (refusals.OtherKind (bstring_bytes path)) h.0);
      fault_is = refl;
    })
    refused_told (errors.NullId path) h = inr (record {
      table = table;
      refusal = refusals.NullId (bstring_bytes path);
      first = h.0;
      place = fault_row paths rows (errors.NullId path);
      of_row = placed _ (has_row kind (refusals.NullId (bstring_bytes path)) h.0);
      fault_is = refl;
    })
    refused_told (errors.Both file below) h = inr (record {
      table = table;
      refusal = refusals.Both (bstring_bytes file) (bstring_bytes below);
      first = h.0;
      place = fault_row paths rows (errors.Both file below);
      of_row = placed _ (has_row kind (refusals.Both (bstring_bytes file) (bstring_bytes below)) h.0);
      fault_is = refl;
    })

    -- the error isn't a lack of room
    pub none_passed : (e : Error) (P : Counts → Type 0) → IfNoTreeRoom (Err (unmade_reason paths rows e)) P
    none_passed (errors.Sink number) P = tt
    none_passed errors.Memory P = tt
    none_passed errors.TooManyEntries P = tt
    none_passed (errors.Unmerged path) P = tt
    none_passed (errors.Mode path mode) P = tt
    none_passed (errors.Path path fault) P = tt
    none_passed (errors.OtherKind path) P = tt
    none_passed (errors.NullId path) P = tt
    none_passed (errors.Both file below) P = tt

    pub fit_told : (e : Error) → IfUnmade (Err (unmade_reason paths rows e)) (IsFitTable kind true paths rows)
    fit_told (errors.Sink number) = table
    fit_told errors.Memory = table
    fit_told errors.TooManyEntries = tt
    fit_told (errors.Unmerged path) = tt
    fit_told (errors.Mode path mode) = tt
    fit_told (errors.Path path fault) = tt
    fit_told (errors.OtherKind path) = tt
    fit_told (errors.NullId path) = tt
    fit_told (errors.Both file below) = tt
