-- The laws of the order of records.
use Rattle.std.proofs.Common.{◌≡◌, ◌↔◌, ℕ, List, ap, ◌∙◌}
use Rattle.std.specs.Cmp.{IsTotalOrder}
use Rattle.std.specs.Cmp.Lexicographic.{slice_cmp}
use Rattle.std.specs.Ordering.{nat_cmp, ordering_then}
use Rattle.std.specs.declared.cmp.Ordering.{Ordering}
use Rattle.std.specs.declared.cmp.Ordering.TheVariants.{Equal}
use Rattle.std.proofs.lemmas.Cmp.{then_total, on_total, tied_itself, nat_cmp_total, nat_list_cmp_total}
use Rattle.std.proofs.lemmas.Map.Lookups.{exact_pairs, exact_bytes, exact_unsigned}
use Rattle.entry_list.specs.Record.{Record}
use Rattle.entry_list.specs.Order.{path_cmp, record_stage, key_cmp, record_cmp, IsSameKey}

pub paths_total : IsTotalOrder path_cmp
paths_total = nat_list_cmp_total

pub records_total : IsTotalOrder record_cmp
records_total = then_total (on_total (λ (r : Record). r.path) nat_list_cmp_total) (on_total record_stage nat_cmp_total)

pub same_path : (a b : List ℕ) → (path_cmp a b ≡ Equal) ↔ (a ≡ b)
same_path a b = (exact_bytes a b, λ e. ap (λ (x : List ℕ). path_cmp x b) e ∙ tied_itself paths_total b)

-- a path and a stage that a record compares equal to are its own
pub own_key : (path : List ℕ) (stage : ℕ) (r : Record) → key_cmp path stage r ≡ Equal
    → (r.path ≡ path) × (record_stage r ≡ stage)
own_key path stage r h =
    let e =
    exact_pairs (slice_cmp nat_cmp) nat_cmp exact_bytes exact_unsigned (r.path, record_stage r) (path, stage) h in
    (ap (λ (p : List ℕ × ℕ). p.0) e, ap (λ (p : List ℕ × ℕ). p.1) e)

pub equal_key : (path : List ℕ) (stage : ℕ) (r : Record) → r.path ≡ path → record_stage r ≡ stage
    → key_cmp path stage r ≡ Equal
equal_key path stage r e f =
    ap (λ (p : List ℕ). ordering_then (path_cmp p path) (nat_cmp (record_stage r) stage)) e
    ∙ ap (λ (n : ℕ). ordering_then (path_cmp path path) (nat_cmp n stage)) f
    ∙ ap (λ (o : Ordering). ordering_then o (nat_cmp stage stage)) (tied_itself paths_total path)
    ∙ tied_itself nat_cmp_total stage

pub same_record : (r q : Record) → (record_cmp r q ≡ Equal) ↔ IsSameKey r q
same_record r q = (own_key q.path (record_stage q) r, λ e. equal_key q.path (record_stage q) r e.0 e.1)
