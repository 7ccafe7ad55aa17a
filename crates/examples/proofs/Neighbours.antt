-- Neighbours of a sorted list that don't increase have one path, so that a fall among files names one listed twice.
use Rattle.std.proofs.Common.{
  ◌≡◌,
  ◌≢◌,
  ℕ,
  ◌+◌,
  ◌-◌,
  ◌<◌,
  false,
  true≢false,
  List,
  length,
  map,
  IsPermutation,
  sym,
  ap,
  ◌∙◌,
  arith,
}
use Rattle.std.specs.Prelude.{slice_index_or}
use Rattle.std.specs.Cmp.{IsTotalOrder}
use Rattle.std.specs.Cmp.Lexicographic.{slice_cmp}
use Rattle.std.specs.Ordering.{is_lt, nat_cmp, ordering_reverse}
use Rattle.std.specs.declared.cmp.Ordering.{Ordering}
use Rattle.std.specs.declared.cmp.Ordering.TheVariants.{Less, Equal, Greater}
use Rattle.std.proofs.lemmas.Cmp.{then_total, on_total, nat_cmp_total, nat_list_cmp_total}
use Rattle.std.proofs.lemmas.Map.Lookups.{exact_pairs, exact_bytes, exact_unsigned}
use Rattle.gix_index.specs.Order.{record_cmp, record_stage}
use Rattle.gix_index.specs.OrderError.{Error}
use Rattle.gix_index.specs.OrderError.TheVariants.{Memory, OutOfOrder}
use Rattle.gix_index.specs.Record.{Record}
use Rattle.gix_index.specs.Sorted.{IsFall, IsOrdered}
use Rattle.gix_index.specs.SoundState.{OrderCause}
use Rattle.examples.specs.Listed.{RepeatedPathCause, listed_record}
use Rattle.examples.specs.declared.tree_builder.Listed.{Listed}

total : IsTotalOrder record_cmp
total = then_total (on_total (λ (r : Record). r.path) nat_list_cmp_total) (on_total record_stage nat_cmp_total)

one_path : (r q : Record) → record_cmp r q ≡ Equal → r.path ≡ q.path
one_path r q h = ap (λ (p : List ℕ × ℕ). p.0) (exact_pairs (slice_cmp nat_cmp) nat_cmp exact_bytes exact_unsigned
    (r.path, record_stage r) (q.path, record_stage q) h)

neither_less : (o p : Ordering) → p ≡ ordering_reverse o → p ≢ Less → is_lt o ≡ false → p ≡ Equal
neither_less Less p e h k = absurd (true≢false k)
neither_less Equal p e h k = e
neither_less Greater p e h k = absurd (h e)

fallen : (rs : List Record) (place : ℕ) → IsOrdered rs → IsFall rs place → (d : Record)
    → (slice_index_or rs (place - 1) d).path ≡ (slice_index_or rs place d).path
fallen rs place ordered fall d =
    let behind = fall.behind_one in
    let e : (place - 1) + 1 ≡ place = omega (arith, behind) in
    let inside : (place - 1) + 1 < length rs = omega (arith, fall.in_range, e) in
    let r = slice_index_or rs (place - 1) d in
    let q = slice_index_or rs place d in
    one_path r q (neither_less (record_cmp q r) (record_cmp r q) (total.antisymm r q) (fall.falls d)
    (ap (λ k. is_lt (record_cmp (slice_index_or rs k d) (slice_index_or rs (place - 1) d))) (sym e)
    ∙ ordered (place - 1) d (omega arith) inside))

pub says_twice : (files : List Listed) (rs : List Record) (e : Error) → IsPermutation (map listed_record files) rs
    → IsOrdered rs → OrderCause rs e → RepeatedPathCause files e
says_twice files rs (OutOfOrder place path stage previous_path previous_stage) of_files ordered said =
    let fall : IsFall rs place = said.0.0 in
    record {
      records = rs;
      in_some_order = of_files;
      place = place;
      behind_one = fall.behind_one;
      in_range = fall.in_range;
      same = fallen rs place ordered fall;
    }
says_twice files rs Memory of_files ordered said = tt
