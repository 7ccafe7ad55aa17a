-- Items that are appended one after another after other events. Text that fills a block is written after each item.
-- Then what is appended after all items.
use Rattle.std.proofs.Common.{◌≡◌, ℕ, ◌<◌, ◌≤◌, List, ◌++◌, length, map, take, get_or, Result, Ok, Err, true, refl, ap}
use Rattle.std.proofs.Common.{◌∙◌}
use Rattle.std.specs.IoError.{error_kind}
use Rattle.std.specs.declared.io.Error.{Error}
use Rattle.std.specs.declared.io.ErrorKind.TheVariants.{OutOfMemory}
use Rattle.index_parts.specs.Taking.{AppendsPrefix}
use Rattle.index_parts.specs.declared.hash.io.Out.{Ghosts}
use Rattle.base_text.proofs.Written.{all_placed, no_placed, placed_broken, placed_stopped}
use Rattle.base_text.specs.Blocks.{PutsBlocks}
use Rattle.view_events.specs.Event.{Event, listed, print}
use Rattle.view_events.proofs.Chain.{appended_more, done_as, rest_unheld, rest_untold, told_then}
use Rattle.view_events.proofs.Listed.{all_shown, shown, shown_is}

module _ {S X Y : Type 0} (w : Ghosts S) (a : S) (spell : Event → List ℕ) (events : ℕ → Y → List Event) (g : X → Y)
    (old mid : List ℕ) (begin ends : List Event) (xs : List X) (ys : List Y) (is : mid ≡ old ++ print spell begin)
    (all : map g xs ≡ ys) where
  whole : mid ++ all_shown spell events g xs ≡ old ++ print spell (begin ++ listed events ys)
  whole = appended_more spell old begin (listed events ys) mid (mid ++ all_shown spell events g xs) is
      (shown_is spell events g mid xs ∙ ap (λ (zs : List Y). mid ++ print spell (listed events zs)) all)

  -- there is no memory for an item
  pub item_unheld : {b : S} (r : Result (Unit {0}) Error) {e : Error} (i : ℕ) {waiting later : List ℕ} → r ≡ Err e
      → error_kind e ≡ OutOfMemory
      → PutsBlocks {T = Unit {0}} w a b (Ok tt) waiting (mid ++ all_shown spell events g (take i xs))
      → PutsBlocks w a b r later (old ++ print spell ((begin ++ listed events ys) ++ ends))
  item_unheld r {e = e} i {waiting = waiting} err kind before =
      rw err (rest_untold {T = Unit {0}} {U = Unit {0}} spell old (begin ++ listed events ys) ends e {waiting = waiting}
      (no_placed (Err e) (shown spell events g) mid xs i refl kind before whole))

  -- a block with an item in it broke off
  pub item_broken : {b c : S} (r : Result (Unit {0}) Error) {e : Error} (i : ℕ) (d : X) {waiting full later : List ℕ}
      → r ≡ Err e → i < length xs
      → PutsBlocks {T = Unit {0}} w a b (Ok tt) waiting (mid ++ all_shown spell events g (take i xs))
      → full ≡ waiting ++ print spell (events i (g (get_or xs i d))) → AppendsPrefix (w.taken b) (w.taken c) full
      → w.failed c ≡ true → w.loan c ≡ w.loan b
      → PutsBlocks w a c r later (old ++ print spell ((begin ++ listed events ys) ++ ends))
  item_broken r {e = e} i d {waiting = waiting} err lt before line front failed loan =
      rw err (rest_untold {T = Unit {0}} {U = Unit {0}} spell old (begin ++ listed events ys) ends e {waiting = waiting}
      (placed_broken (Err e) (shown spell events g) mid xs i d refl lt before line front failed loan whole))

  -- an item broke off by itself
  pub item_stopped : {b c : S} (r : Result (Unit {0}) Error) {e : Error} (i : ℕ) (d : X)
      {waiting left later : List ℕ} → r ≡ Err e → i < length xs
      → PutsBlocks {T = Unit {0}} w a b (Ok tt) waiting (mid ++ all_shown spell events g (take i xs))
      → PutsBlocks {T = Unit {0}} w b c (Err e) left (waiting ++ print spell (events i (g (get_or xs i d))))
      → PutsBlocks w a c r later (old ++ print spell ((begin ++ listed events ys) ++ ends))
  item_stopped r {e = e} i d {waiting = waiting} err lt before then =
      rw err (rest_untold {T = Unit {0}} {U = Unit {0}} spell old (begin ++ listed events ys) ends e {waiting = waiting}
      (placed_stopped (Err e) (shown spell events g) mid xs i d refl lt before then whole))

  -- all items were appended
  pub items_sent : {b : S} (i : ℕ) {waiting : List ℕ} → length xs ≤ i
      → PutsBlocks {T = Unit {0}} w a b (Ok tt) waiting (mid ++ all_shown spell events g (take i xs))
      → PutsBlocks {T = Unit {0}} w a b (Ok tt) waiting (old ++ print spell (begin ++ listed events ys))
  items_sent i le before = all_placed (shown spell events g) mid xs i le before whole

  -- no memory for what is appended after the items
  pub ends_unheld : {b : S} (r : Result (Unit {0}) Error) {e : Error} (i : ℕ) {waiting later : List ℕ} → r ≡ Err e
      → error_kind e ≡ OutOfMemory → length xs ≤ i
      → PutsBlocks {T = Unit {0}} w a b (Ok tt) waiting (mid ++ all_shown spell events g (take i xs))
      → PutsBlocks w a b r later (old ++ print spell ((begin ++ listed events ys) ++ ends))
  ends_unheld r i err kind le before = rest_unheld spell old (begin ++ listed events ys) ends r err kind (items_sent i le before)

  -- it was appended
  pub ends_sent : {U : Type 0} {b : S} {x : U} (i : ℕ) {waiting new : List ℕ} → length xs ≤ i
      → PutsBlocks {T = Unit {0}} w a b (Ok tt) waiting (mid ++ all_shown spell events g (take i xs))
      → new ≡ waiting ++ print spell ends → PutsBlocks w a b (Ok x) new (old ++ print spell ((begin ++ listed events ys) ++ ends))
  ends_sent i le before e = done_as (told_then spell old (begin ++ listed events ys) ends (items_sent i le before) e)
