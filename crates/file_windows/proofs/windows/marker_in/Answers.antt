use Rattle.std.proofs.Common.{rules, ◌≡◌, ◌-◌, ℕ, List, true, false, length, take, drop, sym, ◌∙◌, arith}
use Rattle.std.specs.Prelude.{nat_eq}
use Rattle.std.specs.List.{starts_with}
use Rattle.index_parts.specs.Numbers.{be}
use Rattle.index_extensions.specs.WalkSteps.{marker_start}
use Rattle.file_windows.proofs.Endings.{unmarked}
use Rattle.file_windows.proofs.Markers.{marker_stands}
use Rattle.file_windows.proofs.windows.marker_in.Goals as goal

pub returns-then-not-starts_with-clause-none : goal.returns-then-not-starts_with-clause-none
returns-then-not-starts_with-clause-none c = λ long kind before.
    let t = c.args.tail.now in
    let said : c.starts_with.result ≡ starts_with nat_eq (take 8 (drop (length t - 52) t)) marker_start =
    search rules in
    let other : c.starts_with.result ≡ false = search rules in
    unmarked kind before t long (sym said ∙ other)

pub returns-clause-some : goal.returns-clause-some
returns-clause-some c =
    let t = c.args.tail.now in
    let end : List ℕ = drop (length t - 52) t in
    let said : c.starts_with.result ≡ starts_with nat_eq (take 8 end) marker_start = search rules in
    let same : c.starts_with.result ≡ true = search rules in
    let place : c.from_be_u32.result ≡ be (take 4 (drop 8 end)) = search rules in
    let hash : c.split_at-4.result.0.now ≡ take 20 (drop 4 (drop 8 end)) = search rules in
    rw (place, hash) (marker_stands t (omega (arith, c.if-tail-lt-KEPT_LEN.false)) (sym said ∙ same))
