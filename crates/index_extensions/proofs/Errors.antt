-- What always holds also holds if there is an error.
use Rattle.std.specs.Prelude.{Result, Ok, Err, IfErr}

pub at_err : {T E : Type 0} {P : Type 0} (r : Result T E) → P → IfErr r (λ _. P)
at_err (Ok x) p = tt
at_err (Err e) p = p
