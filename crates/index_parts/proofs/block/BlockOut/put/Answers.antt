use Rattle.std.proofs.Common.{◌≡◌, ◌+◌, ◌≤◌, ◌++◌, ◌∙◌, List, ℕ, length, take, ap, arith}
use Rattle.std.proofs.lemmas.Slice.{take-put_mid}
use Rattle.index_parts.specs.Gathered.{Gathered}
use Rattle.index_parts.proofs.block.BlockOut.put.Goals as goal

pub returns-clause-bytes : goal.returns-clause-bytes
returns-clause-bytes c =
    let bytes = c.self.inside.bytes in
    let len = c.self.inside.len in
    let given = c.copy_from_slice.new.self in
    let piece = c.args.piece.now in
    let same : given ≡ piece = c.copy_from_slice.ensures.after in
    let sum : len + length piece ≡ len + length given = omega (arith, ap length same) in
    let within : len ≤ length bytes = omega (arith, c.self.told, c.self.invariant) in
    let held : take len bytes ≡ c.args.self.now.bytes = ap (λ (g : Gathered). g.bytes) c.self.view_is in
    record {
      grew = take-put_mid len _ bytes given (len + length piece) sum within ∙ ap (λ (l : List ℕ). l ++ given) held
          ∙ ap (λ (l : List ℕ). c.args.self.now.bytes ++ l) same;
      into_hash = λ n k m h. tt;
    }
