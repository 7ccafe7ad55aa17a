use Rattle.file_windows.proofs.Steps.{are_bytes}
use Rattle.file_windows.proofs.plan.hash_piece.Goals as goal

pub returns-then-plan-clause-are_bytes : goal.returns-then-plan-clause-are_bytes
returns-then-plan-clause-are_bytes c = are_bytes c.args.bytes.now c.type_inv.bytes

pub returns-else-plan-clause-are_bytes : goal.returns-else-plan-clause-are_bytes
returns-else-plan-clause-are_bytes c = are_bytes c.args.bytes.now c.type_inv.bytes
