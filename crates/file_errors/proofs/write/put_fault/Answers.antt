use Rattle.std.proofs.Common.{refl}
use Rattle.file_errors.proofs.write.put_fault.Goals as goal

pub returns-in-Io : goal.returns-in-Io
returns-in-Io c = λ before works target v options h. c.fault_of.ensures before works _ target v options refl
