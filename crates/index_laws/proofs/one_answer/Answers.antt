use Rattle.index_model.proofs.OnceAnswers.{answer_one}
use Rattle.index_model.proofs.SomeAnswers.{answer_some}
use Rattle.index_laws.proofs.one_answer.Goals as goal

pub returns-clause-some : goal.returns-clause-some
returns-clause-some c = answer_some

pub returns-clause-one : goal.returns-clause-one
returns-clause-one c = answer_one
