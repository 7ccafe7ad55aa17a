use Rattle.view_json_laws.proofs.OneReading.{one_value}
use Rattle.view_json_laws.proofs.Printed.{one_spelling}
use Rattle.view_json_laws.proofs.one_reading.Goals as goal

pub returns-clause-text : goal.returns-clause-text
returns-clause-text c = one_value

pub returns-clause-value : goal.returns-clause-value
returns-clause-value c = one_spelling
