use Rattle.view_json_laws.proofs.Document.{document_text, document_told}
use Rattle.view_json_laws.proofs.Spelled.{value_spelled}
use Rattle.view_json_laws.proofs.text_spells_value.Goals as goal

pub returns-clause-events : goal.returns-clause-events
returns-clause-events c = value_spelled

pub returns-clause-told : goal.returns-clause-told
returns-clause-told c = document_told

pub returns-clause-spelled : goal.returns-clause-spelled
returns-clause-spelled c = document_text
