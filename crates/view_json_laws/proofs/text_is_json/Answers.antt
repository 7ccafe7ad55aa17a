use Rattle.view_json_laws.proofs.Printed.{spelling_is_json}
use Rattle.view_json_laws.proofs.text_is_json.Goals as goal

pub returns : goal.returns
returns c = spelling_is_json
