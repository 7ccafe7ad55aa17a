use Rattle.view_salvage.proofs.Unreadable.{unread_whole}
use Rattle.view_salvage.proofs.laws.damaged_is_unread.Goals as goal

pub returns : goal.returns
returns c = unread_whole
