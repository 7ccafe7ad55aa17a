-- Which entries may have changed in the work tree ("racy git" in git's technical documents).
use Rattle.std.specs.Prelude.{ℕ, ◌||◌, Bool, true, not, List, Option, Some, None}
use Rattle.std.specs.BTreeMap.{BTreeMap, get_by}
use Rattle.std.specs.Cmp.Lexicographic.{slice_cmp}
use Rattle.std.specs.Ordering.{nat_cmp}
use denote.Ref.{Bor}
use Rattle.gix_index.specs.FileTime.{FileTime}
use Rattle.gix_index.specs.Record.{Record}
use Rattle.gix_index.specs.StatMatch.{is_match, is_racy}
use Rattle.gix_index.specs.StatOptions.{Options}
use Rattle.gix_index.specs.StatType.{Stat}

-- A file may differ from its entry: there is no file, its stat differs, or the entry is racy, so that equal stats prove
-- nothing.
abbrev pub may_differ : Options → FileTime → Stat → Option Stat → Bool
may_differ options time listed None = true
may_differ options time listed (Some seen) = not (is_match listed seen options) || is_racy listed time options

-- The stat of the file that was seen at the path.
abbrev pub stat_seen : BTreeMap (Bor (List ℕ)) Stat → List ℕ → Option Stat
stat_seen seen path = get_by (λ key. slice_cmp nat_cmp path key.now) seen

-- The file of a record may differ from it, for an index of this time and these files that were seen.
abbrev pub may_have_changed : Options → FileTime → BTreeMap (Bor (List ℕ)) Stat → Record → Bool
may_have_changed options time seen r = may_differ options time r.stat (stat_seen seen r.path)
