-- Which lines can't show a path that has a NUL: those that end with a NUL and have paths unquoted. Their reader takes
-- the NUL in the path for the end (the program's own).
use Rattle.std.specs.Prelude.{◌≡◌, ◌≢◌, ◌<◌, ℕ, ◌&&◌, Bool, true, not, List, All, length, Option, Some, None, Result}
use Rattle.std.specs.Prelude.{IfErr, OnOk}
use Rattle.std.specs.List.{AllWithin, HoldsAt}
use Rattle.gix_index.specs.Record.{Record}
use Rattle.base_text.specs.declared.lines.Lines.{Lines}
use Rattle.tool_errors.specs.declared.failure.Failure.{Failure}
use Rattle.tool_errors.specs.declared.failure.Failure.TheVariants as failures

abbrev pub LacksNul : Record → Type 0
LacksNul r = All (λ b. b ≢ 0) r.path

-- `place` is the index of the first entry whose path has a NUL
pub record IsFirstNul (rs : List Record) (place : ℕ) : Type 0 where
  pub inside : place < length rs
  pub here : HoldsAt (λ r. LacksNul r → ⊥) rs place
  pub before : AllWithin LacksNul rs 0 place

-- the index of the first entry whose path has a NUL, or no path has one
abbrev pub FindsNul : List Record → Option ℕ → Type 0
FindsNul rs None = AllWithin LacksNul rs 0 (length rs)
FindsNul rs (Some place) = IsFirstNul rs place

-- only a NUL shows the end of a path
abbrev pub is_bare : Lines → Bool
is_bare style = style.nul && not style.quote

-- lines of this style show the end of each path
abbrev pub AreShown : Lines → List Record → Type 0
AreShown style rs = is_bare style ≡ true → FindsNul rs None

-- lines of this style don't show the paths, and the failure names the file and the first entry whose path has a NUL
abbrev pub IsOfNul : Lines → List Record → List ℕ → Failure → Type 0
IsOfNul style rs path (failures.NulInPath file place) =
    (file.now ≡ path) × (is_bare style ≡ true) × IsFirstNul rs place
IsOfNul style rs path failure = ⊥

-- lines of this style show the paths, or the failure has the first one that they don't show
pub record ChecksPaths (style : Lines) (rs : List Record) (path : List ℕ) (answer : Result (Unit {0}) Failure)
    : Type 0 where
  pub shown : OnOk answer (AreShown style rs)
  pub fault : IfErr answer (IsOfNul style rs path)
