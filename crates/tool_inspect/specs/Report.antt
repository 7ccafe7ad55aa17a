-- What the program reports of a file that it saved, except the file's name and the texts of its first errors (the
-- program's own).
use Rattle.std.specs.Prelude.{ℕ, List, [], ◌++◌, codes, decimal}
use Rattle.view_salvage.specs.declared.salvage.SharedEntries.{SharedEntries}
use Rattle.view_salvage.specs.declared.salvage.SharedEntries.TheVariants as fates
use Rattle.tool_inspect.specs.declared.salvage.Counts.{Counts}

-- how many entries a file declares, how many were read, and how many were preserved
abbrev pub counts_text : Counts → List ℕ
counts_text counts =
    decimal counts.declared ++ codes " declared, " ++ decimal counts.read ++ codes " read, " ++ decimal counts.kept
    ++ codes " kept"

-- the offset of the first error
abbrev pub fault_place_text : ℕ → List ℕ
fault_place_text offset = codes "; first fault at " ++ decimal offset

-- how many entries are before the first invalid one, and how many after it
abbrev pub around_fault_text : ℕ → ℕ → List ℕ
around_fault_text before behind =
    codes "; " ++ decimal before ++ codes " before the first entry at fault, " ++ decimal behind ++ codes " behind it"

-- what became of the entries of the shared index; empty if there is none
abbrev pub fate_text : SharedEntries → List ℕ
fate_text fates.Unlinked = []
fate_text fates.Merged = codes "; merged with the shared index"
fate_text fates.Missing = codes "; the entries of the shared index are missing"
