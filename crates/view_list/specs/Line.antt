-- The listing: a line for each record, as git's `ls-files --stage` prints it.
use Rattle.std.specs.Prelude.{ℕ, List, [], ◌∷◌, ◌++◌, flat_map}
use Rattle.hex.specs.Hex.{encode_lower}
use Rattle.entry_fields.specs.Flags.{stage_number}
use Rattle.index_parts.specs.Id.{id_bytes}
use Rattle.entry_list.specs.Record.{Record, record_in}
use Rattle.entry_list.specs.declared.Entry.{Entry}
use Rattle.index_state.specs.State.{storage_of}
use Rattle.index_state.specs.declared.State.{State}
use Rattle.base_text.specs.Digits.{digit_character, low_octal}
use Rattle.base_text.specs.Line.{line_end, shown_path}
use Rattle.base_text.specs.declared.lines.Lines.{Lines}

-- The separators between the fields.
abbrev pub tab : ℕ
tab = 9

abbrev pub space : ℕ
space = 32

-- The mode, a space, the id in base 16, a space, the stage, a tab, the path in the given style, and the end of the
-- line.
abbrev pub line_of_parts : Lines → ℕ → List ℕ → ℕ → List ℕ → List ℕ
line_of_parts style mode id stage path = low_octal mode ++ (space ∷ []) ++ encode_lower id
    ++ (space ∷ digit_character stage ∷ tab ∷ []) ++ shown_path style path ++ (line_end style ∷ [])

abbrev pub line_of : Lines → Record → List ℕ
line_of style r = line_of_parts style r.mode (id_bytes r.id) (stage_number r.flags) r.path

-- The line of the record for an entry of a state.
abbrev pub entry_line : Lines → State → Entry → List ℕ
entry_line style state e = line_of style (record_in (storage_of state) e)

abbrev pub listing : Lines → List Record → List ℕ
listing style rs = flat_map (line_of style) rs
