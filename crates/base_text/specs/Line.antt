-- The format of lines with paths, as by `-z` and `core.quotePath` of git's commands.
use Rattle.std.specs.Prelude.{ℕ, List, if◌then◌else◌}
use Rattle.base_text.specs.declared.lines.Lines.{Lines}
use Rattle.base_text.specs.Quoted.{quoted}

-- the end of a line: a NUL or a newline
abbrev pub line_end : Lines → ℕ
line_end style = if style.nul then 0 else 10

-- a path in a line: quoted, or its bytes unchanged
abbrev pub shown_path : Lines → List ℕ → List ℕ
shown_path style path = if style.quote then quoted path else path
