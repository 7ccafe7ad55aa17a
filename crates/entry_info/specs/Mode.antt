-- The mode that an index stores for the mode of a line (git-update-index, "USING --INDEX-INFO"; gitformat-index, "Index
-- entry", the 32-bit mode).
use Rattle.std.specs.Prelude.{ℕ, ◌==◌, ◌||◌, bit_and, if◌then◌else◌}
use Rattle.index_parts.specs.Mode.{commit_mode, directory_mode, executable_mode, file_mode, link_mode}

-- the bits for the type of a file
abbrev pub file_bits : ℕ → ℕ
file_bits mode = bit_and mode 0o170000

-- The mode that is stored for a given one. Any link has that of a link. Only the mode of a complete directory is
-- unchanged. Any commit and any other directory has that of a commit. Everything else has that of a file, executable if
-- the bit for the owner is set.
abbrev pub kept_mode : ℕ → ℕ
kept_mode mode =
    if file_bits mode == link_mode then link_mode
    else (if mode == directory_mode then directory_mode
    else (if file_bits mode == directory_mode || file_bits mode == commit_mode then commit_mode
    else (if bit_and mode 0o100 == 0 then file_mode else executable_mode)))
