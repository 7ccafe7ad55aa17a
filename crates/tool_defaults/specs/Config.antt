-- The hash algorithm of ids in a repository's `config` file, line by line (git-config, "CONFIGURATION FILE" and
-- "extensions.objectFormat").
use Rattle.std.specs.Prelude.{◌==◌, ◌-◌, ℕ, Bool, false, codes, List, [], ◌∷◌, length, take, drop, map, nat_eq}
use Rattle.std.specs.Prelude.{if◌then◌else◌, Option, Some, None}
use Rattle.std.specs.Char.{is_ascii_whitespace, to_ascii_lowercase}
use Rattle.std.specs.List.{after_first, before_first, cons_option, ends_with, prefix_len, slice_split, starts_with}
use Rattle.std.specs.List.{suffix_len}
use Rattle.std.specs.Str.{byte, bytes_eq}
use Rattle.gix_index.specs.Kind.{Kind}
use Rattle.gix_index.specs.Kind.TheVariants as kinds

-- ---- one line

-- a text without the white space at its start, and at both ends
abbrev pub without_indent : List ℕ → List ℕ
without_indent text = drop (prefix_len is_ascii_whitespace text) text

abbrev pub trimmed : List ℕ → List ℕ
trimmed text =
    take (length (without_indent text) - suffix_len is_ascii_whitespace (without_indent text)) (without_indent text)

-- the content of a line: a `#` or a `;` begins a comment
abbrev pub content_of : List ℕ → List ℕ
content_of line = trimmed (before_first (λ b. b == byte ";") (before_first (λ b. b == byte "#") line))

-- the names of sections and of settings are the same in upper and in lower case
abbrev pub is_named : List ℕ → List ℕ → Bool
is_named name text = bytes_eq (map to_ascii_lowercase text) name

-- a section begins at a bracket, and its name ends at the closing one
abbrev pub begins_section : List ℕ → Bool
begins_section content = starts_with nat_eq content (codes "[")

abbrev pub section_name : List ℕ → List ℕ
section_name content = before_first (λ b. b == byte "]") (drop 1 content)

abbrev pub section_of : List ℕ → Option (List ℕ)
section_of content = if begins_section content then Some (section_name content) else None

-- whether the section `extensions` is in force from this line on, if it was so before or not
abbrev pub is_in_extensions : Bool → List ℕ → Bool
is_in_extensions before content =
    if begins_section content then is_named (codes "extensions") (section_name content) else before

-- the setting on a line: after the section's name, if a section begins there
abbrev pub setting_of : List ℕ → List ℕ
setting_of content = if begins_section content then after_first (λ b. b == byte "]") (drop 1 content) else content

-- a value without the quotes around it
abbrev pub unquoted_value : List ℕ → List ℕ
unquoted_value value =
    if starts_with nat_eq value (codes "\"") then (if ends_with nat_eq (drop 1 value) (codes "\"")
    then take (length (drop 1 value) - 1) (drop 1 value) else value) else value

-- the value that a setting gives to `objectFormat`, if that is its name
abbrev pub format_value : List ℕ → Option (List ℕ)
format_value setting =
    if is_named (codes "objectformat") (trimmed (before_first (λ b. b == byte "=") setting))
    then Some (unquoted_value (trimmed (after_first (λ b. b == byte "=") setting))) else None

-- the value that a line gives to `objectFormat`, if the section `extensions` is in force
abbrev pub config_line_value : Bool → List ℕ → Option (List ℕ)
config_line_value before content =
    if is_in_extensions before content then format_value (setting_of content) else None

-- ---- all lines

-- the values that are given to `extensions.objectFormat`, in their order
abbrev pub format_values : Bool → List (List ℕ) → List (List ℕ)
format_values before [] = []
format_values before (line ∷ lines) =
    cons_option (config_line_value before (content_of line))
    (format_values (is_in_extensions before (content_of line)) lines)

-- the hash algorithm that a value names
abbrev pub kind_named : List ℕ → Option Kind
kind_named value =
    if bytes_eq value (codes "sha1") then Some kinds.Sha1
    else (if bytes_eq value (codes "sha256") then Some kinds.Sha256 else None)

-- the hash algorithm that the last of some values names, or `other` if there are no values
abbrev pub last_named : Option Kind → List (List ℕ) → Option Kind
last_named other [] = other
last_named other (value ∷ values) = last_named (kind_named value) values

-- the hash algorithm of a repository's ids, if its `config` has this text: SHA-1, unless it is set
abbrev pub format_of : List ℕ → Option Kind
format_of text = last_named (Some kinds.Sha1) (format_values false (slice_split (λ b. b == byte "\n") text))
