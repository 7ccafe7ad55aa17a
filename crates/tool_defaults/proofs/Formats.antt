-- The kind that the last value names, line after line.
use Rattle.std.proofs.Common.{◌≡◌, ◌+◌, ◌<◌, ℕ, Bool, List, ◌∷◌, length, drop, get_or, ap, sym, ◌∙◌, arith}
use Rattle.std.specs.Prelude.{Option, Some, None}
use Rattle.std.specs.List.{cons_option}
use Rattle.std.proofs.lemmas.List.{at_drop_all, at_drop_more}
use Rattle.gix_index.specs.Kind.{Kind}
use Rattle.tool_defaults.specs.Config.{content_of, format_values, is_in_extensions, kind_named, last_named}
use Rattle.tool_defaults.specs.Config.{config_line_value}

-- the kind that the lines from here on come to
abbrev pub left : Option Kind → Bool → List (List ℕ) → Option Kind
left kind before lines = last_named kind (format_values before lines)

-- a line without a value
pub passed : (kind : Option Kind) (before : Bool) (lines : List (List ℕ)) (n : ℕ) (line : List ℕ)
    → (n < length lines) × (line ≡ get_or lines n line) → config_line_value before (content_of line) ≡ None
    → left kind before (drop n lines) ≡ left kind (is_in_extensions before (content_of line)) (drop (n + 1) lines)
passed kind before lines n line h none =
    at_drop_more (left kind before) lines n line h.0
    ∙ ap (λ (l : List ℕ). left kind before (l ∷ drop (n + 1) lines)) (sym h.1)
    ∙ ap (λ (v : Option (List ℕ)). last_named kind (cons_option v
    (format_values (is_in_extensions before (content_of line)) (drop (n + 1) lines)))) none

-- a line with one
pub taken : (kind : Option Kind) (before : Bool) (lines : List (List ℕ)) (n : ℕ) (line value : List ℕ)
    → (n < length lines) × (line ≡ get_or lines n line) → config_line_value before (content_of line) ≡ Some value
    → left kind before (drop n lines)
    ≡ left (kind_named value) (is_in_extensions before (content_of line)) (drop (n + 1) lines)
taken kind before lines n line value h some =
    at_drop_more (left kind before) lines n line h.0
    ∙ ap (λ (l : List ℕ). left kind before (l ∷ drop (n + 1) lines)) (sym h.1)
    ∙ ap (λ (v : Option (List ℕ)). last_named kind (cons_option v
    (format_values (is_in_extensions before (content_of line)) (drop (n + 1) lines)))) some

-- no line is left
pub ended : (kind : Option Kind) (before : Bool) (lines : List (List ℕ)) (n : ℕ) → n ≡ length lines
    → left kind before (drop n lines) ≡ kind
ended kind before lines n e = at_drop_all (left kind before) lines n (omega (arith, e))
