-- The limits of a statement's parts.
use Rattle.std.specs.Prelude.{ℕ}
use Rattle.script_lex.specs.Tokens.{longest_text}

-- the most conflicts that a search may be given
abbrev pub most_conflicts : ℕ
most_conflicts = 4_294_967_295

-- A text has no more tokens than bytes.
abbrev pub most_tokens : ℕ
most_tokens = longest_text

-- A statement has no more items in a list than the longest text has bytes.
abbrev pub most_items : ℕ
most_items = longest_text
