-- The span of the block of each place of a table, so that it is read and not looked for.
use Rattle.std.specs.Prelude.{◌≡◌, ℕ, ◌<◌, List, length, Contains, slice_index_or}
use Rattle.cqa_model.specs.Database.{Table}
use Rattle.range_ask.specs.Picks.{IsInBlocks}
use Rattle.range_join.specs.declared.spans.Span.{Span}
use Rattle.range_join.specs.Firsts.{StandsIn, spans_at, blocks_at}
use Rattle.table_blocks.specs.Tables.{rows_at}

-- a span without places
abbrev pub no_span : Span
no_span = record { from = 0; behind = 0 }

-- the one at a place
abbrev pub span_of : List Span → ℕ → Span
span_of spans p = slice_index_or spans p no_span

-- for each row of a table the span of its block
pub record AreSpansOfPlaces (db : List Table) (table : ℕ) (spans : List Span) : Type 0 where
  pub parted : IsInBlocks db table (blocks_at db table)
  pub size : length spans ≡ length (rows_at db table)
  pub of_table : (p : ℕ) → p < length spans → Contains (spans_at db table) (span_of spans p)
  pub there : (p : ℕ) → p < length spans → StandsIn (span_of spans p) p
