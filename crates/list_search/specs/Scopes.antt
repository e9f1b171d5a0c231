-- The columns of tables that are spoken of.
use Rattle.std.specs.Prelude.{ℕ, List, slice_index}
use Rattle.list_search.specs.declared.scope.Scope.{Scope}
use Rattle.list_search.specs.Quotients.{columns_at}

-- the columns of a table of the frame: those at its slot
abbrev pub columns_of : Scope → ℕ → List ℕ
columns_of scope table = columns_at scope.columns (slice_index scope.frame.slots table)
