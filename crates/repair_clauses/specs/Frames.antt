-- The tables of a query, in the order of its atoms: the frame in which the rows of its formulas are numbered.
use Rattle.std.specs.Prelude.{ℕ, List, map}
use Rattle.cqa_model.specs.declared.query.Atom.{Atom}
use Rattle.cqa_model.specs.declared.query.Query.{Query}

abbrev pub tables_of : Query → List ℕ
tables_of q = map (λ (a : Atom). a.table) q.atoms
