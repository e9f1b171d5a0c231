-- The formulas of rows of pairs.
use Rattle.std.specs.Prelude.{◌≡◌, ◌+◌, ℕ, List, Bool, length}
use Rattle.cnf_form.specs.declared.formula.Cnf.{Cnf}
use Rattle.cnf_form.specs.declared.formula.Lit.{Lit}
use Rattle.cnf_form.specs.Literals.{literals, SatisfiesAll}
use Rattle.pair_refutation.specs.declared.graph.Pair.{Pair}
use Rattle.weak_pairs.specs.Starts.{starts_from}
use Rattle.pair_refutation.specs.declared.graph.Graph.{Graph}
use Rattle.pair_refutation.specs.Graph.{all_of, graph_clauses, IsGraph}
use Rattle.pair_refutation.specs.Edges.{AreOfVars}

-- the clauses of a graph: those of its blocks, and then those of its pairs
pub record AreGraphClauses (vars : ℕ) (cs : List (List Lit)) : Type 0 where
  pub blocks : List (List ℕ)
  pub pairs : List Pair
  pub are : cs ≡ graph_clauses blocks pairs
  pub graph : IsGraph vars blocks pairs

abbrev pub IsPairFormula : Cnf → Type 0
IsPairFormula cnf = AreGraphClauses cnf.vars (literals cnf.clauses)

-- no assignment satisfies it
abbrev pub IsUnsatisfiable : Cnf → Type 0
IsUnsatisfiable cnf = (v : ℕ → Bool) → SatisfiesAll v (literals cnf.clauses) → ⊥

-- what is read of clauses: where the blocks' rows begin, their variables and edges, and the pairs
pub record AreReadTo (vars : ℕ) (cs : List (List Lit)) (g : Graph) : Type 0 where
  pub blocks : List (List ℕ)
  pub are : cs ≡ graph_clauses blocks g.pairs.items
  pub graph : IsGraph vars blocks g.pairs.items
  pub start : g.start.items ≡ starts_from 0 blocks
  pub count : g.blocks + 1 ≡ length g.start.items
  pub var : g.var.items ≡ all_of blocks
  pub edges : AreOfVars g.pairs.items vars g.var.items g.edge.items

abbrev pub IsReadTo : Cnf → Graph → Type 0
IsReadTo cnf g = AreReadTo cnf.vars (literals cnf.clauses) g
