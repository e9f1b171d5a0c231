use Rattle.std.proofs.Common.{◌≤◌, ℕ, List, Option, Some, None, IfSome, sym, subst, ◌∙◌}
use Rattle.cqa_model.specs.declared.query.Query.{Query}
use Rattle.query_strategy.specs.declared.shared.Shared.{Shared}
use Rattle.query_strategy.specs.Apart.{IsShared, IsFirstOf, IsFirstShared}
use Rattle.query_strategy.proofs.Places.{passed}
use Rattle.query_strategy.proofs.shared.shared_table.Goals as goal

-- the first one of the first part that has one is the first of all
first_of_all : (parts : List Query) (first : ℕ) (o : Option Shared) → IfSome o (IsFirstOf parts first) → ((x : Shared) → IsShared parts x → first ≤ x.first) → IfSome o (IsFirstShared parts)
first_of_all parts first None h least = tt
first_of_all parts first (Some s) h least = record {
  of_first = subst (λ k. IsFirstOf parts k s) (sym h.of_part) h;
  first_part = λ x sx. subst (λ k. k ≤ x.first) (sym h.of_part) (least x sx);
}

pub returns-then-is_some-clause-some : goal.returns-then-is_some-clause-some
returns-then-is_some-clause-some c = first_of_all c.args.parts.now c.loop-first.first c.shared_of-shared.result c.shared_of-shared.ensures.some c.loop-first.invariant

pub loop-first-preserved : goal.loop-first-preserved
loop-first-preserved c x s = passed c.loop-first.first x.first (c.loop-first.invariant x s) (λ e. c.shared_of-shared.ensures.none (sym c.is_some.ensures ∙ c.if-is_some.false) x s (sym e))
