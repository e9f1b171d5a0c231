use Rattle.std.proofs.Common.{List}
use Rattle.spj_syntax.specs.declared.tree.Select.{Select}
use Rattle.query_resolve.specs.Checks.{query_fault}
use Rattle.query_resolve.specs.Resolved.{IsQueryOf}
use Rattle.query_resolve.proofs.Members.{SoFar}
use Rattle.query_resolve.proofs.unions.queries_of.Given as goal

-- the queries so far are resolved
abbrev pub invariant-loop-select : goal.invariant-loop-select
invariant-loop-select l = SoFar (λ (before : List Select) (select : Select). query_fault l.db select) (IsQueryOf l.db) l.selects l.select-index l.resolved.items
