use Rattle.std.proofs.Common.{◌↔◌, List, Contains, take}
use Rattle.cqa_value.specs.declared.value.Value.{Value}
use Rattle.cqa_model.specs.Unions.{IsCandidateIn}
use Rattle.union_ask.proofs.candidates.gather_candidates.Given as goal

-- the candidates of the parts so far
abbrev pub invariant-loop-query : goal.invariant-loop-query
invariant-loop-query l = (row : List Value) → Contains l.rows.items row ↔ IsCandidateIn l.parts.db.now (take l.query-index l.parts.queries.now) row
