-- What a step of a plan is over, and the rows that were taken before it. The same of a row that is looked for.
use Rattle.std.specs.Prelude.{List}
use Rattle.cqa_value.specs.declared.value.Value.{Value}
use Rattle.cqa_model.specs.declared.query.Query.{Query}
use Rattle.cqa_model.specs.Database.{stored}
use Rattle.cqa_model.specs.Query.{rows_of}
use Rattle.cqa_model.specs.Plan.{Placed}
use Rattle.plan_rows.specs.Taking.{placed}
use Rattle.plan_rows.specs.declared.look.Look.{Look}
use Rattle.plan_rows.specs.declared.steps.Step.{Step}

-- the query whose plan it is of
abbrev pub query_of : Step → Query
query_of s = s.course.now.setting.bound.now.query.now

-- the stored rows of all tables
abbrev pub stored_rows : Step → List (List (List Value))
stored_rows s = stored s.course.now.setting.bound.now.db.now

-- the rows taken, the last first
abbrev pub rows_before : Step → List Placed
rows_before s = placed s.taken.now

-- the query of whose atom a row is looked for
abbrev pub look_query : Look → Query
look_query l = l.setting.now.bound.now.query.now

-- the stored rows of all tables
abbrev pub look_tables : Look → List (List (List Value))
look_tables l = stored l.setting.now.bound.now.db.now

-- the rows taken, the last first
abbrev pub look_taken : Look → List Placed
look_taken l = placed l.taken.now

-- the stored rows of the atom
abbrev pub look_rows : Look → List (List Value)
look_rows l = rows_of (look_query l) (look_tables l) l.atom
