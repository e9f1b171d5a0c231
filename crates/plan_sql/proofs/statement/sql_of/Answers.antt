use Rattle.std.proofs.Common.{◌≡◌, ◌∙◌, List, ℕ, ap, subst, sym}
use Rattle.std.proofs.lemmas.Result.{IfOk-weaker}
use Rattle.cqa_model.specs.declared.query.Query.{Query}
use Rattle.sql_text.specs.declared.syntax.Sql.{Sql}
use Rattle.sql_text.specs.Named.{IsNamed}
use Rattle.plan_sql.specs.Laws.{IsExactSql, ShowsOnce}
use Rattle.plan_sql.specs.Statement.{sql_of}
use Rattle.plan_sql.proofs.Exact.{sql_is_exact, sql_shows_once}
use Rattle.plan_sql.proofs.Named.{sql_is_named}
use Rattle.plan_sql.proofs.Steps.{atoms-of-plan}
use Rattle.plan_sql.proofs.statement.sql_of.Goals as goal

pub sql_of_answer-requires-clause-plan : goal.sql_of_answer-requires-clause-plan
sql_of_answer-requires-clause-plan c = atoms-of-plan c.args.query.now c.in_ok-shape.shape.query.now c.as_slice-2.result.now c.args.plan.now.order c.in_ok-shape.ensures c.as_slice-2.ensures c.requires

same-sql : (q r : Query) (plan order : List ℕ) → r ≡ q → plan ≡ order → sql_of r plan ≡ sql_of q order
same-sql q r plan order e f = ap (λ query. sql_of query plan) e ∙ ap (sql_of q) f

-- what holds of an SQL query holds of one that is the same
moved : (P : Sql → Type 0) (of to : Sql) → to ≡ of → P of → P to
moved P of to e h = subst P {x = of} {y = to} (sym e) h

pub returns-clause-exact : goal.returns-clause-exact
returns-clause-exact c =
    let q = c.args.query.now in
    let order = c.args.plan.now.order in
    let same = same-sql q c.in_ok-shape.shape.query.now c.as_slice-2.result.now order c.in_ok-shape.ensures c.as_slice-2.ensures in
    IfOk-weaker c.sql_of_answer.result _ _ (λ sql e. moved (IsExactSql q) (sql_of q order) sql (e ∙ same) (sql_is_exact q order c.requires)) c.sql_of_answer.ensures

pub returns-clause-named : goal.returns-clause-named
returns-clause-named c =
    let q = c.args.query.now in
    let order = c.args.plan.now.order in
    let same = same-sql q c.in_ok-shape.shape.query.now c.as_slice-2.result.now order c.in_ok-shape.ensures c.as_slice-2.ensures in
    IfOk-weaker c.sql_of_answer.result _ _ (λ sql e. moved (IsNamed q) (sql_of q order) sql (e ∙ same) (sql_is_named q order c.requires)) c.sql_of_answer.ensures

pub returns-clause-once : goal.returns-clause-once
returns-clause-once c =
    let q = c.args.query.now in
    let order = c.args.plan.now.order in
    let same = same-sql q c.in_ok-shape.shape.query.now c.as_slice-2.result.now order c.in_ok-shape.ensures c.as_slice-2.ensures in
    IfOk-weaker c.sql_of_answer.result _ _ (λ sql e. moved (ShowsOnce q) (sql_of q order) sql (e ∙ same) (sql_shows_once q order c.requires)) c.sql_of_answer.ensures
