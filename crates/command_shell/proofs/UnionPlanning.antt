-- What is answered to `sql` of a union: the texts of the parts' plans, the first part without one, or a table that two parts share.
use Rattle.std.proofs.Common.{◌≡◌, ◌<◌, ◌⊎◌, ◌+◌, inl, inr, ℕ, zero, suc, List, [], ◌∷◌, map, refl, ap, subst, arith, Contains, le_of_suc-le-suc}
use Rattle.std.specs.List.{AllZip}
use Rattle.cqa_value.proofs.Words.{mem-head, mem-tail, mem-nil, mem-cases}
use Rattle.cqa_model.specs.declared.query.Query.{Query}
use Rattle.cqa_model.specs.Database.{Table}
use Rattle.cqa_model.specs.Graph.{HasCycle}
use Rattle.cqa_model.specs.Plan.{IsPlanOf}
use Rattle.cqa_model.specs.Variables.{whole}
use Rattle.cqa_model.proofs.Cycles.{plan_or_cycle}
use Rattle.query_strategy.specs.Apart.{IsPartAt}
use Rattle.plan_sql.specs.Statement.{sql_of}
use Rattle.plan_sql.proofs.Exact.{sql_is_exact, sql_shows_once}
use Rattle.plan_sql.proofs.Named.{sql_is_named}
use Rattle.query_replies.specs.Names.{table_name_at, query_names}
use Rattle.query_replies.specs.Parts.{SqlPart, queries_of, text_of, IsSqlPartOf, HasPlan, IsFirstUnplanned, TellsSqlOfParts}
use Rattle.query_replies.specs.Sql.{IsPromised}
use Rattle.query_resolve.specs.Resolved.{IsQueryOf, AreQueriesOf}
use Rattle.reply_text.specs.declared.reply.Reply.{Reply}
use Rattle.reply_text.specs.declared.reply.Reply.TheVariants.{SqlParts, NoPlanOf, Shares}
use Rattle.spj_syntax.specs.declared.tree.Select.{Select}
use Rattle.union_ask.specs.Laws.{CandidatesDecide}
use Rattle.existence_law.proofs.Parting.{parts_are_decided}
use Rattle.query_statements.specs.SqlUnion.{TellsUnionSql}
use Rattle.query_statements.proofs.Apart.{union_told}

-- every part has a plan, or there is a first one that has none
first_unplanned : (parts : List Query) → ((q : Query) → Contains parts q → HasPlan q) ⊎ ((number : ℕ) × IsFirstUnplanned parts number)
first_unplanned [] = inl (λ q m. absurd (mem-nil q m))
first_unplanned (q ∷ parts) = go (plan_or_cycle.either q) (first_unplanned parts)
  where
    earlier : HasPlan q → (n : ℕ) → (f : IsFirstUnplanned parts n) → (k : ℕ) (p : Query) → k < suc f.place → IsPartAt (q ∷ parts) k p → HasPlan p
    earlier plan n f zero p l at = subst HasPlan at.1 plan
    earlier plan n f (suc k) p l at = f.before k p (le_of_suc-le-suc l) (le_of_suc-le-suc at.0, at.1)

    go : ((plan : List ℕ) × IsPlanOf q plan) ⊎ HasCycle q (whole q) → ((p : Query) → Contains parts p → HasPlan p) ⊎ ((number : ℕ) × IsFirstUnplanned parts number) →
        ((p : Query) → Contains (q ∷ parts) p → HasPlan p) ⊎ ((number : ℕ) × IsFirstUnplanned (q ∷ parts) number)
    go (inr cycle) rest = inr (1, record { part = q; place = 0; at = (omega arith, refl); counted = refl; cyclic = cycle; before = λ k p l. absurd (omega (arith, l)) })
    go (inl plan) (inl all) = inl (λ p m. elim (mem-cases p q parts m) [ inl e ↦ subst HasPlan e plan | inr n ↦ all p n ])
    go (inl plan) (inr (n, f)) = inr (
      suc n,
      record {
        part = f.part;
        place = suc f.place;
        at = ((let l = f.at.0 in omega (arith, l)), f.at.1);
        counted = let c = f.counted in omega (arith, c);
        cyclic = f.cyclic;
        before = earlier plan n f;
      },
    )

-- what the text of a plan promises
promised : (q : Query) (plan : List ℕ) → IsPlanOf q plan → IsPromised q (sql_of q plan)
promised q plan is = record { exact = sql_is_exact q plan is; named = sql_is_named q plan is; once = sql_shows_once q plan is }

module _ (db : List Table) where
  -- a query in SQL for each part
  sql_parts : (selects : List Select) (queries : List Query) → AllZip (IsQueryOf db) selects queries → ((q : Query) → Contains queries q → HasPlan q) → (parts : List SqlPart) × (AllZip (IsSqlPartOf db) selects parts × (queries_of parts ≡ queries))
  sql_parts [] [] each plans = ([], (tt, refl))
  sql_parts [] (q ∷ queries) each plans = absurd each
  sql_parts (select ∷ selects) [] each plans = absurd each
  sql_parts (select ∷ selects) (q ∷ queries) each plans =
      let plan = plans q (mem-head q queries) in
      let rest = sql_parts selects queries each.1 (λ p m. plans p (mem-tail p q queries m)) in
      let part : SqlPart = record { query = q; names = query_names db select.tables q; sql = sql_of q plan.0 } in (
        part ∷ rest.0,
        ((record { resolved = each.0; names = refl; planned = (plan.0, plan.1, refl); promised = promised q plan.0 plan.1 }, rest.1.0), ap (λ qs. q ∷ qs) rest.1.1),
      )

  parts_told : (selects : List Select) (parts : List Query) → AreQueriesOf db selects parts → (reply : Reply) × TellsSqlOfParts db selects parts reply
  parts_told selects parts are = elim (first_unplanned parts) [
    | inr f ↦ (NoPlanOf f.0, f.1)
    | inl plans ↦ elim (parts_are_decided parts) [
      | inr s ↦ (Shares (s.0.first + 1) (s.0.second + 1) (table_name_at db s.0.table), (plans, (s.0, s.1, refl, refl, refl)))
      | inl apart ↦ (let made = sql_parts selects parts are.each plans in (SqlParts (map text_of made.0), ((made.0, record { each = made.1.0; same = made.1.1 }, refl), apart)))
    ]
  ]

pub union_sql_is_told : CandidatesDecide → (db : List Table) (selects : List Select) (parts : List Query) → AreQueriesOf db selects parts → (reply : Reply) × TellsUnionSql db selects parts reply
union_sql_is_told decide db selects parts are = let told = parts_told db selects parts are in (told.0, union_told decide db selects parts told.0 told.1)
