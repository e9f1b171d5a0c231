-- What is told of the plan of a query.
use Rattle.std.proofs.Common.{◌<◌, inl, inr, ℕ, List, [], length, map, refl}
use native.Mathlib.Decide.{dec_lt}
use Rattle.cqa_value.specs.declared.value.Value.{Value}
use Rattle.cqa_model.specs.declared.query.Query.{Query}
use Rattle.cqa_model.specs.Database.{Table, IsDatabase, stored}
use Rattle.cqa_model.specs.Query.{FitsDatabase}
use Rattle.cqa_model.specs.Variables.{whole}
use Rattle.cqa_model.specs.Certain.{IsCertain}
use Rattle.cqa_model.specs.Plan.{IsPlanOf}
use Rattle.cqa_model.proofs.Classic.{dec_or, dec_some}
use Rattle.cqa_model.proofs.Cycles.{plan_or_cycle}
use Rattle.cqa_model.proofs.Databases.{possible_is_candidate, rewriting_is_exact}
use Rattle.cqa_model.proofs.Elimination.{plan-eliminates}
use Rattle.block_tree.specs.declared.node.Node.{Node}
use Rattle.fo_plan.proofs.Certainty.{candidate-length}
use Rattle.plan_sql.specs.Statement.{sql_of}
use Rattle.plan_sql.proofs.Exact.{sql_is_exact, sql_shows_once}
use Rattle.plan_sql.proofs.Named.{sql_is_named}
use Rattle.sql_text.specs.declared.names.Names.{Names}
use Rattle.sql_text.specs.Texts.{sql_bytes}
use Rattle.script_lex.specs.declared.lexer.TheConstants.{LONGEST_TEXT}
use Rattle.rewrite_text.specs.declared.draft.TheConstants.{LONGEST_CERTIFICATE}
use Rattle.rewrite_text.specs.Certificates.{IsTooLong}
use Rattle.rewrite_text.specs.Made.{IsMade}
use Rattle.rewrite_text.specs.Texts.{certificate_statements, certificate_bytes}
use Rattle.rewrite_text.proofs.Made.{made_exists}
use Rattle.existence_law.proofs.Answering.{rows_are_decided}
use Rattle.existence_law.proofs.Rejecting.{rejections_exist}
use Rattle.refusals.specs.declared.refusal.Refusal.TheVariants.{CertificateLimit}
use Rattle.reply_text.specs.declared.reply.Reply.{Reply}
use Rattle.reply_text.specs.declared.reply.Reply.TheVariants.{Steps, NoPlan, Sql, Certificate, Rejected, Refused}
use Rattle.query_replies.specs.Kept.{kept_line}
use Rattle.query_statements.specs.Plan.{names_at, TellsPlan}
use Rattle.reason_statements.specs.Prove.{Proves}
use Rattle.query_statements.specs.Sql.{TellsSql}
use Rattle.cqa_model.proofs.PlanAtoms.{plan-atoms}

pub plans_are_told : (q : Query) (names : List (List ℕ)) → (reply : Reply) × TellsPlan q names reply
plans_are_told q names = elim (plan_or_cycle.either q) [
  | inl plan ↦ (Steps (names_at names plan.0), (plan.0, plan.1, refl))
  | inr cycle ↦ (NoPlan, cycle)
]

pub sql_is_told : (q : Query) (names : Names) → (reply : Reply) × TellsSql q names reply
sql_is_told q names = elim (plan_or_cycle.either q) [
  | inl plan ↦ (Sql (sql_bytes q names (sql_of q plan.0)), (plan.0, plan.1, record { exact = sql_is_exact q plan.0 plan.1; named = sql_is_named q plan.0 plan.1; once = sql_shows_once q plan.0 plan.1 }, refl))
  | inr cycle ↦ (NoPlan, cycle)
]

-- whether statements are too long is decided
dec_too_long : (statements : List (List ℕ)) → Dec (IsTooLong statements)
dec_too_long statements = dec_or (dec_some (λ statement. LONGEST_TEXT < length statement) (λ statement. dec_lt LONGEST_TEXT (length statement)) statements) (dec_lt LONGEST_CERTIFICATE (length (certificate_bytes statements)))

module _ (db : List Table) (q : Query) (row : List Value) (valid : IsDatabase db) (fits : FitsDatabase q db) (plan : List ℕ) (is : IsPlanOf q plan) where
  -- the tree of a certain row is printed, or it is too long
  printed : IsCertain db q row → (reply : Reply) × Proves db q row reply
  printed certain =
      let long = candidate-length db q row (possible_is_candidate.certain db q row fits certain) in
      let made = made_exists db q row plan valid fits (plan-atoms q plan (plan-eliminates q (whole q) plan is)) ((rewriting_is_exact db q row plan fits long is).1 certain) in
      go made.0 made.1 (dec_too_long (certificate_statements db q row plan made.0))
    where
      go : (nodes : List Node) → IsMade q (stored db) row [] plan nodes → Dec (IsTooLong (certificate_statements db q row plan nodes)) → (reply : Reply) × Proves db q row reply
      go nodes made (yes long) = (Refused CertificateLimit, (certain, (plan, is, record { nodes = nodes; made = made; long = long })))
      go nodes made (no short) = (Certificate (certificate_bytes (certificate_statements db q row plan nodes)), (certain, (plan, is, record { nodes = nodes; made = made; is = refl; short = short })))

  -- a row that isn't certain has a repair without a witness
  rejected : (IsCertain db q row → ⊥) → (reply : Reply) × Proves db q row reply
  rejected other = let found = rejections_exist db q row fits other in (Rejected (map (kept_line db) found.0), ((plan, is), (found.0, found.1.0, found.1.1, refl)))

pub proofs_are_told : (db : List Table) (q : Query) (row : List Value) → IsDatabase db → FitsDatabase q db → (reply : Reply) × Proves db q row reply
proofs_are_told db q row valid fits = elim (plan_or_cycle.either q) [
  | inr cycle ↦ (NoPlan, cycle)
  | inl plan ↦ elim (rows_are_decided.certain db q row) [
    | inl certain ↦ printed db q row valid fits plan.0 plan.1 certain
    | inr other ↦ rejected db q row valid fits plan.0 plan.1 other
  ]
]
