-- The queries in SQL of parts that are apart mean together exactly what is certain for their union.
use Rattle.std.proofs.Common.{◌↔◌, List, Contains, sym, subst}
use Rattle.cqa_value.specs.declared.value.Value.{Value}
use Rattle.cqa_value.proofs.Words.{all_zip_right, Contains-map, Contains-from_map}
use Rattle.cqa_model.specs.declared.query.Query.{Query}
use Rattle.cqa_model.specs.Database.{Table}
use Rattle.cqa_model.specs.Query.{FitsDatabase}
use Rattle.cqa_model.specs.Certain.{IsCertain}
use Rattle.cqa_model.specs.Unions.{IsCertainIn}
use Rattle.spj_syntax.specs.declared.tree.Select.{Select}
use Rattle.plan_sql.specs.Laws.{IsExactSql}
use Rattle.query_strategy.specs.Apart.{AreApart}
use Rattle.union_ask.specs.Apart.{AreApartFor}
use Rattle.union_ask.specs.Laws.{CandidatesDecide}
use Rattle.query_replies.specs.Parts.{SqlPart, queries_of, IsSqlPartOf, IsExactUnion, UnionMeans, TellsSqlOfParts}
use Rattle.reply_text.specs.declared.reply.Reply.{Reply}
use Rattle.reply_text.specs.declared.reply.Reply.TheVariants as replies
use Rattle.query_statements.specs.SqlUnion.{TellsUnionSql}

-- parts that are apart are so whichever of them have a row as a candidate
apart_for : (db : List Table) (parts : List Query) (row : List Value) → AreApart parts → AreApartFor db parts row
apart_for db parts row apart i j p q before of_p of_q shared =
    apart (record { first = i; second = j; atom = shared.1.0; table = shared.0 }) (record { first = (p, of_p.0, shared.1.1); second = (before, (q, of_q.0, shared.2)) })

module _ (decide : CandidatesDecide) where
  pub exact_union : (parts : List SqlPart) → ((part : SqlPart) → Contains parts part → IsExactSql part.query part.sql) → AreApart (queries_of parts) → IsExactUnion parts
  exact_union parts exact apart db row fits = (λ means. to means, λ certain. from (same.0 certain))
    where
      same : IsCertainIn db (queries_of parts) row ↔ ((q : Query) × Contains (queries_of parts) q × IsCertain db q row)
      same = decide db (queries_of parts) row fits (apart_for db (queries_of parts) row apart)

      fit : (part : SqlPart) → Contains parts part → FitsDatabase part.query db
      fit part m = fits part.query (Contains-map (λ (p : SqlPart). p.query) parts part m)

      to : UnionMeans db parts row → IsCertainIn db (queries_of parts) row
      to (part, m, means) = same.1 (part.query, Contains-map (λ (p : SqlPart). p.query) parts part m, (exact part m db row (fit part m)).0 means)

      from : ((q : Query) × Contains (queries_of parts) q × IsCertain db q row) → UnionMeans db parts row
      from (q, m, certain) =
          let part = Contains-from_map (λ (p : SqlPart). p.query) parts q m in
          (part.0, part.1, (exact part.0 part.1 db row (fit part.0 part.1)).1 (subst (λ p. IsCertain db p row) (sym part.2) certain))

  -- what is told of parts, with what it means
  pub union_told : (db : List Table) (selects : List Select) (queries : List Query) (reply : Reply) → TellsSqlOfParts db selects queries reply → TellsUnionSql db selects queries reply
  union_told db selects queries (replies.SqlParts texts) told =
      let have = told.0 in (
        have.0,
        have.1,
        told.1,
        exact_union have.0 (λ part m. (all_zip_right (IsSqlPartOf db) selects have.0 part have.1.each m).2.promised.exact) (subst AreApart (sym have.1.same) told.1),
        have.2,
      )
  union_told db selects queries (replies.NoPlanOf number) told = told
  union_told db selects queries (replies.Shares first second table) told = told
  union_told db selects queries _ told = absurd told
