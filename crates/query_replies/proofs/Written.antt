-- The parts of a union that are written, one after the other.
use Rattle.std.proofs.Common.{◌≡◌, ◌<◌, ◌≤◌, ◌+◌, ◌++◌, ◌∙◌, ℕ, List, [], ◌∷◌, Option, Some, None, IfSome, length, get_or, take, map, Contains, refl, sym, ap, subst, arith}
use Rattle.std.specs.List.{AllZip}
use Rattle.std.proofs.lemmas.List.{get_or-take, length-take, map-append, take_more, take_all}
use Rattle.std.proofs.lemmas.Slice.Zip.{AllZip-long}
use Rattle.cqa_value.proofs.Words.{all_zip_push, all_zip_right, Contains-from_map}
use Rattle.cqa_model.specs.declared.query.Query.{Query}
use Rattle.cqa_model.specs.Database.{Table}
use Rattle.spj_syntax.specs.declared.tree.Select.{Select}
use Rattle.query_resolve.specs.Resolved.{AreQueriesOf, IsAtomOf, IsQueryOf}
use Rattle.query_resolve.proofs.Lookups.{zip_at}
use Rattle.plan_sql.specs.Statement.{sql_of}
use Rattle.query_strategy.specs.Apart.{IsPartAt}
use Rattle.query_replies.specs.Names.{query_names}
use Rattle.query_replies.specs.Sql.{IsSqlOf}
use Rattle.query_replies.specs.Parts.{SqlPart, text_of, IsSqlPartOf, HasText, HaveTexts, HasPlan}

-- a query has an atom for each table that is written
pub long_as_written : (db : List Table) (select : Select) (q : Query) (names : List (List ℕ)) → names ≡ select.tables → IsQueryOf db select q → length names ≡ length q.atoms
long_as_written db select q names e is = ap (λ (xs : List (List ℕ)). length xs) e ∙ sym (AllZip-long (IsAtomOf db) select.tables q.atoms is.atoms)

module _ (db : List Table) (selects : List Select) (queries : List Query) (are : AreQueriesOf db selects queries) where
  pub as_many : length queries ≡ length selects
  as_many = AllZip-long (IsQueryOf db) selects queries are.each

  -- what is written at a place is the query there
  pub written_at : (at : ℕ) (s : Select) (q : Query) → at < length queries → s ≡ get_or selects at s → q ≡ get_or queries at q → IsQueryOf db s q
  written_at at s q l es eq = rw (es, eq) (zip_at (IsQueryOf db) selects queries at s q are.each l).1

-- one more of a list stands beside one more of another
pub one_beside : {A B : Type 0} (R : A → B → Type 0) (xs : List A) (ys news : List B) (at : ℕ) (x : A) (y : B) → at < length xs → AllZip R (take at xs) ys → x ≡ get_or xs at x → R x y → news ≡ ys ++ y ∷ [] → AllZip R (take (at + 1) xs) news
one_beside R xs ys news at x y l h is r e = rw (e, take_more xs at x l) (all_zip_push R (take at xs) ys (get_or xs at x) y h (subst (λ z. R z y) is r))

module _ (db : List Table) (selects : List Select) (queries : List Query) where
  -- the texts of the parts so far, and one more
  pub one_text : (at : ℕ) (s : Select) (q : Query) (text : List ℕ) (texts news : List (List ℕ)) → at < length selects → at < length queries → HaveTexts db (take at selects) (take at queries) texts →
      s ≡ get_or selects at s → q ≡ get_or queries at q → HasText db s q text → news ≡ texts ++ text ∷ [] → HaveTexts db (take (at + 1) selects) (take (at + 1) queries) news
  one_text at s q text texts news ls lq have es eq has e =
      let parts = have.0 in
      let part = has.0 in (
        parts ++ part ∷ [],
        record {
          each = one_beside (IsSqlPartOf db) selects parts (parts ++ part ∷ []) at s part ls have.1.each es has.1 refl;
          same = map-append (λ (p : SqlPart). p.query) parts (part ∷ []) ∙ ap (λ qs. qs ++ part.query ∷ []) have.1.same ∙ ap (λ p. take at queries ++ p ∷ []) (has.2 ∙ eq) ∙ sym (take_more queries at q lq);
        },
        e ∙ ap (λ ts. ts ++ text ∷ []) have.2 ∙ ap (λ t. map text_of parts ++ t ∷ []) has.3 ∙ sym (map-append text_of parts (part ∷ [])),
      )

  -- each query that has a text has a plan
  pub planned : (texts : List (List ℕ)) → HaveTexts db selects queries texts → (q : Query) → Contains queries q → HasPlan q
  planned texts have q m =
      let part = Contains-from_map (λ (p : SqlPart). p.query) have.0 q (subst (λ qs. Contains qs q) (sym have.1.same) m) in
      let is = all_zip_right (IsSqlPartOf db) selects have.0 part.0 have.1.each part.1 in
      subst HasPlan part.2 (is.2.planned.0, is.2.planned.1)

-- the parts before a place have plans
pub planned_before : (db : List Table) (selects : List Select) (queries : List Query) (at : ℕ) (texts : List (List ℕ)) → at ≤ length queries → HaveTexts db (take at selects) (take at queries) texts →
    (k : ℕ) (q : Query) → k < at → IsPartAt queries k q → HasPlan q
planned_before db selects queries at texts l have k q before is =
    planned db (take at selects) (take at queries) texts have q (k, (omega (arith, length-take at queries, l, before)), get_or-take at queries k q before ∙ is.1)

-- all of them, at the end
pub all_texts : (db : List Table) (selects : List Select) (queries : List Query) (at : ℕ) (texts : List (List ℕ)) → length selects ≤ at → length queries ≤ at → HaveTexts db (take at selects) (take at queries) texts → HaveTexts db selects queries texts
all_texts db selects queries at texts ls lq have = subst (λ ss. HaveTexts db ss queries texts) (take_all at selects ls) (subst (λ qs. HaveTexts db (take at selects) qs texts) (take_all at queries lq) have)

-- the text of a bound query is that of its part
pub has_text : (db : List Table) (select : Select) (q : Query) (db' : List Table) (q' : Query) (names : List (List ℕ)) (found : Option (List ℕ)) → db' ≡ db → q' ≡ q → names ≡ select.tables → IsQueryOf db select q →
    IfSome found (IsSqlOf q' (query_names db' names q')) → IfSome found (HasText db select q)
has_text db select q db' q' names None edb eq en is told = tt
has_text db select q db' q' names (Some text) edb eq en is told =
    let at_names = subst (λ ns. IsSqlOf q' (query_names db' ns q') text) en told in
    let at_query = subst (λ p. IsSqlOf p (query_names db' select.tables p) text) eq at_names in
    let here = subst (λ d. IsSqlOf q (query_names d select.tables q) text) edb at_query in
    (record { query = q; names = query_names db select.tables q; sql = sql_of q here.0 }, record { resolved = is; names = refl; planned = (here.0, here.1, refl); promised = here.2 }, refl, here.3)

-- all of a list stand beside all of another, at the end
pub all_beside : {A B : Type 0} (R : A → B → Type 0) (xs : List A) (ys : List B) (at : ℕ) → length xs ≤ at → AllZip R (take at xs) ys → AllZip R xs ys
all_beside R xs ys at l h = subst (λ zs. AllZip R zs ys) (take_all at xs l) h

-- none, at the start
pub no_texts : (db : List Table) (selects : List Select) (queries : List Query) (texts : List (List ℕ)) → texts ≡ [] → HaveTexts db (take 0 selects) (take 0 queries) texts
no_texts db selects queries texts e = ([], record { each = tt; same = refl }, e)
