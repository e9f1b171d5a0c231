-- The query of a plan means exactly the rows for which the plan holds.
use Rattle.std.proofs.Common.{◌≡◌, ◌↔◌, ℕ, ◌<◌, ◌+◌, inl, inr, List, [], length, map, get_or, ap, sym, ◌∙◌, subst, arith, Contains}
use Rattle.std.specs.List.{slice_index}
use Rattle.std.proofs.lemmas.List.{get_or-map, length-map, ext_get_or, get_or_default}
use Rattle.std.proofs.lemmas.List.Elements.{Contains-get_or}
use Rattle.cqa_value.specs.declared.value.Value.{Value}
use Rattle.cqa_value.proofs.Words.{map_alike, map_agree}
use Rattle.cqa_model.specs.declared.query.ColRef.{ColRef}
use Rattle.cqa_model.specs.declared.query.Query.{Query}
use Rattle.cqa_model.specs.Database.{nothing, stored, keys_of}
use Rattle.cqa_model.specs.Shape.{IsInRange}
use Rattle.cqa_model.specs.Query.{rows_of, value}
use Rattle.cqa_model.specs.Certain.{IsCertain}
use Rattle.cqa_model.specs.Variables.{whole}
use Rattle.cqa_model.specs.Plan.{answer_at, PlanHolds, IsPlanOf}
use Rattle.cqa_model.proofs.Classic.{mem-nil}
use Rattle.cqa_model.proofs.Databases.{rewriting_is_exact}
use Rattle.cqa_model.proofs.Elimination.{plan-eliminates}
use Rattle.cqa_model.proofs.Existence.{some_repair}
use Rattle.cqa_model.proofs.Fitting.{FitsTables, fits_tables}
use Rattle.cqa_model.proofs.PlanAtoms.{plan-all, plan-atoms}
use Rattle.sql_text.specs.declared.syntax.Child.{Child}
use Rattle.sql_text.specs.Meaning.{IsChoice, cell_value, MeetsAll, IsRowOfEach, Means}
use Rattle.sql_steps.specs.declared.part.Part.{Part}
use Rattle.sql_steps.specs.Variables.{variables_of, answer_variables}
use Rattle.sql_steps.specs.Steps.{cell_of, cells_of, children_of, on_of, known_of}
use Rattle.plan_sql.specs.Statement.{last_select, Made, made_of, sql_of}
use Rattle.plan_sql.specs.Laws.{SqlIsExact, SqlIsWide, SqlShowsOnce}
use Rattle.plan_sql.proofs.Rel.{Rel}
use Rattle.sql_steps.proofs.Seeing.{IsKnown, IsRight, cells-right}
use Rattle.sql_steps.proofs.Suiting.{variable, variable-at}
use Rattle.plan_sql.proofs.Witnessing.{Agrees, IsFixed, Witnessed, witness}
use Rattle.sql_steps.proofs.Atoms.{variables-into}
use Rattle.sql_steps.proofs.Joining.{known-new, Hold, Joins, rows-from, rows-into}
use Rattle.plan_sql.proofs.Holding.{holding-into, holding-from}
use Rattle.plan_sql.proofs.Plan.{IsMade, made-right}

module _ (q : Query) where
  answer-range : (i : ℕ) → i < length q.answer → IsInRange q.atoms (answer_at q i)
  answer-range i l = q.kept.answer_in_range (answer_at q i) (Contains-get_or q.answer i (record { atom = 0; col = 0 }) l)

  answer-variable : (i : ℕ) → i < length q.answer → get_or (answer_variables q) i 0 ≡ variable q (answer_at q i).atom (answer_at q i).col
  answer-variable i l =
      get_or-map (λ (c : ColRef). slice_index (variables_of q c.atom) c.col) q.answer i (record { atom = 0; col = 0 }) 0 l
      ∙ variable-at q (answer_at q i).atom (answer_at q i).col (answer-range i l).1

  answer-size : length (answer_variables q) ≡ length q.answer
  answer-size = length-map q.answer (λ (c : ColRef). slice_index (variables_of q c.atom) c.col)

  answer-of : (v : ℕ) → Contains (answer_variables q) v → (i : ℕ) × (i < length q.answer) × (v ≡ variable q (answer_at q i).atom (answer_at q i).col)
  answer-of v (i, l, e) =
      let small : i < length q.answer = omega (arith, l, answer-size) in
      (i, small, sym e ∙ get_or_default (answer_variables q) i v 0 l ∙ answer-variable i small)

  answer-in : (i : ℕ) → i < length q.answer → Contains (answer_variables q) (variable q (answer_at q i).atom (answer_at q i).col)
  answer-in i l =
      let small : i < length (answer_variables q) = omega (arith, l, answer-size) in
      subst (λ z. Contains (answer_variables q) z) (answer-variable i l) (Contains-get_or (answer_variables q) i 0 small)

  -- each answer variable is in a context of some part
  pub answers-known : (plan : List ℕ) → IsPlanOf q plan → (v : ℕ) → Contains (answer_variables q) v → IsKnown (known_of 0 (made_of q 1 (answer_variables q) [] [] plan).parts []) v
  answers-known plan is_plan v m =
      let all = plan-eliminates q (whole q) plan is_plan in
      let made = made-right q (λ F. []) (λ F l s x y n. absurd (mem-nil x n)) plan (plan-atoms q plan all) 1 (answer_variables q) [] [] (λ b n. absurd (mem-nil b n)) in
      let a = answer-of v m in
      let r = answer-range a.0 a.1 in
      let p = made.has v m (answer_at q a.0).atom (plan-all q (whole q) plan all (answer_at q a.0).atom r.0)
      (subst (λ z. Contains (variables_of q (answer_at q a.0).atom) z) (sym a.2) (variables-into q (answer_at q a.0).atom (answer_at q a.0).col r.1)) in
      known-new (made_of q 1 (answer_variables q) [] [] plan).parts 0 [] p.0 v p.1 p.2

  module _ (keys : List (List ℕ)) (tables : List (List (List Value))) (fits : FitsTables q keys tables) (plan : List ℕ) (is_plan : IsPlanOf q plan) where
    abbrev T : ℕ → List (List Value)
    T G = rows_of q tables G

    abbrev made : Made
    made = made_of q 1 (answer_variables q) [] [] plan

    abbrev R : ℕ → List Value → Type 0
    R = Rel T made.steps

    right : IsMade q T fits.strict (answer_variables q) [] [] plan made
    right = made-right q T fits.strict plan (plan-atoms q plan (plan-eliminates q (whole q) plan is_plan)) 1 (answer_variables q) [] [] (λ b m. absurd (mem-nil b m))

    known : (v : ℕ) → Contains (answer_variables q) v → IsKnown (known_of 0 made.parts []) v
    known = answers-known plan is_plan

    -- a choice of the last select has the values of an assignment
    abbrev Chosen : List (List Value) → Type 0
    Chosen w = IsChoice T R (last_select q made.parts).sources (last_select q made.parts).all [] w

    chosen : (w : List (List Value)) → Chosen w → (d : ℕ → Value) × Joins T R made.parts w [] (known_of 0 made.parts []) (λ v. nothing) d × (w ≡ map (λ (p : Part). map d p.columns) made.parts)
    chosen w c = rows-from T R made.parts 0 [] w w (λ v. nothing) (λ j. ap (λ n. get_or w n []) (let l : 0 + j ≡ j = omega arith in l)) (λ p m. (right.each p m).wide) (λ k m. absurd (mem-nil k m)) c.rows c.meets

    -- the row that it shows determines it
    pub once : (w u : List (List Value)) → Chosen w → Chosen u → map (cell_value w) (last_select q made.parts).cells ≡ map (cell_value u) (last_select q made.parts).cells → w ≡ u
    once w u c k same =
        let a = chosen w c in
        let b = chosen u k in
        let alike : map a.0 (answer_variables q) ≡ map b.0 (answer_variables q) = sym (cells-right w a.0 (known_of 0 made.parts []) (answer_variables q) a.1.right known) ∙ same ∙ cells-right u b.0 (known_of 0 made.parts []) (answer_variables q) b.1.right known in
        a.2
        ∙ map_alike (λ (p : Part). map a.0 p.columns) (λ (p : Part). map b.0 p.columns) made.parts
        (λ p m. map_alike a.0 b.0 p.columns (λ v n. map_agree a.0 b.0 (answer_variables q) alike v ((right.each p m).columns v n)))
        ∙ sym b.2

    module _ (row : List Value) (long : length row ≡ length q.answer) where
      answers-row : (e : ℕ → Value) → Agrees q row e [] → map e (answer_variables q) ≡ row
      answers-row e a = ext_get_or nothing (map e (answer_variables q)) row (length-map (answer_variables q) e ∙ answer-size ∙ sym long) (λ i l.
          let small : i < length q.answer = omega (arith, l, length-map (answer_variables q) e, answer-size) in
          get_or-map e (answer_variables q) i 0 nothing (omega (arith, small, answer-size)) ∙ ap e (answer-variable i small) ∙ sym (a.answers i small))

      fixed-in : (v : ℕ) → IsFixed q row [] v → Contains (answer_variables q) v
      fixed-in v (inl a) = subst (λ z. Contains (answer_variables q) z) (sym a.2) (answer-in a.0 a.1)
      fixed-in v (inr t) = absurd (mem-nil t.0 t.1)

      exact-to : Means T (sql_of q plan) row → PlanHolds q tables row [] plan
      exact-to (w, c, g) = from (chosen w c)
        where
          from : (d : ℕ → Value) × Joins T R made.parts w [] (known_of 0 made.parts []) (λ v. nothing) d × (w ≡ map (λ (p : Part). map d p.columns) made.parts) → PlanHolds q tables row [] plan
          from (d, j, shape) = holding-from q row keys tables fits long plan [] (answer_variables q) d agrees fixed-in (right.from d j.hold)
            where
              same : row ≡ map d (answer_variables q)
              same = sym g ∙ cells-right w d (known_of 0 made.parts []) (answer_variables q) j.right known

              agrees : Agrees q row d []
              agrees = record {
                rows = λ t m j l. absurd (mem-nil t m);
                answers = λ i l. ap (λ z. get_or z i nothing) same ∙ get_or-map d (answer_variables q) i 0 nothing (omega (arith, l, answer-size)) ∙ ap d (answer-variable i l);
              }

      exact-back : PlanHolds q tables row [] plan → Means T (sql_of q plan) row
      exact-back holds = (hs, record { rows = r.0; meets = r.1; within = λ o m. absurd (mem-nil o m) }, cells-right hs e.0 (known_of 0 made.parts []) (answer_variables q) r.2 known ∙ answers-row e.0 e.1.agrees)
        where
          e : (e : ℕ → Value) × Witnessed q row keys tables fits long [] e
          e = witness q row keys tables fits long [] tt plan is_plan holds

          hs : List (List Value)
          hs = map (λ (p : Part). map e.0 p.columns) made.parts

          hold : Hold T R made.parts e.0
          hold = right.into e.0 (λ b m. absurd (mem-nil b m)) (holding-into q row keys tables fits long plan [] (answer_variables q) e.0 tt is_plan e.1.agrees (λ v m. inl (answer-of v m)) holds)

          r : IsRowOfEach T R (map (λ (c : Child). c.listed) (children_of 0 made.parts [])) hs × MeetsAll hs (on_of (children_of 0 made.parts [])) × IsRight hs e.0 (known_of 0 made.parts [])
          r = rows-into T R made.parts 0 [] hs e.0 (λ j. ap (λ n. get_or hs n []) (let l : 0 + j ≡ j = omega arith in l)) (λ k m. absurd (mem-nil k m)) hold

      pub exact-tables : (Means T (sql_of q plan) row → PlanHolds q tables row [] plan) × (PlanHolds q tables row [] plan → Means T (sql_of q plan) row)
      exact-tables = (exact-to, exact-back)

pub sql_is_wide : SqlIsWide
sql_is_wide tables q row plan (w, c, g) =
    ap length (sym g)
    ∙ length-map (cells_of (known_of 0 (made_of q 1 (answer_variables q) [] [] plan).parts []) (answer_variables q)) (cell_value w)
    ∙ length-map (answer_variables q) (λ v. cell_of (known_of 0 (made_of q 1 (answer_variables q) [] [] plan).parts []) v)
    ∙ length-map q.answer (λ (c : ColRef). slice_index (variables_of q c.atom) c.col)

pub sql_is_exact : SqlIsExact
sql_is_exact q plan is_plan db row fits = ((λ m. (exact (sql_is_wide (rows_of q (stored db)) q row plan m)).0 m), (λ c. (exact (as_long c)).1 c))
  where
    exact : length row ≡ length q.answer → Means (rows_of q (stored db)) (sql_of q plan) row ↔ IsCertain db q row
    exact long =
        let t = exact-tables q (keys_of db) (stored db) (fits_tables q db fits) plan is_plan row long in
        let r = rewriting_is_exact db q row plan fits long is_plan in
        ((λ m. r.0 (t.0 m)), (λ c. t.1 (r.1 c)))

    -- a certain row has a witness in a repair, which gives each answer column a value
    as_long : IsCertain db q row → length row ≡ length q.answer
    as_long certain =
        let r = some_repair (keys_of db) (stored db) in
        let w = certain r.0 r.1 in
        subst (λ z. length z ≡ length q.answer) w.1.answers (length-map q.answer (value w.0))

pub sql_shows_once : SqlShowsOnce
sql_shows_once q plan is_plan db w u fits = once q (keys_of db) (stored db) (fits_tables q db fits) plan is_plan w u
