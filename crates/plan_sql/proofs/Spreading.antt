-- The steps of a plan over the shards of a table.
use Rattle.std.proofs.Common.{◌≡◌, ℕ, zero, suc, ◌<◌, ◌+◌, ◌-◌, ◌⊎◌, inl, inr, Bool, true, false, ◌↔◌, List, [], ◌∷◌, ◌++◌, length, map, get_or, refl, ap, sym, ◌∙◌, subst, arith, eqb, cond, Contains, Option, Some, None}
use Rattle.std.specs.List.{filter, flat_map}
use Rattle.std.specs.Option.{unwrap_or}
use Rattle.std.proofs.lemmas.Bool.Decides.{nat_tests}
use Rattle.std.proofs.lemmas.List.Elements.{Contains-get_or, Contains-append_right, Contains-append_cases}
use Rattle.cqa_value.specs.declared.value.Value.{Value}
use Rattle.cqa_model.specs.declared.query.Query.{Query}
use Rattle.cqa_model.specs.Repairs.{SharesKey}
use Rattle.cqa_model.specs.Query.{atom_key}
use Rattle.cqa_model.specs.Variables.{whole}
use Rattle.cqa_model.proofs.Classic.{mem-head, mem-tail, mem-nil, mem-cases}
use Rattle.cqa_model.proofs.Elimination.{plan-eliminates}
use Rattle.cqa_model.proofs.PlanAtoms.{plan-atoms}
use Rattle.sql_text.specs.declared.syntax.Source.TheVariants.{Step as Earlier}
use Rattle.sql_text.specs.declared.syntax.Alias.TheVariants.{Context}
use Rattle.sql_text.specs.declared.syntax.Listed.{Listed}
use Rattle.sql_text.specs.declared.syntax.Cell.{Cell}
use Rattle.sql_text.specs.declared.syntax.Child.{Child}
use Rattle.sql_text.specs.declared.syntax.Within.{Within}
use Rattle.sql_text.specs.declared.syntax.Body.TheVariants.{Distinct, Grouped, Shared}
use Rattle.sql_text.specs.declared.syntax.Step.{Step}
use Rattle.sql_text.specs.declared.syntax.Group.{Group}
use Rattle.sql_text.specs.declared.syntax.StepKind.TheVariants.{Asked, Rows, Blocks, Holds}
use Rattle.sql_text.specs.Meaning.{IsRowOfEach, cell_value, MeetsAll, IsChoice, Selects, Ends, AreLed, Shows, ShowsToo}
use Rattle.sql_text.specs.Named.{AreDifferent}
use Rattle.sql_steps.specs.declared.fitting.Known.{Known}
use Rattle.plan_sql.specs.declared.bounds.Bound.{Bound}
use Rattle.sql_steps.specs.declared.part.Part.{Part}
use Rattle.sql_steps.specs.Variables.{all_below, ascending, covers, within, variables_of, key_variables, answer_variables}
use Rattle.sql_steps.specs.Steps.{cell, held, find, cell_of, member, cells_at, keyed, fitted, see_part, children_of, rows_of_atom, group_of, block_group, context_group, are_single, hangs}
use Rattle.plan_sql.specs.Statement.{context_of, block_of, has_few, few_step, keys_in, guard_for, is_joined, first_of, completes, far_columns, rows_part, far_steps, near_steps, looked_steps, context_steps, by_block, block_steps, behind_steps, level_steps, bound_of, bound_for, asked_variables, rare_only, step, asked_steps, only_of, Made, made_of}
use Rattle.plan_sql.specs.Laws.{AreShards, only_rows, IsSpread, SqlIsSpread}
use Rattle.sql_steps.proofs.Membership.{columns-into}
use Rattle.plan_sql.proofs.Rel.{Rel}
use Rattle.sql_steps.proofs.Seeing.{IsRight, find-cases, held-at, held-known}
use Rattle.sql_steps.proofs.Suiting.{variable}
use Rattle.sql_steps.proofs.Atoms.{keys-into}
use Rattle.sql_steps.proofs.Rows.{key-values}
use Rattle.plan_sql.proofs.Contexts.{block-key}
use Rattle.plan_sql.proofs.Level.{cells-agree}
use Rattle.plan_sql.proofs.Asking.{bound_for-in, guard_for-in}
use Rattle.plan_sql.proofs.Steps.{first-in}
use Rattle.plan_sql.proofs.Naming.{ascending-apart, block-apart}

-- each variable of a list is found at its own place
held-own : (place i : ℕ) (vs : List ℕ) → AreDifferent vs → (j : ℕ) → j < length vs → find (held place i vs) (get_or vs j 0) ≡ Some (cell place (i + j))
held-own place i [] a j l = absurd (omega (arith, l))
held-own place i (v ∷ vs) a zero l = elim (find-cases (record { variable = v; cell = cell place i }) (held place (suc i) vs) v) [
  | inl p ↦ p.1 ∙ ap (λ z. Some (cell place z)) (omega arith)
  | inr p ↦ absurd (p.0 refl)
]
held-own place i (v ∷ vs) a (suc j) l = let small : j < length vs = omega (arith, l) in elim (find-cases (record { variable = v; cell = cell place i }) (held place (suc i) vs) (get_or vs j 0)) [
  | inl p ↦ absurd (a.0 (get_or vs j 0) (Contains-get_or vs j 0 small) p.0)
  | inr p ↦ p.1 ∙ held-own place (suc i) vs a.1 j small ∙ ap (λ z. Some (cell place z)) (omega arith)
]

-- parts are read alike over other tables
module _ (R : ℕ → List Value → Type 0) (T U : ℕ → List (List Value)) where
  rows-move : (parts : List Part) (place : ℕ) (known : List Known) (hs : List (List Value)) → IsRowOfEach T R (map (λ (c : Child). c.listed) (children_of place parts known)) hs → IsRowOfEach U R (map (λ (c : Child). c.listed) (children_of place parts known)) hs
  rows-move [] place known [] h = tt
  rows-move [] place known (x ∷ hs) h = h
  rows-move (p ∷ ps) place known [] h = h
  rows-move (p ∷ ps) place known (x ∷ hs) h = (h.0, rows-move ps (suc place) (see_part place p known).known hs h.1)

  ends-move : (parts : List Part) (place : ℕ) (known : List Known) (w u : List (List Value)) → Ends T R (children_of place parts known) w u → Ends U R (children_of place parts known) w u
  ends-move [] place known w u h = h
  ends-move (p ∷ ps) place known w u (x, r, m, h) = (x, r, m, ends-move ps (suc place) (see_part place p known).known (w ++ x ∷ []) u h)

  led-move : (parts : List Part) (place : ℕ) (known : List Known) (w : List (List Value)) → AreLed T R (children_of place parts known) w → AreLed U R (children_of place parts known) w
  led-move [] place known w h = tt
  led-move (p ∷ ps) place known w h = ((h.0.0, h.0.1, h.0.2), λ x r m. led-move ps (suc place) (see_part place p known).known (w ++ x ∷ []) (h.1 x r m))

module _ (q : Query) (F : ℕ) (lF : F < length q.atoms) (parts : List Part) where
  own-rows : (shard : List (List Value)) → only_rows F shard F ≡ shard
  own-rows shard = let e : eqb F F ≡ true = grind (arith, nat_tests) in ap (λ b. cond b shard []) e

  pub rows-spread : (only : List Within) (columns : List ℕ) → IsSpread q F (Distinct (rows_of_atom q F only parts columns))
  rows-spread only columns tables before shards sh row = (into, from)
    where
      children : List Child
      children = children_of 1 parts (fitted q F []).known

      into : Selects tables (Rel tables before) (rows_of_atom q F only parts columns) row → (shard : List (List Value)) × Contains shards shard × Selects (only_rows F shard) (Rel tables before) (rows_of_atom q F only parts columns) row
      into ([], c, g) = absurd c.rows
      into (y ∷ hs, c, g) =
          let s = (sh.whole y).0 c.rows.0 in (
            s.0,
            s.1,
            (
              y ∷ hs,
              record { rows = (subst (λ z. Contains z y) (sym (own-rows s.0)) s.2, rows-move (Rel tables before) tables (only_rows F s.0) parts 1 (fitted q F []).known hs c.rows.1); meets = c.meets; within = c.within },
              g,
            ),
          )

      from : ((shard : List (List Value)) × Contains shards shard × Selects (only_rows F shard) (Rel tables before) (rows_of_atom q F only parts columns) row) → Selects tables (Rel tables before) (rows_of_atom q F only parts columns) row
      from (s, m, ([], c, g)) = absurd c.rows
      from (s, m, (y ∷ hs, c, g)) = (
        y ∷ hs,
        record { rows = ((sh.whole y).1 (s, m, subst (λ z. Contains z y) (own-rows s) c.rows.0), rows-move (Rel tables before) (only_rows F s) tables parts 1 (fitted q F []).known hs c.rows.1); meets = c.meets; within = c.within },
        g,
      )

  -- a group over F's table and steps, whose groups are each within a block
  module _ (rest : List Listed) (start : List Known) (only : List Within) (by : List Cell) (columns : List ℕ)
      (move : (R : ℕ → List Value → Type 0) (T U : ℕ → List (List Value)) (ws : List (List Value)) → IsRowOfEach T R rest ws → IsRowOfEach U R rest ws)
      (keyed-by : (y z : List Value) (ws us : List (List Value)) → length ws ≡ length rest → length us ≡ length rest → MeetsAll (y ∷ ws) (keyed q F start).all → MeetsAll (z ∷ us) (keyed q F start).all →
      map (cell_value (y ∷ ws)) by ≡ map (cell_value (z ∷ us)) by → SharesKey (atom_key q F) y z)
      (long : (R : ℕ → List Value → Type 0) (T : ℕ → List (List Value)) (ws : List (List Value)) → IsRowOfEach T R rest ws → length ws ≡ length rest) where
    abbrev group : Group
    group = group_of q F (member F ∷ rest) start only by parts columns

    too-move : (R : ℕ → List Value → Type 0) (T U : ℕ → List (List Value)) (row : List Value) (w : List (List Value)) → ShowsToo T R group row w → ShowsToo U R group row w
    too-move R T U row w s = record {
      meets = s.meets;
      end = s.end;
      ends = ends-move R T U parts (length (member F ∷ rest)) (fitted q F start).known w s.end s.ends;
      row_is = s.row_is;
    }

    shows-move : (R : ℕ → List Value → Type 0) (T U : ℕ → List (List Value)) (row : List Value) (w : List (List Value)) → Shows T R group row w → Shows U R group row w
    shows-move R T U row w s = record {
      meets = s.meets;
      led = led-move R T U parts (length (member F ∷ rest)) (fitted q F start).known w s.led;
      alike = λ u e. s.alike u (ends-move R U T parts (length (member F ∷ rest)) (fitted q F start).known w u e);
    }

    abbrev Chosen : (ℕ → List Value → Type 0) → (ℕ → List (List Value)) → List (List Value) → Type 0
    Chosen R T w = IsChoice T R (member F ∷ rest) (keyed q F start).all only w

    -- some choice, of whose group each has something
    abbrev HasEach : ((ℕ → List (List Value)) → List (List Value) → Type 0) → (ℕ → List Value → Type 0) → (ℕ → List (List Value)) → Type 0
    HasEach Each R T = (w : List (List Value)) × Chosen R T w × ((u : List (List Value)) → Chosen R T u → map (cell_value u) by ≡ map (cell_value w) by → Each T u)

    each-spread : (tables : ℕ → List (List Value)) (before : List Step) (shards : List (List (List Value))) → AreShards (atom_key q F) (tables F) shards → (Each : (ℕ → List (List Value)) → List (List Value) → Type 0) →
        ((T U : ℕ → List (List Value)) (u : List (List Value)) → Each T u → Each U u) →
        HasEach Each (Rel tables before) tables ↔ ((shard : List (List Value)) × Contains shards shard × HasEach Each (Rel tables before) (only_rows F shard))
    each-spread tables before shards sh Each moved = (into, from)
      where
        up : (s : List (List Value)) → Contains shards s → (w : List (List Value)) → Chosen (Rel tables before) (only_rows F s) w → Chosen (Rel tables before) tables w
        up s m [] c = absurd c.rows
        up s m (y ∷ ws) c = record { rows = ((sh.whole y).1 (s, m, subst (λ z. Contains z y) (own-rows s) c.rows.0), move (Rel tables before) (only_rows F s) tables ws c.rows.1); meets = c.meets; within = c.within }

        down : (s : List (List Value)) (y : List Value) (ws : List (List Value)) → Contains s y → Chosen (Rel tables before) tables (y ∷ ws) → Chosen (Rel tables before) (only_rows F s) (y ∷ ws)
        down s y ws m c = record { rows = (subst (λ z. Contains z y) (sym (own-rows s)) m, move (Rel tables before) tables (only_rows F s) ws c.rows.1); meets = c.meets; within = c.within }

        into : HasEach Each (Rel tables before) tables → (shard : List (List Value)) × Contains shards shard × HasEach Each (Rel tables before) (only_rows F shard)
        into ([], c, each) = absurd c.rows
        into (y ∷ ws, c, each) =
            let s = (sh.whole y).0 c.rows.0 in
            (s.0, s.1, (y ∷ ws, down s.0 y ws s.2 c, λ u k e. moved tables (only_rows F s.0) u (each u (up s.0 s.1 u k) e)))

        from : ((shard : List (List Value)) × Contains shards shard × HasEach Each (Rel tables before) (only_rows F shard)) → HasEach Each (Rel tables before) tables
        from (s, m, g) = go g.0 g.1 g.2
          where
            go : (w : List (List Value)) → Chosen (Rel tables before) (only_rows F s) w → ((u : List (List Value)) → Chosen (Rel tables before) (only_rows F s) u → map (cell_value u) by ≡ map (cell_value w) by → Each (only_rows F s) u) → HasEach Each (Rel tables before) tables
            go [] c each = absurd c.rows
            go (y ∷ ws) c each = (y ∷ ws, up s m (y ∷ ws) c, λ u k e. on u k e)
              where
                on : (u : List (List Value)) → Chosen (Rel tables before) tables u → map (cell_value u) by ≡ map (cell_value (y ∷ ws)) by → Each tables u
                on [] k e = absurd k.rows
                on (z ∷ us) k e =
                    let t = (sh.whole z).0 k.rows.0 in
                    let same : t.0 ≡ s = sh.apart t.0 s t.1 m z y t.2 (subst (λ x. Contains x y) (own-rows s) c.rows.0)
                    (keyed-by z y us ws (long (Rel tables before) tables us k.rows.1) (long (Rel tables before) (only_rows F s) ws c.rows.1) k.meets c.meets e) in
                    moved (only_rows F s) tables (z ∷ us) (each (z ∷ us) (down s z us (subst (λ x. Contains x z) same t.2) k) e)

    pub group-spread : IsSpread q F (Grouped group)
    group-spread tables before shards sh row =
        let s = each-spread tables before shards sh (λ T u. Shows T (Rel tables before) group row u) (λ T U u h. shows-move (Rel tables before) T U row u h) in (
          λ g. let r = s.0 (g.choice, g.chosen, g.each) in (r.0, r.1, record { choice = r.2.0; chosen = r.2.1; each = r.2.2 }),
          λ g. let r = s.1 (g.0, g.1, (g.2.choice, g.2.chosen, g.2.each)) in record { choice = r.0; chosen = r.1; each = r.2 },
        )

    pub shared-spread : IsSpread q F (Shared group)
    shared-spread tables before shards sh row =
        let s = each-spread tables before shards sh (λ T u. ShowsToo T (Rel tables before) group row u) (λ T U u h. too-move (Rel tables before) T U row u h) in (
          λ g. let r = s.0 (g.choice, g.chosen, g.each) in (r.0, r.1, record { choice = r.2.0; chosen = r.2.1; each = r.2.2 }),
          λ g. let r = s.1 (g.0, g.1, (g.2.choice, g.2.chosen, g.2.each)) in record { choice = r.0; chosen = r.1; each = r.2 },
        )

  none : (T U : ℕ → List (List Value)) (R : ℕ → List Value → Type 0) (ws : List (List Value)) → IsRowOfEach T R [] ws → IsRowOfEach U R [] ws
  none T U R [] h = tt
  none T U R (x ∷ ws) h = h

  empty : (R : ℕ → List Value → Type 0) (T : ℕ → List (List Value)) (ws : List (List Value)) → IsRowOfEach T R [] ws → length ws ≡ 0
  empty R T [] h = refl
  empty R T (x ∷ ws) h = absurd h

  pub block-spread : (a : Bool) (only : List Within) (columns : List ℕ) → IsSpread q F (by_block a (block_group q F only parts columns))
  block-spread true only columns = group-spread [] [] only (cells_at 0 (atom_key q F)) columns (λ R T U ws h. none T U R ws h)
      (λ y z ws us lw lu a b e p m. cells-agree (y ∷ ws) (z ∷ us) 0 (atom_key q F) e p m) (λ R T ws h. empty R T ws h)
  block-spread false only columns = shared-spread [] [] only (cells_at 0 (atom_key q F)) columns (λ R T U ws h. none T U R ws h)
      (λ y z ws us lw lu a b e p m. cells-agree (y ∷ ws) (z ∷ us) 0 (atom_key q F) e p m) (λ R T ws h. empty R T ws h)

  pub context-spread : (known : List ℕ) (place : ℕ) → IsSpread q F (Grouped (context_group q F place (block_of q F (context_of q known F parts)) parts (context_of q known F parts)))
  context-spread known place = group-spread (s ∷ []) (held 1 0 block) [] (cells_at 1 (all_below (length block))) (context_of q known F parts) (λ R T U ws h. one T U R ws h) keyed-by (λ R T ws h. single R T ws h)
    where
      block : List ℕ
      block = block_of q F (context_of q known F parts)

      s : Listed
      s = record { source = Earlier place; alias = Context }

      one : (T U : ℕ → List (List Value)) (R : ℕ → List Value → Type 0) (ws : List (List Value)) → IsRowOfEach T R (s ∷ []) ws → IsRowOfEach U R (s ∷ []) ws
      one T U R [] h = h
      one T U R (x ∷ []) h = h
      one T U R (x ∷ y ∷ ws) h = absurd h.1

      single : (R : ℕ → List Value → Type 0) (T : ℕ → List (List Value)) (ws : List (List Value)) → IsRowOfEach T R (s ∷ []) ws → length ws ≡ 1
      single R T [] h = absurd h
      single R T (x ∷ []) h = refl
      single R T (x ∷ y ∷ ws) h = absurd h.1

      apart : AreDifferent block
      apart = block-apart q F (context_of q known F parts) (ascending-apart (within (variables_of q F ++ flat_map (λ (p : Part). p.columns) parts) known))

      -- the values of the first choice's context
      env : List (List Value) → ℕ → Value
      env w v = cell_value w (cell_of (held 1 0 block) v)

      right : (w u : List (List Value)) → ((j : ℕ) → j < length block → cell_value u (cell 1 j) ≡ cell_value w (cell 1 j)) → IsRight u (env w) (held 1 0 block)
      right w u h k m =
          let r = held-at 1 0 block k m in
          ap (cell_value u) (r.2 ∙ ap (cell 1) (omega arith)) ∙ h r.0 r.1
          ∙ sym (ap (λ (o : Option Cell). cell_value w (unwrap_or o (cell 0 0))) (ap (find (held 1 0 block)) r.3 ∙ held-own 1 0 block apart r.0 r.1) ∙ ap (λ z. cell_value w (cell 1 z)) (omega arith))

      keyed-by : (y z : List Value) (ws us : List (List Value)) → length ws ≡ 1 → length us ≡ 1 → MeetsAll (y ∷ ws) (keyed q F (held 1 0 block)).all → MeetsAll (z ∷ us) (keyed q F (held 1 0 block)).all →
          map (cell_value (y ∷ ws)) (cells_at 1 (all_below (length block))) ≡ map (cell_value (z ∷ us)) (cells_at 1 (all_below (length block))) → SharesKey (atom_key q F) y z
      keyed-by y z ws us lw lu a b e p m =
          let k = held-known 1 0 block (variable q F p) (block-key q F lF known parts (variable q F p) (keys-into q F lF p m)) in
          key-values q F lF (held 1 0 block) (y ∷ ws) (env (y ∷ ws)) (right (y ∷ ws) (y ∷ ws) (λ j l. refl)) a p m k
          ∙ sym (key-values q F lF (held 1 0 block) (z ∷ us) (env (y ∷ ws)) (right (y ∷ ws) (z ∷ us) (λ j l. sym (cells-agree (y ∷ ws) (z ∷ us) 1 (all_below (length block)) e j (columns-into (length block) j l)))) b p m k)

-- each step of a plan
module _ (q : Query) where
  abbrev IsStepSpread : Step → Type 0
  IsStepSpread s = (F : ℕ) × (F < length q.atoms) × IsSpread q F s.body

  abbrev AreSpread : List Step → List Step → Type 0
  AreSpread before steps = (t : Step) → Contains steps t → Contains before t ⊎ IsStepSpread t

  one-more : (before : List Step) (s : Step) → IsStepSpread s → AreSpread before (before ++ s ∷ [])
  one-more before s h t m = elim (Contains-append_cases before (s ∷ []) t m) [ inl n ↦ inl n | inr n ↦ elim (mem-cases t s [] n) [ inl e ↦ inr (subst IsStepSpread e h) | inr z ↦ absurd (mem-nil t z) ] ]

  two-more : (before : List Step) (b s : Step) → IsStepSpread b → IsStepSpread s → AreSpread before (before ++ b ∷ s ∷ [])
  two-more before b s hb hs t m = elim (Contains-append_cases before (b ∷ s ∷ []) t m) [
    | inl n ↦ inl n
    | inr n ↦ elim (mem-cases t b (s ∷ []) n) [ inl e ↦ inr (subst IsStepSpread e hb) | inr o ↦ elim (mem-cases t s [] o) [ inl e ↦ inr (subst IsStepSpread e hs) | inr z ↦ absurd (mem-nil t z) ] ]
  ]

  level-spread : (F : ℕ) (lF : F < length q.atoms) (number : ℕ) (known : List ℕ) (only : List Within) (bounds : List Bound) → ((b : Bound) → Contains bounds b → b.atom < length q.atoms) → (parts : List Part) (before : List Step) →
      AreSpread before (before ++ level_steps q number F (context_of q known F parts) only bounds parts (length before))
  level-spread F lF number known only bounds bound parts before = go (is_joined q F context bounds parts) (are_single (variables_of q F) parts)
    where
      context : List ℕ
      context = context_of q known F parts

      block : List ℕ
      block = block_of q F context

      -- so for steps that may be there
      MaySpread : Option (List Step) → Type 0
      MaySpread None = Unit {0}
      MaySpread (Some looked) = AreSpread before (before ++ looked)

      by-near : (near : Bound) → Contains bounds near → (found : Option Bound) → first_of (λ b. completes q near block b) bounds ≡ found → MaySpread (far_steps q number block (length before) near found)
      by-near near m None e = tt
      by-near near m (Some far) e =
          let lf = bound far (first-in (λ b. completes q near block b) bounds far e).0 in
          let columns = far_columns q near far block in
          two-more before (step Rows number columns (Distinct (rows_of_atom q far.atom far.only [] columns))) (step Blocks number block (Distinct (rows_of_atom q near.atom near.only (rows_part number (length before) columns ∷ []) block)))
          (far.atom, lf, rows-spread q far.atom lf [] far.only columns) (near.atom, bound near m, rows-spread q near.atom (bound near m) (rows_part number (length before) columns ∷ []) near.only block)

      by-key : (found : Option Bound) → guard_for q bounds (key_variables q F) ≡ found → MaySpread (near_steps q number bounds block (length before) found)
      by-key None e = tt
      by-key (Some near) e = by-near near (first-in (λ b. covers (variables_of q b.atom) (key_variables q F)) bounds near e).0 (first_of (λ b. completes q near block b) bounds) refl

      looked-spread : (found : Option Bound) → guard_for q bounds block ≡ found → MaySpread (looked_steps q number F bounds block (length before) found)
      looked-spread None e = by-key (guard_for q bounds (key_variables q F)) refl
      looked-spread (Some g) e = let lg = bound g (guard_for-in q (λ G. []) bounds block g e).0 in one-more before (step Blocks number block (Distinct (rows_of_atom q g.atom g.only [] block))) (g.atom, lg, rows-spread q g.atom lg [] g.only block)

      looked : Option (List Step)
      looked = looked_steps q number F bounds block (length before) (guard_for q bounds block)

      holds : ℕ → Step
      holds place = step Holds number context (Grouped (context_group q F place block parts context))

      contexts-spread : (steps : List Step) → AreSpread before (before ++ steps) → AreSpread before (before ++ context_steps q number F context parts (length before) steps)
      contexts-spread steps h t m =
          let place = length before + length steps - 1 in
          elim (Contains-append_cases before (steps ++ holds place ∷ []) t m) [
            | inl n ↦ inl n
            | inr n ↦ elim (Contains-append_cases steps (holds place ∷ []) t n) [
              | inl o ↦ h t (Contains-append_right before steps t o)
              | inr o ↦ elim (mem-cases t (holds place) [] o) [ inl e ↦ inr (subst IsStepSpread e (F, lF, context-spread q F lF parts known place)) | inr z ↦ absurd (mem-nil t z) ]
            ]
          ]

      keys : List ℕ
      keys = ascending (key_variables q F)

      joined : Step
      joined = step Holds number context (Distinct (rows_of_atom q F only parts context))

      blocks-spread : (a : Bool) → AreSpread before (before ++ block_steps q number F context only bounds parts (length before) a)
      blocks-spread a = by-few (has_few q bounds F parts)
        where
          each : List Within → Step
          each o = step Holds number context (by_block a (block_group q F o parts context))

          by-few : (f : Bool) → AreSpread before (before ++ cond f (few_step q number F only parts ∷ each (keys_in q F (length before) keys) ∷ []) (each only ∷ []))
          by-few true = two-more before (few_step q number F only parts) (each (keys_in q F (length before) keys))
              (F, lF, rows-spread q F lF [] (only ++ rare_only q F parts) keys) (F, lF, block-spread q F lF parts a (keys_in q F (length before) keys) context)
          by-few false = one-more before (each only) (F, lF, block-spread q F lF parts a only context)

      behind-spread : (found : Option (List Step)) → MaySpread found → AreSpread before (before ++ behind_steps q number F context only bounds parts (length before) found)
      behind-spread None h = blocks-spread false
      behind-spread (Some steps) h = contexts-spread steps h

      go : (b a : Bool) → AreSpread before (before ++ cond b (joined ∷ []) (cond a (block_steps q number F context only bounds parts (length before) true) (behind_steps q number F context only bounds parts (length before) looked)))
      go true a = one-more before joined (F, lF, rows-spread q F lF parts only context)
      go false true = blocks-spread true
      go false false = behind-spread looked (looked-spread (guard_for q bounds block) refl)

  asked-spread : (F number : ℕ) (bounds : List Bound) → ((b : Bound) → Contains bounds b → b.atom < length q.atoms) → (before : List Step) → AreSpread before (before ++ asked_steps q number F (bound_for q bounds F))
  asked-spread F number bounds there before = go (bound_for q bounds F) refl
    where
      go : (found : Option Bound) → bound_for q bounds F ≡ found → AreSpread before (before ++ asked_steps q number F found)
      go None e t m = elim (Contains-append_cases before [] t m) [ inl n ↦ inl n | inr z ↦ absurd (mem-nil t z) ]
      go (Some b) e t m = one-more before (step Asked number (asked_variables q F b.atom) (Distinct (rows_of_atom q b.atom b.only [] (asked_variables q F b.atom))))
          (b.atom, there b (bound_for-in q (λ G. []) bounds F b e), rows-spread q b.atom (there b (bound_for-in q (λ G. []) bounds F b e)) [] b.only (asked_variables q F b.atom)) t m

  made-spread : (plan : List ℕ) → ((G : ℕ) → Contains plan G → G < length q.atoms) → (number : ℕ) (known : List ℕ) (bounds : List Bound) → ((b : Bound) → Contains bounds b → b.atom < length q.atoms) → (before : List Step) →
      AreSpread before (made_of q number known bounds before plan).steps
  made-spread [] there number known bounds bound before t m = inl m
  made-spread (F ∷ plan) there number known bounds bound before t m =
      let lF : F < length q.atoms = there F (mem-head F plan) in
      let start : List Step = before ++ asked_steps q number F (bound_for q bounds F) in
      let only : List Within = only_of q F (length before) (bound_for q bounds F) in
      let next : List Bound = bound_of q bounds F only ∷ bounds in
      let later : Made = made_of q (suc number) (known ++ variables_of q F) next start plan in
      elim (level-spread F lF number known only bounds bound (filter (λ p. hangs q known F p) later.parts) later.steps t m) [
        | inr s ↦ inr s
        | inl n ↦ elim (made-spread plan (λ G k. there G (mem-tail G F plan k)) (suc number) (known ++ variables_of q F) next (more lF only) start t n) [
          | inr s ↦ inr s
          | inl k ↦ asked-spread F number bounds bound before t k
        ]
      ]
    where
      more : F < length q.atoms → (only : List Within) → (c : Bound) → Contains (bound_of q bounds F only ∷ bounds) c → c.atom < length q.atoms
      more lF only c k = elim (mem-cases c (bound_of q bounds F only) bounds k) [ inl e ↦ subst (λ (z : Bound). z.atom < length q.atoms) e lF | inr n ↦ bound c n ]

pub sql_is_spread : SqlIsSpread
sql_is_spread q plan is_plan s m = elim (made-spread q plan (plan-atoms q plan (plan-eliminates q (whole q) plan is_plan)) 1 (answer_variables q) [] (λ b n. absurd (mem-nil b n)) [] s m) [
  | inl z ↦ absurd (mem-nil s z)
  | inr h ↦ h
]
