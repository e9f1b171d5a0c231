-- The SQL query of a plan. From the last atom to the first, each atom is the first of a part: those of the later parts that
-- have a variable of it which isn't known before it hang on it, and it has the step of the contexts in which the part holds.
-- A context is a list of values of the variables that are known before the atom and occur in the part. Where an atom before
-- has few rows, an atom first asks for the keys that they name. Where a row can have several contexts, they are looked for
-- first, in the rows of an atom before, if one has all of their variables, or of two atoms before that are joined; or else
-- those are taken that all rows of a block share.
use Rattle.std.specs.Prelude.{ℕ, suc, ◌+◌, ◌-◌, ◌==◌, ◌&&◌, ◌||◌, not, Bool, true, false, if◌then◌else◌, List, [], ◌∷◌, ◌++◌, length, map, slice_index, Option, Some, None, flat_map}
use Rattle.std.specs.List.{range_with_len, filter, list_any}
use Rattle.cqa_model.specs.declared.query.Op.TheVariants.{Eq, Ne, Lt, Le, Gt, Ge}
use Rattle.cqa_model.specs.declared.query.Cond.{Cond}
use Rattle.cqa_model.specs.declared.query.Cond.TheVariants.{Join, Test}
use Rattle.cqa_model.specs.declared.query.Query.{Query}
use Rattle.cqa_model.specs.Query.{atom_at, atom_key}
use Rattle.sql_text.specs.declared.syntax.Within.{Within}
use Rattle.sql_text.specs.declared.syntax.Select.{Select}
use Rattle.sql_text.specs.declared.syntax.Child.{Child}
use Rattle.sql_text.specs.declared.syntax.Group.{Group}
use Rattle.sql_text.specs.declared.syntax.Body.{Body}
use Rattle.sql_text.specs.declared.syntax.Body.TheVariants.{Distinct, Grouped, Shared}
use Rattle.sql_text.specs.declared.syntax.StepKind.{StepKind}
use Rattle.sql_text.specs.declared.syntax.StepKind.TheVariants.{Asked, Rows, Blocks, Holds}
use Rattle.sql_text.specs.declared.syntax.Step.{Step}
use Rattle.sql_text.specs.declared.syntax.Sql.{Sql}
use Rattle.sql_steps.specs.declared.part.Part.{Part}
use Rattle.plan_sql.specs.declared.bounds.Bound.{Bound}
use Rattle.sql_steps.specs.Variables.{has, meets, covers, within, without, ascending, variables_of, key_variables, answer_variables}
use Rattle.sql_steps.specs.Steps.{cell_of, cells_of, keyed, fitted, children_of, known_of, on_of, rows_of_atom, block_group, context_group, are_single, hangs}

-- the variables of a context of the part that F is the first atom of
abbrev pub context_of : Query → List ℕ → ℕ → List Part → List ℕ
context_of q known F parts = ascending (within (variables_of q F ++ flat_map (λ (p : Part). p.columns) parts) known)

-- a context's variables, and those of F's key
abbrev pub block_of : Query → ℕ → List ℕ → List ℕ
block_of q F context = context ++ without (ascending (key_variables q F)) context

-- a step of a kind for the atom of a number
abbrev pub step : StepKind → ℕ → List ℕ → Body → Step
step kind number columns body = record { kind = kind; level = number; columns = columns; body = body }

-- a condition is a test of F for one value
abbrev pub is_value_test : ℕ → Cond → Bool
is_value_test F (Join c d) = false
is_value_test F (Test c Eq x) = c.atom == F
is_value_test F (Test c Ne x) = false
is_value_test F (Test c Lt x) = false
is_value_test F (Test c Le x) = false
is_value_test F (Test c Gt x) = false
is_value_test F (Test c Ge x) = false

-- key columns of F, by their variables, whose values are in the columns of the step at a place
abbrev pub keys_in : Query → ℕ → ℕ → List ℕ → List Within
keys_in q F place columns =
    map (λ j. record { cell = cell_of (keyed q F []).known (slice_index columns j); step = place; column = j }) (range_with_len 0 (length columns))

-- columns of F whose values are in a part's contexts: those of the variables that they share
abbrev pub part_only : Query → ℕ → Part → List Within
part_only q F part =
    map (λ j. record { cell = cell_of (fitted q F []).known (slice_index part.columns j); step = part.step; column = j })
    (filter (λ j. has (variables_of q F) (slice_index part.columns j)) (range_with_len 0 (length part.columns)))

-- so for each of these parts in which few contexts hold
abbrev pub rare_only : Query → ℕ → List Part → List Within
rare_only q F parts = flat_map (λ (p : Part). if p.rare then part_only q F p else []) parts

-- a condition is a test of another atom than F
abbrev pub is_test_elsewhere : ℕ → Cond → Bool
is_test_elsewhere F (Join c d) = false
is_test_elsewhere F (Test c op x) = not (c.atom == F)

-- another atom than F has a test
abbrev pub is_tested_elsewhere : Query → ℕ → Bool
is_tested_elsewhere q F = list_any (λ k. is_test_elsewhere F k) q.conds

-- no other atom than F has a test, and F is the first atom: none is before it
abbrev pub is_tested_alone : Query → List Bound → ℕ → Bool
is_tested_alone q bounds F = length bounds == 0 && not (is_tested_elsewhere q F)

-- a condition is a test of F that few rows are taken to meet: one for one value, and a range where F alone has tests
abbrev pub is_rare_test : Query → List Bound → ℕ → Cond → Bool
is_rare_test q bounds F (Join c d) = false
is_rare_test q bounds F (Test c Eq x) = c.atom == F
is_rare_test q bounds F (Test c Ne x) = false
is_rare_test q bounds F (Test c Lt x) = c.atom == F && is_tested_alone q bounds F
is_rare_test q bounds F (Test c Le x) = c.atom == F && is_tested_alone q bounds F
is_rare_test q bounds F (Test c Gt x) = c.atom == F && is_tested_alone q bounds F
is_rare_test q bounds F (Test c Ge x) = c.atom == F && is_tested_alone q bounds F

-- a condition is a test of a column of F outside its key: for one value, or, where parts hang on F, one that few rows are
-- taken to meet
abbrev pub is_few_test : Query → List Bound → ℕ → List Part → Cond → Bool
is_few_test q bounds F parts (Join c d) = false
is_few_test q bounds F parts (Test c op x) =
    (if length parts == 0 then is_value_test F (Test c op x) else is_rare_test q bounds F (Test c op x)) && not (has (atom_key q F) c.col)

-- few blocks of F can hold: there is such a test, or a part in which few contexts hold
abbrev pub has_few : Query → List Bound → ℕ → List Part → Bool
has_few q bounds F parts = list_any (λ k. is_few_test q bounds F parts k) q.conds || list_any (λ (p : Part). p.rare) parts

-- the step of the keys of such blocks: each has a row that fits, whose values rare parts have
abbrev pub few_step : Query → ℕ → ℕ → List Within → List Part → Step
few_step q number F only parts =
    let columns = ascending (key_variables q F) in
    step Blocks number columns (Distinct (rows_of_atom q F (only ++ rare_only q F parts) [] columns))

-- the first of these atoms that passes a test
abbrev pub first_of : (Bound → Bool) → List Bound → Option Bound
first_of test [] = None
first_of test (bound ∷ bounds) = if test bound then Some bound else first_of test bounds

-- the atom that guards these variables: the first one before that has each of them
abbrev pub guard_for : Query → List Bound → List ℕ → Option Bound
guard_for q bounds vs = first_of (λ b. covers (variables_of q b.atom) vs) bounds

-- an atom before has each of these variables
abbrev pub is_guarded : Query → List Bound → List ℕ → Bool
is_guarded q bounds vs = list_any (λ (b : Bound). covers (variables_of q b.atom) vs) bounds

-- an atom has the key of `near`, so that each of its rows is joined with one block, and these variables together with it
abbrev pub completes : Query → Bound → List ℕ → Bound → Bool
completes q near vs far = covers (variables_of q far.atom) (key_variables q near.atom) && covers (variables_of q far.atom ++ variables_of q near.atom) vs

-- the variables of `far` that are asked for or by which its rows are joined with those of `near`
abbrev pub far_columns : Query → Bound → Bound → List ℕ → List ℕ
far_columns q near far vs = ascending (within (variables_of q far.atom) (vs ++ variables_of q near.atom))

-- the step at a place, with these columns, as what rows are joined with
abbrev pub rows_part : ℕ → ℕ → List ℕ → Part
rows_part number place columns = record { number = number; step = place; columns = columns; keys = []; single = false; rare = false }

-- the values of these variables in the rows of an atom, with these parts
abbrev pub one_step : Query → ℕ → ℕ → List Within → List Part → List ℕ → List Step
one_step q number F only parts vs = step Blocks number vs (Distinct (rows_of_atom q F only parts vs)) ∷ []

-- those in the rows of two atoms that are joined, where those of `far` are in a step of their own
abbrev pub two_steps : Query → ℕ → Bound → Bound → List ℕ → ℕ → List Step
two_steps q number near far vs place =
    step Rows number (far_columns q near far vs) (Distinct (rows_of_atom q far.atom far.only [] (far_columns q near far vs)))
    ∷ one_step q number near.atom near.only (rows_part number place (far_columns q near far vs) ∷ []) vs

-- the values of these variables in the rows of `near` and those of the atom that completes it, if there is one
abbrev pub far_steps : Query → ℕ → List ℕ → ℕ → Bound → Option Bound → Option (List Step)
far_steps q number vs place near None = None
far_steps q number vs place near (Some far) = Some (two_steps q number near far vs place)

-- the steps that look for these variables in the rows of an atom that has F's key and of one that completes it,
-- if there are such
abbrev pub near_steps : Query → ℕ → List Bound → List ℕ → ℕ → Option Bound → Option (List Step)
near_steps q number bounds vs place None = None
near_steps q number bounds vs place (Some near) = far_steps q number vs place near (first_of (λ b. completes q near vs b) bounds)

-- the steps that look for the values of these variables, in the rows of the atom that guards them, or of one that has F's key
-- and one that completes it, if there are such
abbrev pub looked_steps : Query → ℕ → ℕ → List Bound → List ℕ → ℕ → Option Bound → Option (List Step)
looked_steps q number F bounds vs place None = near_steps q number bounds vs place (guard_for q bounds (key_variables q F))
looked_steps q number F bounds vs place (Some guard) = Some (one_step q number guard.atom guard.only [] vs)

-- steps that look for contexts, and then the contexts in which the part holds, by F's blocks
abbrev pub context_steps : Query → ℕ → ℕ → List ℕ → List Part → ℕ → List Step → List Step
context_steps q number F context parts place looked =
    looked ++ step Holds number context (Grouped (context_group q F (place + length looked - 1) (block_of q F context) parts context)) ∷ []

-- the contexts of blocks: the one of all rows, where each row has one at most, or else those that all rows share
abbrev pub by_block : Bool → Group → Body
by_block true group = Grouped group
by_block false group = Shared group

-- the contexts in which the part holds, by F's blocks. Where few blocks can hold, their keys are looked for first
abbrev pub block_steps : Query → ℕ → ℕ → List ℕ → List Within → List Bound → List Part → ℕ → Bool → List Step
block_steps q number F context only bounds parts place single =
    if has_few q bounds F parts then few_step q number F only parts ∷ step Holds number context (by_block single (block_group q F (keys_in q F place (ascending (key_variables q F))) parts context)) ∷ []
    else step Holds number context (by_block single (block_group q F only parts context)) ∷ []

-- the contexts in which the part holds: those that were looked for, or, where no atoms before have them, those that all rows
-- of a block share
abbrev pub behind_steps : Query → ℕ → ℕ → List ℕ → List Within → List Bound → List Part → ℕ → Option (List Step) → List Step
behind_steps q number F context only bounds parts place None = block_steps q number F context only bounds parts place false
behind_steps q number F context only bounds parts place (Some looked) = context_steps q number F context parts place looked

-- F has no blocks of several rows, and each of the parts has one context at most for a row of F, or no atom before has the
-- variables of F's blocks
abbrev pub is_joined : Query → ℕ → List ℕ → List Bound → List Part → Bool
is_joined q F context bounds parts = (atom_at q F).strict && (are_single (variables_of q F) parts || not (is_guarded q bounds (block_of q F context)))

-- the steps of F, where these parts hang on it and these atoms are before it: the contexts in which the part holds. They are
-- those of F's rows alone where those have no blocks of several rows. Where one of the parts can have two contexts for a row of
-- F, contexts are looked for first, if atoms before have them
abbrev pub level_steps : Query → ℕ → ℕ → List ℕ → List Within → List Bound → List Part → ℕ → List Step
level_steps q number F context only bounds parts place =
    if is_joined q F context bounds parts then step Holds number context (Distinct (rows_of_atom q F only parts context)) ∷ []
    else if are_single (variables_of q F) parts then block_steps q number F context only bounds parts place true
    else behind_steps q number F context only bounds parts place (looked_steps q number F bounds (block_of q F context) place (guard_for q bounds (block_of q F context)))

-- F has few rows: few are taken to meet some test, or steps ask for its keys
abbrev pub is_bound : Query → List Bound → ℕ → List Within → Bool
is_bound q bounds F only = not (length only == 0) || list_any (λ k. is_rare_test q bounds F k) q.conds

-- F, as an atom before others, where these are before it
abbrev pub bound_of : Query → List Bound → ℕ → List Within → Bound
bound_of q bounds F only = record { atom = F; only = only; few = is_bound q bounds F only }

-- the first of these atoms with few rows that has a variable of F's key
abbrev pub bound_for : Query → List Bound → ℕ → Option Bound
bound_for q bounds F = first_of (λ b. b.few && meets (variables_of q b.atom) (key_variables q F)) bounds

-- the variables of F's key that are asked for by another atom
abbrev pub asked_variables : Query → ℕ → ℕ → List ℕ
asked_variables q F other = ascending (within (key_variables q F) (variables_of q other))

-- the step that asks for keys of F
abbrev pub asked_steps : Query → ℕ → ℕ → Option Bound → List Step
asked_steps q number F None = []
asked_steps q number F (Some bound) =
    let columns = asked_variables q F bound.atom in step Asked number columns (Distinct (rows_of_atom q bound.atom bound.only [] columns)) ∷ []

-- the key columns of F whose values are in that step, which is at a place
abbrev pub only_of : Query → ℕ → ℕ → Option Bound → List Within
only_of q F place None = []
only_of q F place (Some bound) = keys_in q F place (asked_variables q F bound.atom)

-- the steps so far, and the parts that they have
pub record Made : Type 0 where
  pub steps : List Step
  pub parts : List Part

-- with the steps of F: the parts that hang on it, and it, become one part
abbrev pub with_level : Query → ℕ → List ℕ → List Bound → List Within → ℕ → Made → Made
with_level q number known bounds only F later =
    let parts = filter (λ p. hangs q known F p) later.parts in
    let context = context_of q known F parts in
    let steps = later.steps ++ level_steps q number F context only bounds parts (length later.steps) in
    record {
      steps = steps;
      parts = record { number = number; step = length steps - 1; columns = context; keys = key_variables q F; single = are_single (variables_of q F) parts; rare = list_any (λ k. is_value_test F k) q.conds || list_any (λ (p : Part). p.rare) parts }
          ∷ filter (λ p. not (hangs q known F p)) later.parts;
    }

-- the steps of the atoms of a plan behind those before, where these variables are known before them, and these atoms are
abbrev pub made_of : Query → ℕ → List ℕ → List Bound → List Step → List ℕ → Made
made_of q number known bounds before [] = record { steps = before; parts = [] }
made_of q number known bounds before (F ∷ plan) =
    let bound = bound_for q bounds F in
    let only = only_of q F (length before) bound in
    with_level q number known bounds only F (made_of q (suc number) (known ++ variables_of q F) (bound_of q bounds F only ∷ bounds) (before ++ asked_steps q number F bound) plan)

-- those of the atoms after F
abbrev pub made_later : Query → ℕ → List ℕ → List Bound → List Within → ℕ → List Step → List ℕ → Made
made_later q number known bounds only F before plan =
    made_of q (suc number) (known ++ variables_of q F) (bound_of q bounds F only ∷ bounds) before plan

-- and then those of F
abbrev pub made_behind : Query → ℕ → List ℕ → List Bound → List Within → ℕ → List Step → List ℕ → Made
made_behind q number known bounds only F before plan = with_level q number known bounds only F (made_later q number known bounds only F before plan)

-- the answer columns, for a context of each part
abbrev pub last_select : Query → List Part → Select
last_select q parts =
    let children = children_of 0 parts [] in
    record { cells = cells_of (known_of 0 parts []) (answer_variables q); sources = map (λ (c : Child). c.listed) children; all = on_of children; only = [] }

-- the query of a plan
abbrev pub sql_of : Query → List ℕ → Sql
sql_of q plan =
    let made = made_of q 1 (answer_variables q) [] [] plan in
    record { steps = made.steps; last = last_select q made.parts }
