-- Steps of the code.
use Rattle.std.proofs.Common.{◌≡◌, ℕ, zero, suc, ◌<◌, ◌+◌, ◌-◌, Bool, true, false, cond, Option, Some, None, is_some, drop, List, [], ◌∷◌, ◌++◌, length, refl, ap, sym, ◌∙◌, subst, map, get_or, arith, Contains}
use Rattle.std.specs.Option.{unwrap_or}
use Rattle.std.specs.List.{All, filter, range_with_len, slice_index}
use Rattle.std.proofs.lemmas.List.{append-nil, append_assoc, length-append, map-append}
use Rattle.std.proofs.lemmas.List.Elements.{Contains-get_or, filter-append}
use Rattle.cqa_model.specs.declared.query.Query.{Query}
use Rattle.cqa_model.proofs.Classic.{mem-head, mem-tail}
use Rattle.cqa_model.specs.Variables.{whole}
use Rattle.cqa_model.specs.Plan.{IsPlanOf}
use Rattle.cqa_model.proofs.Elimination.{plan-eliminates}
use Rattle.cqa_model.proofs.PlanAtoms.{plan-atoms}
use Rattle.sql_steps.specs.Shapes.{AreAtoms}
use Rattle.sql_steps.specs.Variables.{has}
use Rattle.sql_steps.specs.declared.fitting.Known.{Known}
use Rattle.sql_text.specs.declared.syntax.Body.TheVariants.{Grouped}
use Rattle.sql_text.specs.declared.syntax.Step.{Step}
use Rattle.sql_text.specs.declared.syntax.StepKind.TheVariants.{Holds}
use Rattle.plan_sql.specs.declared.bounds.Bound.{Bound}
use Rattle.sql_steps.specs.declared.part.Part.{Part}
use Rattle.sql_steps.specs.Steps.{cell_of, context_group}
use Rattle.plan_sql.specs.Statement.{Made, asked_steps, block_of, bound_for, bound_of, context_steps, behind_steps, block_steps, first_of, made_behind, made_later, made_of, only_of, step, with_level}
use Rattle.sql_text.specs.declared.syntax.Within.{Within}
use Rattle.sql_steps.proofs.Steps.{range-more}

-- the atoms of lists
pub atoms-of-plan : (q r : Query) (plan order : List ℕ) → r ≡ q → plan ≡ order → IsPlanOf q order → AreAtoms r plan
atoms-of-plan q r plan order eq e h i l =
    subst (λ z. get_or plan i 0 < length z.atoms) (sym eq) (plan-atoms q order (plan-eliminates q (whole q) order h) (get_or plan i 0) (subst (λ z. Contains z (get_or plan i 0)) e (Contains-get_or plan i 0 l)))

pub atoms-head : (q : Query) (plan : List ℕ) (F : ℕ) (later : List ℕ) → plan ≡ F ∷ later → AreAtoms q plan → F < length q.atoms
atoms-head q plan F later e h = subst (AreAtoms q) e h 0 (omega arith)

pub atoms-tail : (q : Query) (plan : List ℕ) (F : ℕ) (later : List ℕ) → plan ≡ F ∷ later → AreAtoms q plan → AreAtoms q later
atoms-tail q plan F later e h i l = subst (AreAtoms q) e h (suc i) (omega (arith, l))

-- one more atom before
pub bounds-more : (q : Query) (F : ℕ) (only : List Within) (bounds : List Bound) → F < length q.atoms → All (λ (b : Bound). b.atom < length q.atoms) bounds →
    All (λ (b : Bound). b.atom < length q.atoms) (bound_of q bounds F only ∷ bounds)
bounds-more q F only bounds l all zero d n = l
bounds-more q F only bounds l all (suc k) d n = all k d (omega (arith, n))

-- the first so many columns of a part, as far as they are of these variables, as columns whose values are in its contexts
abbrev pub part_so_far : List ℕ → List Known → Part → ℕ → List Within
part_so_far vs known part n =
    map (λ j. record { cell = cell_of known (slice_index part.columns j); step = part.step; column = j })
    (filter (λ j. has vs (slice_index part.columns j)) (range_with_len 0 n))

-- one more
pub part-pushed : (vs : List ℕ) (known : List Known) (part : Part) (n : ℕ) (old before now : List Within) → before ≡ old ++ part_so_far vs known part n →
    now ≡ before ++ cond (has vs (slice_index part.columns n)) (record { cell = cell_of known (slice_index part.columns n); step = part.step; column = n } ∷ []) [] →
    now ≡ old ++ part_so_far vs known part (n + 1)
part-pushed vs known part n old before now b e =
    e ∙ ap (λ z. z ++ cond (test n) (shown n ∷ []) []) b ∙ append_assoc old (part_so_far vs known part n) (cond (test n) (shown n ∷ []) []) ∙ ap (λ z. old ++ z) (sym more)
  where
    shown : ℕ → Within
    shown j = record { cell = cell_of known (slice_index part.columns j); step = part.step; column = j }

    test : ℕ → Bool
    test j = has vs (slice_index part.columns j)

    one : (b : Bool) → map shown (cond b (n ∷ []) []) ≡ cond b (shown n ∷ []) []
    one true = refl
    one false = refl

    more : part_so_far vs known part (n + 1) ≡ part_so_far vs known part n ++ cond (test n) (shown n ∷ []) []
    more =
        ap (λ z. map shown (filter test z)) (range-more n) ∙ ap (map shown) (filter-append test (range_with_len 0 n) (n ∷ []))
        ∙ map-append shown (filter test (range_with_len 0 n)) (filter test (n ∷ [])) ∙ ap (λ z. part_so_far vs known part n ++ z) (one (test n))

-- the first atom that passes a test is one of them, and passes it
pub first-in : (test : Bound → Bool) (bounds : List Bound) (b : Bound) → first_of test bounds ≡ Some b → Contains bounds b × (test b ≡ true)
first-in test [] b e = absurd (cc e)
first-in test (c ∷ bounds) b e = go (test c) refl e (first-in test bounds b)
  where
    go : (t : Bool) → test c ≡ t → cond t (Some c) (first_of test bounds) ≡ Some b → (first_of test bounds ≡ Some b → Contains bounds b × (test b ≡ true)) → Contains (c ∷ bounds) b × (test b ≡ true)
    go true h e next = let same : c ≡ b = cc e in (subst (λ z. Contains (c ∷ bounds) z) same (mem-head c bounds), subst (λ z. test z ≡ true) same h)
    go false h e next = let r = next e in (mem-tail b c bounds r.0, r.1)

-- it is found where it stands
pub first-found : (test : Bound → Bool) (i : ℕ) (bounds : List Bound) (bound d : Bound) → i < length bounds → bound ≡ get_or bounds i d → test bound ≡ true → first_of test (drop i bounds) ≡ Some bound
first-found test i [] bound d l e t = absurd (omega (arith, l))
first-found test zero (b ∷ bounds) bound d l e t = ap (λ z. cond z (Some b) (first_of test bounds)) (subst (λ z. test z ≡ true) e t) ∙ ap Some (sym e)
first-found test (suc i) (b ∷ bounds) bound d l e t = first-found test i bounds bound d (omega (arith, l)) e t

-- one that doesn't
first-after : (test : Bound → Bool) (i : ℕ) (bounds : List Bound) (bound d : Bound) → i < length bounds → bound ≡ get_or bounds i d → test bound ≡ false → first_of test (drop (suc i) bounds) ≡ first_of test (drop i bounds)
first-after test i [] bound d l e t = absurd (omega (arith, l))
first-after test zero (b ∷ bounds) bound d l e t = sym (ap (λ z. cond z (Some b) (first_of test bounds)) (subst (λ z. test z ≡ false) e t))
first-after test (suc i) (b ∷ bounds) bound d l e t = first-after test i bounds bound d (omega (arith, l)) e t

pub first-next : (test : Bound → Bool) (i : ℕ) (bounds : List Bound) (bound d : Bound) → i < length bounds → bound ≡ get_or bounds i d → test bound ≡ false → first_of test (drop (i + 1) bounds) ≡ first_of test (drop i bounds)
first-next test i bounds bound d l e t =
    let more : i + 1 ≡ suc i = omega arith in
    ap (λ n. first_of test (drop n bounds)) more ∙ first-after test i bounds bound d l e t

-- the step of the contexts behind those that look for them
pub contexts-pushed : (q : Query) (number F : ℕ) (context : List ℕ) (parts : List Part) (before looked now : List Step) → now ≡ before ++ looked →
    now ++ step Holds number context (Grouped (context_group q F (length now - 1) (block_of q F context) parts context)) ∷ [] ≡ before ++ context_steps q number F context parts (length before) looked
contexts-pushed q number F context parts before looked now e =
    ap (λ z. z ++ holds (length z - 1) ∷ []) e
    ∙ ap (λ n. (before ++ looked) ++ holds n ∷ []) (let l : length (before ++ looked) - 1 ≡ length before + length looked - 1 = omega (arith, length-append before looked) in l)
    ∙ append_assoc before looked (holds (length before + length looked - 1) ∷ [])
  where
    holds : ℕ → Step
    holds place = step Holds number context (Grouped (context_group q F place (block_of q F context) parts context))

-- where steps were looked for and found
pub behind-looked : (q : Query) (number F : ℕ) (context : List ℕ) (only : List Within) (bounds : List Bound) (parts : List Part) (before now : List Step) (found : Option (List Step)) → is_some found ≡ true → now ≡ before ++ unwrap_or found [] →
    now ++ step Holds number context (Grouped (context_group q F (length now - 1) (block_of q F context) parts context)) ∷ [] ≡ before ++ behind_steps q number F context only bounds parts (length before) found
behind-looked q number F context only bounds parts before now None t e = (cc)
behind-looked q number F context only bounds parts before now (Some looked) t e = contexts-pushed q number F context parts before looked now e

-- and where none were
pub behind-blocks : (q : Query) (number F : ℕ) (context : List ℕ) (only : List Within) (bounds : List Bound) (parts : List Part) (before now : List Step) (found : Option (List Step)) → is_some found ≡ false → now ≡ before ++ unwrap_or found [] →
    now ++ block_steps q number F context only bounds parts (length now) false ≡ before ++ behind_steps q number F context only bounds parts (length before) found
behind-blocks q number F context only bounds parts before now None t e = ap (λ z. z ++ block_steps q number F context only bounds parts (length z) false) (e ∙ append-nil before)
behind-blocks q number F context only bounds parts before now (Some looked) t e = (cc)

-- steps and parts are what was made
abbrev pub made-with : List Step → List Part → Made
made-with steps parts = record { steps = steps; parts = parts }

made-same : (m : Made) (steps : List Step) (parts : List Part) → steps ≡ m.steps → parts ≡ m.parts → made-with steps parts ≡ m
made-same m steps parts e f = ap (λ z. made-with z parts) e ∙ ap (λ z. made-with m.steps z) f

-- the steps of an atom behind those of the later ones
pub made-behind : (q : Query) (number : ℕ) (known : List ℕ) (bounds : List Bound) (only : List Within) (F : ℕ) (before : List Step) (plan : List ℕ) (steps : List Step) (parts : List Part) →
    steps ≡ (made_later q number known bounds only F before plan).steps → parts ≡ (made_later q number known bounds only F before plan).parts →
    with_level q number known bounds only F (made-with steps parts) ≡ made_behind q number known bounds only F before plan
made-behind q number known bounds only F before plan steps parts e f =
    ap (λ m. with_level q number known bounds only F m) (made-same (made_later q number known bounds only F before plan) steps parts e f)

-- and behind those that ask for its keys
pub made-first : (q : Query) (number : ℕ) (known : List ℕ) (bounds : List Bound) (plan : List ℕ) (F : ℕ) (later : List ℕ) (before : List Step) (only : List Within) (steps : List Step) → plan ≡ F ∷ later →
    only ≡ only_of q F (length before) (bound_for q bounds F) → steps ≡ before ++ asked_steps q number F (bound_for q bounds F) →
    made_behind q number known bounds only F steps later ≡ made_of q number known bounds before plan
made-first q number known bounds plan F later before only steps e f g =
    ap (λ o. made_behind q number known bounds o F steps later) f ∙ ap (λ s. made_behind q number known bounds (only_of q F (length before) (bound_for q bounds F)) F s later) g
    ∙ ap (made_of q number known bounds before) (sym e)
