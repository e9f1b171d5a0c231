-- Rows that have the values of an assignment, and the comparisons that say so.
use Rattle.std.proofs.Common.{◌≡◌, ℕ, ◌<◌, inl, inr, Bool, true, false, ◌&&◌, List, [], ◌∷◌, get_or, refl, ap, sym, ◌∙◌, subst, arith, eqb, cond, Contains}
use Rattle.std.specs.List.{slice_index}
use Rattle.std.proofs.lemmas.Bool.Decides.{nat_tests}
use Rattle.std.proofs.lemmas.Bool.{and_parts}
use Rattle.std.proofs.lemmas.List.FromFn.{get_or-map-range_with_len}
use Rattle.cqa_value.specs.declared.value.Value.{Value}
use Rattle.cqa_value.proofs.Words.{Contains-flat_map, Contains-from_flat_map}
use Rattle.cqa_model.specs.declared.query.Cond.{Cond}
use Rattle.cqa_model.specs.declared.query.Cond.TheVariants.{Join, Test}
use Rattle.cqa_model.specs.declared.query.Query.{Query}
use Rattle.cqa_model.specs.Database.{nothing}
use Rattle.cqa_model.specs.Query.{OpHolds, atom_at}
use Rattle.cqa_model.specs.Labels.{label}
use Rattle.cqa_model.specs.Plan.{TestHolds}
use Rattle.cqa_model.proofs.Classic.{mem-head, mem-nil, mem-cases}
use Rattle.sql_text.specs.declared.syntax.Cmp.TheVariants.{Test as Compare}
use Rattle.sql_steps.specs.declared.fitting.Fitting.{Fitting}
use Rattle.sql_text.specs.Meaning.{Meets, MeetsAll}
use Rattle.sql_steps.specs.Variables.{has, variables_of}
use Rattle.sql_steps.specs.Steps.{cell, see_all, test_at, tests_at, fit_on}
use Rattle.sql_steps.proofs.Membership.{has-into, has-from}
use Rattle.sql_steps.proofs.Seeing.{IsRight, Continues, meets-left, meets-right, meets-both, see_all-into, see_all-from}

-- the number of a column's variable
abbrev pub variable : Query → ℕ → ℕ → ℕ
variable q F i = label q.conds (record { atom = F; col = i })

pub variable-at : (q : Query) (F i : ℕ) → i < (atom_at q F).width → slice_index (variables_of q F) i ≡ variable q F i
variable-at q F i l = get_or-map-range_with_len (λ z. variable q F z) 0 (atom_at q F).width i i 0 l (omega arith)

-- a row meets the tests of F
abbrev pub Tested : Query → ℕ → List Value → Type 0
Tested q F y = (k : Cond) → Contains q.conds k → TestHolds F y k

-- a row of F has the values of an assignment, and meets the tests
pub record Suits (q : Query) (env : ℕ → Value) (F : ℕ) (y : List Value) : Type 0 where
  pub values : (i : ℕ) → i < (atom_at q F).width → get_or y i nothing ≡ env (variable q F i)
  pub tests : Tested q F y

-- a test of some of F's columns holds for a row of F
abbrev pub TestedOn : ℕ → List ℕ → List Value → Cond → Type 0
TestedOn F columns x (Join c d) = Unit {0}
TestedOn F columns x (Test c op y) = c.atom ≡ F → Contains columns c.col → OpHolds op (get_or x c.col nothing) y

pub tested-on : (F : ℕ) (columns : List ℕ) (x : List Value) (k : Cond) → TestHolds F x k → TestedOn F columns x k
tested-on F columns x (Join c d) h = tt
tested-on F columns x (Test c op y) h = λ e m. h e

module _ (q : Query) (w : List (List Value)) (F place : ℕ) where
  pub tests-into : (columns : List ℕ) → ((k : Cond) → Contains q.conds k → TestedOn F columns (get_or w place []) k) → MeetsAll w (tests_at q F place columns)
  tests-into columns h k m = let r = Contains-from_flat_map (λ (z : Cond). test_at F place columns z) q.conds k m in go r.0 r.1 r.2
    where
      go : (c : Cond) → Contains q.conds c → Contains (test_at F place columns c) k → Meets w k
      go (Join c d) n o = absurd (mem-nil k o)
      go (Test c op x) n o = decide (eqb c.atom F && has columns c.col) refl o
        where
          decide : (b : Bool) → (eqb c.atom F && has columns c.col) ≡ b → Contains (cond b (Compare (cell place c.col) op x ∷ []) []) k → Meets w k
          decide false e o = absurd (mem-nil k o)
          decide true e o =
              let b = and_parts (eqb c.atom F) (has columns c.col) e in
              elim (mem-cases k (Compare (cell place c.col) op x) [] o) [
                | inl f ↦ subst (λ z. Meets w z) f (h (Test c op x) n (let a : c.atom ≡ F = grind (arith, nat_tests) in a) (has-from columns c.col b.1))
                | inr z ↦ absurd (mem-nil k z)
              ]

  pub tests-from : (columns : List ℕ) → MeetsAll w (tests_at q F place columns) → (k : Cond) → Contains q.conds k → TestedOn F columns (get_or w place []) k
  tests-from columns h (Join c d) m = tt
  tests-from columns h (Test c op x) m = λ e n.
      let t : (eqb c.atom F && has columns c.col) ≡ true = let a : has columns c.col ≡ true = has-into columns c.col n in grind (arith, nat_tests) in
      h (Compare (cell place c.col) op x)
      (Contains-flat_map (λ (z : Cond). test_at F place columns z) q.conds (Test c op x) (Compare (cell place c.col) op x) m
      (subst (λ b. Contains (cond b (Compare (cell place c.col) op x ∷ []) []) (Compare (cell place c.col) op x)) (sym t) (mem-head (Compare (cell place c.col) op x) [])))

  pub fit_on-into : (env : ℕ → Value) (columns : List ℕ) (s : Fitting) → ((i : ℕ) → Contains columns i → i < (atom_at q F).width) → IsRight w env s.known → MeetsAll w s.all →
      Suits q env F (get_or w place []) → IsRight w env (fit_on q F place columns s).known × MeetsAll w (fit_on q F place columns s).all
  fit_on-into env columns s within r m h =
      let b = see_all-into w env (variables_of q F) place columns s r m (λ i n. h.values i (within i n) ∙ ap env (sym (variable-at q F i (within i n)))) in
      (b.0, meets-both w (see_all (variables_of q F) place columns s).all (tests_at q F place columns) b.1 (tests-into columns (λ k n. tested-on F columns (get_or w place []) k (h.tests k n))))

  pub fit_on-from : (env : ℕ → Value) (columns : List ℕ) (s : Fitting) → IsRight w env s.known → MeetsAll w (fit_on q F place columns s).all →
      ((e : ℕ → Value) × Continues w env (variables_of q F) place columns s e) × ((k : Cond) → Contains q.conds k → TestedOn F columns (get_or w place []) k)
  fit_on-from env columns s r m = (
    see_all-from w (variables_of q F) place columns s env r (meets-left w (see_all (variables_of q F) place columns s).all (tests_at q F place columns) m),
    tests-from columns (meets-right w (see_all (variables_of q F) place columns s).all (tests_at q F place columns) m),
  )
