-- How a search ends.
use Rattle.cnf_form.specs.Literals.{HasVar}
use Rattle.std.proofs.Common.{◌≡◌, ℕ, ◌<◌, ◌≤◌, ◌+◌, true, ℤ, List, [], ◌∷◌, ◌++◌, ◌⊎◌, inl, inr, refl, sym, ◌∙◌, ap, subst, arith, length, append_assoc}
use Rattle.std.proofs.lemmas.Grind.{common_steps}
use Rattle.std.specs.Prelude.{Contains}
use Rattle.std.proofs.lemmas.List.{map-append}
use Rattle.cqa_value.proofs.Words.{mem-tail, mem-cases, mem-head}
use Rattle.cnf_form.specs.declared.formula.Lit.{Lit}
use Rattle.cnf_form.specs.Literals.{opposite, Denied, AllDenied, literals}
use Rattle.search_trail.specs.Trail.{IsConsistent, IsUnassigned, At, held}
use Rattle.cdcl.specs.Settled.{IsSettledClause, AllSettled}
use Rattle.cdcl.proofs.SettledLemmas.{not_reached, stays_open}
use Rattle.cnf_form.proofs.Lits.{lit_cases}
use Rattle.cnf_form.specs.declared.log.Step.{Step}
use Rattle.cnf_form.specs.declared.log.Step.TheVariants.{Add, Delete}
use Rattle.search_trail.specs.Analysis.{ChainPasses}
use Rattle.cdcl.specs.declared.solver.Solver.{Solver}
use Rattle.cdcl.specs.State.{IsSound}
use Rattle.search_trail.proofs.Places.{consistent, At-push_old}
use Rattle.cdcl.proofs.States.{literals_count}
use Rattle.cdcl.specs.Visits.{IsStill, IsComplete, IsModelled}
use Rattle.cdcl.specs.Lines.{Adds, IsLine, AreLines, IsLineStep, IsLastStep, EndsEmpty, EndsLog, EndsSpent, added_lits, learnt}

pub line_step : (permanent : ℕ) (db : List (List Lit)) (n : ℕ) (step : Step) (id : ℕ) (lits : List Lit) (hints : List ℤ) → Adds step id lits hints → id ≡ length db + 1
    → IsLine permanent db n lits hints → IsLineStep permanent db n step
line_step permanent db n (Add i clause hs) id lits hints a e line =
    (a.0 ∙ e, subst (λ (h : List ℤ). IsLine permanent db n clause.lits h) (sym a.2) (subst (λ (c : List Lit). IsLine permanent db n c hints) (sym a.1) line))
line_step permanent db n (Delete ids) id lits hints a e line = absurd a

pub last_step : (db : List (List Lit)) (step : Step) (id : ℕ) (lits : List Lit) (hints : List ℤ) → Adds step id lits hints → id ≡ length db + 1
    → lits ≡ [] → ChainPasses db [] hints → IsLastStep db step
last_step db (Add i clause hs) id lits hints a e none passes = (a.0 ∙ e, a.1 ∙ none, subst (λ (h : List ℤ). ChainPasses db [] h) (sym a.2) passes)
last_step db (Delete ids) id lits hints a e none passes = absurd a

pub lines_push : (permanent : ℕ) (db : List (List Lit)) (n : ℕ) (log : List Step) (step : Step) → AreLines permanent db n log → IsLineStep permanent (db ++ learnt log) n step
    → AreLines permanent db n (log ++ step ∷ [])
lines_push permanent db n [] step a b = (subst (λ (d : List (List Lit)). IsLineStep permanent d n step) (append_nil db) b, tt)
  where
    append_nil : (xs : List (List Lit)) → xs ++ [] ≡ xs
    append_nil xs = grind (arith, common_steps)
lines_push permanent db n (x ∷ xs) step a b = (
  a.0,
  lines_push permanent (db ++ added_lits x ∷ []) n xs step a.1 (subst (λ (d : List (List Lit)). IsLineStep permanent d n step) (sym (append_assoc db (added_lits x ∷ []) (learnt xs))) b),
)

pub learnt_push : (db : List (List Lit)) (log : List Step) (step : Step) → (db ++ learnt log) ++ added_lits step ∷ [] ≡ db ++ learnt (log ++ step ∷ [])
learnt_push db log step = append_assoc db (learnt log) (added_lits step ∷ []) ∙ ap (λ (xs : List (List Lit)). db ++ xs) (sym (map-append added_lits log (step ∷ [])))

-- with a value for its variable, a literal is held or denied
held_or_denied : (t : List Lit) (l : Lit) → HasVar t l.var → Contains t l ⊎ Denied t l
held_or_denied t l h = elim (lit_cases h.0 l) [
  | inl e ↦ inl (subst (λ (x : Lit). Contains t x) e h.1)
  | inr r ↦ elim r [ inl e ↦ inr (subst (λ (x : Lit). Contains t x) e h.1) | inr n ↦ absurd (n h.2) ]
]

some_held : (t c : List Lit) → ((l : Lit) → Contains c l → HasVar t l.var) → ((l : Lit) × Contains c l × Contains t l) ⊎ AllDenied t c
some_held t [] f = inr (λ m i. absurd (omega (arith, i.1)))
some_held t (l ∷ c) f = elim (held_or_denied t l (f l (mem-head l c))) [
  | inl i ↦ inl (l, mem-head l c, i)
  | inr d ↦ elim (some_held t c (λ m i. f m (mem-tail m l c i))) [
    | inl s ↦ inl (s.0, mem-tail s.0 l c s.1, s.2)
    | inr a ↦ inr (λ m i. elim (mem-cases m l c i) [ inl e ↦ subst (λ (x : Lit). Denied t x) e d | inr j ↦ a m j ])
  ]
]

-- where every variable has a value, a settled clause has a literal that is held
complete_held : (t c : List Lit) → IsConsistent t → IsSettledClause t c → ((l : Lit) → Contains c l → HasVar t l.var) → (l : Lit) × Contains c l × Contains t l
complete_held t c k s f = elim (some_held t c f) [
  | inl r ↦ r
  | inr d ↦
      let x : Lit = record { var = 0; positive = true } in
      absurd (k x (s x (λ m i _. d m i)) (s (opposite x) (λ m i _. d m i)))
]

pub modelled : (db more : List (List Lit)) (s : Solver) → IsSound s → IsStill s → IsComplete s → length db ≤ s.permanent → literals s.clauses.items ≡ db ++ more → IsModelled db s
modelled db more s sound still all first e = record {
  complete = all;
  holds = λ c i.
      let a : At (literals s.clauses.items) i.0 c = subst (λ (d : List (List Lit)). At d i.0 c) (sym e) (At-push_old db more i.0 c (i.1, i.2)) in
      complete_held (held s.trail.items) c (consistent (held s.trail.items) s.places.items sound.places_are) (still i.0 c (omega (arith, first, i.1)) a)
      (λ l k. all l.var (sound.db_low c (i.0, a.0, a.1) l k) (sound.db_in c (i.0, a.0, a.1) l k));
}

pub refuted_end : (permanent : ℕ) (db : List (List Lit)) (n budget : ℕ) (log0 log : List Step) (d : List (List Lit))
    → EndsLog d log0 log → AreLines permanent db n log0 → d ≡ db ++ learnt log0 → length log0 ≤ budget → EndsEmpty permanent db n budget log
refuted_end permanent db n budget log0 log d last lines e count = record {
  before = log0;
  last = last.0;
  shape = last.1;
  lines = lines;
  ends = subst (λ (x : List (List Lit)). IsLastStep x last.0) e last.2;
  count = count;
}

pub spent_end : (permanent : ℕ) (db : List (List Lit)) (n budget v : ℕ) (log : List Step) (s : Solver)
    → s.permanent ≡ permanent → AreLines permanent db n log → length log ≡ budget → literals s.clauses.items ≡ db ++ learnt log → IsStill s → 1 ≤ v → v < n → IsUnassigned (held s.trail.items) v
    → length s.clauses.items ≤ permanent → EndsSpent permanent db n budget log
spent_end permanent db n budget v log s is lines count e still low range free whole =
    let count_of = literals_count s.clauses.items in
    let len : length (literals s.clauses.items) ≡ length (db ++ learnt log) = ap (λ (d : List (List Lit)). length d) e in
    let settled : AllSettled (held s.trail.items) (db ++ learnt log) =
    subst (λ (d : List (List Lit)). AllSettled (held s.trail.items) d) e (λ c i. still i.0 c (omega (arith, i.1, count_of, whole, is)) (i.1, i.2)) in
    record {
      lines = lines;
      count = count;
      whole = omega (arith, len, count_of, whole);
      stuck = not_reached (db ++ learnt log) (held s.trail.items) v settled free;
      free = (v, low, range, stays_open (db ++ learnt log) (held s.trail.items) v settled free);
    }

pub log_push : (permanent : ℕ) (db : List (List Lit)) (n : ℕ) (log log' : List Step) (step : Step) (d : List (List Lit)) (m : ℕ)
    → AreLines permanent db n log → d ≡ db ++ learnt log → m ≡ n → IsLineStep permanent d m step → log' ≡ log ++ step ∷ [] → AreLines permanent db n log'
log_push permanent db n log log' step d m lines e k line p =
    subst (λ (ls : List Step). AreLines permanent db n ls) (sym p)
    (lines_push permanent db n log step lines (subst (λ (x : List (List Lit)). IsLineStep permanent x n step) e (subst (λ (i : ℕ). IsLineStep permanent d i step) k line)))

pub db_push : (db : List (List Lit)) (log log' : List Step) (step : Step) (d d' : List (List Lit))
    → d ≡ db ++ learnt log → d' ≡ d ++ added_lits step ∷ [] → log' ≡ log ++ step ∷ [] → d' ≡ db ++ learnt log'
db_push db log log' step d d' e f p =
    f ∙ ap (λ (x : List (List Lit)). x ++ added_lits step ∷ []) e ∙ learnt_push db log step ∙ ap (λ (ls : List Step). db ++ learnt ls) (sym p)

pub none_below : (xs : List ℕ) → ((s : ℕ) → Contains xs s → s < 0) → length xs ≡ 0
none_below [] f = refl
none_below (x ∷ xs) f = absurd (omega (arith, f x (mem-head x xs)))
