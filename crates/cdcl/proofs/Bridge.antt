-- From clauses by their places to clauses under ids.
use Rattle.std.proofs.Common.{◌≡◌, ℕ, zero, suc, ◌≤◌, ◌+◌, ℤ, List, [], ◌∷◌, ◌++◌, map, inl, inr, refl, sym, ◌∙◌, ap, subst, arith, length, get_or, Option, Some, append_assoc}
use Rattle.std.specs.Prelude.{Contains}
use Rattle.std.proofs.lemmas.Map.{update_here, update_apart}
use Rattle.std.proofs.lemmas.Option.{slice_get-get_or}
use Rattle.std.proofs.lemmas.List.{map-append, length-append, length_push}
use Rattle.std.proofs.lemmas.List.Elements.{Contains-push}
use Rattle.cnf_form.specs.declared.formula.Lit.{Lit}
use Rattle.cnf_form.specs.declared.formula.Cnf.{Cnf}
use Rattle.cnf_form.specs.declared.log.Step.{Step}
use Rattle.cnf_form.specs.declared.log.Step.TheVariants.{Add, Delete}
use Rattle.cnf_form.specs.Literals.{opposite, literals}
use Rattle.cnf_form.specs.Logs.{Live, HintsPass, numbered, with_clause, StepsPass, Passes, added, Refutes, AreConsecutive}
use Rattle.cnf_form.specs.Propagation.{ReachesEmpty, StaysOpen}
use Rattle.cnf_form.specs.Spent.{AreNew, OnlyAdds, IsSpentLog}
use Rattle.search_trail.specs.Trail.{At}
use Rattle.search_trail.specs.Analysis.{ChainPasses}
use Rattle.cdcl.specs.Lines.{AreLines, IsLineStep, IsLastStep, EndsEmpty, EndsSpent, added_lits, learnt}
use Rattle.cdcl.proofs.States.{literals_count}
use Rattle.search_trail.proofs.Places.{At-push_cases}

-- the clause at each place is live under the id that follows the place
abbrev pub Covers : Live → List (List Lit) → Type 0
Covers live db = (i : ℕ) (c : List Lit) → At db i c → live (i + 1) ≡ Some c

chain_hints : (live : Live) (db : List (List Lit)) (have' : List Lit) (hints : List ℤ) → Covers live db → ChainPasses db have' hints → HintsPass live have' hints
chain_hints live db have' [] cover h = h
chain_hints live db have' (hint ∷ hints) cover h =
    subst (λ (z : ℤ). HintsPass live have' (z ∷ hints)) (sym h.1) (
      h.2,
      cover h.0 h.2 h.3,
      elim h.4 [
        | inl d ↦ inl d
        | inr u ↦ inr (u.0, u.1, chain_hints live db (u.0 ∷ have') hints cover u.2)
      ],
    )

numbered_at : (cs : List (List Lit)) → Covers (numbered cs) cs
numbered_at cs i c a =
    let e : suc i ≡ i + 1 = omega arith in
    subst (λ (k : ℕ). numbered cs k ≡ Some c) e
    (slice_get-get_or cs i [] a.0 ∙ ap (λ (x : List Lit). let o : Option (List Lit) = Some x in o) (read cs i c a))
  where
    read : (xs : List (List Lit)) (k : ℕ) (x : List Lit) → At xs k x → get_or xs k [] ≡ x
    read [] k x a = absurd (omega (arith, a.0))
    read (y ∷ ys) zero x a = a.1
    read (y ∷ ys) (suc k) x a = read ys k x (omega (arith, a.0), a.1)

covers_more : (live : Live) (db : List (List Lit)) (id : ℕ) (c : List Lit) → id ≡ length db + 1 → Covers live db → Covers (with_clause live id c) (db ++ c ∷ [])
covers_more live db id c e cover i d a = elim (At-push_cases db c i d a) [
  | inl b ↦ update_apart live id (Some c) (i + 1) (λ q. absurd (omega (arith, q, e, b.0))) ∙ cover i d b
  | inr b ↦
      let k : id ≡ i + 1 = omega (arith, e, b.0) in
      subst (λ (x : ℕ). with_clause live id c x ≡ Some d) k
      (update_here live id (Some c) ∙ ap (λ (x : List Lit). let o : Option (List Lit) = Some x in o) b.1)
]

-- a step that adds a clause under the next id, by hints that pass
abbrev pub StepFollows : List (List Lit) → Step → Type 0
StepFollows db (Add id clause hints) = (id ≡ length db + 1) × ChainPasses db (map opposite clause.lits) hints
StepFollows db (Delete ids) = ⊥

abbrev pub StepsFollow : List (List Lit) → List Step → Type 0
StepsFollow db [] = Unit {0}
StepsFollow db (step ∷ steps) = StepFollows db step × StepsFollow (db ++ added_lits step ∷ []) steps

steps_pass : (live : Live) (db : List (List Lit)) (top : ℕ) (steps : List Step) → Covers live db → top ≡ length db → StepsFollow db steps → StepsPass live top steps
steps_pass live db top [] cover t h = tt
steps_pass live db top (Add id clause hints ∷ steps) cover t h = (
  (omega (arith, h.0.0, t), inr (chain_hints live db (map opposite clause.lits) hints cover h.0.1)),
  steps_pass (with_clause live id clause.lits) (db ++ clause.lits ∷ []) id steps (covers_more live db id clause.lits h.0.0 cover)
      (let l = length_push db clause.lits in omega (arith, h.0.0, l)) h.1,
)
steps_pass live db top (Delete ids ∷ steps) cover t h = absurd h.0

follow_passes : (cnf : Cnf) (steps : List Step) → StepsFollow (literals cnf.clauses) steps → Passes cnf steps
follow_passes cnf steps h = steps_pass (numbered (literals cnf.clauses)) (literals cnf.clauses) (length cnf.clauses) steps (numbered_at (literals cnf.clauses)) (sym (literals_count cnf.clauses)) h

follow_ids : (db : List (List Lit)) (n : ℕ) (steps : List Step) → n ≡ length db → StepsFollow db steps → AreConsecutive n steps
follow_ids db n [] e h = tt
follow_ids db n (Add id clause hints ∷ steps) e h = (
  h.0.0 ∙ ap (λ (k : ℕ). k + 1) (sym e),
  follow_ids (db ++ clause.lits ∷ []) (n + 1) steps (let l = length_push db clause.lits in omega (arith, e, l)) h.1,
)
follow_ids db n (Delete ids ∷ steps) e h = absurd h.0

follow_adds : (db : List (List Lit)) (steps : List Step) → StepsFollow db steps → OnlyAdds steps × (added steps ≡ learnt steps)
follow_adds db [] h = (tt, refl)
follow_adds db (Add id clause hints ∷ steps) h =
    let r = follow_adds (db ++ clause.lits ∷ []) steps h.1 in (r.0, ap (λ (xs : List (List Lit)). clause.lits ∷ xs) r.1)
follow_adds db (Delete ids ∷ steps) h = absurd h.0

line_follows : (permanent : ℕ) (db : List (List Lit)) (n : ℕ) (step : Step) → IsLineStep permanent db n step → StepFollows db step
line_follows permanent db n (Add id clause hints) l = (l.0, l.1.passes)
line_follows permanent db n (Delete ids) l = absurd l

last_follows : (db : List (List Lit)) (step : Step) → IsLastStep db step → StepFollows db step × (added_lits step ≡ [])
last_follows db (Add id clause hints) l =
    let e : map opposite [] ≡ map opposite clause.lits = ap (λ (c : List Lit). map opposite c) (sym l.1) in
    ((l.0, subst (λ (c : List Lit). ChainPasses db c hints) e l.2), l.1)
last_follows db (Delete ids) l = absurd l

lines_follow : (permanent : ℕ) (db : List (List Lit)) (n : ℕ) (steps : List Step) → AreLines permanent db n steps → StepsFollow db steps
lines_follow permanent db n [] h = tt
lines_follow permanent db n (step ∷ steps) h = (line_follows permanent db n step h.0, lines_follow permanent (db ++ added_lits step ∷ []) n steps h.1)

follow_push : (db : List (List Lit)) (steps : List Step) (step : Step) → StepsFollow db steps → StepFollows (db ++ learnt steps) step → StepsFollow db (steps ++ step ∷ [])
follow_push db [] step a b = (subst (λ (d : List (List Lit)). StepFollows d step) (append_nil db) b, tt)
  where
    append_nil : (xs : List (List Lit)) → xs ++ [] ≡ xs
    append_nil [] = refl
    append_nil (x ∷ xs) = ap (λ (ys : List (List Lit)). x ∷ ys) (append_nil xs)
follow_push db (x ∷ xs) step a b = (
  a.0,
  follow_push (db ++ added_lits x ∷ []) xs step a.1 (subst (λ (d : List (List Lit)). StepFollows d step) (sym (append_assoc db (added_lits x ∷ []) (learnt xs))) b),
)

lines_new : (permanent : ℕ) (db : List (List Lit)) (vars : ℕ) (steps : List Step) → length (db ++ learnt steps) ≤ permanent → AreLines permanent db (vars + 1) steps → AreNew vars db (learnt steps)
lines_new permanent db vars [] whole h = tt
lines_new permanent db vars (Add id clause hints ∷ steps) whole h =
    let line = h.0.1 in
    let len = length-append db (clause.lits ∷ learnt steps) in
    let same = ap (λ (xs : List (List Lit)). length xs) (append_assoc db (clause.lits ∷ []) (learnt steps)) in (
      record { some = line.some; range = λ l i. (line.low l i, let r = line.range l i in omega (arith, r)); once = line.once },
      λ d i. line.fresh i.0 d (omega (arith, i.1, len, whole)) (i.1, i.2),
      lines_new permanent (db ++ clause.lits ∷ []) vars steps (omega (arith, same, whole)) h.1,
    )
lines_new permanent db vars (Delete ids ∷ steps) whole h = absurd h.0

pub spent_log : (permanent : ℕ) (cnf : Cnf) (budget : ℕ) (log : List Step) → EndsSpent permanent (literals cnf.clauses) (cnf.vars + 1) budget log → IsSpentLog cnf budget log
spent_log permanent cnf budget log e =
    let db = literals cnf.clauses in
    let follow = lines_follow permanent db (cnf.vars + 1) log e.lines in
    let adds = follow_adds db log follow in
    let same : db ++ learnt log ≡ db ++ added log = ap (λ (xs : List (List Lit)). db ++ xs) (sym adds.1) in
    record {
      passes = follow_passes cnf log follow;
      adds = adds.0;
      count = e.count;
      new = subst (λ (xs : List (List Lit)). AreNew cnf.vars db xs) (sym adds.1) (lines_new permanent db cnf.vars log e.whole e.lines);
      stuck = subst (λ (d : List (List Lit)). ReachesEmpty d → ⊥) same e.stuck;
      free = (e.free.0, e.free.1, let r = e.free.2 in omega (arith, r), subst (λ (d : List (List Lit)). StaysOpen d e.free.0) same e.free.3);
    }

pub refutation : (permanent : ℕ) (cnf : Cnf) (budget : ℕ) (log : List Step) → EndsEmpty permanent (literals cnf.clauses) (cnf.vars + 1) budget log
    → Refutes cnf log × AreConsecutive (length cnf.clauses) log × (length log ≤ budget + 1)
refutation permanent cnf budget log e =
    let db = literals cnf.clauses in
    let last = last_follows (db ++ learnt e.before) e.last e.ends in
    let follow : StepsFollow db log =
    subst (λ (xs : List Step). StepsFollow db xs) (sym e.shape) (follow_push db e.before e.last (lines_follow permanent db (cnf.vars + 1) e.before e.lines) last.0) in
    let adds = follow_adds db log follow in
    let shape : learnt log ≡ learnt e.before ++ [] ∷ [] =
    ap learnt e.shape ∙ map-append added_lits e.before (e.last ∷ []) ∙ ap (λ (c : List Lit). learnt e.before ++ c ∷ []) last.1 in
    let empty : Contains (learnt log) [] = subst (λ (xs : List (List Lit)). Contains xs []) (sym shape) (Contains-push (learnt e.before) []) in (
      (follow_passes cnf log follow, subst (λ (xs : List (List Lit)). Contains xs []) (sym adds.1) empty),
      follow_ids db (length cnf.clauses) log (sym (literals_count cnf.clauses)) follow,
      let n = ap (λ (xs : List Step). length xs) e.shape in let m = length_push e.before e.last in omega (arith, n, m, e.count),
    )
