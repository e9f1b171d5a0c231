use Rattle.std.proofs.Common.{◌≡◌, ◌+◌, List, [], ◌∷◌, ◌++◌, arith, ap, ◌∙◌, subst, sym, take, get_or, false, refl}
use Rattle.std.proofs.lemmas.List.{take_all, take_more}
use Rattle.cnf_form.specs.declared.formula.Lit.{Lit}
use Rattle.merged_search.specs.Clauses.{RisesFrom}
use Rattle.merged_search.proofs.Rising.{last_push, last_var, rises_at, rises_push}
use Rattle.merged_search.proofs.accepted.rises.Goals.{then-lit-last-via-then-lit-last, then-lit-last-via-else-lit-last+then-vars-lit}
use Rattle.merged_search.proofs.accepted.rises.Goals as goal

abbrev none : Lit
none = record { var = 0; positive = false }

pub loop-lit-preserved : goal.loop-lit-preserved
loop-lit-preserved c =
    let lits = c.args.lits.now in
    let i = c.loop-lit.lit-index in
    let more : take (i + 1) lits ≡ take i lits ++ get_or lits i none ∷ [] = take_more lits i none c.loop-lit-test.true in
    let above = c.if-lit-last.false in
    let last = c.loop-lit.invariant.1 in (
      subst (λ (xs : List Lit). RisesFrom 0 c.args.vars xs) (sym more) (rises_push 0 c.args.vars (take i lits) (get_or lits i none) c.loop-lit.invariant.0 (omega (arith, above, last)) c.if-vars-lit.false),
      sym (ap (last_var 0) more ∙ last_push 0 (take i lits) (get_or lits i none)),
    )

pub returns : goal.returns
returns c = (
  λ yes. subst (λ (xs : List Lit). RisesFrom 0 c.args.vars xs) (take_all c.loop-lit.lit-index c.args.lits.now c.loop-lit-test.false) c.loop-lit.invariant.0,
  λ rises. refl,
)

pub returns-then-lit-last : goal.returns-then-lit-last
returns-then-lit-last c = (
  λ no. cc,
  λ rises. (
      let h = rises_at 0 c.args.vars c.args.lits.now c.loop-lit.lit-index none rises c.loop-lit-test.true in
      let above = h.0 in
      let within = h.1 in
      let last = c.loop-lit.invariant.1 in
      elim c.then-lit-last.branch [
        | then-lit-last-via-then-lit-last w ↦ (let low = w.if-lit-last.true in absurd (omega (arith, above, low, last)))
        | then-lit-last-via-else-lit-last+then-vars-lit w ↦ (let high = w.if-vars-lit.true in absurd (omega (arith, within, high)))
      ]
      ),
)
