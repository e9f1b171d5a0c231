use Rattle.std.proofs.Common.{rules, ◌≡◌, ◌++◌, ◌∷◌, ◌∙◌, [], List, ap, sym, subst, length}
use Rattle.cnf_form.specs.declared.formula.Lit.{Lit}
use Rattle.flat_formula.specs.declared.flat.Stretch.{Stretch}
use Rattle.flat_formula.specs.Flat.{clauses_of, AreWithin}
use Rattle.flat_formula.proofs.Stretches.{clauses-added, within-grown, within-added}
use Rattle.flat_formula.proofs.flat.FlatFormula.add.Goals as goal

pub invariant_of-self-in_err-push : goal.invariant_of-self-in_err-push
invariant_of-self-in_err-push c =
    let pool = c.self.inside.pool.items in
    let lits = c.args.lits.now in
    let old = c.self.inside.stretches.items in
    subst (λ (ss : List Stretch). AreWithin c.extend_from_slice.new.self.items ss) (sym c.in_err-push.ensures.items)
    (subst (λ (p : List Lit). AreWithin p old) (sym c.in_ok-extend_from_slice.ensures.items) (within-grown pool lits old c.self.invariant))

pub invariant_of-self-2 : goal.invariant_of-self-2
invariant_of-self-2 c =
    let pool = c.self.inside.pool.items in
    let lits = c.args.lits.now in
    let old = c.self.inside.stretches.items in
    let s : Stretch = record { start = c.len-start.result; end = c.len.result } in
    let start : c.len-start.result ≡ length pool = search rules in
    let end : c.len.result ≡ length (pool ++ lits) = search rules in
    subst (λ (ss : List Stretch). AreWithin c.extend_from_slice.new.self.items ss) (sym c.in_ok-push.ensures.items)
    (subst (λ (p : List Lit). AreWithin p (old ++ s ∷ [])) (sym c.in_ok-extend_from_slice.ensures.items)
    (within-added pool lits old s c.self.invariant start end))

pub returns : goal.returns
returns c =
    let pool = c.self.inside.pool.items in
    let lits = c.args.lits.now in
    let old = c.self.inside.stretches.items in
    let s : Stretch = record { start = c.len-start.result; end = c.len.result } in
    let start : c.len-start.result ≡ length pool = search rules in
    let end : c.len.result ≡ length (pool ++ lits) = search rules in
    ap (λ (ss : List Stretch). clauses_of c.extend_from_slice.new.self.items ss) c.in_ok-push.ensures.items
    ∙ (ap (λ (p : List Lit). clauses_of p (old ++ s ∷ [])) c.in_ok-extend_from_slice.ensures.items
    ∙ (clauses-added pool lits old s c.self.invariant start end ∙ ap (λ (cs : List (List Lit)). cs ++ lits ∷ []) c.self.view_is))
