use Rattle.std.proofs.Common.{◌≡◌, ◌++◌, ◌∙◌, List, map, ap, sym, subst, true, false}
use Rattle.cnf_form.specs.declared.formula.Clause.{Clause}
use Rattle.cnf_form.specs.Literals.{literals}
use Rattle.list_search.specs.Classing.{literal_of}
use Rattle.list_search.proofs.class_clauses.clauses_of.Goals as goal

pub returns : goal.returns
returns c =
    let whole = map (map (literal_of true)) c.args.whole.now in
    let found = map (map (literal_of false)) c.args.found.now in
    let first : literals c.add_clauses.new.clauses.items ≡ whole = c.in_ok-add_clauses.ensures ∙ ap (λ (cs : List Clause). literals cs ++ whole) c.in_ok-clauses.ensures.items in
    subst (λ (cs : List Clause). literals cs ≡ whole ++ found) (sym c.from_vec.ensures) (c.in_ok-add_clauses-2.ensures ∙ ap (λ cs. cs ++ found) first)
