use Rattle.std.proofs.Common.{◌∷◌, List, reverse, subst}
use Rattle.std.specs.Prelude.{Contains}
use Rattle.cnf_form.specs.Literals.{literals, opposite}
use Rattle.cnf_form.specs.declared.formula.Lit.{Lit}
use Rattle.search_trail.specs.Trail.{held, EndIs}
use Rattle.search_trail.specs.Analysis.{Works}
use Rattle.search_trail.proofs.Shortening.{kept_denied, shorter_clause, works_below}
use Rattle.search_trail.proofs.implications.Implications.walk_back.Goals as goal

pub returns-clause-learnt : goal.returns-clause-learnt
returns-clause-learnt c =
    let g = c.args.self.now in
    let db = literals g.clauses.now in
    let t = held g.trail.now in
    let point = c.in_ok-at.at in
    let u = c.lit_at.result in
    let lits = c.shorten.new.lits.items in
    let hints = reverse c.shorten.new.hints.items in
    let new = c.shorten.new.marks.seen.items in
    let works : Works db t new (opposite u ∷ lits) 0 hints =
    c.in_ok-shorten.ensures.works (opposite u)
    (works_below db t g.start c.walk_to_point.new.marks.seen.items point (reverse c.walk_to_point.new.hints.items) u c.in_ok-at.ensures.after c.lit_at.ensures c.in_ok-at.ensures.last
    c.in_ok-at.ensures.walked.works) in
    rw (c.in_ok-push_lit.ensures, c.opposite-asserted.ensures, c.reverse.ensures.items)
    (shorter_clause db t g.places.now g.start new lits point hints u c.end_of-end.result
    g.placed c.in_ok-at.ensures.after c.lit_at.ensures c.in_ok-shorten.ensures.kept (subst (λ (xs : List Lit). EndIs t xs c.end_of-end.result) c.as_slice.ensures.value c.end_of-end.ensures) works)

pub end_of-end-requires : goal.end_of-end-requires
end_of-end-requires c l i =
    let g = c.args.self.now in
    let j : Contains c.shorten.new.lits.items l = subst (λ (xs : List Lit). Contains xs l) c.as_slice.ensures.value i in
    kept_denied (held g.trail.now) g.start 0 c.shorten.new.lits.items c.in_ok-shorten.ensures.kept l j
