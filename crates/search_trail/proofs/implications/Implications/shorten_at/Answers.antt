use Rattle.std.proofs.Common.{arith, ◌<◌, ◌++◌, ◌∷◌, [], List, Some, length, reverse, subst, sym, ◌∙◌, ap}
use Rattle.cnf_form.specs.declared.formula.Lit.{Lit}
use Rattle.cnf_form.specs.Literals.{literals}
use Rattle.cqa_value.proofs.Words.{clash}
use Rattle.search_trail.specs.Trail.{held}
use Rattle.search_trail.specs.Analysis.{AreKeptLiterals, Works}
use Rattle.search_trail.proofs.Works.{At-get_or, held_at}
use Rattle.search_trail.proofs.Marking.{read_false}
use Rattle.search_trail.proofs.Places.{apart_by_places}
use Rattle.search_trail.proofs.Reasons.{reason_in}
use Rattle.search_trail.proofs.Shortening.{kept_on, kept_push, works_keep}
use Rattle.search_trail.proofs.Walking.{entry_at, entry_in, no_entry, works_cited, works_past}
use Rattle.search_trail.proofs.implications.Implications.shorten_at.Goals as goal

pub index-requires : goal.index-requires
index-requires c =
    let g = c.args.self.now in
    let r = entry_in g c.args.marks.now c.args.at c.requires.marks (omega (arith, c.requires.at, g.within)) in
    omega (arith, r, c.args.marks.now.seen.ok)

pub returns-then-not-index-clause-kept : goal.returns-then-not-index-clause-kept
returns-then-not-index-clause-kept c k = kept_on (held c.args.self.now.trail.now) c.args.self.now.start c.args.at c.args.lits.now.items k

pub returns-then-not-index-clause-works : goal.returns-then-not-index-clause-works
returns-then-not-index-clause-works c u w =
    let g = c.args.self.now in
    let m = c.args.marks.now in
    works_past g m.seen.items _ c.args.at _ (omega (arith, c.requires.at, g.within)) (λ seen. clash _ seen (read_false m.seen.items _ _ c.index.ensures c.if-not-index.true)) w

pub cite-requires-clause-index : goal.cite-requires-clause-index
cite-requires-clause-index c =
    let g = c.args.self.now in
    let there = At-get_or g.trail.now c.args.at no_entry (omega (arith, c.requires.at, g.within)) in
    reason_in g.clauses.now g.trail.now c.args.at _ g.reasons there (Some c.in-Some.reason) (c.in-Some.ensures _ there)

pub returns-in_ok-cite-in-Some-clause-kept : goal.returns-in_ok-cite-in-Some-clause-kept
returns-in_ok-cite-in-Some-clause-kept c k = kept_on (held c.args.self.now.trail.now) c.args.self.now.start c.args.at c.args.lits.now.items k

pub returns-in_ok-cite-in-Some-clause-works : goal.returns-in_ok-cite-in-Some-clause-works
returns-in_ok-cite-in-Some-clause-works c u w =
    let g = c.args.self.now in
    let h : c.args.at < length g.trail.now = omega (arith, c.requires.at, g.within) in
    let cited = c.in_ok-cite-in-Some.ensures in
    works_cited g c.args.marks.now.seen.items _ _ c.args.at c.in-Some.reason c.args.hints.now.items _ h
    (c.in-Some.ensures _ (At-get_or g.trail.now c.args.at no_entry h)) cited.more.grow cited.seen cited.hint w

pub returns-in_ok-push_lit-in-None-clause-kept : goal.returns-in_ok-push_lit-in-None-clause-kept
returns-in_ok-push_lit-in-None-clause-kept c k =
    let g = c.args.self.now in
    let t = held g.trail.now in
    let lits = c.args.lits.now.items in
    subst (λ (ys : List Lit). AreKeptLiterals t g.start c.args.at ys)
    (sym (c.in_ok-push_lit-in-None.ensures ∙ ap (λ (y : Lit). lits ++ y ∷ []) c.opposite.ensures))
    (kept_push t g.start c.args.at lits (entry_at g c.args.at).lit (apart_by_places t g.places.now g.placed)
    (held_at g.trail.now c.args.at no_entry (omega (arith, c.requires.at, g.within))) c.requires.at k)

pub returns-in_ok-push_lit-in-None-clause-works : goal.returns-in_ok-push_lit-in-None-clause-works
returns-in_ok-push_lit-in-None-clause-works c u w =
    let g = c.args.self.now in
    let db = literals g.clauses.now in
    let t = held g.trail.now in
    let m = c.args.marks.now in
    let lits = c.args.lits.now.items in
    subst (λ (ys : List Lit). Works db t m.seen.items (u ∷ ys) c.args.at (reverse c.args.hints.now.items))
    (sym (c.in_ok-push_lit-in-None.ensures ∙ ap (λ (y : Lit). lits ++ y ∷ []) c.opposite.ensures))
    (works_keep db t m.seen.items (u ∷ lits) c.args.at (reverse c.args.hints.now.items) (entry_at g c.args.at).lit
    (held_at g.trail.now c.args.at no_entry (omega (arith, c.requires.at, g.within))) w)
