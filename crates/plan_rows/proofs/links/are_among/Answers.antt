use Rattle.std.proofs.Common.{◌∙◌, Contains, sym, subst, below_more, arith, get_or}
use Rattle.std.proofs.lemmas.List.{get_or_read}
use Rattle.plan_rows.specs.declared.links.Link.{Link}
use Rattle.plan_rows.proofs.Grouping.{member-found}
use Rattle.plan_rows.proofs.links.are_among.Goals as goal

pub loop-link-preserved : goal.loop-link-preserved
loop-link-preserved c =
    let links = c.args.links.now in
    let atoms = c.args.atoms.now in
    let at = c.loop-link.link-index in
    below_more (λ k. (d : Link) → Contains atoms (get_or links k d).atom) at c.loop-link.invariant
    (λ d. subst (λ (z : Link). Contains atoms z.atom) (get_or_read links at c.link-item.result c.loop-link-test.true c.link-item.is d) (member-found atoms c.link-item.result.atom (sym c.contains.ensures.value ∙ c.if-not-contains.false)))

pub returns : goal.returns
returns c = λ t l m. subst (λ (z : Link). Contains c.args.atoms.now z.atom) m.2 (let there = m.1 in c.loop-link.invariant m.0 (omega (arith, there, c.loop-link-test.false, c.loop-link.auto.link-index-end)) l)
