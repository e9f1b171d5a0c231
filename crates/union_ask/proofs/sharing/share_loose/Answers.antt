use Rattle.std.proofs.Common.{◌≡◌, ◌∙◌, ◌<◌, List, [], false, ap, get_or, length, refl, subst, sym}
use Rattle.std.proofs.lemmas.List.{get_or_default}
use Rattle.cqa_model.specs.declared.query.Atom.{Atom}
use Rattle.cqa_model.specs.Query.{atom_at}
use Rattle.query_strategy.specs.Apart.{HasLoose}
use Rattle.union_ask.proofs.sharing.share_loose.Goals as goal

pub returns-then-has_loose : goal.returns-then-has_loose
returns-then-has_loose c =
    let first = c.args.first.now in
    let at = c.loop-atom.atom-index in
    let item : Atom = c.atom-item.result in
    let e = c.as_slice-atom-items.ensures in
    let l : at < length first.atoms = subst (λ (xs : List Atom). at < length xs) e c.loop-atom-test.true in
    let is : item ≡ atom_at first at = c.atom-item.is ∙ ap (λ (xs : List Atom). get_or xs at item) e ∙ get_or_default first.atoms at item (record { table = 0; width = 0; key = []; strict = false }) l in
    let loose : HasLoose first item.table = (at, (l, ap (λ (a : Atom). a.table) (sym is), ap (λ (a : Atom). a.strict) (sym is) ∙ c.if-atom.false)) in
    (λ t. (item.table, loose, c.has_loose.ensures.0 c.if-has_loose.true), λ s. refl)
