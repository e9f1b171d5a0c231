use Rattle.std.proofs.Common.{◌≡◌, ◌<◌, ◌≤◌, ◌∷◌, [], ◌++◌, List, map, length, get_or, ap, sym, subst, ◌∙◌}
use Rattle.std.proofs.lemmas.List.{take_all}
use Rattle.cqa_model.specs.declared.query.Atom.{Atom}
use Rattle.repair_back.proofs.Starting.{tables-push}
use Rattle.repair_back.proofs.atoms.tables_of.Goals as goal

pub loop-atom-preserved : goal.loop-atom-preserved
loop-atom-preserved c =
    let atoms = c.args.query.now.atoms in
    let i = c.loop-atom.atom-index in
    let same : c.as_slice-atom-items.result.now ≡ atoms = c.as_slice-atom-items.ensures in
    let l : i < length atoms = subst (λ (xs : List Atom). i < length xs) same c.loop-atom-test.true in
    let item : c.atom-item.result ≡ get_or atoms i c.atom-item.result = subst (λ (xs : List Atom). c.atom-item.result ≡ get_or xs i c.atom-item.result) same c.atom-item.is in
    c.in_ok-push.ensures.items ∙ (ap (λ ts. ts ++ c.atom-item.result.table ∷ []) c.loop-atom.invariant ∙ sym (tables-push atoms i c.atom-item.result l item))

pub returns : goal.returns
returns c =
    let atoms = c.args.query.now.atoms in
    let same : c.as_slice-atom-items.result.now ≡ atoms = c.as_slice-atom-items.ensures in
    let l : length atoms ≤ c.loop-atom.atom-index = subst (λ (xs : List Atom). length xs ≤ c.loop-atom.atom-index) same c.loop-atom-test.false in
    c.from_vec.ensures ∙ (c.loop-atom.invariant ∙ ap (λ xs. map (λ (a : Atom). a.table) xs) (take_all c.loop-atom.atom-index atoms l))
