use Rattle.std.proofs.Common.{◌≡◌, ◌<◌, ◌≤◌, ◌+◌, ◌∙◌, ◌++◌, List, [], ◌∷◌, length, get_or, map, take, ap, sym, subst}
use Rattle.std.proofs.lemmas.List.{map_push, take_more, take_all}
use Rattle.cqa_model.specs.declared.query.Atom.{Atom}
use Rattle.repair_clauses.proofs.frame.atom_tables.Goals as goal

pub loop-atom-preserved : goal.loop-atom-preserved
loop-atom-preserved c =
    let atoms = c.args.query.now.atoms in
    let i = c.loop-atom.atom-index in
    let table = λ (a : Atom). a.table in
    let same : c.as_slice-atom-items.result.now ≡ atoms = c.as_slice-atom-items.ensures in
    let l : i < length atoms = subst (λ (xs : List Atom). i < length xs) same c.loop-atom-test.true in
    let item : c.atom-item.result ≡ get_or atoms i c.atom-item.result = subst (λ (xs : List Atom). c.atom-item.result ≡ get_or xs i c.atom-item.result) same c.atom-item.is in
    let cut : take (i + 1) atoms ≡ take i atoms ++ c.atom-item.result ∷ [] = take_more atoms i c.atom-item.result l ∙ ap (λ x. take i atoms ++ x ∷ []) (sym item) in
    c.in_ok-push.ensures.items ∙ (ap (λ ts. ts ++ c.atom-item.result.table ∷ []) c.loop-atom.invariant ∙ sym (ap (map table) cut ∙ map_push table (take i atoms) c.atom-item.result))

pub returns : goal.returns
returns c =
    let atoms = c.args.query.now.atoms in
    let over : length atoms ≤ c.loop-atom.atom-index = subst (λ (xs : List Atom). length xs ≤ c.loop-atom.atom-index) c.as_slice-atom-items.ensures c.loop-atom-test.false in
    c.loop-atom.invariant ∙ ap (map (λ (a : Atom). a.table)) (take_all c.loop-atom.atom-index atoms over)
