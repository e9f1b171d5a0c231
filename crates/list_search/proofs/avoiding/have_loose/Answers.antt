use Rattle.std.proofs.Common.{rules, ◌≡◌, ◌+◌, ◌++◌, ◌∷◌, ◌∙◌, [], List, take, true, ap, sym, subst, arith}
use Rattle.std.proofs.lemmas.List.{map_push, take_all}
use Rattle.join_access.specs.declared.witness.Witness.{Witness}
use Rattle.join_access.specs.Listing.{names_of}
use Rattle.list_search.specs.Avoiding.{HasLoose, HaveLoose}
use Rattle.list_search.proofs.Avoided.{have-more}
use Rattle.list_search.proofs.ClassLists.{taken-next}
use Rattle.list_search.proofs.avoiding.have_loose.Goals as goal

pub loop-list-preserved : goal.loop-list-preserved
loop-list-preserved c =
    let l = c.args.lists.now in
    let i = c.loop-list.list-index in
    let w = c.list-item.result in
    let ws = l.lists.now in
    let found : c.has_loose.result ≡ true = search rules in
    let names : names_of (take (i + 1) ws) ≡ names_of (take i ws) ++ w.rows ∷ [] = ap names_of (taken-next ws i w (omega arith) c.list-item.is) ∙ map_push (λ (x : Witness). x.rows) (take i ws) w in
    subst (HaveLoose l.db.now (names_of ws)) (sym names)
    (have-more l.db.now (names_of ws) (names_of (take i ws)) w.rows c.loop-list.invariant (subst (HasLoose l.db.now (names_of ws)) c.as_slice.ensures (c.has_loose.ensures found)))

pub returns : goal.returns
returns c = λ t.
    let l = c.args.lists.now in
    subst (λ (ws : List Witness). HaveLoose l.db.now (names_of l.lists.now) (names_of ws)) (take_all c.loop-list.list-index l.lists.now (omega arith)) c.loop-list.invariant
