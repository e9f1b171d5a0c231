-- What stands at a place of a list, and places behind others.
use Rattle.std.proofs.Common.{◌≡◌, ◌<◌, ◌≤◌, ◌+◌, ◌∙◌, ℕ, List, [], false, length, get_or, ap, subst, sym, arith}
use Rattle.std.proofs.lemmas.List.{get_or_default}
use Rattle.cqa_model.specs.declared.query.Atom.{Atom}
use Rattle.cqa_model.specs.declared.query.Query.{Query}
use Rattle.cqa_model.specs.Query.{atom_at}
use Rattle.query_strategy.specs.declared.shared.Shared.{Shared}
use Rattle.query_strategy.specs.Apart.{IsPartAt, IsLooseAt, IsLater, IsShared}

-- one part stands at a place
pub one_query : (parts : List Query) (k : ℕ) (p q : Query) → IsPartAt parts k p → IsPartAt parts k q → p ≡ q
one_query parts k p q a b = sym a.1 ∙ get_or_default parts k p q a.0 ∙ b.1

pub passed : (n j : ℕ) → n ≤ j → (n ≡ j → ⊥) → n + 1 ≤ j
passed n j l differ = omega (arith, l, differ)

-- an atom that is read is the query's
pub atom_is : (q : Query) (atoms : List Atom) (i : ℕ) (d : Atom) → atoms ≡ q.atoms → i < length atoms → get_or atoms i d ≡ atom_at q i
atom_is q atoms i d e l = ap (λ (xs : List Atom). get_or xs i d) e ∙ get_or_default q.atoms i d (record { table = 0; width = 0; key = []; strict = false }) (subst (λ (xs : List Atom). i < length xs) e l)

-- what is shared is of the part that stands at its place
pub of_part : (parts : List Query) (q : Query) (x : Shared) (first : ℕ) → IsPartAt parts first q → IsShared parts x → x.first ≡ first → IsLooseAt q x.atom x.table
of_part parts q x first at s e = subst (λ p. IsLooseAt p x.atom x.table) (one_query parts first s.first.0 q (subst (λ k. IsPartAt parts k s.first.0) e s.first.1) at) s.first.2

-- a part behind another one has the table of an atom of it
pub later_again : (parts : List Query) (q : Query) (x : Shared) (first at : ℕ) (a : Atom) → IsPartAt parts first q → IsShared parts x → x.first ≡ first → x.atom ≡ at → a ≡ atom_at q at → IsLater parts first a.table x.second
later_again parts q x first at a place s e f is =
    let loose = of_part parts q x first place s e in
    let table : x.table ≡ a.table = sym loose.1 ∙ ap (λ F. (atom_at q F).table) f ∙ ap (λ (b : Atom). b.table) (sym is) in
    subst (λ t. IsLater parts first t x.second) table (subst (λ k. IsLater parts k x.table x.second) e s.second)
