-- Literals of a clause that the trail denies.
use Rattle.search_trail.specs.Trail.{IsUnassigned}
use Rattle.std.proofs.Common.{◌≢◌, List, inl, inr, refl, sym, subst}
use Rattle.std.specs.Prelude.{Contains}
use Rattle.cnf_form.specs.declared.formula.Lit.{Lit}
use Rattle.cnf_form.proofs.Lits.{equal_or_not}
use Rattle.cnf_form.specs.Literals.{opposite, Denied, AllDenied, OthersDenied}
use Rattle.cdcl.specs.Settled.{IsSettledClause}
use Rattle.cdcl.proofs.SettledLemmas.{settled_by_two}

pub open_not_denied : (t : List Lit) (l : Lit) → IsUnassigned t l.var → Denied t l → ⊥
open_not_denied t l o d = o (opposite l, d, refl)

pub settled_by_open : (t c : List Lit) (a b : Lit) → Contains c a → Contains c b → a ≢ b → IsUnassigned t a.var → IsUnassigned t b.var → IsSettledClause t c
settled_by_open t c a b i j n o q = settled_by_two t c a b i j n (open_not_denied t a o) (open_not_denied t b q)

pub all_denied : (t c : List Lit) (l : Lit) → Denied t l → OthersDenied t c l → AllDenied t c
all_denied t c l d others m i = elim (equal_or_not m l) [ inl e ↦ subst (λ (x : Lit). Denied t x) (sym e) d | inr n ↦ others m i n ]
