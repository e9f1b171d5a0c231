-- An order by which a plan's first block is found holds where the plan does, and by the same block.
use Rattle.std.proofs.Common.{◌↔◌, ℕ, Option, None, Some, MatchOption, List, [], ◌∷◌, sym, subst, Contains, inl, inr}
use Rattle.cqa_value.specs.declared.value.Value.{Value}
use Rattle.cqa_model.specs.declared.query.Query.{Query}
use Rattle.cqa_model.specs.Database.{Table, stored}
use Rattle.cqa_model.specs.Query.{atom_key, rows_of}
use Rattle.cqa_model.specs.Plan.{HoldsOver}
use Rattle.cqa_model.proofs.Classic.{mem-head, mem-tail, mem-cases}
use Rattle.plan_rows.specs.Links.{RowHolds}
use Rattle.plan_rows.specs.Grouping.{AreAlikeOrders, IsRegrouped}
use Rattle.fo_plan.specs.FirstBlock.{IsFirstWith, IsFirstBlock}

-- the first block with a property is the first one with another that the same rows have
same-first : (key : List ℕ) (rows : List (List Value)) (P R : List Value → Type 0) (block : List (List Value)) → ((y : List Value) → P y ↔ R y) → IsFirstWith key rows P block → IsFirstWith key rows R block
same-first key rows P R block same h = record {
  before = h.before;
  behind = h.behind;
  blocks = h.blocks;
  all = λ y m. (same y).0 (h.all y m);
  none = λ b m all. h.none b m (λ y n. (same y).1 (all y n));
}

module _ (db : List Table) (q : Query) (row : List Value) where
  abbrev IsFound : List ℕ → Option (List (List Value)) → Type 0
  IsFound order found = MatchOption found (HoldsOver db q row order → ⊥) (λ block. HoldsOver db q row order × IsFirstBlock db q row order block)

  alike-first : (F : ℕ) (plan rest : List ℕ) (found : Option (List (List Value))) → AreAlikeOrders q plan rest → IsFound (F ∷ rest) found → IsFound (F ∷ plan) found
  alike-first F plan rest None alike none = λ (x, m, all). none (x, m, λ y n k. let r = all y n k in (r.0, (alike.holds (stored db) row (record { atom = F; row = y } ∷ [])).0 r.1))
  alike-first F plan rest (Some block) alike ((x, m, all), first) = (
    (x, m, λ y n k. let r = all y n k in (r.0, (alike.holds (stored db) row (record { atom = F; row = y } ∷ [])).1 r.1)),
    same-first (atom_key q F) (rows_of q (stored db) F) (RowHolds q (stored db) row [] F rest) (RowHolds q (stored db) row [] F plan) block
        (λ y. let a = alike.holds (stored db) row (record { atom = F; row = y } ∷ []) in ((λ r. (r.0, a.1 r.1)), (λ r. (r.0, a.0 r.1)))) first,
  )

  pub regrouped-first : (plan order : List ℕ) (found : Option (List (List Value))) → IsRegrouped q plan order → IsFound order found → IsFound plan found
  regrouped-first [] order found e h = subst (λ o. IsFound o found) e h
  regrouped-first (F ∷ plan) order found (rest, e, alike) h = alike-first F plan rest found alike (subst (λ o. IsFound o found) e h)

-- the atoms are the same
pub regrouped-atoms : (q : Query) (plan order : List ℕ) → IsRegrouped q plan order → (F : ℕ) → Contains plan F ↔ Contains order F
regrouped-atoms q [] order e F = subst (λ o. Contains [] F ↔ Contains o F) (sym e) ((λ m. m), (λ m. m))
regrouped-atoms q (G ∷ plan) order (rest, e, alike) F = subst (λ o. Contains (G ∷ plan) F ↔ Contains o F) (sym e) (
  (λ m. elim (mem-cases F G plan m) [ inl s ↦ subst (Contains (G ∷ rest)) s (mem-head G rest) | inr n ↦ mem-tail F G rest ((alike.atoms F).0 n) ]),
  (λ m. elim (mem-cases F G rest m) [ inl s ↦ subst (Contains (G ∷ plan)) s (mem-head G plan) | inr n ↦ mem-tail F G plan ((alike.atoms F).1 n) ]),
)
