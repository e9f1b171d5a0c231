-- Names, blocks and lists: what is decided of them.
use Rattle.std.proofs.Common.{◌≡◌, List, refl, sym, ◌∙◌, ap, subst, Contains}
use native.Mathlib.Decide.{ℕ_discrete}
use Rattle.cqa_model.specs.declared.query.RowId.{RowId}
use Rattle.cqa_model.specs.Database.{Table}
use Rattle.cqa_model.specs.Repairs.{SharesKey}
use Rattle.cqa_model.proofs.Classic.{dec_both, dec_some}
use Rattle.cqa_model.proofs.Values.{dec_by}
use Rattle.cqa_model.proofs.Repairs.{shares-self, shares-sym, shares-trans}
use Rattle.table_blocks.specs.Tables.{key_at}
use Rattle.join_access.proofs.Naming.{same-name}
use Rattle.row_lists.specs.Lists.{named, IsIn, IsOfBlock}

pub name_discrete : (m n : RowId) → Dec (m ≡ n)
name_discrete m n = dec_by (λ p. same-name m n p.0 p.1) (λ e. (ap (λ (x : RowId). x.table) e, ap (λ (x : RowId). x.place) e)) (dec_both (ℕ_discrete m.table n.table) (ℕ_discrete m.place n.place))

dec_name : (names : List RowId) (id : RowId) → Dec (Contains names id)
dec_name names id =
    dec_by (λ h. subst (Contains names) h.2 h.1) (λ m. (id, m, refl))
    (dec_some (λ x. x ≡ id) (λ x. name_discrete x id) names)

pub dec_in : (lists : List (List RowId)) (id : RowId) → Dec (IsIn lists id)
dec_in lists id = dec_some (λ names. Contains names id) (λ names. dec_name names id) lists

module _ (db : List Table) where
  pub block-self : (m : RowId) → IsOfBlock db m m
  block-self m = (refl, shares-self (key_at db m.table) (named db m))

  pub block-sym : (m n : RowId) → IsOfBlock db m n → IsOfBlock db n m
  block-sym m n b = (sym b.0, subst (λ t. SharesKey (key_at db t) (named db n) (named db m)) b.0 (shares-sym (key_at db m.table) (named db m) (named db n) b.1))

  pub block-trans : (m n k : RowId) → IsOfBlock db m n → IsOfBlock db n k → IsOfBlock db m k
  block-trans m n k b c =
      (b.0 ∙ c.0, shares-trans (key_at db m.table) (named db m) (named db n) (named db k) b.1 (subst (λ t. SharesKey (key_at db t) (named db n) (named db k)) (sym b.0) c.1))
