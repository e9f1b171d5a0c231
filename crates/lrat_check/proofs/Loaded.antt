-- The clauses of a formula under their ids.
use Rattle.std.proofs.Common.{◌≡◌, ◌≢◌, ℕ, ◌<◌, ◌+◌, zero, suc, List, [], ◌∷◌, ◌++◌, inl, inr, refl, sym, ◌∙◌, ap, subst, arith, length, take, get_or, add-one, Some}
use Rattle.std.proofs.lemmas.List.{length-take-le, take_more}
use Rattle.std.proofs.lemmas.Bool.{cases_eq}
use mathlib.Core.Path.{fun_ext}
use Rattle.std.proofs.lemmas.Map.{update_here, update_apart}
use Rattle.cnf_form.specs.declared.formula.Lit.{Lit}
use Rattle.cnf_form.specs.declared.formula.Clause.{Clause}
use Rattle.cnf_form.specs.Literals.{literals}
use Rattle.cnf_form.specs.Logs.{Live, numbered, with_clause}

push_here : (cs : List Clause) (c : Clause) → numbered (literals (cs ++ c ∷ [])) (suc (length cs)) ≡ Some c.lits
push_here [] c = refl
push_here (d ∷ cs) c = push_here cs c

push_apart : (cs : List Clause) (c : Clause) (k : ℕ) → k ≢ suc (length cs) → numbered (literals (cs ++ c ∷ [])) k ≡ numbered (literals cs) k
push_apart cs c zero n = refl
push_apart [] c (suc zero) n = absurd (n refl)
push_apart [] c (suc (suc k)) n = refl
push_apart (d ∷ cs) c (suc zero) n = refl
push_apart (d ∷ cs) c (suc (suc k)) n = push_apart cs c (suc k) (λ e. n (ap suc e))

pub push_numbered : (cs : List Clause) (c : Clause) (id : ℕ) → id ≡ length cs + 1 → (k : ℕ) → with_clause (numbered (literals cs)) id c.lits k ≡ numbered (literals (cs ++ c ∷ [])) k
push_numbered cs c id e k = elim (cases_eq k id) [
  | inl same ↦ subst (λ (q : ℕ). with_clause (numbered (literals cs)) id c.lits q ≡ numbered (literals (cs ++ c ∷ [])) q) (sym same) at_id
  | inr apart ↦ update_apart (numbered (literals cs)) id (Some c.lits) k apart ∙ sym (push_apart cs c k (λ f. apart (f ∙ sym is_id)))
]
  where
    is_id : id ≡ suc (length cs)
    is_id = e ∙ add-one (length cs)

    at_id : with_clause (numbered (literals cs)) id c.lits id ≡ numbered (literals (cs ++ c ∷ [])) id
    at_id = update_here (numbered (literals cs)) id (Some c.lits) ∙ sym (push_here cs c) ∙ ap (numbered (literals (cs ++ c ∷ []))) (sym is_id)

-- one clause more under the next id
pub load_more : (cs : List Clause) (i id : ℕ) (d : Clause) (lits : List Lit) (live new : Live) → i < length cs → d ≡ get_or cs i d → lits ≡ d.lits → id ≡ i + 1
    → ((k : ℕ) → live k ≡ numbered (literals (take i cs)) k) → ((k : ℕ) → new k ≡ with_clause live id lits k) → (k : ℕ) → new k ≡ numbered (literals (take (i + 1) cs)) k
load_more cs i id d lits live new h at same e before after k =
    after k
    ∙ ap (λ (f : Live). with_clause f id lits k) (fun_ext before)
    ∙ ap (λ (c : List Lit). with_clause (numbered (literals (take i cs))) id c k) same
    ∙ push_numbered (take i cs) d id (let l = length-take-le i cs in omega (arith, e, h, l)) k
    ∙ ap (λ (ds : List Clause). numbered (literals ds) k) (sym (take_more cs i d h ∙ ap (λ (x : Clause). take i cs ++ x ∷ []) (sym at)))
