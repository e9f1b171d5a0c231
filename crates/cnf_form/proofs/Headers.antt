-- The tokens of a header, one by one.
use Rattle.std.proofs.Common.{◌≡◌, ℕ, ◌&&◌, Bool, true, false, cond, List, [], ◌∷◌, refl, sym, ◌∙◌, ap, nat_eq, Option, Some, None}
use Rattle.std.specs.Cmp.Lexicographic.{pointwise}
use Rattle.cnf_form.specs.Lines.{is_nil}
use Rattle.cnf_form.specs.Numbers.{unsigned_of}
use Rattle.cnf_form.specs.Formulas.{both, header, header_by}
use Rattle.cnf_form.specs.Scans.{cons_token}

no_second : (a c : Bool) (x : Option (ℕ × ℕ)) → cond ((a && false) && c) x None ≡ None
no_second true c x = refl
no_second false c x = refl

no_last : (a b : Bool) (x : Option (ℕ × ℕ)) → cond ((a && b) && false) x None ≡ None
no_last true true x = refl
no_last true false x = refl
no_last false b x = refl

no_number : (a : Bool) (x : Option (ℕ × ℕ)) → x ≡ None → cond a x None ≡ None
no_number true x e = e
no_number false x e = refl

both_none : (a : Option ℕ) → both a None ≡ None
both_none None = refl
both_none (Some a) = refl

by_tokens : (p cnf v m rest : List ℕ) (more : List (List ℕ)) → header (cons_token p (cons_token cnf (cons_token v (cons_token m (cons_token rest more))))) ≡ header_by p cnf v m rest
by_tokens [] cnf v m rest more = refl
by_tokens (a ∷ p) [] v m rest more = sym (no_second (pointwise nat_eq (a ∷ p) (112 ∷ [])) (is_nil rest) (both (unsigned_of 10000000 v) (unsigned_of 4294967295 m)))
by_tokens (a ∷ p) (b ∷ cnf) [] m rest more = sym (no_number (pointwise nat_eq (a ∷ p) (112 ∷ []) && pointwise nat_eq (b ∷ cnf) (99 ∷ 110 ∷ 102 ∷ []) && is_nil rest) None refl)
by_tokens (a ∷ p) (b ∷ cnf) (c ∷ v) [] rest more =
    sym (no_number (pointwise nat_eq (a ∷ p) (112 ∷ []) && pointwise nat_eq (b ∷ cnf) (99 ∷ 110 ∷ 102 ∷ []) && is_nil rest) (both (unsigned_of 10000000 (c ∷ v)) None) (both_none (unsigned_of 10000000 (c ∷ v))))
by_tokens (a ∷ p) (b ∷ cnf) (c ∷ v) (d ∷ m) [] more = refl
by_tokens (a ∷ p) (b ∷ cnf) (c ∷ v) (d ∷ m) (e ∷ rest) more =
    sym (no_last (pointwise nat_eq (a ∷ p) (112 ∷ [])) (pointwise nat_eq (b ∷ cnf) (99 ∷ 110 ∷ 102 ∷ [])) (both (unsigned_of 10000000 (c ∷ v)) (unsigned_of 4294967295 (d ∷ m))))

pub header_tokens : (p cnf v m rest : List ℕ) (t₀ t₁ t₂ t₃ t₄ t₅ : List (List ℕ)) → t₀ ≡ cons_token p t₁ → t₁ ≡ cons_token cnf t₂ → t₂ ≡ cons_token v t₃ → t₃ ≡ cons_token m t₄ → t₄ ≡ cons_token rest t₅
    → header t₀ ≡ header_by p cnf v m rest
header_tokens p cnf v m rest t₀ t₁ t₂ t₃ t₄ t₅ e₀ e₁ e₂ e₃ e₄ =
    ap header (e₀ ∙ ap (cons_token p) (e₁ ∙ ap (cons_token cnf) (e₂ ∙ ap (cons_token v) (e₃ ∙ ap (cons_token m) e₄)))) ∙ by_tokens p cnf v m rest t₅
