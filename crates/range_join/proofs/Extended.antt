-- Each repair of one table is part of a repair of all.
use Rattle.std.proofs.Common.{◌≡◌, ℕ, ◌<◌, List, [], length, get_or, refl, sym, subst}
use native.Mathlib.Decide.{ℕ_discrete}
use Rattle.cqa_value.specs.declared.value.Value.{Value}
use Rattle.cqa_model.specs.Repairs.{IsTableRepair, IsRepairBy}
use Rattle.cqa_model.proofs.Classic.{choose}
use Rattle.cqa_model.proofs.Existence.{some_repair}

pub extended : (keys : List (List ℕ)) (tables : List (List (List Value))) (t : ℕ) → t < length tables → (xs : List (List Value)) → IsTableRepair (get_or keys t []) (get_or tables t []) xs →
    (kept : List (List (List Value))) × IsRepairBy keys tables kept × (get_or kept t [] ≡ xs)
extended keys tables t there xs own = made (some_repair keys tables)
  where
    Good : ℕ → List (List Value) → Type 0
    Good u rows = IsTableRepair (get_or keys u []) (get_or tables u []) rows × (u ≡ t → rows ≡ xs)

    made : (r : List (List (List Value))) × IsRepairBy keys tables r → (kept : List (List (List Value))) × IsRepairBy keys tables kept × (get_or kept t [] ≡ xs)
    made (r, repair) = done (choose [] (length tables) Good (λ u l. at u l (ℕ_discrete u t)))
      where
        at : (u : ℕ) → u < length tables → Dec (u ≡ t) → (rows : List (List Value)) × Good u rows
        at u l (yes e) = (xs, (subst (λ v. IsTableRepair (get_or keys v []) (get_or tables v []) xs) (sym e) own, λ d. refl))
        at u l (no n) = (get_or r u [], (repair.each u l, λ d. absurd (n d)))

        done : (kept : List (List (List Value))) × (length kept ≡ length tables) × ((u : ℕ) → u < length tables → Good u (get_or kept u [])) →
            (kept : List (List (List Value))) × IsRepairBy keys tables kept × (get_or kept t [] ≡ xs)
        done (kept, size, h) = (kept, record { size = size; each = λ u l. (h u l).0 }, (h t there).1 refl)
