-- The parts of a step, one by one.
use Rattle.std.proofs.Common.{◌≡◌, ℕ, ℤ, Bool, cond, List, [], ◌∷◌, ◌++◌, refl, sym, ◌∙◌, ap, append_assoc, Option, Some, None}
use Rattle.std.specs.Prelude.{option_map}
use Rattle.std.proofs.lemmas.Bool.{ne_eqb}
use Rattle.cnf_form.specs.Numbers.{signed_of, unsigned_of}
use Rattle.lrat_check.specs.declared.reading.TheConstants.{GREATEST_ID}
use Rattle.lrat_check.specs.LogTexts.{by_hint, by_id, ended, hint_value, hints_of, ids_of}
use Rattle.lrat_check.specs.LogParts.{after_hints, after_ids}

-- ids
ids_join : (xs : List ℕ) (n : ℕ) (o : Option (List ℕ)) → after_ids xs (option_map (λ ns. n ∷ ns) o) ≡ after_ids (xs ++ n ∷ []) o
ids_join xs n None = refl
ids_join xs n (Some ns) = ap (λ (r : List ℕ). Some r) (sym (append_assoc xs (n ∷ []) ns))

ids_at : (xs t : List ℕ) (ts rest : List (List ℕ)) (o : Option ℕ) (all : Option (List ℕ)) → rest ≡ t ∷ ts → unsigned_of GREATEST_ID t ≡ o → all ≡ after_ids xs (ids_of rest) → all ≡ after_ids xs (by_id o (ended ts) (ids_of ts))
ids_at xs t ts rest o all r v a = a ∙ ap (λ (q : List (List ℕ)). after_ids xs (ids_of q)) r ∙ ap (λ (p : Option ℕ). after_ids xs (by_id p (ended ts) (ids_of ts))) v

pub ids_more : (xs new t : List ℕ) (ts rest : List (List ℕ)) (n : ℕ) (all : Option (List ℕ)) → rest ≡ t ∷ ts → unsigned_of GREATEST_ID t ≡ Some n → (n ≡ 0 → ⊥)
    → all ≡ after_ids xs (ids_of rest) → new ≡ xs ++ n ∷ [] → all ≡ after_ids new (ids_of ts)
ids_more xs new t ts rest n all r v z a e =
    ids_at xs t ts rest (Some n) all r v a
    ∙ ap (λ (b : Bool). after_ids xs (cond b (ended ts) (option_map (λ ns. n ∷ ns) (ids_of ts)))) (ne_eqb n 0 z)
    ∙ ids_join xs n (ids_of ts)
    ∙ ap (λ (q : List ℕ). after_ids q (ids_of ts)) (sym e)

-- hints
hints_join : (xs : List ℤ) (h : ℤ) (o : Option (List ℤ)) → after_hints xs (option_map (λ hs. h ∷ hs) o) ≡ after_hints (xs ++ h ∷ []) o
hints_join xs h None = refl
hints_join xs h (Some hs) = ap (λ (r : List ℤ). Some r) (sym (append_assoc xs (h ∷ []) hs))

hints_at : (xs : List ℤ) (t : List ℕ) (ts rest : List (List ℕ)) (o : Option (Bool × ℕ)) (all : Option (List ℤ)) → rest ≡ t ∷ ts → signed_of GREATEST_ID t ≡ o → all ≡ after_hints xs (hints_of rest) → all ≡ after_hints xs (by_hint o (ended ts) (hints_of ts))
hints_at xs t ts rest o all r v a = a ∙ ap (λ (q : List (List ℕ)). after_hints xs (hints_of q)) r ∙ ap (λ (p : Option (Bool × ℕ)). after_hints xs (by_hint p (ended ts) (hints_of ts))) v

pub hints_more : (xs new : List ℤ) (t : List ℕ) (ts rest : List (List ℕ)) (z : Bool × ℕ) (h : ℤ) (all : Option (List ℤ)) → rest ≡ t ∷ ts → signed_of GREATEST_ID t ≡ Some z → (z.1 ≡ 0 → ⊥) → h ≡ hint_value z
    → all ≡ after_hints xs (hints_of rest) → new ≡ xs ++ h ∷ [] → all ≡ after_hints new (hints_of ts)
hints_more xs new t ts rest z h all r v n he a e =
    hints_at xs t ts rest (Some z) all r v a
    ∙ ap (λ (b : Bool). after_hints xs (cond b (ended ts) (option_map (λ hs. hint_value z ∷ hs) (hints_of ts)))) (ne_eqb z.1 0 n)
    ∙ hints_join xs (hint_value z) (hints_of ts)
    ∙ ap (λ (q : List ℤ). after_hints q (hints_of ts)) (ap (λ (x : ℤ). xs ++ x ∷ []) (sym he) ∙ sym e)
