-- The columns of first atoms of an order that are linked to columns of the others.
use Rattle.std.proofs.Common.{◌≡◌, ℕ, ◌<◌, ◌+◌, List, [], ◌∷◌, ◌++◌, length, get_or, take, drop, sym, ap, ◌∙◌, subst, arith, Contains}
use native.Mathlib.Decide.{dec_lt}
use Rattle.std.proofs.Math.Seq.{get_or-append_seam, take-append_seam, drop-append_seam}
use Rattle.std.proofs.lemmas.List.{length-append, get_or_append_left, get_or_default}
use Rattle.cqa_model.specs.declared.query.ColRef.{ColRef}
use Rattle.cqa_model.specs.declared.query.Query.{Query}
use Rattle.plan_rows.specs.Left.{HasShared, AreSharedInParts}

-- a property of each atom of a list, by places
pub each-atom : (P : ℕ → Type 0) (atoms : List ℕ) (n : ℕ) → length atoms ≡ n → ((k : ℕ) → k < n → P (get_or atoms k 0)) → (F : ℕ) → Contains atoms F → P F
each-atom P atoms n e h F m = subst P (get_or_default atoms m.0 0 F m.1 ∙ m.2) (h m.0 (omega (arith, m.1, e)))

-- with the columns of one atom more in front
pub shared-more : (q : Query) (order : List ℕ) (shared : List (List ColRef)) (columns : List ColRef) (count : ℕ) (front rest : List ℕ) → length shared ≡ count → front ≡ take count order → rest ≡ drop count order → AreSharedInParts q order shared → HasShared q front rest columns →
    AreSharedInParts q order (shared ++ columns ∷ [])
shared-more q order shared columns count front rest size ef er h new before behind e l = go (dec_lt (length before) (length shared))
  where
    go : Dec (length before < length shared) → HasShared q before behind (get_or (shared ++ columns ∷ []) (length before) [])
    go (yes k) = subst (HasShared q before behind) (sym (get_or_append_left shared (columns ∷ []) [] (length before) k)) (h before behind e k)
    go (no k) =
        let t : length (shared ++ columns ∷ []) ≡ length shared + 1 = length-append shared (columns ∷ []) in
        let at : length before ≡ length shared = omega (arith, k, l, t) in
        let bf : before ≡ front = sym (take-append_seam before behind) ∙ (ap (take (length before)) (sym e) ∙ (ap (λ n. take n order) (at ∙ size) ∙ sym ef)) in
        let br : behind ≡ rest = sym (drop-append_seam before behind) ∙ (ap (drop (length before)) (sym e) ∙ (ap (λ n. drop n order) (at ∙ size) ∙ sym er)) in
        let last : get_or (shared ++ columns ∷ []) (length before) [] ≡ columns = ap (λ n. get_or (shared ++ columns ∷ []) n []) at ∙ get_or-append_seam shared columns [] [] in
        subst (λ cs. HasShared q before behind cs) (sym last) (subst (λ b. HasShared q b behind columns) (sym bf) (subst (λ b. HasShared q front b columns) (sym br) new))
