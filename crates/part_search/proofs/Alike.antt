-- A witness stays one where its rows are exchanged for rows that are alike.
use Rattle.std.proofs.Common.{◌≡◌, ℕ, ◌<◌, inl, inr, List, [], ◌∷◌, length, refl, sym, ◌∙◌, subst, Contains, slice_index_or}
use Rattle.cqa_value.specs.declared.value.Value.{Value}
use Rattle.cqa_value.proofs.Words.{map_alike}
use Rattle.cqa_model.specs.declared.query.Cond.{Cond}
use Rattle.cqa_model.specs.declared.query.Cond.TheVariants.{Join, Test}
use Rattle.cqa_model.specs.declared.query.ColRef.{ColRef}
use Rattle.cqa_model.specs.declared.query.Query.{Query}
use Rattle.cqa_model.specs.Shape.{columns_of}
use Rattle.cqa_model.specs.Database.{nothing}
use Rattle.cqa_model.specs.Query.{rows_of, row_at, value, OpHolds, CondHolds, IsWitness}
use Rattle.cqa_model.proofs.Classic.{mem-head, mem-tail}
use Rattle.part_search.specs.Spoken.{IsSpokenOf}

module _ (q : Query) (tables : List (List (List Value))) (row : List Value) where
  -- a witness stays one where its rows are exchanged for rows that are alike
  pub alike_witness : (w u : List (List Value)) → IsWitness q tables row w → length u ≡ length q.atoms →
      ((F : ℕ) → F < length q.atoms → Contains (rows_of q tables F) (row_at u F)) →
      ((F : ℕ) → F < length q.atoms → (c : ColRef) → IsSpokenOf q c → c.atom ≡ F → slice_index_or (row_at w F) c.col nothing ≡ slice_index_or (row_at u F) c.col nothing) → IsWitness q tables row u
  alike_witness w u h size kept alike = record {
    size = size;
    kept = kept;
    holds = λ k m. cond k m (h.holds k m);
    answers = sym (map_alike (value w) (value u) q.answer (λ c m. same c (inr m) (q.kept.answer_in_range c m).0)) ∙ h.answers;
  }
    where
      same : (c : ColRef) → IsSpokenOf q c → c.atom < length q.atoms → value w c ≡ value u c
      same c s l = alike c.atom l c s refl

      in_cond : (k : Cond) → Contains q.conds k → (c : ColRef) → Contains (columns_of k) c → value w c ≡ value u c
      in_cond k m c mc = same c (inl (k, m, mc)) (q.kept.conds_in_range k m c mc).0

      cond : (k : Cond) → Contains q.conds k → CondHolds w k → CondHolds u k
      cond (Join c d) m e =
          sym (in_cond (Join c d) m c (mem-head c (d ∷ []))) ∙ e ∙ in_cond (Join c d) m d (mem-tail d c (d ∷ []) (mem-head d []))
      cond (Test c op x) m e = subst (λ y. OpHolds op y x) (in_cond (Test c op x) m c (mem-head c [])) e
