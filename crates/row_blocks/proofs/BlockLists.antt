-- Blocks of rows as lists: where a row stands.
use Rattle.std.proofs.Common.{◌≡◌, ◌<◌, inl, inr, ℕ, List, [], length, get_or, Contains, sym, ap, ◌∙◌, subst}
use Rattle.std.proofs.lemmas.Bool.{cases_order}
use Rattle.cqa_value.specs.declared.value.Value.{Value}
use Rattle.cqa_value.proofs.Words.{Contains-flat_map, Contains-from_flat_map, member_place}
use Rattle.cqa_model.specs.Repairs.{SharesKey}
use Rattle.cqa_model.specs.Blocks.{AreBlocks}
use Rattle.cqa_model.proofs.Repairs.{shares-sym}

module _ (key : List ℕ) (rows : List (List Value)) (bs : List (List (List Value))) (h : AreBlocks key rows bs) where
  pub row_in : (b : List (List Value)) (x : List Value) → Contains bs b → Contains b x → Contains rows x
  row_in b x m n = subst (λ xs. Contains xs x) h.joined (Contains-flat_map (λ b. b) bs b x m n)

  pub block_of : (x : List Value) → Contains rows x → (b : List (List Value)) × Contains bs b × Contains b x
  block_of x m = Contains-from_flat_map (λ b. b) bs x (subst (λ xs. Contains xs x) (sym h.joined) m)

  -- rows that share a key stand in one block
  one_place : (i j : ℕ) → i < length bs → j < length bs → (x y : List Value) → Contains (get_or bs i []) x → Contains (get_or bs j []) y → SharesKey key x y → i ≡ j
  one_place i j li lj x y mx my s = elim (cases_order i j) [
    | inl e ↦ e
    | inr o ↦ elim o [ inl l ↦ absurd (h.apart i j l lj x y mx my s) | inr l ↦ absurd (h.apart j i l li y x my mx (shares-sym key x y s)) ]
  ]

  -- all rows that share a key with a row of a block are of the block
  pub whole-block : (b : List (List Value)) → Contains bs b → (x y : List Value) → Contains b x → Contains rows y → SharesKey key x y → Contains b y
  whole-block b mb x y mx my s =
      let c = block_of y my in
      let i = member_place bs b [] mb in
      let j = member_place bs c.0 [] c.1 in
      let same : i.0 ≡ j.0 = one_place i.0 j.0 i.1 j.1 x y (subst (λ d. Contains d x) (sym i.2) mx) (subst (λ d. Contains d y) (sym j.2) c.2) s in
      subst (λ d. Contains d y) (sym j.2 ∙ ap (λ k. get_or bs k []) (sym same) ∙ i.2) c.2
