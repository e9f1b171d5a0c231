-- Witnesses that are gone through at one atom.
use Rattle.std.proofs.Common.{◌≡◌, ◌<◌, ◌≤◌, inl, inr, ◌∙◌, ℕ, List, [], length, get_or, Option, None, sym, ap, subst, arith, Contains}
use Rattle.std.proofs.lemmas.List.{get_or-map}
use Rattle.std.proofs.lemmas.List.Elements.{Contains-get_or}
use Rattle.cqa_value.specs.declared.value.Value.{Value}
use Rattle.cqa_value.proofs.Words.{Contains-map, cases_le, member_place}
use Rattle.cqa_model.specs.declared.query.Query.{Query}
use Rattle.cqa_model.specs.declared.query.RowId.{RowId}
use Rattle.cqa_model.specs.Database.{Table, stored}
use Rattle.cqa_model.specs.Query.{rows_of}
use Rattle.join_access.specs.declared.witness.Witness.{Witness}
use Rattle.join_access.specs.Listing.{AreAllNames, names_of}
use Rattle.row_witnesses.specs.Columns.{place_at, AreColumn}
use Rattle.row_witnesses.proofs.Columns.{rows_many}
use Rattle.rows_against.specs.Hits.{IsHitBy}
use Rattle.rows_against.specs.Numbers.{row_name, AreRivals}
use Rattle.rows_against.proofs.Own.{own_there}

-- a number among rising ones is found
pub found_there : (xs : List ℕ) (x at : ℕ) → ((k : ℕ) → k < at → get_or xs k 0 < x) → ((k : ℕ) → at ≤ k → k < length xs → x < get_or xs k 0) → Contains xs x → ⊥
found_there xs x at below above m = go (member_place xs x 0 m)
  where
    go : (k : ℕ) × (k < length xs) × (get_or xs k 0 ≡ x) → ⊥
    go (k, l, e) = elim (cases_le at k) [
      | inl up ↦ (let more = above k up l in omega (arith, more, e))
      | inr less ↦ (let more = below k less in omega (arith, more, e))
    ]

pub rise : (xs : List ℕ) → ((i j : ℕ) → i < j → j < length xs → get_or xs i 0 < get_or xs j 0) → (i j : ℕ) → i ≤ j → j < length xs → get_or xs i 0 ≤ get_or xs j 0
rise xs up i j l lj = elim (cases_le j i) [
  | inl back ↦ (let e : i ≡ j = omega (arith, l, back) in let same = ap (λ k. get_or xs k 0) e in omega (arith, same))
  | inr less ↦ (let more = up i j less lj in omega (arith, more))
]

module _ (q : Query) (db : List Table) (row : List Value) (list : List Witness) (all : AreAllNames q db row (names_of list)) (F : ℕ) (here : F < length q.atoms) where
  pub place_there : (places : List ℕ) → AreColumn (names_of list) F places → (i : ℕ) → i < length places → get_or places i 0 < length (rows_of q (stored db) F)
  place_there places column i l =
      let from = column.from (get_or places i 0) (Contains-get_or places i 0 l) in
      let its = (all.exactly from.0).0 from.1 in
      subst (λ p. p < length (rows_of q (stored db) F)) from.2 (own_there db q.atoms from.0 its.0 its.2 F here)

  module _ (at : ℕ) (l : at < length list) (one : Witness) (is : one ≡ get_or list at one) where
    one_in : Contains list one
    one_in = subst (Contains list) (sym is) (Contains-get_or list at one l)

    pub its_long : F < length one.rows
    its_long = let many = rows_many q db row list all one one_in in let l = here in omega (arith, many, l)

    its_names : get_or (names_of list) at [] ≡ one.rows
    its_names = get_or-map (λ (w : Witness). w.rows) list at one [] l ∙ ap (λ (w : Witness). w.rows) (sym is)

    pub its_place : (places : List ℕ) → AreColumn (names_of list) F places → (p : ℕ) → p ≡ place_at one.rows F → Contains places p
    its_place places column p e = subst (Contains places) (sym e) (column.to one.rows (Contains-map (λ (w : Witness). w.rows) list one one_in))

    pub its_hit : (names : List RowId) (places : List ℕ) (found : List (Option ℕ)) → AreRivals db q names F places found → (p : ℕ) (hit : Option ℕ) → p ≡ place_at one.rows F →
        ((i : ℕ) × (i < length places) × (get_or places i 0 ≡ p) × (get_or found i None ≡ hit)) → IsHitBy db names (row_name q F (place_at (get_or (names_of list) at []) F)) hit
    its_hit names places found rivals p hit e (i, li, at-place, is-hit) =
        let place : get_or places i 0 ≡ place_at (get_or (names_of list) at []) F = at-place ∙ e ∙ ap (λ ids. place_at ids F) (sym its_names) in
        subst (λ h. IsHitBy db names (row_name q F (place_at (get_or (names_of list) at []) F)) h) is-hit (subst (λ x. IsHitBy db names (row_name q F x) (get_or found i None)) place (rivals i li))
