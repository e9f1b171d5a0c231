-- Values of an atom's columns that are looked up in steps.
use Rattle.std.proofs.Common.{◌≡◌, ℕ, ◌<◌, ◌+◌, Bool, true, false, List, [], ◌∷◌, length, map, get_or, ap, sym, ◌∙◌, subst, arith, cond, Contains, inl, inr}
use Rattle.std.specs.List.{slice_index, filter, range_with_len}
use Rattle.std.proofs.lemmas.List.{get_or-map}
use Rattle.std.proofs.lemmas.List.Elements.{Contains-get_or}
use Rattle.cqa_value.specs.declared.value.Value.{Value}
use Rattle.cqa_value.proofs.Words.{Contains-filter, Contains-from_flat_map, Contains-from_map, in_range}
use Rattle.cqa_model.specs.declared.query.Query.{Query}
use Rattle.cqa_model.specs.Database.{nothing}
use Rattle.cqa_model.specs.Query.{atom_at, atom_key}
use Rattle.cqa_model.proofs.Classic.{mem-nil}
use Rattle.sql_text.specs.declared.syntax.Within.{Within}
use Rattle.sql_text.specs.Meaning.{cell_value, AreWithin}
use Rattle.sql_steps.specs.declared.part.Part.{Part}
use Rattle.sql_steps.specs.Variables.{has, variables_of, key_variables}
use Rattle.sql_steps.specs.Steps.{cell, cell_of, columns_of, others_of, keyed, fitted}
use Rattle.plan_sql.specs.Statement.{keys_in, part_only, rare_only}
use Rattle.sql_steps.proofs.Membership.{has-from, without-from, columns-from}
use Rattle.sql_steps.proofs.Seeing.{IsKnown, cell_of-right, cell-seen, cell-seen-on}
use Rattle.sql_steps.proofs.Suiting.{variable-at, Suits}
use Rattle.sql_steps.proofs.Atoms.{key-width, keys-from}
use Rattle.sql_steps.proofs.Rows.{key-known, key-into, row-known, row-into}
use Rattle.sql_steps.proofs.Joining.{Hold}

module _ (q : Query) (F : ℕ) (lF : F < length q.atoms) where
  known-key : (v : ℕ) → Contains (key_variables q F) v → IsKnown (keyed q F []).known v
  known-key v m =
      let k = keys-from q F lF v m in
      subst (λ z. IsKnown (keyed q F []).known z) (variable-at q F k.0 (key-width q F lF k.0 k.1) ∙ k.2) (key-known q F lF [] k.0 k.1)

  -- key columns, by their variables
  module _ (place : ℕ) (columns : List ℕ) (sub : (v : ℕ) → Contains columns v → Contains (key_variables q F) v) where
    pub keys-at : (o : Within) → Contains (keys_in q F place columns) o → (j : ℕ) × (j < length columns) × (record { cell = cell_of (keyed q F []).known (slice_index columns j); step = place; column = j } ≡ o)
    keys-at o m =
        let r = Contains-from_map (λ j. record { cell = cell_of (keyed q F []).known (slice_index columns j); step = place; column = j }) (range_with_len 0 (length columns)) o m in
        (r.0, (let l : r.0 < 0 + length columns = (in_range 0 (length columns) r.0 r.1).1 in omega arith), r.2)

    pub keys-own : (o : Within) → Contains (keys_in q F place columns) o → (k : ℕ) × Contains (atom_key q F) k × (o.cell ≡ cell 0 k)
    keys-own o m =
        let a = keys-at o m in
        let c = cell-seen (variables_of q F) 0 (atom_key q F) (slice_index columns a.0) (known-key (slice_index columns a.0) (sub (slice_index columns a.0) (Contains-get_or columns a.0 0 a.1))) in
        (c.0, c.1, ap (λ (z : Within). z.cell) (sym a.2) ∙ c.2)

    -- a row that suits passes where the step has its key
    pub keys-pass : (R : ℕ → List Value → Type 0) (e : ℕ → Value) (y : List Value) → Suits q e F y → R place (map e columns) → AreWithin R (y ∷ []) (keys_in q F place columns)
    keys-pass R e y s r o m =
        let a = keys-at o m in
        let v : ℕ = slice_index columns a.0 in
        subst (λ (z : Within). (h : List Value) × R z.step h × (get_or h z.column nothing ≡ cell_value (y ∷ []) z.cell)) a.2 (
          map e columns,
          r,
          get_or-map e columns a.0 0 nothing a.1
              ∙ sym (cell_of-right (y ∷ []) e (keyed q F []).known v (key-into q F lF [] (y ∷ []) e (λ k n. absurd (mem-nil k n)) s) (known-key v (sub v (Contains-get_or columns a.0 0 a.1)))),
        )

  -- columns of F, by the variables that they share with rare parts
  pub rare-at : (parts : List Part) (o : Within) → Contains (rare_only q F parts) o →
      (p : Part) × Contains parts p × ((j : ℕ) × (j < length p.columns) × Contains (variables_of q F) (slice_index p.columns j) × (record { cell = cell_of (fitted q F []).known (slice_index p.columns j); step = p.step; column = j } ≡ o))
  rare-at parts o m = let r = Contains-from_flat_map (λ (p : Part). cond p.rare (part_only q F p) []) parts o m in (r.0, r.1, go r.0 r.0.rare r.2)
    where
      go : (p : Part) (b : Bool) → Contains (cond b (part_only q F p) []) o →
          (j : ℕ) × (j < length p.columns) × Contains (variables_of q F) (slice_index p.columns j) × (record { cell = cell_of (fitted q F []).known (slice_index p.columns j); step = p.step; column = j } ≡ o)
      go p false n = absurd (mem-nil o n)
      go p true n =
          let s = Contains-from_map (λ j. record { cell = cell_of (fitted q F []).known (slice_index p.columns j); step = p.step; column = j }) (filter (λ j. has (variables_of q F) (slice_index p.columns j)) (range_with_len 0 (length p.columns))) o n in
          let f = (Contains-filter (λ j. has (variables_of q F) (slice_index p.columns j)) (range_with_len 0 (length p.columns)) s.0).0 s.1 in
          (s.0, (let l : s.0 < 0 + length p.columns = (in_range 0 (length p.columns) s.0 f.0).1 in omega arith), has-from (variables_of q F) (slice_index p.columns s.0) f.1, s.2)

  -- the cell of a variable of F
  pub fitted-cell : (v : ℕ) → Contains (variables_of q F) v → (k : ℕ) × (k < (atom_at q F).width) × (cell_of (fitted q F []).known v ≡ cell 0 k)
  fitted-cell v m = elim (cell-seen-on (variables_of q F) 0 (atom_key q F) (others_of q F) v (row-known q F lF [] v m)) [
    | inl a ↦ (a.0, key-width q F lF a.0 a.1, a.2)
    | inr a ↦ (a.0, columns-from (atom_at q F).width a.0 (without-from (columns_of q F) (atom_key q F) a.0 a.1).0, a.2)
  ]

  pub rare-own : (parts : List Part) (o : Within) → Contains (rare_only q F parts) o → (k : ℕ) × (k < (atom_at q F).width) × (o.cell ≡ cell 0 k)
  rare-own parts o m =
      let a = rare-at parts o m in
      let c = fitted-cell (slice_index a.0.columns a.2.0) a.2.2 in
      (c.0, c.1, ap (λ (z : Within). z.cell) (sym a.2.3) ∙ c.2)

  -- a row that suits passes where the parts hold
  pub rare-pass : (T : ℕ → List (List Value)) (R : ℕ → List Value → Type 0) (parts : List Part) (d : ℕ → Value) (y : List Value) → Suits q d F y → Hold T R parts d → AreWithin R (y ∷ []) (rare_only q F parts)
  rare-pass T R parts d y s hold o m =
      let a = rare-at parts o m in
      let v : ℕ = slice_index a.0.columns a.2.0 in
      subst (λ (z : Within). (h : List Value) × R z.step h × (get_or h z.column nothing ≡ cell_value (y ∷ []) z.cell)) a.2.3 (
        map d a.0.columns,
        hold a.0 a.1,
        get_or-map d a.0.columns a.2.0 0 nothing a.2.1
            ∙ sym (cell_of-right (y ∷ []) d (fitted q F []).known v (row-into q F lF [] (y ∷ []) d (λ k n. absurd (mem-nil k n)) s).0 (row-known q F lF [] v a.2.2)),
      )
