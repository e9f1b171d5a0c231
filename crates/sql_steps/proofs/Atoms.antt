-- The variables of an atom, and those of its key.
use Rattle.std.proofs.Common.{◌≡◌, ℕ, ◌<◌, ◌+◌, length, sym, ◌∙◌, subst, arith, Contains}
use Rattle.std.specs.List.{slice_index, range_with_len}
use Rattle.std.proofs.lemmas.List.Elements.{All-contains}
use Rattle.cqa_value.proofs.Words.{Contains-map, Contains-from_map, Contains-range, in_range}
use Rattle.cqa_model.specs.declared.query.Query.{Query}
use Rattle.cqa_model.specs.Query.{atom_at, atom_key}
use Rattle.cqa_model.proofs.Columns.{number-small, least-of}
use Rattle.sql_steps.specs.Variables.{variables_of, key_variables}
use Rattle.sql_steps.proofs.Suiting.{variable, variable-at}

-- the variables of an atom are those of its columns
pub variables-from : (q : Query) (F v : ℕ) → Contains (variables_of q F) v → (i : ℕ) × (i < (atom_at q F).width) × (variable q F i ≡ v)
variables-from q F v m =
    let r = Contains-from_map (λ i. variable q F i) (range_with_len 0 (atom_at q F).width) v m in
    (r.0, (let l : r.0 < 0 + (atom_at q F).width = (in_range 0 (atom_at q F).width r.0 r.1).1 in omega arith), r.2)

pub variables-into : (q : Query) (F i : ℕ) → i < (atom_at q F).width → Contains (variables_of q F) (variable q F i)
variables-into q F i l = Contains-map (λ z. variable q F z) (range_with_len 0 (atom_at q F).width) i (Contains-range 0 (atom_at q F).width i (omega arith) (omega arith))

module _ (q : Query) (F : ℕ) (lF : F < length q.atoms) where
  pub key-width : (p : ℕ) → Contains (atom_key q F) p → p < (atom_at q F).width
  key-width p m = All-contains (λ x. x < (atom_at q F).width) (atom_key q F) p (q.kept.each F lF).key_in_range m

  pub variable-small : (i : ℕ) → i < (atom_at q F).width → variable q F i < 192
  variable-small i l =
      let n = least-of q (record { atom = F; col = i }) (lF, l) in
      let s = number-small q n.0 n.1 in
      subst (λ z. z < 192) n.4 s

  pub variables-small : (v : ℕ) → Contains (variables_of q F) v → v < 192
  variables-small v m = let i = variables-from q F v m in subst (λ z. z < 192) i.2 (variable-small i.0 i.1)

  -- the variables of the key
  pub keys-from : (v : ℕ) → Contains (key_variables q F) v → (p : ℕ) × Contains (atom_key q F) p × (variable q F p ≡ v)
  keys-from v m =
      let r = Contains-from_map (λ i. slice_index (variables_of q F) i) (atom_key q F) v m in
      (r.0, r.1, sym (variable-at q F r.0 (key-width r.0 r.1)) ∙ r.2)

  pub keys-into : (p : ℕ) → Contains (atom_key q F) p → Contains (key_variables q F) (variable q F p)
  keys-into p m = subst (λ z. Contains (key_variables q F) z) (variable-at q F p (key-width p m)) (Contains-map (λ i. slice_index (variables_of q F) i) (atom_key q F) p m)

  pub keys-within : (v : ℕ) → Contains (key_variables q F) v → Contains (variables_of q F) v
  keys-within v m = let k = keys-from v m in subst (λ z. Contains (variables_of q F) z) k.2 (variables-into q F k.0 (key-width k.0 k.1))
