-- The variables of a context of the part that an atom begins, and of its blocks.
use Rattle.std.proofs.Common.{◌≡◌, ℕ, ◌<◌, ◌⊎◌, inl, inr, true, not, List, ◌++◌, length, ap, sym, ◌∙◌, Contains}
use Rattle.std.specs.List.{flat_map}
use Rattle.std.proofs.lemmas.Bool.{false≢true}
use Rattle.std.proofs.lemmas.List.Elements.{Contains-append_left, Contains-append_right, Contains-append_cases}
use Rattle.cqa_value.proofs.Words.{Contains-flat_map, Contains-from_flat_map}
use Rattle.cqa_model.specs.declared.query.Query.{Query}
use Rattle.sql_steps.specs.declared.fitting.Known.{Known}
use Rattle.sql_steps.specs.declared.part.Part.{Part}
use Rattle.sql_steps.specs.Variables.{without, within, ascending, variables_of, key_variables}
use Rattle.sql_steps.specs.Steps.{fitted, known_of, hangs}
use Rattle.plan_sql.specs.Statement.{context_of, block_of}
use Rattle.sql_steps.proofs.Membership.{dec_has, meets-into, without-into, without-from, within-into, within-from, ascending-into, ascending-from}
use Rattle.sql_steps.proofs.Seeing.{IsKnown}
use Rattle.sql_steps.proofs.Atoms.{variables-small, keys-within}
use Rattle.sql_steps.proofs.Rows.{row-known}
use Rattle.sql_steps.proofs.Joining.{known-all, known-new}

-- each part's variables are among these, and are numbers of columns
abbrev pub AreAmong : List ℕ → List Part → Type 0
AreAmong vs parts = (p : Part) → Contains parts p → (v : ℕ) → Contains p.columns v → Contains vs v × (v < 192)

-- what doesn't hang on F has no variable of it that isn't known before
pub loose-known : (q : Query) (F : ℕ) (known : List ℕ) (p : Part) → not (hangs q known F p) ≡ true → (v : ℕ) → Contains p.columns v → Contains (known ++ variables_of q F) v → Contains known v
loose-known q F known p loose v n m = elim (Contains-append_cases known (variables_of q F) v m) [ inl a ↦ a | inr b ↦ go b (dec_has known v) ]
  where
    go : Contains (variables_of q F) v → Dec (Contains known v) → Contains known v
    go b (yes a) = a
    go b (no f) = absurd (false≢true (ap not (sym (meets-into p.columns (without (variables_of q F) known) v n (without-into (variables_of q F) known v b f))) ∙ loose))

module _ (q : Query) (F : ℕ) (lF : F < length q.atoms) (known : List ℕ) (parts : List Part) where
  abbrev context : List ℕ
  context = context_of q known F parts

  abbrev all : List ℕ
  all = variables_of q F ++ flat_map (λ (p : Part). p.columns) parts

  -- a variable of F, or of a part
  abbrev pub IsOf : ℕ → Type 0
  IsOf v = Contains (variables_of q F) v ⊎ ((p : Part) × Contains parts p × Contains p.columns v)

  pub context-from : (v : ℕ) → Contains context v → Contains known v × IsOf v
  context-from v m =
      let n = within-from all known v (ascending-from (within all known) v m) in
      (n.1, elim (Contains-append_cases (variables_of q F) (flat_map (λ (p : Part). p.columns) parts) v n.0) [ inl a ↦ inl a | inr b ↦ inr (Contains-from_flat_map (λ (p : Part). p.columns) parts v b) ])

  abbrev pub AreSmall : Type 0
  AreSmall = (p : Part) → Contains parts p → (v : ℕ) → Contains p.columns v → v < 192

  pub of-small : AreSmall → (v : ℕ) → IsOf v → v < 192
  of-small small v (inl a) = variables-small q F lF v a
  of-small small v (inr (p, m, n)) = small p m v n

  pub context-into : AreSmall → (v : ℕ) → Contains known v → IsOf v → Contains context v
  context-into small v m o = ascending-into (within all known) v (of-small small v o) (within-into all known v (elim o [
    | inl a ↦ Contains-append_left (variables_of q F) (flat_map (λ (p : Part). p.columns) parts) v a
    | inr b ↦ Contains-append_right (variables_of q F) (flat_map (λ (p : Part). p.columns) parts) v (Contains-flat_map (λ (p : Part). p.columns) parts b.0 v b.1 b.2)
  ]) m)

  -- what is known behind F and the parts
  abbrev pub end : List Known → ℕ → List Known
  end start n = known_of n parts (fitted q F start).known

  pub end-known : (start : List Known) (n : ℕ) (v : ℕ) → IsOf v → IsKnown (end start n) v
  end-known start n v (inl a) = known-all parts n (fitted q F start).known v (row-known q F lF start v a)
  end-known start n v (inr (p, m, k)) = known-new parts n (fitted q F start).known p v m k

  -- a context's variables, and those of the key
  abbrev block : List ℕ
  block = block_of q F context

  pub block-context : (v : ℕ) → Contains context v → Contains block v
  block-context v m = Contains-append_left context (without (ascending (key_variables q F)) context) v m

  pub block-key : (v : ℕ) → Contains (key_variables q F) v → Contains block v
  block-key v m = go (dec_has context v)
    where
      go : Dec (Contains context v) → Contains block v
      go (yes n) = block-context v n
      go (no f) = Contains-append_right context (without (ascending (key_variables q F)) context) v
          (without-into (ascending (key_variables q F)) context v (ascending-into (key_variables q F) v (variables-small q F lF v (keys-within q F lF v m)) m) f)

  pub block-cases : (v : ℕ) → Contains block v → Contains context v ⊎ Contains (key_variables q F) v
  block-cases v m = elim (Contains-append_cases context (without (ascending (key_variables q F)) context) v m) [
    | inl n ↦ inl n
    | inr n ↦ inr (ascending-from (key_variables q F) v (without-from (ascending (key_variables q F)) context v n).0)
  ]

  pub block-of : (v : ℕ) → Contains block v → IsOf v
  block-of v m = elim (block-cases v m) [ inl n ↦ (context-from v n).1 | inr n ↦ inl (keys-within q F lF v n) ]
