-- Two atoms before, whose rows are joined where contexts are looked for.
use Rattle.std.proofs.Common.{◌≡◌, ℕ, ◌<◌, ◌⊎◌, inl, inr, true, List, [], ◌∷◌, ◌++◌, length, subst, Contains}
use Rattle.std.proofs.lemmas.Bool.{false≢true, and_parts}
use Rattle.std.proofs.lemmas.List.Elements.{Contains-append_left, Contains-append_cases}
use Rattle.cqa_value.specs.declared.value.Value.{Value}
use Rattle.cqa_model.specs.declared.query.Query.{Query}
use Rattle.cqa_model.proofs.Classic.{mem-head, mem-nil, mem-cases}
use Rattle.plan_sql.specs.declared.bounds.Bound.{Bound}
use Rattle.sql_steps.specs.declared.part.Part.{Part}
use Rattle.sql_steps.specs.Variables.{covers, within, key_variables, variables_of}
use Rattle.plan_sql.specs.Statement.{completes, far_columns, rows_part}
use Rattle.sql_steps.proofs.Membership.{within-into, within-from, ascending-into, ascending-from}
use Rattle.sql_steps.proofs.Atoms.{variables-small}
use Rattle.sql_steps.proofs.Joining.{covers-from, IsSingle}
use Rattle.plan_sql.proofs.Contexts.{IsOf}
use Rattle.plan_sql.proofs.Level.{AreReady}

module _ (q : Query) (near far : Bound) (ln : near.atom < length q.atoms) (lf : far.atom < length q.atoms) (vs : List ℕ) (number place : ℕ) where
  abbrev pub columns : List ℕ
  columns = far_columns q near far vs

  abbrev pub part : Part
  part = rows_part number place columns

  pub columns-of : (v : ℕ) → Contains columns v → Contains (variables_of q far.atom) v
  columns-of v m = (within-from (variables_of q far.atom) (vs ++ variables_of q near.atom) v (ascending-from (within (variables_of q far.atom) (vs ++ variables_of q near.atom)) v m)).0

  -- what holds of the one part
  pub of-part : (P : Part → Type 0) → P part → (p : Part) → Contains (part ∷ []) p → P p
  of-part P h p m = elim (mem-cases p part [] m) [ inl e ↦ subst P e h | inr z ↦ absurd (mem-nil p z) ]

  -- each variable that is asked for is one of `near` or of the part
  pub of-two : (known : List ℕ) → completes q near vs far ≡ true → (v : ℕ) → Contains vs v → IsOf q near.atom ln known (part ∷ []) v
  of-two known t v m = go (Contains-append_cases (variables_of q far.atom) (variables_of q near.atom) v
      (covers-from (variables_of q far.atom ++ variables_of q near.atom) vs (and_parts (covers (variables_of q far.atom) (key_variables q near.atom)) (covers (variables_of q far.atom ++ variables_of q near.atom) vs) t).1 v m))
    where
      go : Contains (variables_of q far.atom) v ⊎ Contains (variables_of q near.atom) v → IsOf q near.atom ln known (part ∷ []) v
      go (inr n) = inl n
      go (inl n) = inr (
        part,
        mem-head part [],
        ascending-into (within (variables_of q far.atom) (vs ++ variables_of q near.atom)) v (variables-small q far.atom lf v n)
            (within-into (variables_of q far.atom) (vs ++ variables_of q near.atom) v n (Contains-append_left vs (variables_of q near.atom) v m)),
      )

  -- the part is ready, where its step has rows of these columns
  pub two-ready : (T : ℕ → List (List Value)) (R : ℕ → List Value → Type 0) (known : List ℕ) → ((v : ℕ) → Contains (variables_of q far.atom) v → Contains known v) →
      ((h : List Value) → R place h → length h ≡ length columns) → AreReady q near.atom ln T R known (part ∷ [])
  two-ready T R known sub wide = record {
    wide = of-part (λ p. (h : List Value) → R p.step h → length h ≡ length p.columns) wide;
    single = of-part (λ p. p.single ≡ true → IsSingle T R p) (λ t. absurd (false≢true t));
    small = of-part (λ p. (v : ℕ) → Contains p.columns v → v < 192) (λ v m. variables-small q far.atom lf v (columns-of v m));
    over = record {
      columns = of-part (λ p. (v : ℕ) → Contains p.columns v → Contains (known ++ variables_of q near.atom) v) (λ v m. Contains-append_left known (variables_of q near.atom) v (sub v (columns-of v m)));
      keys = of-part (λ p. (v : ℕ) → Contains p.keys v → Contains (known ++ variables_of q near.atom) v → Contains p.columns v) (λ v m n. absurd (mem-nil v m));
    };
  }
