-- The step that asks for keys of an atom has the key of each row that suits, where the atom that names them has a row that does.
use Rattle.std.proofs.Common.{◌≡◌, ℕ, ◌<◌, inl, ◌&&◌, List, [], ◌∷◌, ◌++◌, length, map, refl, sym, subst, arith, Contains, Option, Some, None, append-nil}
use Rattle.std.proofs.lemmas.List.{length_push}
use Rattle.cqa_value.specs.declared.value.Value.{Value}
use Rattle.cqa_model.specs.declared.query.Query.{Query}
use Rattle.cqa_model.specs.Database.{nothing}
use Rattle.cqa_model.specs.Query.{atom_key}
use Rattle.cqa_model.proofs.Classic.{mem-nil}
use Rattle.sql_text.specs.declared.syntax.Body.TheVariants.{Distinct}
use Rattle.sql_text.specs.declared.syntax.Step.{Step}
use Rattle.sql_text.specs.declared.syntax.StepKind.TheVariants.{Asked}
use Rattle.sql_text.specs.declared.syntax.Within.{Within}
use Rattle.sql_text.specs.Meaning.{AreWithin, Selects}
use Rattle.plan_sql.specs.declared.bounds.Bound.{Bound}
use Rattle.sql_steps.specs.Variables.{meets, covers, within, variables_of, key_variables}
use Rattle.sql_steps.specs.Steps.{cell, rows_of_atom}
use Rattle.plan_sql.specs.Statement.{step, guard_for, bound_for, keys_in, asked_variables, asked_steps, only_of}
use Rattle.sql_steps.proofs.Membership.{within-from, ascending-from}
use Rattle.plan_sql.proofs.Steps.{first-in}
use Rattle.plan_sql.proofs.Rel.{Rel, new-into, Stays, stays-self, stays-push}
use Rattle.sql_steps.proofs.Suiting.{Suits}
use Rattle.sql_steps.proofs.Joining.{covers-from}
use Rattle.plan_sql.proofs.Holding.{Keeps}
use Rattle.plan_sql.proofs.Level.{suits-moved, ready-none, plain-from, plain-into}
use Rattle.plan_sql.proofs.Looking.{keys-at, keys-own, keys-pass}

module _ (q : Query) (T : ℕ → List (List Value)) where
  -- an atom before, with what it looks up
  pub record IsBound (known : List ℕ) (steps : List Step) (b : Bound) : Type 0 where
    pub atom : b.atom < length q.atoms
    pub within : (v : ℕ) → Contains (variables_of q b.atom) v → Contains known v
    pub of_key : (o : Within) → Contains b.only o → (k : ℕ) × Contains (atom_key q b.atom) k × (o.cell ≡ cell 0 k)
    pub there : (o : Within) → Contains b.only o → o.step < length steps

  -- it has a row that suits, and whose key is asked for
  abbrev pub IsPassed : List Step → (ℕ → Value) → Bound → Type 0
  IsPassed steps e b = (y : List Value) × Contains (T b.atom) y × Suits q e b.atom y × AreWithin (Rel T steps) (y ∷ []) b.only

  pub within-stays : (ss ts : List Step) → Stays T ss ts → (w : List (List Value)) (only : List Within) → ((o : Within) → Contains only o → o.step < length ss) → AreWithin (Rel T ss) w only → AreWithin (Rel T ts) w only
  within-stays ss ts s w only there h o m = let g = h o m in (g.0, s.into o.step (there o m) g.0 g.1, g.2)

  -- with later steps
  pub bound-stays : (known : List ℕ) (ss ts : List Step) (b : Bound) → Stays T ss ts → IsBound known ss b → IsBound known ts b
  bound-stays known ss ts b s h = record { atom = h.atom; within = h.within; of_key = h.of_key; there = λ o m. let l : o.step < length ss = h.there o m in omega (arith, l, s.longer) }

  pub passed-stays : (known : List ℕ) (ss ts : List Step) (b : Bound) (e : ℕ → Value) → Stays T ss ts → IsBound known ss b → IsPassed ss e b → IsPassed ts e b
  passed-stays known ss ts b e s h (y, my, sy, w) = (y, my, sy, within-stays ss ts s (y ∷ []) b.only h.there w)

  pub passed-keeps : (known : List ℕ) (steps : List Step) (b : Bound) (e d : ℕ → Value) → IsBound known steps b → Keeps known e d → IsPassed steps e b → IsPassed steps d b
  passed-keeps known steps b e d h k (y, my, s, w) = (y, my, suits-moved q b.atom e d y (λ v m. k v (h.within v m)) s, w)

  -- the values of some of its variables
  module _ (known : List ℕ) (steps : List Step) (b : Bound) (h : IsBound known steps b) (columns : List ℕ) (of : (v : ℕ) → Contains columns v → Contains (variables_of q b.atom) v) where
    pub bound-into : (e : ℕ → Value) → IsPassed steps e b → Selects T (Rel T steps) (rows_of_atom q b.atom b.only [] columns) (map e columns)
    bound-into e (y, my, s, w) = plain-into q b.atom h.atom T (Rel T steps) known [] (ready-none q b.atom h.atom T (Rel T steps) known) b.only (λ o m. let k = h.of_key o m in (k.0, k.2)) columns
        (λ v n. inl (of v n)) y e my s (λ z n. absurd (mem-nil z n)) w

    pub bound-from : (row : List Value) → Selects T (Rel T steps) (rows_of_atom q b.atom b.only [] columns) row → (c : ℕ → Value) × (row ≡ map c columns)
    bound-from row r =
        let f = plain-from q b.atom h.atom T (Rel T steps) known [] (ready-none q b.atom h.atom T (Rel T steps) known) b.only (λ o m. let k = h.of_key o m in (k.0, k.2)) columns (λ v n. inl (of v n)) row r (λ v. nothing) in
        (f.2.0, f.2.3)

  pub bound_for-in : (bounds : List Bound) (F : ℕ) (b : Bound) → bound_for q bounds F ≡ Some b → Contains bounds b
  bound_for-in bounds F b e = (first-in (λ (c : Bound). c.few && meets (variables_of q c.atom) (key_variables q F)) bounds b e).0

  -- an atom that guards has all of the variables
  pub guard_for-in : (bounds : List Bound) (vs : List ℕ) (b : Bound) → guard_for q bounds vs ≡ Some b → Contains bounds b × ((v : ℕ) → Contains vs v → Contains (variables_of q b.atom) v)
  guard_for-in bounds vs b e = let r = first-in (λ (c : Bound). covers (variables_of q c.atom) vs) bounds b e in (r.0, covers-from (variables_of q b.atom) vs r.1)

  -- what asks for keys of F
  pub record IsAsked (bounds : List Bound) (before start : List Step) (F : ℕ) (only : List Within) : Type 0 where
    pub stays : Stays T before start
    pub of_key : (o : Within) → Contains only o → (k : ℕ) × Contains (atom_key q F) k × (o.cell ≡ cell 0 k)
    pub there : (o : Within) → Contains only o → o.step < length start
    pub passes : (e : ℕ → Value) → ((b : Bound) → Contains bounds b → IsPassed before e b) → (y : List Value) → Suits q e F y → AreWithin (Rel T start) (y ∷ []) only

  module _ (F : ℕ) (lF : F < length q.atoms) (number : ℕ) (known : List ℕ) (bounds : List Bound) (before : List Step) (bound : (b : Bound) → Contains bounds b → IsBound known before b) where
    by : (b : Bound) → Contains bounds b → IsAsked bounds before (before ++ asked_steps q number F (Some b)) F (only_of q F (length before) (Some b))
    by b mb = record { stays = stays-push T before before s (stays-self T before); of_key = of_key; there = there; passes = passes }
      where
        columns : List ℕ
        columns = asked_variables q F b.atom

        s : Step
        s = step Asked number columns (Distinct (rows_of_atom q b.atom b.only [] columns))

        from : (v : ℕ) → Contains columns v → Contains (key_variables q F) v × Contains (variables_of q b.atom) v
        from v m = within-from (key_variables q F) (variables_of q b.atom) v (ascending-from (within (key_variables q F) (variables_of q b.atom)) v m)

        of_key : (o : Within) → Contains (keys_in q F (length before) columns) o → (k : ℕ) × Contains (atom_key q F) k × (o.cell ≡ cell 0 k)
        of_key = keys-own q F lF (length before) columns (λ v m. (from v m).0)

        there : (o : Within) → Contains (keys_in q F (length before) columns) o → o.step < length (before ++ s ∷ [])
        there o m = let a = keys-at q F lF (length before) columns (λ v n. (from v n).0) o m in subst (λ (z : Within). z.step < length (before ++ s ∷ [])) a.2 (omega (arith, length_push before s))

        passes : (e : ℕ → Value) → ((c : Bound) → Contains bounds c → IsPassed before e c) → (y : List Value) → Suits q e F y → AreWithin (Rel T (before ++ s ∷ [])) (y ∷ []) (keys_in q F (length before) columns)
        passes e pass y sy =
            keys-pass q F lF (length before) columns (λ v m. (from v m).0) (Rel T (before ++ s ∷ [])) e y sy
            (new-into T before s (length before) (map e columns) refl (bound-into known before b (bound b mb) columns (λ v n. (from v n).1) e (pass b mb)))

    pub asked : IsAsked bounds before (before ++ asked_steps q number F (bound_for q bounds F)) F (only_of q F (length before) (bound_for q bounds F))
    asked = go (bound_for q bounds F) refl
      where
        go : (found : Option Bound) → bound_for q bounds F ≡ found → IsAsked bounds before (before ++ asked_steps q number F found) F (only_of q F (length before) found)
        go None e = record {
          stays = subst (Stays T before) (sym (append-nil before)) (stays-self T before);
          of_key = λ o m. absurd (mem-nil o m);
          there = λ o m. absurd (mem-nil o m);
          passes = λ e pass y s o m. absurd (mem-nil o m);
        }
        go (Some b) e = by b (bound_for-in bounds F b e)
