-- A row is certain exactly where no assignment satisfies its formula.
use Rattle.std.proofs.Common.{◌≡◌, ℕ, ◌<◌, ◌⊎◌, ◌↔◌, inl, inr, List, [], length, get_or, refl, sym, ◌∙◌, subst, Contains, Bool, true, false, true≢false}
use Rattle.std.proofs.Math.Bool.{Bool-discrete}
use native.Mathlib.Decide.{ℕ_discrete}
use Rattle.cqa_model.specs.declared.query.Query.{Query}
use Rattle.cqa_value.specs.declared.value.Value.{Value}
use Rattle.cqa_value.proofs.Words.{yes_of, no_of, is_yes}
use Rattle.cqa_model.specs.Query.{atom_at, atom_key, rows_of, row_at, IsWitness}
use Rattle.cqa_model.specs.Repairs.{SharesKey, HasOne, IsRepairBy}
use Rattle.cqa_model.proofs.Fitting.{IsCertainBy, FitsTables}
use Rattle.cqa_model.specs.Formula.{Satisfies}
use Rattle.cqa_model.proofs.Classic.{find_below, stable, dec_if, dec_below, dec_mem}
use Rattle.cqa_model.proofs.Repairs.{sublist-stored, shares-self}
use Rattle.cqa_model.proofs.Preferring.{preferring}
use Rattle.cqa_model.proofs.Witnesses.{dec_witness, at_table, witness-stored}

module _ (q : Query) (keys : List (List ℕ)) (tables : List (List (List Value))) (row : List Value) (fits : FitsTables q keys tables) where
  -- a certain row's formula has no satisfying assignment
  unsatisfied : IsCertainBy keys q tables row → (a : ℕ → List Value → Bool) → Satisfies q tables row a → ⊥
  unsatisfied certain a sat = go (preferring keys tables IsTrue dec_true)
    where
      IsTrue : ℕ → List Value → Type 0
      IsTrue t x = (F : ℕ) → F < length q.atoms → (atom_at q F).table ≡ t → a F x ≡ true

      dec_true : (t : ℕ) (x : List Value) → Dec (IsTrue t x)
      dec_true t x = dec_below (λ F. (atom_at q F).table ≡ t → a F x ≡ true) (λ F. dec_if (ℕ_discrete (atom_at q F).table t) (Bool-discrete (a F x) true)) (length q.atoms)

      go : (r : List (List (List Value))) × IsRepairBy keys tables r × ((t : ℕ) → t < length tables → (x z : List Value) → Contains (get_or tables t []) x → IsTrue t x →
          Contains (get_or r t []) z → SharesKey (get_or keys t []) z x → IsTrue t z) → ⊥
      go (r, hr, h) = clash (sat.witnesses w.0 ws)
        where
          w : (w : List (List Value)) × IsWitness q r row w
          w = certain r hr

          ws : IsWitness q tables row w.0
          ws = witness-stored q keys tables fits row r hr w.0 w.1

          all_true : (F : ℕ) → F < length q.atoms → a F (row_at w.0 F) ≡ true
          all_true F l = at (sat.blocks F l (row_at w.0 F) (ws.kept F l) (w.0, ws, shares-self (atom_key q F) (row_at w.0 F)))
            where
              at : (y : List Value) × Contains (rows_of q tables F) y × SharesKey (atom_key q F) (row_at w.0 F) y × (a F y ≡ true) → a F (row_at w.0 F) ≡ true
              at (y, my, s, e) = h (atom_at q F).table (fits.in_tables F l) y (row_at w.0 F) my
                  (λ G lG same. subst (λ z. a z y ≡ true) (sym (q.kept.apart G F lG l same)) e)
                  (w.1.kept F l) (subst (λ k. SharesKey k (row_at w.0 F) y) (fits.keyed F l) s) F l refl

          clash : (F : ℕ) × (F < length q.atoms) × (a F (row_at w.0 F) ≡ false) → ⊥
          clash (F, l, e) = true≢false (sym (all_true F l) ∙ e)

  -- where no assignment satisfies the formula, each repair has a witness
  certain_of : ((a : ℕ → List Value → Bool) → Satisfies q tables row a → ⊥) → IsCertainBy keys q tables row
  certain_of unsat r hr = stable (dec_witness q r row) (λ none. unsat kept_in (record {
    blocks = λ F l x m rel. block F l x ((at_table q keys tables fits r hr F l).one x m);
    witnesses = λ w hw. missing w hw none (find_below (λ F. Contains (rows_of q r F) (row_at w F)) (λ F. dec_mem (rows_of q r F) (row_at w F)) (length q.atoms));
  }))
    where
      kept_in : ℕ → List Value → Bool
      kept_in F x = is_yes (dec_mem (rows_of q r F) x)

      block : (F : ℕ) → F < length q.atoms → (x : List Value) → HasOne (atom_key q F) (rows_of q r F) x → (y : List Value) × Contains (rows_of q tables F) y × SharesKey (atom_key q F) x y × (kept_in F y ≡ true)
      block F l x o = (o.row, sublist-stored (rows_of q r F) (rows_of q tables F) (at_table q keys tables fits r hr F l).stored o.row o.is_kept, o.shares, yes_of (dec_mem (rows_of q r F) o.row) o.is_kept)

      missing : (w : List (List Value)) → IsWitness q tables row w → (((w : List (List Value)) × IsWitness q r row w) → ⊥) →
          ((F : ℕ) → F < length q.atoms → Contains (rows_of q r F) (row_at w F)) ⊎ ((F : ℕ) × (F < length q.atoms) × (Contains (rows_of q r F) (row_at w F) → ⊥)) →
          (F : ℕ) × (F < length q.atoms) × (kept_in F (row_at w F) ≡ false)
      missing w hw none (inl h) = absurd (none (w, record { size = hw.size; kept = h; holds = hw.holds; answers = hw.answers }))
      missing w hw none (inr h) = (h.0, h.1, no_of (dec_mem (rows_of q r h.0) (row_at w h.0)) h.2)

pub formula_is_exact : (q : Query) (keys : List (List ℕ)) (tables : List (List (List Value))) (row : List Value) → FitsTables q keys tables →
    IsCertainBy keys q tables row ↔ ((a : ℕ → List Value → Bool) → Satisfies q tables row a → ⊥)
formula_is_exact q keys tables row fits = (unsatisfied q keys tables row fits, certain_of q keys tables row fits)
