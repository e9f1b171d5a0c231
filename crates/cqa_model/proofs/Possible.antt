-- The possible rows are the candidates: a witness uses one row of each table, so some repair keeps it.
use Rattle.std.proofs.Common.{◌≡◌, ℕ, ◌<◌, List, [], length, get_or, refl, ap, sym, subst, Contains}
use native.Mathlib.Decide.{ℕ_discrete}
use Rattle.cqa_value.specs.declared.value.Value.{Value}
use Rattle.cqa_model.specs.declared.query.Query.{Query}
use Rattle.cqa_model.specs.Repairs.{SharesKey, HasOne, IsRepairBy}
use Rattle.cqa_model.specs.Query.{atom_at, atom_key, rows_of, row_at, IsWitness}
use Rattle.cqa_model.proofs.Fitting.{IsCertainBy, FitsTables}
use Rattle.cqa_model.proofs.Classic.{mem-eq, dec_if, dec_below}
use Rattle.cqa_model.proofs.Values.{row_discrete}
use Rattle.cqa_model.proofs.Repairs.{shares-sym}
use Rattle.cqa_model.proofs.Witnesses.{at_table, witness-stored}
use Rattle.cqa_model.proofs.Preferring.{preferring}
use Rattle.cqa_model.proofs.Existence.{some_repair}

module _ (q : Query) (keys : List (List ℕ)) (tables : List (List (List Value))) (fits : FitsTables q keys tables) (row : List Value) where
  pub candidate-from_certain : IsCertainBy keys q tables row → (w : List (List Value)) × IsWitness q tables row w
  candidate-from_certain certain =
      let r = some_repair keys tables in
      let w = certain r.0 r.1 in
      (w.0, witness-stored q keys tables fits row r.0 r.1 w.0 w.1)

  pub candidate-from_possible : (r : List (List (List Value))) × IsRepairBy keys tables r × ((w : List (List Value)) × IsWitness q r row w) → (w : List (List Value)) × IsWitness q tables row w
  candidate-from_possible (r, hr, w) = (w.0, witness-stored q keys tables fits row r hr w.0 w.1)

  -- the repair that prefers the witness's rows keeps them
  pub possible-from_candidate : (w : List (List Value)) × IsWitness q tables row w → (r : List (List (List Value))) × IsRepairBy keys tables r × ((w : List (List Value)) × IsWitness q r row w)
  possible-from_candidate (w, hw) = kept_by_one (preferring keys tables IsUsed
      (λ t x. dec_below (λ F. (atom_at q F).table ≡ t → x ≡ row_at w F) (λ F. dec_if (ℕ_discrete (atom_at q F).table t) (row_discrete x (row_at w F))) (length q.atoms)))
    where
      IsUsed : ℕ → List Value → Type 0
      IsUsed t x = (F : ℕ) → F < length q.atoms → (atom_at q F).table ≡ t → x ≡ row_at w F

      kept_by_one : (r : List (List (List Value))) × IsRepairBy keys tables r × ((t : ℕ) → t < length tables → (x z : List Value) → Contains (get_or tables t []) x → IsUsed t x →
          Contains (get_or r t []) z → SharesKey (get_or keys t []) z x → IsUsed t z) → (r : List (List (List Value))) × IsRepairBy keys tables r × ((w : List (List Value)) × IsWitness q r row w)
      kept_by_one (r, hr, prefers) = (
        r,
        hr,
        (
          w,
          record {
            size = hw.size;
            kept = λ F l. one_row F l ((at_table q keys tables fits r hr F l).one (row_at w F) (hw.kept F l));
            holds = hw.holds;
            answers = hw.answers;
          },
        ),
      )
        where
          one_row : (F : ℕ) → F < length q.atoms → HasOne (atom_key q F) (rows_of q r F) (row_at w F) → Contains (rows_of q r F) (row_at w F)
          one_row F l o = mem-eq o.row (row_at w F) (rows_of q r F) same o.is_kept
            where
              shares : SharesKey (get_or keys (atom_at q F).table []) o.row (row_at w F)
              shares = subst (λ k. SharesKey k o.row (row_at w F)) (fits.keyed F l) (shares-sym (atom_key q F) (row_at w F) o.row o.shares)

              same : o.row ≡ row_at w F
              same = prefers (atom_at q F).table (fits.in_tables F l) (row_at w F) o.row (hw.kept F l) (λ G lG e. ap (row_at w) (q.kept.apart F G l lG (sym e))) o.is_kept shares F l refl
