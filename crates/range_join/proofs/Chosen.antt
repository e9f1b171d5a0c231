-- Both ends of the values that witnesses give.
use Rattle.std.proofs.Common.{◌≡◌, ℕ, List, length, Option, Bor, Result, Ok, Err, IfOk, sym, subst}
use Rattle.cqa_value.specs.declared.value.Value.{Value}
use Rattle.cqa_model.specs.Database.{Table}
use Rattle.table_blocks.specs.Tables.{rows_at}
use Rattle.range_join.specs.declared.carriers.Extreme.{Extreme}
use Rattle.range_join.specs.declared.carriers.Extreme.TheVariants.{Least, Greatest}
use Rattle.range_join.specs.declared.peaks.Peaks.{Peaks}
use Rattle.range_join.specs.Peaks.{end_places, best_at, AreBest, ArePeaks, IsGreatestChoice, IsLeastChoice}
use Rattle.range_join.proofs.Carrying.{best-there}
use Rattle.range_join.proofs.Choosing.{greatest-peaks, least-peaks}

pub if_ok : {A E : Type 0} (r : Result A E) (P Q : A → Type 0) → ((x : A) → P x → Q x) → IfOk r P → IfOk r Q
if_ok (Ok x) P Q f h = f x h
if_ok (Err e) P Q f h = tt

module _ (db : List Table) (table at : ℕ) (has : ℕ → Value → Type 0) (way : Extreme) (col : ℕ) (bests slice : List (Option (Bor (List Value)))) (same : table ≡ at) where
  pub found-least : way ≡ Least → slice ≡ bests → length bests ≡ length (rows_at db at) → AreBest way has (length bests) (best_at col bests) → (peaks : Peaks) →
      IsLeastChoice (best_at col slice) (length slice) db table (end_places peaks) → ArePeaks db at way has (end_places peaks)
  found-least is read size are peaks h =
      subst (λ w. ArePeaks db at w has (end_places peaks)) (sym is)
      (least-peaks db at has (length bests) size (best_at col bests) (end_places peaks) (subst (λ w. AreBest w has (length bests) (best_at col bests)) is are) (best-there col bests)
      (subst (λ s. IsLeastChoice (best_at col s) (length s) db at (end_places peaks)) read (subst (λ t. IsLeastChoice (best_at col slice) (length slice) db t (end_places peaks)) same h)))

  pub found-greatest : way ≡ Greatest → slice ≡ bests → length bests ≡ length (rows_at db at) → AreBest way has (length bests) (best_at col bests) → (peaks : Peaks) →
      IsGreatestChoice (best_at col slice) db table (end_places peaks) → ArePeaks db at way has (end_places peaks)
  found-greatest is read size are peaks h =
      subst (λ w. ArePeaks db at w has (end_places peaks)) (sym is)
      (greatest-peaks db at has (length bests) size (best_at col bests) (end_places peaks) (subst (λ w. AreBest w has (length bests) (best_at col bests)) is are)
      (subst (λ s. IsGreatestChoice (best_at col s) db at (end_places peaks)) read (subst (λ t. IsGreatestChoice (best_at col slice) db t (end_places peaks)) same h)))
