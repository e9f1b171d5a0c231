-- What is kept of a group, with one row more and with one block more.
use Rattle.std.proofs.Common.{◌≡◌, ℕ, suc, ◌<◌, Bool, true, false, if◌then◌else◌, List, [], ◌∷◌, ◌++◌, length, Contains, Option, Some, None, sym, ◌∙◌, ap, subst}
use Rattle.std.specs.Prelude.{ℤ, pos}
use Rattle.std.specs.List.{filter}
use Rattle.std.proofs.lemmas.List.Elements.{Contains-append_right}
use Rattle.cqa_value.specs.declared.value.Value.{Value}
use Rattle.cqa_value.proofs.Words.{Contains-filter}
use Rattle.aggregate_range.specs.declared.aggregate.Goal.{Goal}
use Rattle.aggregate_range.specs.declared.aggregate.Goal.TheVariants.{Count, Sum, Min, Max}
use Rattle.cqa_model.proofs.Classic.{mem-head}
use Rattle.range_ask.specs.declared.tally.Tally.{Tally}
use Rattle.range_ask.specs.declared.way.Way.TheVariants.{Up, Down}
use Rattle.range_ask.specs.Picks.{worth}
use Rattle.range_ask.specs.Finding.{added, row_in_block}
use Rattle.range_ask.specs.Walking.{IsTotal}
use Rattle.range_ask.specs.Tallying.{rows_so_far, total_of, peak_of, IsSureOf, IsKnownGroup, IsWhole, IsPartly, IsTallied, IsTallying, AreAdding}
use Rattle.range_ask.proofs.Adding.{AddsNone, adding-begin, adding-miss, adding-end}
use Rattle.range_ask.proofs.Peaking.{seen-none, seen-more, seen-all, filter-miss, far-begin, far-miss, far-end, peak-begin, peak-miss, peak-end}

pub worth-none : (p : List Value → Bool) (g : List Value → ℤ) → AddsNone (worth p g) p
worth-none p g x e = ap (λ b. if b then g x else pos 0) e

pub worth-met : (p : List Value → Bool) (g : List Value → ℤ) (x : List Value) → p x ≡ true → worth p g x ≡ g x
worth-met p g x t = ap (λ b. if b then g x else pos 0) t

module _ (p : List Value → Bool) (sure : Bool) (front : List (List (List Value))) (block : List (List Value)) (h : IsSureOf sure p block) where
  known-miss : (n : ℕ) (o : Option Tally) → n < length block → p (row_in_block block n) ≡ false → IsKnownGroup p (rows_so_far front block n) o → IsKnownGroup p (rows_so_far front block (suc n)) o
  known-miss n None l e k = ap (filter p) (seen-more front block n l) ∙ (filter-miss p (rows_so_far front block n) (row_in_block block n) e ∙ k)
  known-miss n (Some t) l e (y, m) = (y, subst (λ rows. Contains rows y) (sym (ap (filter p) (seen-more front block n l) ∙ filter-miss p (rows_so_far front block n) (row_in_block block n) e)) m)

  pub known-hit : (n : ℕ) (t : Tally) → n < length block → p (row_in_block block n) ≡ true → IsKnownGroup p (rows_so_far front block (suc n)) (Some t)
  known-hit n t l e =
      let row = row_in_block block n in
      (row, (Contains-filter p (rows_so_far front block (suc n)) row).1 (subst (λ rows. Contains rows row) (sym (seen-more front block n l)) (Contains-append_right (rows_so_far front block n) (row ∷ []) row (mem-head row [])), e))

  begin : (goal : Goal) (o : Option Tally) → IsWhole goal p front o → IsPartly goal p sure front block 0 o
  begin Count o w = adding-begin (worth p (added Count)) p (worth-none p (added Count)) sure front block h (total_of o) w
  begin (Sum col) o w = adding-begin (worth p (added (Sum col))) p (worth-none p (added (Sum col))) sure front block h (total_of o) w
  begin (Min col) o (s, f) = (peak-begin Down p col sure front block h (peak_of o) s, far-begin Down p col front block (peak_of o) f)
  begin (Max col) o (s, f) = (peak-begin Up p col sure front block h (peak_of o) s, far-begin Up p col front block (peak_of o) f)

  miss : (goal : Goal) (n : ℕ) (o : Option Tally) → n < length block → p (row_in_block block n) ≡ false → IsPartly goal p sure front block n o → IsPartly goal p sure front block (suc n) o
  miss Count n o l e w = adding-miss (worth p (added Count)) p (worth-none p (added Count)) sure front block h n (total_of o) l e w
  miss (Sum col) n o l e w = adding-miss (worth p (added (Sum col))) p (worth-none p (added (Sum col))) sure front block h n (total_of o) l e w
  miss (Min col) n o l e (s, f) = (peak-miss Down p col sure front block h n (peak_of o) l e s, far-miss Down p col front block n (peak_of o) l e f)
  miss (Max col) n o l e (s, f) = (peak-miss Up p col sure front block h n (peak_of o) l e s, far-miss Up p col front block n (peak_of o) l e f)

  end : (goal : Goal) (o : Option Tally) → 0 < length block → IsPartly goal p sure front block (length block) o → IsWhole goal p (front ++ block ∷ []) o
  end Count o l w = adding-end (worth p (added Count)) p (worth-none p (added Count)) sure front block h l (total_of o) w
  end (Sum col) o l w = adding-end (worth p (added (Sum col))) p (worth-none p (added (Sum col))) sure front block h l (total_of o) w
  end (Min col) o l (s, f) = (peak-end Down p col sure front block h l (peak_of o) s, far-end Down p col front block (peak_of o) f)
  end (Max col) o l (s, f) = (peak-end Up p col sure front block h l (peak_of o) s, far-end Up p col front block (peak_of o) f)

  pub tallying-begin : (goal : Goal) (o : Option Tally) → IsTallied goal p front o → IsTallying goal p sure front block 0 o
  tallying-begin goal o (k, w) = (subst (λ rows. IsKnownGroup p rows o) (seen-none front block) k, begin goal o w)

  pub tallying-miss : (goal : Goal) (n : ℕ) (o : Option Tally) → n < length block → p (row_in_block block n) ≡ false → IsTallying goal p sure front block n o → IsTallying goal p sure front block (suc n) o
  tallying-miss goal n o l e (k, w) = (known-miss n o l e k, miss goal n o l e w)

  pub tallying-end : (goal : Goal) (o : Option Tally) → 0 < length block → IsTallying goal p sure front block (length block) o → IsTallied goal p (front ++ block ∷ []) o
  tallying-end goal o l (k, w) = (subst (λ rows. IsKnownGroup p rows o) (seen-all front block) k, end goal o l w)

-- what is kept for a count or a sum
pub from_part : (goal : Goal) → IsTotal goal → (p : List Value → Bool) (sure : Bool) (front : List (List (List Value))) (block : List (List Value)) (n : ℕ) (o : Option Tally) →
    IsPartly goal p sure front block n o → AreAdding (worth p (added goal)) p sure front block n (total_of o)
from_part Count t p sure front block n o w = w
from_part (Sum col) t p sure front block n o w = w
from_part (Min col) t p sure front block n o w = absurd t
from_part (Max col) t p sure front block n o w = absurd t

pub to_part : (goal : Goal) → IsTotal goal → (p : List Value → Bool) (sure : Bool) (front : List (List (List Value))) (block : List (List Value)) (n : ℕ) (o : Option Tally) →
    AreAdding (worth p (added goal)) p sure front block n (total_of o) → IsPartly goal p sure front block n o
to_part Count t p sure front block n o w = w
to_part (Sum col) t p sure front block n o w = w
to_part (Min col) t p sure front block n o w = absurd t
to_part (Max col) t p sure front block n o w = absurd t
