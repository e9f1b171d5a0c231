-- A block was read: its rows go to both ends.
use Rattle.std.proofs.Common.{◌≡◌, ℕ, ◌+◌, List, [], ◌∷◌, ◌++◌, Option, None, Contains, Bool, sym, ◌∙◌, ap, subst}
use Rattle.std.specs.List.{filter}
use Rattle.std.specs.Option.{option_copied}
use Rattle.std.proofs.lemmas.List.{map_push}
use Rattle.cqa_value.specs.declared.value.Value.{Value}
use Rattle.cqa_model.proofs.Classic.{mem-nil}
use Rattle.range_ask.specs.declared.way.Way.{Way}
use Rattle.range_ask.specs.declared.reach.Reach.{Reach}
use Rattle.range_ask.specs.declared.extremes.Extremes.{Extremes}
use Rattle.range_ask.specs.Picks.{turned, IsExtreme, AvoidsFar, MeetsFar}
use Rattle.range_ask.specs.Finding.{row_in_block}
use Rattle.range_ask.specs.Walking.{IsNextBlock, AreChosenSoFar}
use Rattle.range_ask.specs.Reaching.{IsIfMet, IsReach, IsTop, AreExtremes}
use Rattle.range_ask.proofs.Lists.{zip-map}
use Rattle.range_ask.proofs.Chosen.{IsTakenAt}
use Rattle.range_ask.proofs.Walked.{row-here, chosen-none, chosen-more}
use Rattle.range_ask.proofs.Topped.{Kept}
use Rattle.table_blocks.specs.Tables.{rows_in}

-- chosen rows are rows of their blocks
pub kept-of : (R : List (List Value) → List Value → Type 0) → ((b : List (List Value)) (x : List Value) → R b x → Contains b x) → (rows : List (List Value)) (front : List (List (List Value))) (places : List ℕ) →
    AreChosenSoFar R rows front places → Kept rows front places
kept-of R f rows front places h = record { rises = h.rises; below = h.below; chosen = zip-map R (λ (b : List (List Value)) x. Contains b x) f front (rows_in rows places) h.chosen }

module _ (way : Way) (p : List Value → Bool) (col : ℕ) (rows : List (List Value)) where
  pub reach-none : (R : List (List Value) → List Value → Type 0) (reach : Reach) → reach.places.items ≡ [] → reach.extreme ≡ None → IsReach R way p col rows [] reach
  reach-none R reach e n = record {
    chosen = chosen-none R rows reach.places.items e;
    extreme = subst (λ o. IsExtreme way col (filter p (rows_in rows reach.places.items)) (option_copied o)) (sym n) (ap (λ ps. filter p (rows_in rows ps)) e);
  }

  module _ (front : List (List (List Value))) (block : List (List Value)) (later : List (List (List Value))) (start : ℕ) (next : IsNextBlock rows front block later start) where
    pub reach-more : (R : List (List Value) → List Value → Type 0) (at : ℕ) (row : Option (List Value)) → IsTakenAt R p block at row → (old new : Reach) → IsReach R way p col rows front old →
        new.places.items ≡ old.places.items ++ (start + at) ∷ [] →
        ((xs : List (List Value)) (x : List Value) → IsExtreme way col (filter p xs) (option_copied old.extreme) → IsIfMet p x row → IsExtreme way col (filter p (xs ++ x ∷ [])) (option_copied new.extreme)) →
        IsReach R way p col rows (front ++ block ∷ []) new
    reach-more R at row t old new h e more = record {
      chosen = chosen-more rows front block later start next at t.there R old.places.items new.places.items h.chosen t.chosen e;
      extreme = subst (λ xs. IsExtreme way col (filter p xs) (option_copied new.extreme)) (sym (ap (rows_in rows) e ∙ map_push (λ q. row_in_block rows q) old.places.items (start + at)))
          (more (rows_in rows old.places.items) (row_in_block rows (start + at)) h.extreme (subst (λ x. IsIfMet p x row) (sym (row-here rows front block later start next at t.there)) t.is));
    }

pub extremes-none : (way : Way) (p : List Value → Bool) (col : ℕ) (rows : List (List Value)) (ends : Extremes) → ends.avoids.places.items ≡ [] → ends.avoids.extreme ≡ None → ends.meets.places.items ≡ [] → ends.meets.extreme ≡ None → ends.top ≡ None →
    ends.wide.items ≡ [] → AreExtremes way p col rows [] ends
extremes-none way p col rows ends a b c d t w = record {
  avoids = reach-none way p col rows (AvoidsFar way p col) ends.avoids a b;
  meets = reach-none way p col rows (MeetsFar way p col) ends.meets c d;
  top = subst (IsTop (turned way) p col rows [] ends.avoids.places.items) (sym t) (λ y m. absurd (mem-nil y m));
  wide = w;
}
