-- What is found of a block chooses its rows.
use Rattle.std.proofs.Common.{◌≡◌, ℕ, ◌+◌, ◌<◌, ◌^◌, List, [], length, Option, Some, None, IfSome, sym, ◌∙◌, subst, arith, Contains, Bool, true}
use Rattle.std.specs.Prelude.{ℤ, ◌≤ℤ◌}
use Rattle.std.proofs.lemmas.List.{get_or_default}
use Rattle.std.proofs.lemmas.List.Elements.{Contains-get_or}
use Rattle.cqa_value.specs.declared.value.Value.{Value}
use Rattle.cqa_value.proofs.Words.{clash}
use Rattle.range_ask.specs.declared.sums.Best.{Best}
use Rattle.range_ask.specs.declared.way.Way.{Way}
use Rattle.range_ask.specs.declared.found.Spot.{Spot}
use Rattle.range_ask.specs.Ranges.{cell}
use Rattle.range_ask.specs.Picks.{Before, turned, IsCheapest, IsDearest, AvoidsFar, MeetsFar}
use Rattle.range_ask.specs.Finding.{row_in_block, IsBestLow, IsBestHigh, IsMissing, IsFurthest, avoided_place, avoided_row, spot_place, spot_row}
use Rattle.range_ask.specs.Reaching.{IsIfMet}
use Rattle.range_ask.proofs.Ordered.{before-turned}

-- a row of a block stands at a place
pub place : (block : List (List Value)) (y : List Value) → Contains block y → (i : ℕ) × (i < length block) × (row_in_block block i ≡ y)
place block y (k, l, e) = (k, l, get_or_default block k [] y l ∙ e)

pub cheapest : (f : List Value → ℤ) (block : List (List Value)) (best : Best) → IsBestLow f block (length block) best → IsCheapest f block (row_in_block block best.at)
cheapest f block best h = record {
  there = Contains-get_or block best.at [] h.there;
  least = λ y m. let p = place block y m in subst (λ z. f (row_in_block block best.at) ≤ℤ f z) p.2 (subst (λ n. n ≤ℤ f (row_in_block block p.0)) h.is (h.least p.0 p.1));
}

pub dearest : (f : List Value → ℤ) (block : List (List Value)) (best : Best) → IsBestHigh f block (length block) best → IsDearest f block (row_in_block block best.at)
dearest f block best h = record {
  there = Contains-get_or block best.at [] h.there;
  most = λ y m. let p = place block y m in subst (λ z. f z ≤ℤ f (row_in_block block best.at)) p.2 (subst (λ n. f (row_in_block block p.0) ≤ℤ n) h.is (h.most p.0 p.1));
}

-- a row of a block is chosen so, and it is this row if it meets the tests
pub record IsTakenAt (R : List (List Value) → List Value → Type 0) (p : List Value → Bool) (block : List (List Value)) (at : ℕ) (row : Option (List Value)) : Type 0 where
  pub there : at < length block
  pub chosen : R block (row_in_block block at)
  pub is : IsIfMet p (row_in_block block at) row

module _ (way : Way) (p : List Value → Bool) (col : ℕ) (block : List (List Value)) (some : 0 < length block) where
  pub avoids : (m : Option ℕ) (near : Option Spot) → IsMissing p block (length block) m → IsFurthest (turned way) p col block (length block) near →
      IsTakenAt (AvoidsFar way p col) p block (avoided_place m near) (avoided_row m near)
  avoids (Some at) near (la, e) f = record {
    there = la;
    chosen = record { there = Contains-get_or block at [] la; else_near = λ t. absurd (clash (p (row_in_block block at)) t e) };
    is = e;
  }
  avoids None (Some spot) all (la, e, is, near) = record {
    there = la;
    chosen = record {
      there = Contains-get_or block spot.at [] la;
      else_near = λ t y m. let i = place block y m in (
        subst (λ z. p z ≡ true) i.2 (all i.0 i.1),
        subst (λ z. Before way (cell z col) (cell y col)) (sym is) (subst (λ z. Before way (cell spot.row.now col) (cell z col)) i.2
            (before-turned way (cell (row_in_block block i.0) col) (cell spot.row.now col) (near i.0 i.1 (all i.0 i.1)))),
      );
    };
    is = (e, is);
  }
  avoids None None all none = absurd (clash (p (row_in_block block 0)) (all 0 some) (none 0 some))

  pub meets : (far : Option Spot) → IsFurthest way p col block (length block) far → IsTakenAt (MeetsFar way p col) p block (spot_place far) (spot_row far)
  meets (Some spot) (la, e, is, far) = record {
    there = la;
    chosen = record {
      there = Contains-get_or block spot.at [] la;
      far = λ y m t. let i = place block y m in
          (e, subst (λ z. Before way (cell y col) (cell z col)) (sym is) (subst (λ z. Before way (cell z col) (cell spot.row.now col)) i.2 (far i.0 i.1 (subst (λ z. p z ≡ true) (sym i.2) t))));
    };
    is = (e, is);
  }
  meets None none = record {
    there = some;
    chosen = record {
      there = Contains-get_or block 0 [] some;
      far = λ y m t. let i = place block y m in absurd (clash (p (row_in_block block i.0)) (subst (λ z. p z ≡ true) (sym i.2) t) (none i.0 i.1));
    };
    is = none 0 some;
  }

-- the places are of rows that were read
module _ (way : Way) (p : List Value → Bool) (col : ℕ) (block : List (List Value)) (n : ℕ) where
  pub avoided-in : 0 < n → (m : Option ℕ) (near : Option Spot) → IsMissing p block n m → IsFurthest way p col block n near → avoided_place m near < n
  avoided-in some (Some at) near m f = m.0
  avoided-in some None (Some spot) m f = f.0
  avoided-in some None None m f = some

  pub spot-in : 0 < n → (far : Option Spot) → IsFurthest way p col block n far → spot_place far < n
  spot-in some (Some spot) f = f.0
  spot-in some None f = some

  pub near-fits : (start : ℕ) (near : Option Spot) → IsFurthest way p col block n near → start + n < 2 ^ 31 → IfSome near (λ spot. start + spot.at < 2 ^ 31)
  near-fits start (Some spot) f l = let a = f.0 in omega (arith, a, l)
  near-fits start None f l = tt
