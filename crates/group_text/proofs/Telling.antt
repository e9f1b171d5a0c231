-- Sizes and rows told one after another.
use Rattle.std.proofs.Common.{◌≡◌, ℕ, ◌<◌, ◌≤◌, ◌+◌, List, [], ◌∷◌, ◌++◌, length, length-append, Result, Ok, Err, refl, sym, ◌∙◌, ap, subst, arith, inl, inr, Bool, true, false, cond, ◌&&◌, ◌||◌}
use Rattle.std.specs.Prelude.{Contains, ℤ}
use Rattle.std.specs.List.{sum}
use Rattle.std.proofs.lemmas.List.Sums.{sum_by_push}
use Rattle.std.proofs.lemmas.List.Elements.{Contains-append_cases}
use Rattle.cqa_value.proofs.Words.{mem-cases, mem-nil}
use Rattle.cnf_form.specs.Lines.{is_nil}
use Rattle.cnf_form.specs.Scans.{cons_token}
use Rattle.block_choices.specs.declared.row.BlockRow.{BlockRow}
use Rattle.block_choices.specs.Choices.{IsThere}
use Rattle.group_text.specs.declared.fault.Fault.{Fault}
use Rattle.group_text.specs.Sizes.{AreSizes, going_on, size_of, sizes_after}
use Rattle.choice_values.specs.Values.{Weighted}
use Rattle.group_text.specs.Groups.{told_list}
use Rattle.group_text.specs.Names.{AreNamed, row_of, rows_after}
use Rattle.group_text.specs.Saying.{is_word}
use Rattle.group_text.specs.Weights.{before_weight, from_weight, weight_of}

pub sum_push : (xs : List ℕ) (x : ℕ) → sum (xs ++ x ∷ []) ≡ sum xs + x
sum_push xs x = sum_by_push (λ (y : ℕ). y) xs x

-- a token that tells a size leaves the rest to be told behind it
pub size_more : (before token : List ℕ) (ts : List (List ℕ)) (s : ℕ) → 0 < length token → Ok s ≡ size_of (sum before) token → sizes_after before (cons_token token ts) ≡ sizes_after (before ++ s ∷ []) ts
size_more before [] ts s h e = absurd (omega (arith, h))
size_more before (b ∷ bs) ts s h e = ap (λ (r : Result ℕ Fault). going_on r (λ s. sizes_after (before ++ s ∷ []) ts)) (sym e)

pub are_more : (before : List ℕ) (s : ℕ) → AreSizes before → 0 < s → sum before + s ≤ 1000000 → AreSizes (before ++ s ∷ [])
are_more before s are h fits = record {
  some = λ x m. elim (Contains-append_cases before (s ∷ []) x m) [
    | inl old ↦ are.some x old
    | inr new ↦ elim (mem-cases x s [] new) [ inl same ↦ subst (λ (n : ℕ). 0 < n) same h | inr none ↦ absurd (mem-nil x none) ]
  ];
  few = omega (arith, sum_push before s, fits);
}

-- a token that names a row leaves the rest to be named behind it
pub row_more : (sizes : List ℕ) (named : ℕ) (before : List BlockRow) (token : List ℕ) (ts : List (List ℕ)) (x : BlockRow) → 0 < length token → Ok x ≡ row_of sizes (named + length before) token → rows_after sizes named before (cons_token token ts) ≡ rows_after sizes named (before ++ x ∷ []) ts
row_more sizes named before [] ts x h e = absurd (omega (arith, h))
row_more sizes named before (b ∷ bs) ts x h e = ap (λ (r : Result BlockRow Fault). going_on r (λ y. rows_after sizes named (before ++ y ∷ []) ts)) (sym e)

-- a row that is there, behind others that are
pub there_more : (sizes : List ℕ) (before : List BlockRow) (x : BlockRow) → ((y : BlockRow) → Contains before y → IsThere sizes y) → IsThere sizes x → (y : BlockRow) → Contains (before ++ x ∷ []) y → IsThere sizes y
there_more sizes before x old new y m = elim (Contains-append_cases before (x ∷ []) y m) [
  | inl h ↦ old y h
  | inr h ↦ elim (mem-cases y x [] h) [ inl same ↦ subst (IsThere sizes) same new | inr none ↦ absurd (mem-nil y none) ]
]

pub rows_are_more : (sizes : List ℕ) (named : ℕ) (before : List BlockRow) (x : BlockRow) → AreNamed sizes named before → IsThere sizes x → named + length before < 16000000 → AreNamed sizes named (before ++ x ∷ [])
rows_are_more sizes named before x are new few = record {
  there = there_more sizes before x are.there new;
  few = omega (arith, length-append before (x ∷ []), few);
}

-- ---- the weight behind the rows

-- a token that isn't `=` is one of the rows
pub before_more : (may : Bool) (token : List ℕ) (ts : List (List ℕ)) → 0 < length token → (may && is_word 61 token) ≡ false → before_weight may (cons_token token ts) ≡ cons_token token (before_weight may ts)
before_more may [] ts h e = absurd (omega (arith, h))
before_more may (b ∷ bs) ts h e = ap (λ (c : Bool). cond c [] ((b ∷ bs) ∷ before_weight may ts)) e

pub from_more : (may : Bool) (token : List ℕ) (ts : List (List ℕ)) → 0 < length token → (may && is_word 61 token) ≡ false → from_weight may (cons_token token ts) ≡ from_weight may ts
from_more may [] ts h e = absurd (omega (arith, h))
from_more may (b ∷ bs) ts h e = ap (λ (c : Bool). cond c ((b ∷ bs) ∷ ts) (from_weight may ts)) e

-- no token, or `=`, ends the rows
pub before_end : (may : Bool) (token : List ℕ) (ts : List (List ℕ)) → (is_nil token || (may && is_word 61 token)) ≡ true → before_weight may (cons_token token ts) ≡ []
before_end may [] ts e = refl
before_end may (b ∷ bs) ts e = ap (λ (c : Bool). cond c [] ((b ∷ bs) ∷ before_weight may ts)) e

pub from_end : (may : Bool) (token : List ℕ) (ts : List (List ℕ)) → (is_nil token || (may && is_word 61 token)) ≡ true → from_weight may (cons_token token ts) ≡ cons_token token ts
from_end may [] ts e = refl
from_end may (b ∷ bs) ts e = ap (λ (c : Bool). cond c ((b ∷ bs) ∷ ts) (from_weight may ts)) e

-- the rows and the weight make the list
pub list_told : (sizes : List ℕ) (named : ℕ) (rows weight ts : List (List ℕ)) (names : List BlockRow) (w : ℤ) → rows_after sizes named [] rows ≡ Ok names → weight ≡ ts → Ok w ≡ weight_of ts → told_list sizes named rows weight ≡ Ok (record { weight = w; names = names })
list_told sizes named rows weight ts names w told from read =
    ap (λ (r : Result (List BlockRow) Fault). going_on r (λ (xs : List BlockRow). going_on (weight_of weight) (λ (v : ℤ). Ok (record { weight = v; names = xs })))) told
    ∙ ap (λ (us : List (List ℕ)). going_on (weight_of us) (λ (v : ℤ). Ok (record { weight = v; names = names }))) from ∙ ap (λ (r : Result ℤ Fault). going_on r (λ (v : ℤ). Ok (record { weight = v; names = names }))) (sym read)

-- a fault of the rows, or of the weight
pub rows_faulty : (sizes : List ℕ) (named : ℕ) (rows weight : List (List ℕ)) (fault : Fault) → rows_after sizes named [] rows ≡ Err fault → told_list sizes named rows weight ≡ Err fault
rows_faulty sizes named rows weight fault told =
    ap (λ (r : Result (List BlockRow) Fault). going_on r (λ (xs : List BlockRow). going_on (weight_of weight) (λ (v : ℤ). Ok (record { weight = v; names = xs })))) told

pub weight_faulty : (sizes : List ℕ) (named : ℕ) (rows weight ts : List (List ℕ)) (names : List BlockRow) (fault : Fault) → rows_after sizes named [] rows ≡ Ok names → weight ≡ ts → Err fault ≡ weight_of ts → told_list sizes named rows weight ≡ Err fault
weight_faulty sizes named rows weight ts names fault told from read =
    ap (λ (r : Result (List BlockRow) Fault). going_on r (λ (xs : List BlockRow). going_on (weight_of weight) (λ (v : ℤ). Ok (record { weight = v; names = xs })))) told
    ∙ ap (λ (us : List (List ℕ)). going_on (weight_of us) (λ (v : ℤ). Ok (record { weight = v; names = names }))) from ∙ ap (λ (r : Result ℤ Fault). going_on r (λ (v : ℤ). Ok (record { weight = v; names = names }))) (sym read)
