-- Choices as lists and as functions, and what lists are worth by each.
use Rattle.std.proofs.Common.{◌≡◌, ◌++◌, ℕ, zero, suc, ◌+◌, ◌<◌, ◌≤◌, Bool, true, false, ◌&&◌, ◌↔◌, if◌then◌else◌, List, [], ◌∷◌, length, map, replicate, Contains, Some, slice_get, get_or, inl, inr, refl, sym, ◌∙◌, ap, subst, arith}
use Rattle.std.specs.Prelude.{IsTrue, nat_eq, nat_lt, slice_index, slice_index_or, ℤ, pos, ◌+ℤ◌, ◌≤ℤ◌, neg_ℤ}
use Rattle.std.proofs.lemmas.Int.{ints}
use Rattle.std.proofs.lemmas.List.{get_or_past, length-replicate}
use Rattle.std.proofs.lemmas.Option.{slice_get-get_or, slice_get_cases, get_or_from_slice_get}
use Rattle.std.proofs.lemmas.Bool.{cases_lt, lt-ltb, ltb-true, eqb-true}
use Rattle.std.proofs.Common.{eq-eqb, None, ◌⊎◌}
use Rattle.cqa_value.proofs.Words.{mem-tail, mem-head, mem-nil, mem-cases}
use Rattle.block_choices.specs.declared.row.BlockRow.{BlockRow}
use Rattle.block_choices.specs.Choices.{IsThere, AreThere, IsChoice, Chooses, HoldsWhole}
use Rattle.choice_values.specs.declared.best.Best.{Best}
use Rattle.choice_values.specs.Values.{Weighted, AreLists, holds, chooses, value, IsLeast, IsGreatest}
use Rattle.choice_values.specs.Negation.{negated}
use Rattle.choice_values.specs.Choosing.{size_at, PicksWithin, picked, AreRows, keeps, worth, worths, IsSolved}

pub choice-of : (sizes rows : List ℕ) → length rows ≡ length sizes → PicksWithin sizes (picked rows) → IsChoice sizes rows
choice-of [] [] e h = tt
choice-of [] (r ∷ rows) e h = absurd (omega (arith, e))
choice-of (s ∷ sizes) [] e h = absurd (omega (arith, e))
choice-of (s ∷ sizes) (r ∷ rows) e h = (h 0, choice-of sizes rows (omega (arith, e)) (λ b. h (suc b)))

pub choice-length : (sizes c : List ℕ) → IsChoice sizes c → length c ≡ length sizes
choice-length [] [] h = refl
choice-length [] (r ∷ c) h = absurd h
choice-length (s ∷ sizes) [] h = absurd h
choice-length (s ∷ sizes) (r ∷ c) h = ap suc (choice-length sizes c h.1)

pub choice-picks : (sizes c : List ℕ) → IsChoice sizes c → PicksWithin sizes (picked c)
choice-picks [] [] h b = omega arith
choice-picks [] (r ∷ c) h b = absurd h
choice-picks (s ∷ sizes) [] h b = absurd h
choice-picks (s ∷ sizes) (r ∷ c) h zero = h.0
choice-picks (s ∷ sizes) (r ∷ c) h (suc b) = choice-picks sizes c h.1 b

there-within : (sizes : List ℕ) (x : BlockRow) → IsThere sizes x → x.block < length sizes
there-within sizes x h = elim (cases_lt x.block (length sizes)) [
  | inl l ↦ l
  | inr le ↦ absurd (let e = get_or_past sizes x.block 0 le in omega (arith, h, e))
]

pub holds-keeps : (sizes c : List ℕ) → length c ≡ length sizes → (names : List BlockRow) → ((x : BlockRow) → Contains names x → IsThere sizes x) → holds c names ≡ keeps (picked c) names
holds-keeps sizes c e [] h = refl
holds-keeps sizes c e (x ∷ names) h =
    ap (λ b. (b && nat_eq (slice_index c x.block) x.row) && holds c names) (lt-ltb x.block (length c) (let l = there-within sizes x (h x (mem-head x names)) in omega (arith, l, e)))
    ∙ ap (λ b. nat_eq (picked c x.block) x.row && b) (holds-keeps sizes c e names (λ y m. h y (mem-tail y x names m)))

pub value-worths : (sizes c : List ℕ) → length c ≡ length sizes → (lists : List Weighted) → AreThere sizes (map (λ l. l.names) lists) → value c lists ≡ worths (picked c) lists
value-worths sizes c e [] h = refl
value-worths sizes c e (l ∷ lists) h =
    ap (λ b. (if b then l.weight else pos 0) +ℤ value c lists) (holds-keeps sizes c e l.names (h l.names (mem-head l.names (map (λ l. l.names) lists))))
    ∙ ap (λ n. worth (picked c) l +ℤ n) (value-worths sizes c e lists (λ names m. h names (mem-tail names l.names (map (λ l. l.names) lists) m)))

pub least-of : (sizes : List ℕ) (lists : List Weighted) (old : List ℕ) (best : Best) → AreThere sizes (map (λ l. l.names) lists) → IsSolved sizes lists old best.rows.items best.value → IsLeast sizes lists best
least-of sizes lists old best there h = record {
  choice = choice-of sizes best.rows.items h.rows.size h.rows.within;
  has = h.has ∙ sym (value-worths sizes best.rows.items h.rows.size lists there);
  least = λ c k. subst (λ n. best.value ≤ℤ n) (sym (value-worths sizes c (choice-length sizes c k) lists there)) (h.least (picked c) (choice-picks sizes c k) tt);
}

zeros : (n x : ℕ) → slice_index (replicate n 0) x ≡ 0
zeros zero x = get_or_past [] x 0 (omega arith)
zeros (suc n) zero = refl
zeros (suc n) (suc x) = zeros n x

some-at : (sizes : List ℕ) → ((s : ℕ) → Contains sizes s → 0 < s) → (b : ℕ) → 0 < size_at sizes b
some-at [] h b = omega arith
some-at (s ∷ sizes) h zero = h s (mem-head s sizes)
some-at (s ∷ sizes) h (suc b) = some-at sizes (λ t m. h t (mem-tail t s sizes m)) b

pub rows-begun : (sizes : List ℕ) → ((s : ℕ) → Contains sizes s → 0 < s) → AreRows sizes (replicate (length sizes) 0)
rows-begun sizes h = record { size = length-replicate (length sizes) 0; within = λ b. (let z = zeros (length sizes) b in let s = some-at sizes h b in omega (arith, z, s)) }

-- ---- negatives

pub value-negated : (c : List ℕ) (lists : List Weighted) → value c (negated lists) ≡ neg_ℤ (value c lists)
value-negated c [] = refl
value-negated c (l ∷ lists) = ap (λ n. (if holds c l.names then neg_ℤ l.weight else pos 0) +ℤ n) (value-negated c lists) ∙ turned (holds c l.names)
  where
    turned : (b : Bool) → (if b then neg_ℤ l.weight else pos 0) +ℤ neg_ℤ (value c lists) ≡ neg_ℤ ((if b then l.weight else pos 0) +ℤ value c lists)
    turned true = omega (arith, ints)
    turned false = omega (arith, ints)

names-negated : (lists : List Weighted) → map (λ l. l.names) (negated lists) ≡ map (λ l. l.names) lists
names-negated [] = refl
names-negated (l ∷ lists) = ap (λ ns. l.names ∷ ns) (names-negated lists)

pub lists-negated : (sizes : List ℕ) (lists : List Weighted) → AreLists sizes lists → AreLists sizes (negated lists)
lists-negated sizes lists h = record { some = h.some; there = subst (AreThere sizes) (sym (names-negated lists)) h.there }

pub greatest-of : (sizes : List ℕ) (lists : List Weighted) (least best : Best) → IsLeast sizes (negated lists) least → best.rows.items ≡ least.rows.items → best.value ≡ neg_ℤ least.value → IsGreatest sizes lists best
greatest-of sizes lists least best h rows n = record {
  choice = subst (IsChoice sizes) (sym rows) h.choice;
  has = n ∙ (ap neg_ℤ (h.has ∙ value-negated least.rows.items lists) ∙ (twice (value least.rows.items lists) ∙ ap (λ c. value c lists) (sym rows)));
  greatest = λ c k. (let z = h.least c k in let e = value-negated c lists in omega (arith, ints, z, e, n));
}
  where
    twice : (x : ℤ) → neg_ℤ (neg_ℤ x) ≡ x
    twice x = omega (arith, ints)

pub negated-push : (lists : List Weighted) (l : Weighted) → negated (lists ++ l ∷ []) ≡ negated lists ++ record { weight = neg_ℤ l.weight; names = l.names } ∷ []
negated-push [] l = refl
negated-push (k ∷ lists) l = ap (λ ls. record { weight = neg_ℤ k.weight; names = k.names } ∷ ls) (negated-push lists l)

-- ---- holds is HoldsWhole

both : (a b : Bool) → a && b ≡ true → (a ≡ true) × (b ≡ true)
both true b e = (refl, e)
both false b e = cc

joined : (a b : Bool) → a ≡ true → b ≡ true → a && b ≡ true
joined a b e f = ap (λ x. x && b) e ∙ f

chooses-to : (c : List ℕ) (x : BlockRow) → chooses c x ≡ true → Chooses c x
chooses-to c x e =
    let h = both (nat_lt x.block (length c)) (nat_eq (slice_index c x.block) x.row) e in
    slice_get-get_or c x.block 0 (ltb-true x.block (length c) h.0) ∙ ap Some (eqb-true (slice_index c x.block) x.row h.1)

chooses-from : (c : List ℕ) (x : BlockRow) → Chooses c x → chooses c x ≡ true
chooses-from c x e = elim (cases_lt x.block (length c)) [
  | inl l ↦ joined (nat_lt x.block (length c)) (nat_eq (slice_index c x.block) x.row) (lt-ltb x.block (length c) l) (eq-eqb (slice_index c x.block) x.row (get_or_from_slice_get c x.block x.row 0 e))
  | inr le ↦ absurd (past le)
]
  where
    past : length c ≤ x.block → ⊥
    past le = elim (slice_get_cases c x.block).1 [
      | inl h ↦ (let l = h.1 in omega (arith, l, le))
      | inr h ↦ (let d : Some x.row ≡ None = sym e ∙ h.1 in cc)
    ]

pub holds-whole : (c : List ℕ) (names : List BlockRow) → IsTrue (holds c names) ↔ HoldsWhole c names
holds-whole c [] = ((λ t x m. absurd (mem-nil x m)), (λ h. refl))
holds-whole c (y ∷ names) = (
  (λ t x m. (let h = both (chooses c y) (holds c names) t in elim (mem-cases x y names m) [
    | inl e ↦ subst (λ (z : BlockRow). Chooses c z) e (chooses-to c y h.0)
    | inr k ↦ (holds-whole c names).0 h.1 x k
  ])),
  (λ h. joined (chooses c y) (holds c names) (chooses-from c y (h y (mem-head y names))) ((holds-whole c names).1 (λ x m. h x (mem-tail x y names m)))),
)
