-- Codes of lists, and the buckets of rows by them.
use Rattle.std.proofs.Common.{◌≡◌, ◌≢◌, ℕ, zero, suc, ◌*◌, ◌/◌, ◌%◌, ◌<◌, ◌^◌, ◌↔◌, List, length, map, inl, inr, Option, nat_eq, IsTrue, get_or, refl, sym, ◌∙◌, ap, subst, arith, Some, None, pos}
use Rattle.std.proofs.Math.IntN.{◌+ℤ◌, -ℤ-+ℤ_cancel}
use Rattle.std.proofs.Math.Nat.{mod-lt, div-lt_iff_lt-mul, mul-lt-mul_of_pos_right, mul_comm}
use Rattle.std.proofs.Math.ListN.{get_or-map}
use Rattle.std.proofs.lemmas.Bool.{eq-eqb, eqb-true, cases_lt}
use Rattle.std.proofs.lemmas.List.{get_or_past}
use Rattle.cqa_value.specs.declared.value.Value.{Value}
use Rattle.weak_pairs.specs.declared.packed.TheConstants.{HALF, MULTIPLIER, SHIFT}
use Rattle.weak_pairs.specs.declared.lists.ListForm.{ListForm}
use Rattle.weak_pairs.specs.declared.lists.ListForm.TheVariants.{Packed, Borrowed}
use Rattle.weak_pairs.specs.Packing.{integer_of, list_of, bucket_of_code}
use Rattle.value_numbers.specs.Digests.{digest}
use Rattle.weak_pairs.specs.Digests.{bucket_of, bucket_of_list, lists_in}
use Rattle.weak_pairs.specs.EdgeNumbers.{AreBuckets, HaveOne}

same-integer : (m n : ℕ) → integer_of m ≡ integer_of n → m ≡ n
same-integer m n e = let same : pos m ≡ pos n = sym (-ℤ-+ℤ_cancel (pos m) HALF) ∙ ap (λ z. z +ℤ HALF) e ∙ -ℤ-+ℤ_cancel (pos n) HALF in cc same

-- codes of one list are one
pub one-code : (c d : ℕ) (x : List Value) → list_of c ≡ Some x → list_of d ≡ Some x → c ≡ d
one-code zero d x hc hd = absurd (cc hc)
one-code (suc c) zero x hc hd = absurd (cc hd)
one-code (suc c) (suc d) x hc hd =
    let same = hc ∙ sym hd in
    let high : integer_of (c / 4294967296) ≡ integer_of (d / 4294967296) = cc same in
    let low : integer_of (c % 4294967296) ≡ integer_of (d % 4294967296) = cc same in
    let high_one = same-integer (c / 4294967296) (d / 4294967296) high in
    let low_one = same-integer (c % 4294967296) (d % 4294967296) low in
    omega (arith, high_one, low_one)

pub some-code : (c : ℕ) (x : List Value) → list_of c ≡ Some x → c ≢ 0
some-code zero x h = absurd (cc h)
some-code (suc c) x h = λ e. omega (arith, e)

pub listed : (c : ℕ) → c ≢ 0 → (x : List Value) × (list_of c ≡ Some x)
listed zero n = absurd (n refl)
listed (suc c) n = (_, refl)

pub code-at : (codes : List ℕ) (i : ℕ) → get_or (map list_of codes) i None ≡ list_of (get_or codes i 0)
code-at codes i = get_or-map list_of codes i 0

pub upper : (n : ℕ) → n % 2 ^ 64 / SHIFT < SHIFT
upper n = let m : n % 2 ^ 64 < 2 ^ 64 = mod-lt n (omega arith) in omega (arith, m)

pub scaled : (h buckets : ℕ) → h < SHIFT → 0 < buckets → h * buckets / SHIFT < buckets
scaled h buckets l some = (div-lt_iff_lt-mul (omega arith)).1 (subst (λ z. h * buckets < z) (mul_comm SHIFT buckets) (mul-lt-mul_of_pos_right l some))

some-bucket : (buckets c : ℕ) → 0 < buckets → c ≢ 0 → bucket_of_code buckets c < buckets
some-bucket buckets zero l n = absurd (n refl)
some-bucket buckets (suc c) l n = scaled (suc c * MULTIPLIER % 2 ^ 64 / SHIFT) buckets (upper (suc c * MULTIPLIER)) l

-- how many rows there are, at least
pub long : {A : Type 0} (xs : List (Option A)) (i : ℕ) (x : A) → get_or xs i None ≡ Some x → i < length xs
long xs i x e = elim (cases_lt i (length xs)) [ inl l ↦ l | inr g ↦ absurd (cc (sym e ∙ get_or_past xs i None g)) ]

-- rows with one list have one code
pub same-code : (codes : List ℕ) (i j : ℕ) → HaveOne (map list_of codes) i j → get_or codes i 0 ≡ get_or codes j 0
same-code codes i j (x, xi, xj) = one-code (get_or codes i 0) (get_or codes j 0) x (sym (code-at codes i) ∙ xi) (sym (code-at codes j) ∙ xj)

-- rows with one list are in one bucket
one-bucket : (buckets : ℕ) (lists : ListForm) (i j : ℕ) → HaveOne (lists_in lists) i j → bucket_of buckets lists i ≡ bucket_of buckets lists j
one-bucket buckets (Packed codes) i j h = ap (bucket_of_code buckets) (same-code codes.items i j h)
one-bucket buckets (Borrowed lists) i j (x, xi, xj) = ap (bucket_of_list buckets) (xi ∙ sym xj)

-- a row with a list is in some bucket
in-some : (lists : ListForm) (i : ℕ) → HaveOne (lists_in lists) i i → bucket_of (length (lists_in lists)) lists i < length (lists_in lists)
in-some (Packed codes) i (x, xi, _) =
    some-bucket (length (map list_of codes.items)) (get_or codes.items i 0) (omega (arith, long (map list_of codes.items) i x xi)) (some-code (get_or codes.items i 0) x (sym (code-at codes.items i) ∙ xi))
in-some (Borrowed lists) i (x, xi, _) = subst (λ z. bucket_of_list (length lists.items) z < length lists.items) (sym xi) (mod-lt (digest x) (omega (arith, long lists.items i x xi)))

module _ (lists : ListForm) (buckets : List ℕ) (size : length buckets ≡ length (lists_in lists))
    (are : (i : ℕ) → i < length (lists_in lists) → get_or buckets i 0 ≡ bucket_of (length (lists_in lists)) lists i) where
  pub by-hash : AreBuckets (lists_in lists) buckets
  by-hash = record {
    size = size;
    one = λ i j h. are i (long (lists_in lists) i h.0 h.1) ∙ one-bucket (length (lists_in lists)) lists i j h ∙ sym (are j (long (lists_in lists) j h.0 h.2));
    some = λ i h. subst (λ z. z < length (lists_in lists)) (sym (are i (long (lists_in lists) i h.0 h.1))) (in-some lists i h);
  }

-- a row with a code has one list with another exactly where that has this code too
pub one-list : (codes : List ℕ) (i j : ℕ) → get_or codes i 0 ≢ 0 → IsTrue (nat_eq (get_or codes i 0) (get_or codes j 0)) ↔ HaveOne (map list_of codes) i j
one-list codes i j some = (into, back)
  where
    into : IsTrue (nat_eq (get_or codes i 0) (get_or codes j 0)) → HaveOne (map list_of codes) i j
    into e =
        let same : get_or codes i 0 ≡ get_or codes j 0 = eqb-true (get_or codes i 0) (get_or codes j 0) e in
        let x = listed (get_or codes i 0) some in
        (x.0, code-at codes i ∙ x.1, code-at codes j ∙ ap list_of (sym same) ∙ x.1)

    back : HaveOne (map list_of codes) i j → IsTrue (nat_eq (get_or codes i 0) (get_or codes j 0))
    back h = eq-eqb (get_or codes i 0) (get_or codes j 0) (same-code codes i j h)
