-- The component law: least values of parts that share no block add up.
use Rattle.std.proofs.Common.{Result, Ok, Err, ◌≡◌, ◌≢◌, ℕ, zero, suc, ◌+◌, ◌<◌, ◌≤◌, Bool, ◌&&◌, if◌then◌else◌, List, [], ◌∷◌, ◌++◌, length, take, get_or, set, refl, sym, ◌∙◌, ap, subst, arith}
use Rattle.std.specs.Prelude.{IfOk, nat_eq, ℤ, pos, ◌+ℤ◌, ◌≤ℤ◌}
use Rattle.std.proofs.lemmas.Int.{ints}
use Rattle.std.proofs.lemmas.List.{take_more}
use Rattle.block_choices.specs.declared.row.BlockRow.{BlockRow}
use Rattle.choice_values.specs.Values.{Weighted}
use Rattle.choice_values.specs.Choosing.{picked, AreRows, keeps, worth, worths, IsFree, AreFree, IsSolved}
use Rattle.choice_values.specs.Parts.{IsOf, AreOf, AreApart, total, AreAllFree, AreParts, AreSolved, AreNoLists, IsSortedIn}
use Rattle.choice_values.proofs.Worths.{worths-push, worths-in, in-append, are-in-push, are-in-apart}

-- ---- blocks of other parts

is-free : (number : ℕ → ℕ) (s x : ℕ) (ps : List BlockRow) → IsOf number s ps → number x ≢ s → IsFree x ps
is-free number s x [] h n = tt
is-free number s x (p ∷ ps) h n = ((λ e. n (ap number (sym e) ∙ h.0)), is-free number s x ps h.1 n)

pub are-free : (number : ℕ → ℕ) (s x : ℕ) (ts : List Weighted) → AreOf number s ts → number x ≢ s → AreFree x ts
are-free number s x [] h n = tt
are-free number s x (t ∷ ts) h n = (is-free number s x t.names h.0 n, are-free number s x ts h.1 n)

-- ---- choices that agree on the blocks of parts

module _ (number : ℕ → ℕ) (c d : ℕ → ℕ) where
  pub total-of : (k : ℕ) (ps : List (List Weighted)) → ((x : ℕ) → number x < k + length ps → c x ≡ d x) → AreApart number k ps → total c ps ≡ total d ps
  total-of k [] same h = refl
  total-of k (p ∷ ps) same h =
      ap (λ n. n +ℤ total c ps) (worths-in (λ x. number x ≡ k) c d (λ x e. same x (omega (arith, e))) p h.0)
      ∙ ap (λ n. worths d p +ℤ n) (total-of (suc k) ps (λ x l. same x (omega (arith, l))) h.1)

-- ---- the first parts, and the next

pub part-at : (number : ℕ → ℕ) (k i : ℕ) (d : List Weighted) (ps : List (List Weighted)) → AreApart number k ps → i < length ps → AreOf number (k + i) (get_or ps i d)
part-at number k i d [] h l = absurd (omega (arith, l))
part-at number k zero d (p ∷ ps) h l = subst (λ n. AreOf number n p) (let e : k ≡ k + 0 = omega arith in e) h.0
part-at number k (suc i) d (p ∷ ps) h l = subst (λ n. AreOf number n (get_or ps i d)) (let e : suc k + i ≡ k + suc i = omega arith in e) (part-at number (suc k) i d ps h.1 (omega (arith, l)))

pub apart-take : (number : ℕ → ℕ) (k i : ℕ) (ps : List (List Weighted)) → AreApart number k ps → AreApart number k (take i ps)
apart-take number k zero ps h = tt
apart-take number k (suc i) [] h = tt
apart-take number k (suc i) (p ∷ ps) h = (h.0, apart-take number (suc k) i ps h.1)

pub total-push : (c : ℕ → ℕ) (ps : List (List Weighted)) (p : List Weighted) → total c (ps ++ p ∷ []) ≡ total c ps +ℤ worths c p
total-push c [] p = omega (arith, ints)
total-push c (q ∷ ps) p = ap (λ n. worths c q +ℤ n) (total-push c ps p) ∙ omega (arith, ints)

all-free-apart : (x : ℕ) (ps : List (List Weighted)) (p : List Weighted) → AreAllFree x (ps ++ p ∷ []) → AreAllFree x ps × AreFree x p
all-free-apart x [] p f = (tt, f.0)
all-free-apart x (q ∷ ps) p f = (let r = all-free-apart x ps p f.1 in ((f.0, r.0), r.1))

length-take : (i : ℕ) (ps : List (List Weighted)) → length (take i ps) ≤ i
length-take zero ps = omega arith
length-take (suc i) [] = omega arith
length-take (suc i) (p ∷ ps) = let r = length-take i ps in omega (arith, r)

sum-mono : (a b c d : ℤ) → a ≤ℤ c → b ≤ℤ d → (a +ℤ b) ≤ℤ (c +ℤ d)
sum-mono a b c d h k = omega (arith, ints, h, k)

pub solved-none : (sizes rows : List ℕ) → AreRows sizes rows → AreSolved sizes [] rows rows (pos 0)
solved-none sizes rows h = record { rows = h; stays = λ x f. refl; has = refl; least = λ c w t. omega (arith, ints) }

module _ (sizes : List ℕ) (number : ℕ → ℕ) (parts : List (List Weighted)) (apart : AreApart number 0 parts) (i : ℕ) (l : i < length parts) (p d : List Weighted) (is : get_or parts i d ≡ p)
    (old mid new : List ℕ) (n m sum : ℤ) (h : AreSolved sizes (take i parts) old mid n) (g : IsSolved sizes p mid new m) (s : sum ≡ n +ℤ m) where
  of_i : AreOf number i p
  of_i = subst (AreOf number i) is (subst (λ n. AreOf number n (get_or parts i d)) (let z : 0 + i ≡ i = omega arith in z) (part-at number 0 i d parts apart l))

  more : take (i + 1) parts ≡ take i parts ++ p ∷ []
  more = take_more parts i d l ∙ ap (λ q. take i parts ++ q ∷ []) is

  earlier : (x : ℕ) → number x < 0 + length (take i parts) → picked new x ≡ picked mid x
  earlier x k = g.stays x (are-free number i x p of_i (λ e. (let z = length-take i parts in omega (arith, e, k, z))))

  total-is : (c : ℕ → ℕ) → total c (take (i + 1) parts) ≡ total c (take i parts) +ℤ worths c p
  total-is c = ap (total c) more ∙ total-push c (take i parts) p

  pub solved-more : AreSolved sizes (take (i + 1) parts) old new sum
  solved-more = record {
    rows = g.rows;
    stays = λ x f. (let a = all-free-apart x (take i parts) p (subst (AreAllFree x) more f) in g.stays x a.1 ∙ h.stays x a.0);
    has = s ∙ (ap (λ k. k +ℤ m) (h.has ∙ sym (total-of number (picked new) (picked mid) 0 (take i parts) earlier (apart-take number 0 i parts apart)))
        ∙ (ap (λ k. total (picked new) (take i parts) +ℤ k) g.has ∙ sym (total-is (picked new))));
    least = λ c w t. subst (λ k. k ≤ℤ total c (take (i + 1) parts)) (sym s) (subst (λ k. (n +ℤ m) ≤ℤ k) (sym (total-is c)) (sum-mono n m (total c (take i parts)) (worths c p) (h.least c w t) (g.least c w t)));
  }

-- ---- lists that are sorted in

-- the parts of the first lists
pub record ArePartsBy (number : ℕ → ℕ) (lists : List Weighted) (parts : List (List Weighted)) : Type 0 where
  pub apart : AreApart number 0 parts
  pub same : (c : ℕ → ℕ) → worths c lists ≡ total c parts
  pub fewer : (x : ℕ) → AreFree x lists → AreAllFree x parts

apart-set : (number : ℕ → ℕ) (l : Weighted) (k i : ℕ) (ps : List (List Weighted)) → AreApart number k ps → IsOf number (k + i) l.names → AreApart number k (set ps i (get_or ps i [] ++ l ∷ []))
apart-set number l k i [] h e = h
apart-set number l k zero (p ∷ ps) h e = (are-in-push (λ x. number x ≡ k) p l h.0 (subst (λ n. IsOf number n l.names) (let z : k + 0 ≡ k = omega arith in z) e), h.1)
apart-set number l k (suc i) (p ∷ ps) h e = (h.0, apart-set number l (suc k) i ps h.1 (subst (λ n. IsOf number n l.names) (let z : k + suc i ≡ suc k + i = omega arith in z) e))

total-set : (c : ℕ → ℕ) (l : Weighted) (i : ℕ) (ps : List (List Weighted)) → i < length ps → total c (set ps i (get_or ps i [] ++ l ∷ [])) ≡ total c ps +ℤ worth c l
total-set c l i [] k = absurd (omega (arith, k))
total-set c l zero (p ∷ ps) k = ap (λ n. n +ℤ total c ps) (worths-push c p l) ∙ omega (arith, ints)
total-set c l (suc i) (p ∷ ps) k = ap (λ n. worths c p +ℤ n) (total-set c l i ps (omega (arith, k))) ∙ omega (arith, ints)

all-free-set : (x : ℕ) (l : Weighted) (i : ℕ) (ps : List (List Weighted)) → AreAllFree x ps → IsFree x l.names → AreAllFree x (set ps i (get_or ps i [] ++ l ∷ []))
all-free-set x l i [] f e = f
all-free-set x l zero (p ∷ ps) f e = (are-in-push (λ k. k ≢ x) p l f.0 e, f.1)
all-free-set x l (suc i) (p ∷ ps) f e = (f.0, all-free-set x l i ps f.1 e)

pub parts-none : (number : ℕ → ℕ) (parts : List (List Weighted)) → AreNoLists parts → ArePartsBy number [] parts
parts-none number parts h = record { apart = none-apart 0 parts h; same = λ c. none-total c parts h; fewer = λ x f. none-free x parts h }
  where
    none-apart : (k : ℕ) (ps : List (List Weighted)) → AreNoLists ps → AreApart number k ps
    none-apart k [] h = tt
    none-apart k (p ∷ ps) h = (subst (AreOf number k) (sym h.0) tt, none-apart (suc k) ps h.1)

    none-total : (c : ℕ → ℕ) (ps : List (List Weighted)) → AreNoLists ps → pos 0 ≡ total c ps
    none-total c [] h = refl
    none-total c (p ∷ ps) h = (let z : pos 0 ≡ pos 0 +ℤ pos 0 = omega (arith, ints) in z) ∙ (ap (λ n. pos 0 +ℤ n) (none-total c ps h.1) ∙ ap (λ q. worths c q +ℤ total c ps) (sym h.0))

    none-free : (x : ℕ) (ps : List (List Weighted)) → AreNoLists ps → AreAllFree x ps
    none-free x [] h = tt
    none-free x (p ∷ ps) h = (subst (AreFree x) (sym h.0) tt, none-free x ps h.1)

pub parts-more : (number : ℕ → ℕ) (front : List Weighted) (l : Weighted) (old new : List (List Weighted)) → ArePartsBy number front old → IsSortedIn number l old new → ArePartsBy number (front ++ l ∷ []) new
parts-more number front l old new h s = record {
  apart = subst (AreApart number 0) (sym s.added) (apart-set number l 0 s.at old h.apart (subst (λ n. IsOf number n l.names) (let z : s.at ≡ 0 + s.at = omega arith in z) s.blocks));
  same = λ c. worths-push c front l ∙ (ap (λ n. n +ℤ worth c l) (h.same c) ∙ (sym (total-set c l s.at old s.there) ∙ ap (total c) (sym s.added)));
  fewer = λ x f. (let a = are-in-apart (λ k. k ≢ x) front l f in subst (AreAllFree x) (sym s.added) (all-free-set x l s.at old (h.fewer x a.0) a.1));
}

pub none-push : (parts : List (List Weighted)) → AreNoLists parts → AreNoLists (parts ++ [] ∷ [])
none-push [] h = (refl, tt)
none-push (p ∷ parts) h = (h.0, none-push parts h.1)

pub parts-whole : (number : ℕ → ℕ) (front lists : List Weighted) (parts : List (List Weighted)) → front ≡ lists → ArePartsBy number front parts → AreParts lists parts
parts-whole number front lists parts e h = record {
  apart = (number, h.apart);
  same = λ c. ap (worths c) (sym e) ∙ h.same c;
  fewer = λ x f. h.fewer x (subst (AreFree x) (sym e) f);
}

-- the least value of the parts is that of the lists
pub solved-parts : (sizes : List ℕ) (lists : List Weighted) (parts : List (List Weighted)) (old new : List ℕ) (n : ℤ) → AreParts lists parts → AreSolved sizes parts old new n → IsSolved sizes lists old new n
solved-parts sizes lists parts old new n p h = record {
  rows = h.rows;
  stays = λ x f. h.stays x (p.fewer x f);
  has = h.has ∙ sym (p.same (picked new));
  least = λ c w t. subst (λ k. n ≤ℤ k) (sym (p.same c)) (h.least c w t);
}

-- what holds of an answer
pub if-ok : {X E : Type 0} {P Q : X → Type 0} (r : Result X E) → ((x : X) → P x → Q x) → IfOk r P → IfOk r Q
if-ok (Ok x) f h = f x h
if-ok (Err e) f h = tt
