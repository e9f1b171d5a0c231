-- Marks tell the order of values, and follow the rows whose marks they are.
use Rattle.std.proofs.Common.{◌≡◌, ℕ, zero, suc, pos, negsuc, ◌+◌, ◌-◌, ◌*◌, ◌<◌, ◌≤◌, Bool, true, false, List, [], ◌∷◌, ◌++◌, length, map, take, drop, get_or, set, slice_get, Some, cond, leb, int_lt, refl, sym, ap, subst, ◌∙◌, arith}
use Rattle.std.specs.List.{AllWithin, insert, swap}
use Rattle.std.specs.List.Sorted.{IsPartitionedBy}
use Rattle.std.specs.Cmp.{nat_cmp_is}
use Rattle.std.specs.Cmp.Lexicographic.{slice_cmp}
use Rattle.std.specs.Ordering.{nat_cmp, int_cmp, ordering_then, ordering_reverse}
use Rattle.std.specs.declared.cmp.Ordering.TheVariants.{Less, Equal, Greater}
use Rattle.std.proofs.lemmas.Bool.{le-leb, leb-true, lt-ltb}
use Rattle.std.proofs.lemmas.List.{map-append, map-set, drop-map, length-map, take_more}
use Rattle.std.proofs.Math.ListN.{get_or-map}
use Rattle.std.proofs.lemmas.Option.{get_or_from_slice_get, slice_get_within, slice_get-map}
use Rattle.std.specs.Option.{option_map}
use Rattle.std.specs.List.{take-map}
use native.Mathlib.Decide.{dec_lt}
use Prim.Native.Nat.{min}
use borrow.Rule.Slice.PartMut.{put_mid, post_of}
use Rattle.cqa_value.specs.declared.value.Value.{Value}
use Rattle.cqa_value.specs.declared.value.Value.TheVariants.{Int, Text}
use Rattle.cqa_value.specs.Values.{value_cmp, value_cmp_total}
use Rattle.row_pieces.specs.Marks.{first_byte, later_bytes, with_bytes, value_part, value_mark, first_value, second_value, row_mark, FollowsFirst, FollowsSecond, PassesBelow, FailsAbove}
use Rattle.row_pieces.specs.declared.mark.TheConstants.{ROOM}
use Rattle.row_pieces.proofs.Halving.{front_passes, back_fails}

-- ---- numbers of first bytes

first_small : (bytes : List ℕ) → first_byte bytes ≤ 255
first_small [] = omega arith
first_small (b ∷ bs) = omega arith

-- what is lower so far stays lower
lower : (n a b : ℕ) (xs ys : List ℕ) → a < b → with_bytes a n xs < with_bytes b n ys
lower zero a b xs ys l = l
lower (suc n) a b xs ys l =
    let f = first_small xs in
    lower n (a * 256 + first_byte xs) (b * 256 + first_byte ys) (later_bytes xs) (later_bytes ys) (omega (arith, l, f))

-- a text without bytes has the least number, and one that begins with what is no byte the greatest
least : (n a : ℕ) (xs : List ℕ) → with_bytes a n [] ≤ with_bytes a n xs
least zero a xs = omega arith
least (suc n) a xs = go (dec_lt 0 (first_byte xs)) (least n (a * 256 + 0) (later_bytes xs))
  where
    go : Dec (0 < first_byte xs) → with_bytes (a * 256 + 0) n [] ≤ with_bytes (a * 256 + 0) n (later_bytes xs) → with_bytes (a * 256 + 0) n [] ≤ with_bytes (a * 256 + first_byte xs) n (later_bytes xs)
    go (yes l) r = let m = lower n (a * 256 + 0) (a * 256 + first_byte xs) [] (later_bytes xs) (omega (arith, l)) in omega (arith, m)
    go (no l) r =
        let e : 0 ≡ first_byte xs = omega (arith, l) in
        subst (λ k. with_bytes (a * 256 + 0) n [] ≤ with_bytes (a * 256 + k) n (later_bytes xs)) e r

stays : (k : ℕ) (ks : List ℕ) → 255 < k → later_bytes (k ∷ ks) ≡ k ∷ ks
stays k ks l = go (leb k 255) refl
  where
    go : (b : Bool) → leb k 255 ≡ b → later_bytes (k ∷ ks) ≡ k ∷ ks
    go true e = let m = leb-true k 255 e in absurd (omega (arith, l, m))
    go false e = rw e refl

goes : (k : ℕ) (ks : List ℕ) → k ≤ 255 → later_bytes (k ∷ ks) ≡ ks
goes k ks l = rw (le-leb k 255 l) refl

most : (n a k : ℕ) (ks ys : List ℕ) → 255 < k → with_bytes a n ys ≤ with_bytes a n (k ∷ ks)
most zero a k ks ys l = omega arith
most (suc n) a k ks ys l = go (dec_lt (first_byte ys) (first_byte (k ∷ ks))) (most n (a * 256 + first_byte (k ∷ ks)) k ks (later_bytes ys) l)
  where
    go : Dec (first_byte ys < first_byte (k ∷ ks)) → with_bytes (a * 256 + first_byte (k ∷ ks)) n (later_bytes ys) ≤ with_bytes (a * 256 + first_byte (k ∷ ks)) n (k ∷ ks) → with_bytes a (suc n) ys ≤ with_bytes a (suc n) (k ∷ ks)
    go (yes m) r = let h = lower n (a * 256 + first_byte ys) (a * 256 + first_byte (k ∷ ks)) (later_bytes ys) (later_bytes (k ∷ ks)) (omega (arith, m)) in omega (arith, h)
    go (no m) r =
        let f = first_small ys in
        let e : first_byte ys ≡ first_byte (k ∷ ks) = omega (arith, m, f, l) in
        subst (λ b. with_bytes (a * 256 + b) n (later_bytes ys) ≤ with_bytes (a * 256 + first_byte (k ∷ ks)) n (later_bytes (k ∷ ks))) (sym e)
        (subst (λ zs. with_bytes (a * 256 + first_byte (k ∷ ks)) n (later_bytes ys) ≤ with_bytes (a * 256 + first_byte (k ∷ ks)) n zs) (sym (stays k ks l)) r)

bytes_law : (n a : ℕ) (xs ys : List ℕ) → with_bytes a n xs < with_bytes a n ys → slice_cmp nat_cmp xs ys ≡ Less
bytes_law zero a xs ys l = absurd (omega (arith, l))
bytes_law (suc n) a [] [] l = absurd (omega (arith, l))
bytes_law (suc n) a [] (y ∷ ys) l = refl
bytes_law (suc n) a (x ∷ xs) [] l = let m = least (suc n) a (x ∷ xs) in absurd (omega (arith, l, m))
bytes_law (suc n) a (x ∷ xs) (y ∷ ys) l = go (dec_lt 255 x) (dec_lt x y) (dec_lt y x) (bytes_law n (a * 256 + first_byte (x ∷ xs)) xs ys)
  where
    go : Dec (255 < x) → Dec (x < y) → Dec (y < x) → (with_bytes (a * 256 + first_byte (x ∷ xs)) n xs < with_bytes (a * 256 + first_byte (x ∷ xs)) n ys → slice_cmp nat_cmp xs ys ≡ Less) → ordering_then (nat_cmp x y) (slice_cmp nat_cmp xs ys) ≡ Less
    go (yes b) q r more = let m = most (suc n) a x xs (y ∷ ys) b in absurd (omega (arith, l, m))
    go (no b) (yes q) r more = ap (λ o. ordering_then o (slice_cmp nat_cmp xs ys)) (sym (nat_cmp_is x y Less q))
    go (no b) (no q) (yes r) more =
        let m = lower n (a * 256 + first_byte (y ∷ ys)) (a * 256 + first_byte (x ∷ xs)) (later_bytes (y ∷ ys)) (later_bytes (x ∷ xs)) (omega (arith, r, b)) in
        absurd (omega (arith, l, m))
    go (no b) (no q) (no r) more =
        let e : x ≡ y = omega (arith, q, r) in
        let f : later_bytes (x ∷ xs) ≡ xs = goes x xs (omega (arith, b)) in
        let g : later_bytes (y ∷ ys) ≡ ys = goes y ys (omega (arith, b, e)) in
        let h : with_bytes (a * 256 + first_byte (x ∷ xs)) n xs < with_bytes (a * 256 + first_byte (x ∷ xs)) n ys =
        subst (λ k. with_bytes (a * 256 + first_byte (x ∷ xs)) n xs < with_bytes (a * 256 + first_byte (k ∷ ys)) n ys) (sym e)
        (subst (λ zs. with_bytes (a * 256 + first_byte (x ∷ xs)) n xs < with_bytes (a * 256 + first_byte (y ∷ ys)) n zs) g
        (subst (λ zs. with_bytes (a * 256 + first_byte (x ∷ xs)) n zs < with_bytes (a * 256 + first_byte (y ∷ ys)) n (later_bytes (y ∷ ys))) f l))
        in
        ap (λ o. ordering_then o (slice_cmp nat_cmp xs ys)) (sym (nat_cmp_is x y Equal e)) ∙ more h

first_drop : (text : List ℕ) (at : ℕ) → first_byte (drop at text) ≡ min (get_or text at 0) 255
first_drop [] zero = refl
first_drop [] (suc at) = refl
first_drop (b ∷ bs) zero = refl
first_drop (b ∷ bs) (suc at) = first_drop bs at

later_drop : (text : List ℕ) (at : ℕ) → get_or text at 0 ≤ 255 → later_bytes (drop at text) ≡ drop (suc at) text
later_drop [] zero l = refl
later_drop [] (suc at) l = refl
later_drop (b ∷ bs) zero l = goes b bs l
later_drop (b ∷ bs) (suc at) l = later_drop bs at l

-- the byte at a place goes on from those before it
pub byte_next : (text : List ℕ) (number at : ℕ) → at < 7 → get_or text at 0 ≤ 255 → with_bytes (number * 256 + get_or text at 0) (7 - (at + 1)) (drop (at + 1) text) ≡ with_bytes number (7 - at) (drop at text)
byte_next text number at l small =
    let left : suc (7 - (at + 1)) ≡ 7 - at = omega (arith, l) in
    let next : at + 1 ≡ suc at = omega arith in
    let byte : get_or text at 0 ≡ min (get_or text at 0) 255 = omega (arith, small) in
    ap (λ b. with_bytes (number * 256 + b) (7 - (at + 1)) (drop (at + 1) text)) (byte ∙ sym (first_drop text at))
    ∙ ap (λ n. with_bytes (number * 256 + first_byte (drop at text)) (7 - (at + 1)) (drop n text)) next
    ∙ ap (λ zs. with_bytes (number * 256 + first_byte (drop at text)) (7 - (at + 1)) zs) (sym (later_drop text at small))
    ∙ ap (λ n. with_bytes number n (drop at text)) left

-- ---- marks of values

nat_less : (m n : ℕ) → m < n → int_cmp (pos m) (pos n) ≡ Less
nat_less m n l = ap (λ b. cond b Less (cond (int_lt (pos n) (pos m)) Greater Equal)) (lt-ltb m n l)

negative_less : (m n : ℕ) → n < m → int_cmp (negsuc m) (negsuc n) ≡ Less
negative_less m n l = ap (λ b. cond b Less (cond (int_lt (negsuc n) (negsuc m)) Greater Equal)) (lt-ltb n m l)

pub part_small : (value : Value) → value_part value < ROOM
part_small (Int (pos n)) = omega arith
part_small (Int (negsuc n)) = omega arith
part_small (Text b) = omega arith

-- what has the lower part is the lower value
part_law : (a b : Value) → value_part a < value_part b → value_cmp a b ≡ Less
part_law (Int (pos m)) (Int (pos n)) l = nat_less m n (omega (arith, l))
part_law (Int (pos m)) (Int (negsuc n)) l = absurd (omega (arith, l))
part_law (Int (negsuc m)) (Int (pos n)) l = refl
part_law (Int (negsuc m)) (Int (negsuc n)) l = negative_less m n (omega (arith, l))
part_law (Int m) (Text b) l = refl
part_law (Text a) (Int (pos n)) l = absurd (omega (arith, l))
part_law (Text a) (Int (negsuc n)) l = absurd (omega (arith, l))
part_law (Text a) (Text b) l = absurd (omega (arith, l))

-- what has the lower mark is the lower value, or the same one with the lower part
mark_law : {C : Type 0} (a b : Value) (s t : ℕ) → s < ROOM → t < ROOM → value_mark a s < value_mark b t → (value_cmp a b ≡ Less → C) → (a ≡ b → s < t → C) → C
mark_law {C} (Int (pos m)) (Int (pos n)) s t small also l less same = go (dec_lt m n)
  where
    go : Dec (m < n) → C
    go (yes q) = less (nat_less m n q)
    go (no q) =
        let e : m ≡ n = omega (arith, q, l, small, also) in
        same (ap (λ k. Int (pos k)) e) (omega (arith, e, l))
mark_law (Int (pos m)) (Int (negsuc n)) s t small also l less same = absurd (omega (arith, l))
mark_law (Int (negsuc m)) (Int (pos n)) s t small also l less same = less refl
mark_law (Int (negsuc m)) (Int (negsuc n)) s t small also l less same = less (negative_less m n (omega (arith, l)))
mark_law (Int m) (Text b) s t small also l less same = less refl
mark_law (Text a) (Int (pos n)) s t small also l less same = absurd (omega (arith, l))
mark_law (Text a) (Int (negsuc n)) s t small also l less same = absurd (omega (arith, l))
mark_law (Text a) (Text b) s t small also l less same = less (bytes_law 7 0 a b (omega (arith, l)))

greater_from : (a b : Value) → value_cmp b a ≡ Less → value_cmp a b ≡ Greater
greater_from a b e = value_cmp_total.antisymm a b ∙ ap ordering_reverse e

-- ---- rows and their marks

pub map-swap : {X Y : Type 0} (f : X → Y) (xs : List X) (i j : ℕ) → map f (swap xs i j) ≡ swap (map f xs) i j
map-swap f [] i j = refl
map-swap f (d ∷ ys) i j =
    map-set f (set (d ∷ ys) i (get_or (d ∷ ys) j d)) j (get_or (d ∷ ys) i d)
    ∙ ap (λ zs. set zs j (f (get_or (d ∷ ys) i d))) (map-set f (d ∷ ys) i (get_or (d ∷ ys) j d))
    ∙ ap (λ z. set (set (map f (d ∷ ys)) i z) j (f (get_or (d ∷ ys) i d))) (sym (get_or-map f (d ∷ ys) j d))
    ∙ ap (λ z. set (set (map f (d ∷ ys)) i (get_or (map f (d ∷ ys)) j (f d))) j z) (sym (get_or-map f (d ∷ ys) i d))

pub map-part : {X Y : Type 0} (f : X → Y) (xs : List X) (i j : ℕ) → take i (map f xs) ++ drop j (map f xs) ≡ map f (take i xs ++ drop j xs)
map-part f xs i j =
    ap (λ zs. zs ++ drop j (map f xs)) (take-map f i xs)
    ∙ ap (λ zs. map f (take i xs) ++ zs) (drop-map f j xs)
    ∙ sym (map-append f (take i xs) (drop j xs))

pub map-put_mid : {X Y : Type 0} (f : X → Y) (from size : ℕ) (xs ys : List X) → put_mid from size (map f xs) (map f ys) ≡ map f (put_mid from size xs ys)
map-put_mid f from size xs ys =
    ap (λ zs. zs ++ (map f ys ++ post_of from size (map f xs))) (take-map f from xs)
    ∙ ap (λ zs. map f (take from xs) ++ (map f ys ++ zs)) (ap (drop size) (drop-map f from xs) ∙ drop-map f size (drop from xs))
    ∙ ap (λ zs. map f (take from xs) ++ zs) (sym (map-append f ys (post_of from size xs)))
    ∙ sym (map-append f (take from xs) (ys ++ post_of from size xs))

pub map-insert : {X Y : Type 0} (f : X → Y) (xs : List X) (i : ℕ) (x : X) → insert (map f xs) i (f x) ≡ map f (insert xs i x)
map-insert f xs i x =
    ap (λ zs. zs ++ f x ∷ drop i (map f xs)) (take-map f i xs)
    ∙ ap (λ zs. map f (take i xs) ++ f x ∷ zs) (drop-map f i xs)
    ∙ sym (map-append f (take i xs) (x ∷ drop i xs))

pub map-more : {X Y : Type 0} (f : X → Y) (xs : List X) (i : ℕ) (x : X) → i < length xs → x ≡ get_or xs i x → map f (take i xs) ++ f x ∷ [] ≡ map f (take (i + 1) xs)
map-more f xs i x l e = sym (ap (map f) (take_more xs i x l ∙ ap (λ y. take i xs ++ y ∷ []) (sym e)) ∙ map-append f (take i xs) (x ∷ []))

pub unmapped : {X Y : Type 0} (f : X → Y) (xs : List X) (k : ℕ) (y : Y) → slice_get (map f xs) k ≡ Some y → (x : X) × (slice_get xs k ≡ Some x) × (f x ≡ y)
unmapped f [] k y e = cc
unmapped f (x ∷ xs) zero y e = (x, refl, cc)
unmapped f (x ∷ xs) (suc k) y e = unmapped f xs k y e

pub mapped : {X Y : Type 0} (f : X → Y) (xs : List X) (k : ℕ) (x : X) (y : Y) → slice_get xs k ≡ Some x → f x ≡ y → slice_get (map f xs) k ≡ Some y
mapped f xs k x y e same = slice_get-map f xs k ∙ ap (option_map f) e ∙ ap Some same

pub marked_within : (rows : List (List Value)) (at mark : ℕ) → slice_get (map row_mark rows) at ≡ Some mark → at < length rows
marked_within rows at mark e =
    let long = length-map rows row_mark in
    let there = slice_get_within (map row_mark rows) at mark e in
    omega (arith, there, long)

-- ---- what a mark tells of rows that a test parts

pub least_passes : (value : Value) (p : List Value → Bool) → FollowsFirst value p → PassesBelow (value_mark value 0) p
least_passes value p follows row l = mark_law (first_value row) value (value_part (second_value row)) 0 (part_small (second_value row)) (omega arith) l (follows.below row) (λ e q. absurd (omega (arith, q)))

pub greatest_fails : (value : Value) (p : List Value → Bool) → FollowsFirst value p → FailsAbove (value_mark value (ROOM - 1)) p
greatest_fails value p follows row l =
    let small = part_small (second_value row) in
    mark_law value (first_value row) (ROOM - 1) (value_part (second_value row)) (omega arith) small l (λ less. follows.above row (greater_from (first_value row) value less)) (λ e q. absurd (omega (arith, q, small)))

pub lower_passes : (value second : Value) (p : List Value → Bool) → FollowsFirst value p → FollowsSecond value second p → PassesBelow (value_mark value (value_part second)) p
lower_passes value second p follows then row l = mark_law (first_value row) value (value_part (second_value row)) (value_part second) (part_small (second_value row)) (part_small second) l (follows.below row) (λ e q. then.below row e (part_law (second_value row) second q))

pub higher_fails : (value second : Value) (p : List Value → Bool) → FollowsFirst value p → FollowsSecond value second p → FailsAbove (value_mark value (value_part second)) p
higher_fails value second p follows then row l = mark_law value (first_value row) (value_part second) (value_part (second_value row)) (part_small second) (part_small (second_value row)) l (λ less. follows.above row (greater_from (first_value row) value less)) (λ e q. then.above row (sym e) (greater_from (second_value row) second (part_law second (second_value row) q)))

module _ (p : List Value → Bool) (rows : List (List Value)) (at found mark : ℕ) (parted : IsPartitionedBy p rows) (seen : slice_get (map row_mark rows) at ≡ Some found) where
  pub told_front : PassesBelow mark p → found < mark → AllWithin (λ row. p row ≡ true) rows 0 (at + 1)
  told_front passes l =
      let row = unmapped row_mark rows at found seen in
      let below = passes row.0 (subst (λ k. k < mark) (sym row.2) l) in
      front_passes p rows at parted (marked_within rows at found seen) (λ d. subst (λ y. p y ≡ true) (sym (get_or_from_slice_get rows at row.0 d row.1)) below)

  pub told_back : FailsAbove mark p → mark < found → AllWithin (λ row. p row ≡ false) rows at (length rows)
  told_back fails l =
      let row = unmapped row_mark rows at found seen in
      let above = fails row.0 (subst (λ k. mark < k) (sym row.2) l) in
      back_fails p rows at parted (marked_within rows at found seen) (λ d. subst (λ y. p y ≡ false) (sym (get_or_from_slice_get rows at row.0 d row.1)) above)
