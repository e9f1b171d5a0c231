-- What the lines of an input put together is a group.
use Rattle.std.proofs.Common.{◌≡◌, ◌<◌, ◌≤◌, ◌+◌, ◌-◌, ◌==◌, ◌&&◌, ℕ, zero, suc, Bool, true, false, cond, List, [], ◌∷◌, ◌++◌, take, length, Contains, Option, Some, None, Result, Ok, Err, refl, sym, subst, arith}
use Rattle.std.specs.Prelude.{⊤, nat_lt, slice_index, ℤ}
use Rattle.std.specs.List.{sum}
use Rattle.std.proofs.lemmas.Bool.Decides.{nat_tests}
use Rattle.cqa_value.proofs.Words.{mem-nil}
use Rattle.cnf_form.specs.Lines.{is_comment, tokens}
use Rattle.cnf_form.specs.Numbers.{unsigned_of}
use Rattle.block_choices.specs.declared.row.BlockRow.{BlockRow}
use Rattle.block_choices.specs.Choices.{IsThere}
use Rattle.block_lists.specs.Groups.{IsGroup}
use Rattle.choice_values.specs.Values.{Weighted}
use Rattle.std.proofs.lemmas.List.{length-map, map_push}
use Rattle.block_lists.proofs.Groups.{group-begun, group-more}
use Rattle.group_text.specs.declared.fault.Fault.{Fault}
use Rattle.group_text.specs.declared.fault.Fault.TheVariants.{BadLine, BadSize, LongLine, ManyLists, ManyNames, ManyRows, UnknownRow}
use Rattle.group_text.specs.declared.wanted.Wanted.{Wanted}
use Rattle.group_text.specs.Groups.{Draft, Underway, after, begun, list_of, named, next, told_list, with_list}
use Rattle.group_text.specs.Weights.{before_weight, from_weight, names_in, weighs, weight_of}
use Rattle.group_text.specs.Groups.Underway.{Outside, Within, Passing}
use Rattle.group_text.specs.Names.{is_there, numbers_of, row_at, row_by, row_of, rows_after}
use Rattle.group_text.specs.Saying.{Said, begins_group, ends, is_word, said, said_by, said_within}
use Rattle.group_text.specs.Saying.Said.{Skipped, Begins, Lists, Ends, Faulty}
use Rattle.group_text.specs.Sizes.{AreSizes, going_on, size_by, size_of, sizes_after, sizes_of}
use Rattle.group_text.specs.declared.limits.TheConstants.{LONGEST_LINE}
use Rattle.group_text.proofs.Fit.{no_sizes}
use Rattle.group_text.proofs.Telling.{are_more, there_more}

-- ---- what holds of what comes out

abbrev OnOk : {A : Type 0} → (A → Type 0) → Result A Fault → Type 0
OnOk P (Ok a) = P a
OnOk P (Err fault) = ⊤

on_going : {A B : Type 0} (P : B → Type 0) (r : Result A Fault) (f : A → Result B Fault) → ((a : A) → r ≡ Ok a → OnOk P (f a)) → OnOk P (going_on r f)
on_going P (Ok a) f h = h a refl
on_going P (Err fault) f h = tt

-- ---- sizes

not_zero : (n : ℕ) → (n == 0) ≡ false → 0 < n
not_zero zero z = cc z
not_zero (suc n) z = omega arith

not_over : (most n : ℕ) → nat_lt most n ≡ false → n ≤ most
not_over most n h = grind (arith, nat_tests, h)

size_ok : (rows : ℕ) (o : Option ℕ) (s : ℕ) → size_by rows o ≡ Ok s → (0 < s) × (rows + s ≤ 1000000)
size_ok rows None s e = cc e
size_ok rows (Some n) s e = go (n == 0) refl (nat_lt 1000000 (rows + n)) refl e
  where
    go : (none : Bool) → (n == 0) ≡ none → (over : Bool) → nat_lt 1000000 (rows + n) ≡ over → cond none (Err BadSize) (cond over (Err ManyRows) (Ok n)) ≡ Ok s → (0 < s) × (rows + s ≤ 1000000)
    go true z over o e = cc e
    go false z true o e = cc e
    go false z false o e = let same : n ≡ s = (cc e) in let fits = not_over 1000000 (rows + n) o in (subst (λ k. 0 < k) same (not_zero n z), omega (arith, fits, same))

sizes_fit : (before : List ℕ) (ts : List (List ℕ)) → AreSizes before → OnOk AreSizes (sizes_after before ts)
sizes_fit before [] are = are
sizes_fit before (t ∷ ts) are = on_going AreSizes (size_of (sum before) t) (λ s. sizes_after (before ++ s ∷ []) ts) (λ s e.
    let h = size_ok (sum before) (unsigned_of 1000000 t) s e in sizes_fit (before ++ s ∷ []) ts (are_more before s are h.0 h.1))

-- ---- rows

abbrev AreAllThere : List ℕ → List BlockRow → Type 0
AreAllThere sizes rows = (x : BlockRow) → Contains rows x → IsThere sizes x

second : (a b : Bool) → (a && b) ≡ true → b ≡ true
second true b e = e
second false b e = cc e

below : (m n : ℕ) → nat_lt m n ≡ true → m < n
below m n h = grind (arith, nat_tests, h)

at_there : (sizes : List ℕ) (b r : ℕ) (x : BlockRow) → row_at sizes b r ≡ Ok x → IsThere sizes x
at_there sizes b r x e = go (is_there sizes b r) refl e
  where
    row : BlockRow
    row = record { block = b - 1; row = r - 1 }

    go : (there : Bool) → is_there sizes b r ≡ there → cond there (Ok row) (Err UnknownRow) ≡ Ok x → IsThere sizes x
    go false i e = cc e
    go true i e =
        let same : row ≡ x = (cc e) in
        let inner = second (nat_lt 0 b) (nat_lt 0 r && nat_lt (r - 1) (slice_index sizes (b - 1))) i in
        subst (IsThere sizes) same (below (r - 1) (slice_index sizes (b - 1)) (second (nat_lt 0 r) (nat_lt (r - 1) (slice_index sizes (b - 1))) inner))

by_there : (sizes : List ℕ) (named : ℕ) (o : Option (ℕ × ℕ)) (x : BlockRow) → row_by sizes named o ≡ Ok x → IsThere sizes x
by_there sizes named None x e = cc e
by_there sizes named (Some p) x e = go (nat_lt named 16000000) e
  where
    go : (few : Bool) → cond few (row_at sizes p.0 p.1) (Err ManyNames) ≡ Ok x → IsThere sizes x
    go true e = at_there sizes p.0 p.1 x e
    go false e = cc e

rows_fit : (sizes : List ℕ) (named : ℕ) (before : List BlockRow) (ts : List (List ℕ)) → AreAllThere sizes before → OnOk (AreAllThere sizes) (rows_after sizes named before ts)
rows_fit sizes named before [] are = are
rows_fit sizes named before (t ∷ ts) are = on_going (AreAllThere sizes) (row_of sizes (named + length before) t) (λ x. rows_after sizes named (before ++ x ∷ []) ts) (λ x e.
    rows_fit sizes named (before ++ x ∷ []) ts (there_more sizes before x are (by_there sizes (named + length before) (numbers_of t) x e)))

-- ---- lines

abbrev pub IsFitting : Underway → Type 0
IsFitting Outside = ⊤
IsFitting (Within d) = IsGroup d.sizes (names_in d.lists)
IsFitting Passing = ⊤

told_fits : (sizes : List ℕ) (named : ℕ) (rows weight : List (List ℕ)) → OnOk (λ (list : Weighted). AreAllThere sizes list.names) (told_list sizes named rows weight)
told_fits sizes named rows weight = on_going (λ (list : Weighted). AreAllThere sizes list.names) (rows_after sizes named [] rows) (λ (names : List BlockRow). going_on (weight_of weight) (λ (w : ℤ). Ok (record { weight = w; names = names }))) (λ names e.
    on_going (λ (list : Weighted). AreAllThere sizes list.names) (weight_of weight) (λ (w : ℤ). Ok (record { weight = w; names = names })) (λ w f. subst (OnOk (AreAllThere sizes)) e (rows_fit sizes named [] rows (λ x m. absurd (mem-nil x m)))))

list_fits : (wanted : Wanted) (d : Draft) (ts : List (List ℕ)) → IsGroup d.sizes (names_in d.lists) → IsFitting (with_list d (list_of wanted d ts))
list_fits wanted d ts group = go (nat_lt (length d.lists) 1000000) refl
  where
    told : Result Weighted Fault
    told = told_list d.sizes (named d) (before_weight (weighs wanted) ts) (from_weight (weighs wanted) ts)

    joined : length d.lists < 1000000 → (r : Result Weighted Fault) → OnOk (λ (list : Weighted). AreAllThere d.sizes list.names) r → IsFitting (with_list d r)
    joined l (Ok list) there =
        let short = length-map d.lists (λ (x : Weighted). x.names) in
        subst (IsGroup d.sizes) (sym (map_push (λ (x : Weighted). x.names) d.lists list)) (group-more d.sizes (names_in d.lists) list.names group (omega (arith, short, l)) there)
    joined l (Err fault) there = tt

    go : (few : Bool) → nat_lt (length d.lists) 1000000 ≡ few → IsFitting (with_list d (cond few told (Err ManyLists)))
    go true i = joined (below (length d.lists) 1000000 i) told (told_fits d.sizes (named d) (before_weight (weighs wanted) ts) (from_weight (weighs wanted) ts))
    go false i = tt

abbrev HasSizes : Said → Type 0
HasSizes (Begins r) = OnOk AreSizes r
HasSizes Skipped = ⊤
HasSizes (Lists ts) = ⊤
HasSizes Ends = ⊤
HasSizes (Faulty fault) = ⊤

on_cond : (c : Bool) (a b : Said) → HasSizes a → HasSizes b → HasSizes (cond c a b)
on_cond true a b p q = p
on_cond false a b p q = q

ends_fits : (ts : List (List ℕ)) → HasSizes (ends ts)
ends_fits [] = tt
ends_fits (t ∷ ts) = tt

by_fits : (ts : List (List ℕ)) → HasSizes (said_by ts)
by_fits [] = tt
by_fits (t ∷ ts) =
    on_cond (is_word 103 t) (Begins (sizes_of ts)) (cond (is_word 108 t) (Lists ts) (cond (is_word 101 t) (ends ts) (Faulty BadLine))) (sizes_fit [] ts no_sizes)
    (on_cond (is_word 108 t) (Lists ts) (cond (is_word 101 t) (ends ts) (Faulty BadLine)) tt (on_cond (is_word 101 t) (ends ts) (Faulty BadLine) (ends_fits ts) tt))

within_fits : (front : List ℕ) → HasSizes (said_within front)
within_fits front = on_cond (begins_group (tokens front)) (Begins (Err LongLine)) (Faulty LongLine) tt tt

said_fits : (l : List ℕ) → HasSizes (said l)
said_fits l =
    on_cond (is_comment l) Skipped (cond (nat_lt LONGEST_LINE (length l)) (said_within (take LONGEST_LINE l)) (said_by (tokens l))) tt
    (on_cond (nat_lt LONGEST_LINE (length l)) (said_within (take LONGEST_LINE l)) (said_by (tokens l)) (within_fits (take LONGEST_LINE l)) (by_fits (tokens l)))

begun_fits : (r : Result (List ℕ) Fault) → OnOk AreSizes r → IsFitting (begun r)
begun_fits (Ok sizes) are = group-begun sizes are.some are.few
begun_fits (Err fault) are = tt

says_fits : (wanted : Wanted) (u : Underway) (s : Said) → IsFitting u → HasSizes s → IsFitting (next wanted u s)
says_fits wanted u Skipped f h = f
says_fits wanted u (Begins r) f h = begun_fits r h
says_fits wanted Outside (Lists ts) f h = tt
says_fits wanted (Within d) (Lists ts) f h = list_fits wanted d ts f
says_fits wanted Passing (Lists ts) f h = tt
says_fits wanted Outside Ends f h = tt
says_fits wanted (Within d) Ends f h = tt
says_fits wanted Passing Ends f h = tt
says_fits wanted u (Faulty fault) f h = tt

pub next_fits : (wanted : Wanted) (u : Underway) (l : List ℕ) → IsFitting u → IsFitting (next wanted u (said l))
next_fits wanted u l f = says_fits wanted u (said l) f (said_fits l)

pub after_fits : (wanted : Wanted) (u : Underway) (ls : List (List ℕ)) → IsFitting u → IsFitting (after wanted u ls)
after_fits wanted u [] f = f
after_fits wanted u (l ∷ ls) f = after_fits wanted (next wanted u (said l)) ls (next_fits wanted u l f)
