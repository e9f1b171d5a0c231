-- What is written of a certificate, one part after another.
use Rattle.std.proofs.Common.{◌≡◌, ◌⊎◌, inl, inr, ℕ, ◌+◌, ◌<◌, ◌≤◌, List, [], ◌∷◌, ◌++◌, length, codes, ap, sym, ◌∙◌, subst, arith, append_assoc, length-append, get_or, drop, take, map, suc, Result, Ok, Err, IfErr, OnOk}
use Rattle.std.proofs.Math.Seq.{drop-cons, take-suc}
use Rattle.std.specs.List.{flat_map}
use Rattle.std.specs.Result.{IsErrAnd}
use Rattle.std.proofs.lemmas.Grind.{flat_map-append}
use Rattle.std.proofs.lemmas.List.{append-nil, map-append, take-append-drop, take_all}
use Rattle.std.proofs.lemmas.List.Elements.{Contains-append_cases, Contains-append_left, Contains-append_right}
use Rattle.cqa_value.specs.declared.memory.Fail.{Fail}
use Rattle.cqa_value.specs.declared.memory.Fail.TheVariants.{NoMemory, Refused}
use Rattle.cqa_model.proofs.Classic.{mem-head, mem-nil, mem-cases}
use Rattle.script_lex.specs.declared.lexer.TheConstants.{LONGEST_TEXT}
use Rattle.rewrite_text.specs.declared.draft.Draft.{Draft}
use Rattle.rewrite_text.specs.declared.draft.TooLong.{TooLong}
use Rattle.rewrite_text.specs.declared.draft.TheConstants.{LONGEST_CERTIFICATE}
use Rattle.rewrite_text.specs.Texts.{statements_bytes, certificate_bytes, first_line}
use Rattle.rewrite_text.specs.Certificates.{IsTooLong}
use Rattle.rewrite_text.specs.Drafts.{AddsStatements, IsBetween, IsTooLongBehind, Overruns, RefusesBy, Writes}

-- a refusal for one reason is one for another that follows from it
pub refused_more : {P Q : Type 0} → (P → Q) → (fault : Fail TooLong) → RefusesBy P fault → RefusesBy Q fault
refused_more f NoMemory h = h
refused_more f (Refused fault) h = f h

pub over_more_so : {A P Q : Type 0} → (P → Q) → (result : Result A (Fail TooLong)) → IfErr result (RefusesBy P) → IfErr result (RefusesBy Q)
over_more_so f (Ok x) h = h
over_more_so f (Err fault) h = refused_more f fault h

pub refused_on : {A P Q : Type 0} → (P → Q) → (result : Result A (Fail TooLong)) (fault : Fail TooLong) → IsErrAnd result (λ y. y ≡ fault) → RefusesBy P fault → IfErr result (RefusesBy Q)
refused_on f (Ok x) fault e h = absurd e
refused_on {Q = Q} f (Err x) fault e h = subst (RefusesBy Q) (sym e) (refused_more f fault h)

-- parts one behind the other
pub two_parts : (old a b one two : List ℕ) → one ≡ old ++ a → two ≡ one ++ b → two ≡ old ++ (a ++ b)
two_parts old a b one two f g = g ∙ ap (λ z. z ++ b) f ∙ append_assoc old a b

pub three_parts : (old a b r one two three : List ℕ) → one ≡ old ++ a → two ≡ one ++ b → three ≡ two ++ r → three ≡ old ++ (a ++ (b ++ r))
three_parts old a b r one two three f g h = h ∙ ap (λ z. z ++ r) (two_parts old a b one two f g) ∙ append_assoc old (a ++ b) r ∙ ap (λ z. old ++ z) (append_assoc a b r)

-- parts of a statement are written as one
pub writes_as : {A : Type 0} (part all : List ℕ) (old mid new : Draft) (result : Result A (Fail TooLong)) → mid.out.items ++ part ≡ old.out.items ++ all → mid.start ≡ old.start → OnOk result (Writes part mid new) → OnOk result (Writes all old new)
writes_as part all old mid new (Ok x) e s w = record { text = w.text ∙ e; start = w.start ∙ s }
writes_as part all old mid new (Err fault) e s w = w

-- or they can't be
pub over_as : {A : Type 0} (part all : List ℕ) (old mid : Draft) (result : Result A (Fail TooLong)) → mid.out.items ++ part ≡ old.out.items ++ all → mid.start ≡ old.start →
    IfErr result (RefusesBy (Overruns (mid.out.items ++ part) mid.start)) → IfErr result (RefusesBy (Overruns (old.out.items ++ all) old.start))
over_as part all old mid result e s h = over_more_so (λ o. subst (λ z. Overruns z old.start) e (subst (Overruns (mid.out.items ++ part)) s o)) result h

-- of parts that are left, each behind a separator, one more is written
pub left_more : {A : Type 0} (f : A → List ℕ) (between : List ℕ) (xs : List A) (i : ℕ) (x : A) (now next all : List ℕ) → i < length xs → x ≡ get_or xs i x →
    now ++ flat_map (λ y. between ++ f y) (drop i xs) ≡ all → next ≡ (now ++ between) ++ f x → next ++ flat_map (λ y. between ++ f y) (drop (i + 1) xs) ≡ all
left_more f between xs i x now next all l e h n =
    let next_i : suc i ≡ i + 1 = omega arith in
    let d = drop-cons xs i x l ∙ ap (λ z. z ∷ drop (suc i) xs) (sym e) ∙ ap (λ k. x ∷ drop k xs) next_i in
    let rest = flat_map (λ y. between ++ f y) (drop (i + 1) xs) in
    ap (λ z. z ++ rest) (n ∙ append_assoc now between (f x)) ∙ append_assoc now (between ++ f x) rest ∙ ap (λ z. now ++ flat_map (λ y. between ++ f y) z) (sym d) ∙ h

-- what is too long stays so
pub over_more : (bytes more : List ℕ) (start : ℕ) → Overruns bytes start → Overruns (bytes ++ more) start
over_more bytes more start (inl h) = let l = length-append bytes more in inl (omega (arith, h, l))
over_more bytes more start (inr h) = let l = length-append bytes more in inr (omega (arith, h, l))

pub left_over : (now rest all : List ℕ) (start begun : ℕ) → now ++ rest ≡ all → start ≡ begun → Overruns now start → Overruns all begun
left_over now rest all start begun e s h = subst (λ z. Overruns z begun) e (subst (Overruns (now ++ rest)) s (over_more now rest start h))

-- a statement is too long behind others
pub part_over : (part : List ℕ) (old : Draft) → IsBetween old → Overruns (old.out.items ++ part) old.start → IsTooLongBehind (length old.out.items) (part ∷ [])
part_over part old begun (inl h) =
    let l = length-append old.out.items part in
    inl (part, mem-head part [], omega (arith, h, l, begun))
part_over part old begun (inr h) =
    let l = length-append old.out.items part in
    let m = length-append part (codes ";\n") in
    let n = length-append (part ++ codes ";\n") [] in
    inr (omega (arith, h, l, m, n))

-- a statement is written, and ended
pub ended : (part : List ℕ) (old mid new : Draft) → IsBetween old → mid.out.items ≡ old.out.items ++ part → mid.start ≡ old.start → new.out.items ≡ mid.out.items ++ codes ";\n" → IsBetween new →
    length mid.out.items ≤ mid.start + LONGEST_TEXT → length new.out.items ≤ LONGEST_CERTIFICATE → AddsStatements (part ∷ []) old new
ended part old mid new begun text start end between short whole = record {
  text = end ∙ ap (λ z. z ++ codes ";\n") text ∙ append_assoc old.out.items part (codes ";\n") ∙ ap (λ z. old.out.items ++ z) (sym (append-nil (part ++ codes ";\n")));
  between = between;
  short = λ statement m. elim (mem-cases statement part [] m) [
    | inl e ↦ subst (λ z. length z ≤ LONGEST_TEXT) e (let l = length-append old.out.items part in let t = ap length text in omega (arith, short, l, t, start, begun))
    | inr n ↦ absurd (mem-nil statement n)
  ];
  whole = λ _. whole;
}

pub ended_as : {A : Type 0} (part : List ℕ) (old mid new : Draft) (result : Result A (Fail TooLong)) → IsBetween old → mid.out.items ≡ old.out.items ++ part → mid.start ≡ old.start →
    OnOk result (new.out.items ≡ mid.out.items ++ codes ";\n") → OnOk result (IsBetween new) → OnOk result (length mid.out.items ≤ mid.start + LONGEST_TEXT) → OnOk result (length new.out.items ≤ LONGEST_CERTIFICATE) →
    OnOk result (AddsStatements (part ∷ []) old new)
ended_as part old mid new (Ok x) begun text start end between short whole = ended part old mid new begun text start end between short whole
ended_as part old mid new (Err fault) begun text start end between short whole = end

-- or it can't be ended
pub ended_over : (part : List ℕ) (old mid : Draft) → IsBetween old → mid.out.items ≡ old.out.items ++ part → mid.start ≡ old.start →
    Overruns mid.out.items mid.start ⊎ (LONGEST_CERTIFICATE < length (mid.out.items ++ codes ";\n")) → IsTooLongBehind (length old.out.items) (part ∷ [])
ended_over part old mid begun text start (inl h) = part_over part old begun (subst (λ z. Overruns z old.start) text (subst (Overruns mid.out.items) start h))
ended_over part old mid begun text start (inr h) =
    let l = length-append old.out.items part in
    let t = ap length text in
    let m = length-append part (codes ";\n") in
    let n = length-append (part ++ codes ";\n") [] in
    let e = length-append mid.out.items (codes ";\n") in
    inr (omega (arith, h, l, t, m, n, e))

-- no statement is written
pub adds_none : (draft : Draft) → IsBetween draft → AddsStatements [] draft draft
adds_none draft begun = record { text = sym (append-nil draft.out.items); between = begun; short = λ statement m. absurd (mem-nil statement m); whole = λ l. l }

-- statements are written, and others behind them
pub adds_both : (front rest : List (List ℕ)) (old mid new : Draft) → AddsStatements front old mid → AddsStatements rest mid new → AddsStatements (front ++ rest) old new
adds_both front rest old mid new f r = record {
  text = r.text ∙ ap (λ z. z ++ statements_bytes rest) f.text ∙ append_assoc old.out.items (statements_bytes front) (statements_bytes rest) ∙ ap (λ z. old.out.items ++ z) (sym (flat_map-append (λ statement. statement ++ codes ";\n") front rest));
  between = r.between;
  short = λ statement m. elim (Contains-append_cases front rest statement m) [ inl n ↦ f.short statement n | inr n ↦ r.short statement n ];
  whole = λ l. r.whole (f.whole l);
}

-- the first of them are too long
pub front_over : (front rest : List (List ℕ)) (before : ℕ) → IsTooLongBehind before front → IsTooLongBehind before (front ++ rest)
front_over front rest before (inl (statement, m, l)) = inl (statement, Contains-append_left front rest statement m, l)
front_over front rest before (inr h) =
    let e = ap length (flat_map-append (λ (statement : List ℕ). statement ++ codes ";\n") front rest) in
    let l = length-append (statements_bytes front) (statements_bytes rest) in
    inr (omega (arith, h, e, l))

-- those behind the first are
pub rest_over : (front rest : List (List ℕ)) (old mid : Draft) → AddsStatements front old mid → IsTooLongBehind (length mid.out.items) rest → IsTooLongBehind (length old.out.items) (front ++ rest)
rest_over front rest old mid f (inl (statement, m, l)) = inl (statement, Contains-append_right front rest statement m, l)
rest_over front rest old mid f (inr h) =
    let e = ap length (flat_map-append (λ (statement : List ℕ). statement ++ codes ";\n") front rest) in
    let l = length-append (statements_bytes front) (statements_bytes rest) in
    let t = ap length f.text in
    let m = length-append old.out.items (statements_bytes front) in
    inr (omega (arith, h, e, l, t, m))

-- all statements stand behind the first line, and none is too long
pub whole_text : (statements : List (List ℕ)) (old new : Draft) → old.out.items ≡ first_line → AddsStatements statements old new → new.out.items ≡ certificate_bytes statements
whole_text statements old new line added = added.text ∙ ap (λ z. z ++ statements_bytes statements) line

pub whole_short : (statements : List (List ℕ)) (old new : Draft) → old.out.items ≡ first_line → AddsStatements statements old new → IsTooLong statements → ⊥
whole_short statements old new line added (inl (statement, m, l)) = let s = added.short statement m in omega (arith, s, l)
whole_short statements old new line added (inr h) =
    let w = added.whole (let l = ap length line in omega (arith, l)) in
    let t = ap length (whole_text statements old new line added) in
    omega (arith, h, w, t)

pub whole_over : (statements : List (List ℕ)) (old : Draft) → old.out.items ≡ first_line → IsTooLongBehind (length old.out.items) statements → IsTooLong statements
whole_over statements old line (inl h) = inl h
whole_over statements old line (inr h) =
    let l = ap length line in
    let e = length-append first_line (statements_bytes statements) in
    inr (omega (arith, h, l, e))

-- statements are too long where a front of them is written, and one more is too long
pub one_over : (front : List (List ℕ)) (one : List ℕ) (rest all : List (List ℕ)) (old mid : Draft) → all ≡ front ++ one ∷ rest → AddsStatements front old mid → IsTooLongBehind (length mid.out.items) (one ∷ []) → IsTooLongBehind (length old.out.items) all
one_over front one rest all old mid e f h = subst (IsTooLongBehind (length old.out.items)) (sym e) (rest_over front (one ∷ rest) old mid f (front_over (one ∷ []) rest (length mid.out.items) h))

-- of statements for items, those of one item more are written
pub add_more : {A : Type 0} (f : A → List ℕ) (xs : List A) (i : ℕ) (x : A) (old mid new : Draft) → i < length xs → x ≡ get_or xs i x → AddsStatements (map f (take i xs)) old mid → AddsStatements (f x ∷ []) mid new →
    AddsStatements (map f (take (i + 1) xs)) old new
add_more f xs i x old mid new l e front one =
    let next_i : suc i ≡ i + 1 = omega arith in
    let t = ap (λ n. take n xs) (sym next_i) ∙ take-suc xs i x l ∙ ap (λ z. take i xs ++ z ∷ []) (sym e) in
    subst (λ z. AddsStatements z old new) (sym (ap (map f) t ∙ map-append f (take i xs) (x ∷ []))) (adds_both (map f (take i xs)) (f x ∷ []) old mid new front one)

-- or they are too long
pub more_over : {A : Type 0} (f : A → List ℕ) (xs : List A) (i : ℕ) (x : A) (old mid : Draft) → i < length xs → x ≡ get_or xs i x → AddsStatements (map f (take i xs)) old mid → IsTooLongBehind (length mid.out.items) (f x ∷ []) →
    IsTooLongBehind (length old.out.items) (map f xs)
more_over f xs i x old mid l e front one =
    let d = sym (take-append-drop i xs) ∙ ap (λ z. take i xs ++ z) (drop-cons xs i x l) ∙ ap (λ z. take i xs ++ z ∷ drop (suc i) xs) (sym e) in
    one_over (map f (take i xs)) (f x) (map f (drop (suc i) xs)) (map f xs) old mid (ap (map f) d ∙ map-append f (take i xs) (x ∷ drop (suc i) xs)) front one

pub add_last : {A : Type 0} (f : A → List ℕ) (xs : List A) (i : ℕ) (old new : Draft) → length xs ≤ i → AddsStatements (map f (take i xs)) old new → AddsStatements (map f xs) old new
add_last f xs i old new l added = subst (λ z. AddsStatements (map f z) old new) (take_all i xs l) added

-- a statement in two parts, with the second of which it is too long
pub two_parts_over : (head tail : List ℕ) (old : Draft) (out : List ℕ) → IsBetween old → out ≡ old.out.items ++ head → Overruns (out ++ tail) old.start → IsTooLongBehind (length old.out.items) ((head ++ tail) ∷ [])
two_parts_over head tail old out begun e h = part_over (head ++ tail) old begun (subst (λ z. Overruns z old.start) (ap (λ z. z ++ tail) e ∙ append_assoc old.out.items head tail) h)
