-- A text between quotes: it stands first as the longest piece, it is UTF-8, and it is read as its value.
use Rattle.std.proofs.Common.{◌≡◌, ◌+◌, ◌*◌, ◌-◌, ◌<◌, ◌≤◌, ◌==◌, lit<, nat_eq, ℕ, zero, suc, Bool, true, false, List, [], ◌∷◌, ◌++◌, length, take, get_or, slice_index, refl, sym, ap, ◌∙◌, subst, arith, append_assoc, length-append, if◌then◌else◌}
use Rattle.std.proofs.lemmas.Bool.Decides.{nat_tests}
use Rattle.std.proofs.lemmas.List.{take_at, drop_at}
use Rattle.std.proofs.lemmas.Str.{IsUtf8-from_ascii, IsUtf8-append, IsUtf8-take, IsUtf8-drop, IsCharBoundary-before_ascii}
use Rattle.std.proofs.Math.Seq.{get_or-append_seam}
use Rattle.std.specs.Str.{IsUtf8}
use Rattle.cqa_value.specs.Literals.{doubled}
use Rattle.script_lex.specs.declared.kinds.TokenKind.TheVariants.{Text}
use Rattle.script_lex.specs.declared.pieces.PieceKind.TheVariants.{Token as OfToken}
use Rattle.script_lex.specs.TokenParts.{EndsQuoted}
use Rattle.script_lex.specs.Tokens.{IsQuoted, IsLongest, inside}
use Rattle.script_lex.proofs.Longest.{text_stands}
use Rattle.script_lex.proofs.Quotes.{is_39}
use Rattle.spj_syntax.specs.Lexemes.{undoubled}
use Rattle.reading_law.proofs.WrittenPieces.{is_stop, Stops}

-- a value between quotes
abbrev pub quoted : List ℕ → List ℕ
quoted v = 39 ∷ (doubled v ++ 39 ∷ [])

not_39 : (b : ℕ) → (b == 39) ≡ false → b ≡ 39 → ⊥
not_39 b e h = grind (arith, nat_tests)

stop_not : (c : ℕ) → is_stop c ≡ true → c ≡ 39 → ⊥
stop_not c h e = grind (arith, nat_tests)

-- no value's quotes end behind a first closing quote that no quote follows
apart : (v w more : List ℕ) (c : ℕ) → is_stop c ≡ true → doubled v ++ 39 ∷ c ∷ more ≡ doubled w ++ 39 ∷ [] → ⊥
apart [] [] more c s e = cc e
apart [] (x ∷ w) more c s e = go (x == 39) refl e
  where
    go : (t : Bool) → (x == 39) ≡ t → 39 ∷ c ∷ more ≡ ((if t then x ∷ x ∷ [] else x ∷ []) ++ doubled w) ++ 39 ∷ [] → ⊥
    go true k e = stop_not c s (let h : c ≡ x = cc in h ∙ is_39 x k)
    go false k e = not_39 x k (let h : 39 ≡ x = cc in sym h)
apart (b ∷ v) [] more c s e = go (b == 39) refl e
  where
    go : (t : Bool) → (b == 39) ≡ t → ((if t then b ∷ b ∷ [] else b ∷ []) ++ doubled v) ++ 39 ∷ c ∷ more ≡ 39 ∷ [] → ⊥
    go true k e = cc e
    go false k e = not_39 b k (let h : b ≡ 39 = cc in h)
apart (b ∷ v) (x ∷ w) more c s e = go (b == 39) (x == 39) refl refl (λ h. apart v w more c s h) e
  where
    go : (t u : Bool) → (b == 39) ≡ t → (x == 39) ≡ u → (doubled v ++ 39 ∷ c ∷ more ≡ doubled w ++ 39 ∷ [] → ⊥)
        → ((if t then b ∷ b ∷ [] else b ∷ []) ++ doubled v) ++ 39 ∷ c ∷ more ≡ ((if u then x ∷ x ∷ [] else x ∷ []) ++ doubled w) ++ 39 ∷ [] → ⊥
    go true true k l f e = let h : doubled v ++ 39 ∷ c ∷ more ≡ doubled w ++ 39 ∷ [] = cc in f h
    go true false k l f e = not_39 x l (let h : b ≡ x = cc in sym h ∙ is_39 b k)
    go false true k l f e = not_39 b k (let h : b ≡ x = cc in h ∙ is_39 x l)
    go false false k l f e = let h : doubled v ++ 39 ∷ c ∷ more ≡ doubled w ++ 39 ∷ [] = cc in f h

-- what goes beyond some bytes holds the one that follows
beyond : (xs rest : List ℕ) (c m : ℕ) → length xs < m → (more : List ℕ) × (take m (xs ++ c ∷ rest) ≡ xs ++ c ∷ more)
beyond xs rest c zero lt = absurd (omega arith)
beyond [] rest c (suc m) lt = (take m rest, refl)
beyond (x ∷ xs) rest c (suc m) lt = let h = beyond xs rest c m (omega arith) in (h.0, ap (λ l. x ∷ l) h.1)

ends : (v rest : List ℕ) → Stops rest → EndsQuoted ((doubled v ++ 39 ∷ []) ++ rest) (length (doubled v ++ 39 ∷ []))
ends v rest s = record {
  within = omega (arith, length-append (doubled v ++ 39 ∷ []) rest);
  ends = λ lt. (v, take_at (doubled v ++ 39 ∷ []) rest (length (doubled v ++ 39 ∷ [])) refl);
  longest = λ m lt le. longer rest s m lt le;
}
  where
    longer : (rest : List ℕ) → Stops rest → (m : ℕ) → length (doubled v ++ 39 ∷ []) < m → m ≤ length ((doubled v ++ 39 ∷ []) ++ rest) → IsQuoted (take m ((doubled v ++ 39 ∷ []) ++ rest)) → ⊥
    longer [] s m lt le q = omega (arith, length-append (doubled v ++ 39 ∷ []) [])
    longer (c ∷ rest) s m lt le q =
        let h = beyond (doubled v ++ 39 ∷ []) rest c m lt in
        apart v q.0 h.0 c s (sym (append_assoc (doubled v) (39 ∷ []) (c ∷ h.0)) ∙ sym h.1 ∙ q.1)

pub text_first : (v rest : List ℕ) → Stops rest → IsLongest (OfToken Text) (length (quoted v)) (quoted v ++ rest)
text_first v rest s =
    let n = length (doubled v ++ 39 ∷ []) in
    let some : (n ≡ 0 → ⊥) = λ e. omega (arith, e, length-append (doubled v) (39 ∷ [])) in
    let e : n + 1 ≡ length (quoted v) = omega arith in
    subst (λ k. IsLongest (OfToken Text) k (quoted v ++ rest)) e (text_stands (quoted v ++ rest) n (omega arith) refl (ends v rest s) some).0

pub inside_is : (v : List ℕ) → inside (quoted v) ≡ doubled v
inside_is v = take_at (doubled v) (39 ∷ []) (length (quoted v) - 1 - 1) (omega (arith, length-append (doubled v) (39 ∷ [])))

undoubled_one : (b : ℕ) (bytes : List ℕ) → (b == 39) ≡ false → undoubled (b ∷ bytes) ≡ b ∷ undoubled bytes
undoubled_one b [] e = refl
undoubled_one b (c ∷ bytes) e = let h : nat_eq 39 b ≡ false = grind (arith, nat_tests) in rw h refl

pub undoubled_is : (v : List ℕ) → undoubled (doubled v) ≡ v
undoubled_is [] = refl
undoubled_is (b ∷ v) = go (b == 39) refl (undoubled_is v)
  where
    go : (t : Bool) → (b == 39) ≡ t → undoubled (doubled v) ≡ v → undoubled ((if t then b ∷ b ∷ [] else b ∷ []) ++ doubled v) ≡ b ∷ v
    go true e h = rw (is_39 b e) (ap (λ l. 39 ∷ l) h)
    go false e h = undoubled_one b (doubled v) e ∙ ap (λ l. b ∷ l) h

-- one quote more
one_more : (front bytes : List ℕ) → IsUtf8 (front ++ 39 ∷ bytes) → IsUtf8 (front ++ 39 ∷ 39 ∷ bytes)
one_more front bytes u =
    let within : length front < length (front ++ 39 ∷ bytes) = omega (arith, length-append front (39 ∷ bytes)) in
    let small : get_or (front ++ 39 ∷ bytes) (length front) 0 < 128 = rw get_or-append_seam (lit< tt) in
    let left : IsUtf8 front =
    subst IsUtf8 (take_at front (39 ∷ bytes) (length front) refl) (IsUtf8-take (front ++ 39 ∷ bytes) (length front) u (IsCharBoundary-before_ascii (front ++ 39 ∷ bytes) (length front) within small)) in
    let right : IsUtf8 (39 ∷ bytes) =
    subst IsUtf8 (drop_at front (39 ∷ bytes) (length front) refl) (IsUtf8-drop (front ++ 39 ∷ bytes) (length front) u (IsCharBoundary-before_ascii (front ++ 39 ∷ bytes) (length front) within small)) in
    IsUtf8-append front (39 ∷ 39 ∷ bytes) left (IsUtf8-append (39 ∷ []) (39 ∷ bytes) (IsUtf8-from_ascii (39 ∷ []) one) right)
  where
    one : (i : ℕ) → slice_index (39 ∷ []) i < 128
    one zero = lit< tt
    one (suc i) = lit< tt

doubled_from : (bytes front : List ℕ) → IsUtf8 (front ++ bytes) → IsUtf8 (front ++ doubled bytes)
doubled_from [] front u = u
doubled_from (b ∷ bytes) front u = go (b == 39) refl (λ f h. doubled_from bytes f h)
  where
    go : (t : Bool) → (b == 39) ≡ t → ((f : List ℕ) → IsUtf8 (f ++ bytes) → IsUtf8 (f ++ doubled bytes)) → IsUtf8 (front ++ ((if t then b ∷ b ∷ [] else b ∷ []) ++ doubled bytes))
    go true e more =
        let two : IsUtf8 (front ++ b ∷ b ∷ bytes) = rw (is_39 b e) (one_more front bytes (subst (λ z. IsUtf8 (front ++ z ∷ bytes)) (is_39 b e) u)) in
        subst IsUtf8 (append_assoc front (b ∷ b ∷ []) (doubled bytes)) (more (front ++ b ∷ b ∷ []) (subst IsUtf8 (sym (append_assoc front (b ∷ b ∷ []) bytes)) two))
    go false e more = subst IsUtf8 (append_assoc front (b ∷ []) (doubled bytes)) (more (front ++ b ∷ []) (subst IsUtf8 (sym (append_assoc front (b ∷ []) bytes)) u))

pub doubled_utf8 : (v : List ℕ) → IsUtf8 v → IsUtf8 (doubled v)
doubled_utf8 v u = doubled_from v [] u

pub doubled_length : (v : List ℕ) → length (doubled v) ≤ 2 * length v
doubled_length [] = omega arith
doubled_length (b ∷ v) = go (b == 39) (doubled_length v)
  where
    go : (t : Bool) → length (doubled v) ≤ 2 * length v → length ((if t then b ∷ b ∷ [] else b ∷ []) ++ doubled v) ≤ 2 * length (b ∷ v)
    go true h = omega (arith, h)
    go false h = omega (arith, h)
