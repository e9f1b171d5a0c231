-- How walks go together, with no condition on the grammar.
use Rattle.std.proofs.Common.{◌≡◌, Bool, true, false, ◌&&◌, ◌||◌, List, [], ◌∷◌, ◌++◌, Option, Some, None, refl, sym, ◌∙◌, ap, subst, append_assoc, length, ◌≤◌, ◌<◌, arith}
use Rattle.std.proofs.Math.Bool.{and-true}
use Rattle.spj_syntax.specs.Lexemes.{Lexeme}
use Rattle.spj_syntax.specs.Shapes.{Terminal, matches, Shape, one, ◌⨾◌, ◌∣◌, many, nothing}
use Rattle.spj_syntax.specs.Walk.{nullable, followed_by, or_else, only_if, after, after_all, nullable_all, Outcome, Past, Stopped, ended, next, walk, on, read, has, starts}

append_nil : (l : List Shape) → l ++ [] ≡ l
append_nil [] = refl
append_nil (p ∷ l) = ap (λ k. p ∷ k) (append_nil l)

followed_nil : (o : Option (List Shape)) → followed_by o [] ≡ o
followed_nil None = refl
followed_nil (Some l) = ap Some (append_nil l)

or_none : (o : Option (List Shape)) → or_else o None ≡ o
or_none None = refl
or_none (Some l) = refl

only_none : (b : Bool) → only_if b None ≡ None
only_none true = refl
only_none false = refl

followed-or : (o r : Option (List Shape)) (k : List Shape) → followed_by (or_else o r) k ≡ or_else (followed_by o k) (followed_by r k)
followed-or None r k = refl
followed-or (Some l) r k = refl

followed-followed : (o : Option (List Shape)) (k m : List Shape) → followed_by (followed_by o k) m ≡ followed_by o (k ++ m)
followed-followed None k m = refl
followed-followed (Some l) k m = ap Some (append_assoc l k m)

or_assoc : (o r s : Option (List Shape)) → or_else (or_else o r) s ≡ or_else o (or_else r s)
or_assoc None r s = refl
or_assoc (Some l) r s = refl

only-followed : (b : Bool) (o : Option (List Shape)) (k : List Shape) → followed_by (only_if b o) k ≡ only_if b (followed_by o k)
only-followed true o k = refl
only-followed false o k = refl

only-or : (b : Bool) (o r : Option (List Shape)) → only_if b (or_else o r) ≡ or_else (only_if b o) (only_if b r)
only-or true o r = refl
only-or false o r = refl

only-and : (b c : Bool) (o : Option (List Shape)) → only_if b (only_if c o) ≡ only_if (b && c) o
only-and true c o = refl
only-and false c o = refl

pub after_all-append : (l k : List Shape) (t : Lexeme) → after_all (l ++ k) t ≡ or_else (followed_by (after_all l t) k) (only_if (nullable_all l) (after_all k t))
after_all-append [] k t = refl
after_all-append (p ∷ l) k t =
    rw (
      after_all-append l k t,
      followed-or (followed_by (after p t) l) (only_if (nullable p) (after_all l t)) k,
      followed-followed (after p t) l k,
      only-followed (nullable p) (after_all l t) k,
      only-or (nullable p) (followed_by (after_all l t) k) (only_if (nullable_all l) (after_all k t)),
      only-and (nullable p) (nullable_all l) (after_all k t),
    )
    (sym (or_assoc (followed_by (after p t) (l ++ k)) (only_if (nullable p) (followed_by (after_all l t) k)) (only_if (nullable p && nullable_all l) (after_all k t))))

and_assoc : (a b c : Bool) → a && (b && c) ≡ (a && b) && c
and_assoc true b c = refl
and_assoc false b c = refl

pub nullable_all-append : (l k : List Shape) → nullable_all (l ++ k) ≡ (nullable_all l && nullable_all k)
nullable_all-append [] k = refl
nullable_all-append (p ∷ l) k = ap (λ b. nullable p && b) (nullable_all-append l k) ∙ and_assoc (nullable p) (nullable_all l) (nullable_all k)

-- a walk of two parts
pub walk-append : (ts : List Lexeme) (l k : List Shape) → walk (l ++ k) ts ≡ on (walk l ts) (λ rest. walk k rest)
unfolding walk
walk-append [] l k = rw (nullable_all-append l k) (at_end (nullable_all l))
  where
    at_end : (b : Bool) → ended (b && nullable_all k) [] ≡ on (ended b []) (λ rest. walk k rest)
    at_end true = refl
    at_end false = refl
walk-append (t ∷ ts) l k = rw (after_all-append l k t, nullable_all-append l k) (step (λ m. walk-append ts m k) (after_all l t) (nullable_all l))
  where
    step : ((m : List Shape) → walk (m ++ k) ts ≡ on (walk m ts) (λ rest. walk k rest)) → (o : Option (List Shape)) (b : Bool)
        → next (or_else (followed_by o k) (only_if b (after_all k t))) (λ m. walk m ts) (ended (b && nullable_all k) (t ∷ ts))
        ≡ on (next o (λ m. walk m ts) (ended b (t ∷ ts))) (λ rest. walk k rest)
    step f None true = refl
    step f None false = refl
    step f (Some m) b = f m

-- the laws of read, one for each way to make a shape
after_all-both : (p q : Shape) (t : Lexeme) → after_all ((p ⨾ q) ∷ []) t ≡ after_all (p ∷ q ∷ []) t
after_all-both p q t =
    rw (
      followed_nil (or_else (followed_by (after p t) (q ∷ [])) (only_if (nullable p) (after q t))),
      followed_nil (after q t),
      only_none (nullable q),
      only_none (nullable p && nullable q),
      or_none (after q t),
      or_none (or_else (followed_by (after p t) (q ∷ [])) (only_if (nullable p) (after q t))),
    ) refl

pub read-both : (p q : Shape) (ts : List Lexeme) → read (p ⨾ q) ts ≡ on (read p ts) (λ rest. read q rest)
unfolding read walk
read-both p q [] = rw (and-true (nullable p && nullable q)) (at_end (nullable p))
  where
    at_end : (b : Bool) → ended (b && nullable q) [] ≡ on (ended (b && true) []) (λ rest. walk (q ∷ []) rest)
    at_end true = rw (and-true (nullable q)) refl
    at_end false = refl
read-both p q (t ∷ ts) =
    rw (after_all-both p q t) (ap (λ b. next (after_all (p ∷ q ∷ []) t) (λ l. walk l ts) (ended b (t ∷ ts))) (and-true (nullable p && nullable q) ∙ ap (λ b. nullable p && b) (sym (and-true (nullable q))))
    ∙ walk-append (t ∷ ts) (p ∷ []) (q ∷ []))

pub one_past : (x : Terminal) (t : Lexeme) (ts : List Lexeme) → matches x t ≡ true → read (one x) (t ∷ ts) ≡ Past ts
unfolding read walk
one_past x t [] h = rw h refl
one_past x t (u ∷ ts) h = rw h refl

pub one_stopped : (x : Terminal) (t : Lexeme) (ts : List Lexeme) → matches x t ≡ false → read (one x) (t ∷ ts) ≡ Stopped (t ∷ ts)
unfolding read walk
one_stopped x t ts h = rw h refl

pub one_end : (x : Terminal) → read (one x) [] ≡ Stopped []
unfolding read walk
one_end x = refl

pub both_past : (p q : Shape) (s r z : List Lexeme) → read p s ≡ Past r → read q r ≡ Past z → read (p ⨾ q) s ≡ Past z
both_past p q s r z f g = read-both p q s ∙ ap (λ o. on o (λ rest. read q rest)) f ∙ g

pub both_stopped : (p q : Shape) (s r z : List Lexeme) → read p s ≡ Past r → read q r ≡ Stopped z → read (p ⨾ q) s ≡ Stopped z
both_stopped p q s r z f g = read-both p q s ∙ ap (λ o. on o (λ rest. read q rest)) f ∙ g

pub first_stopped : (p q : Shape) (s z : List Lexeme) → read p s ≡ Stopped z → read (p ⨾ q) s ≡ Stopped z
first_stopped p q s z f = read-both p q s ∙ ap (λ o. on o (λ rest. read q rest)) f

-- the first of two where it begins with the token
pub left_read : (p q : Shape) (t : Lexeme) (ts : List Lexeme) → starts p t ≡ true → read (p ∣ q) (t ∷ ts) ≡ read p (t ∷ ts)
unfolding read walk
left_read p q t ts h = go (after p t) h
  where
    go : (o : Option (List Shape)) → has o ≡ true
        → next (or_else (followed_by (or_else o (after q t)) []) (only_if (nullable p || nullable q) None)) (λ l. walk l ts) (ended ((nullable p || nullable q) && true) (t ∷ ts))
        ≡ next (or_else (followed_by o []) (only_if (nullable p) None)) (λ l. walk l ts) (ended (nullable p && true) (t ∷ ts))
    go None h = (cc)
    go (Some l) h = refl

-- else the second
pub right_read : (p q : Shape) (t : Lexeme) (ts : List Lexeme) → nullable p ≡ false → starts p t ≡ false → read (p ∣ q) (t ∷ ts) ≡ read q (t ∷ ts)
unfolding read walk
right_read p q t ts n h = rw n (go (after p t) h)
  where
    go : (o : Option (List Shape)) → has o ≡ false
        → next (or_else (followed_by (or_else o (after q t)) []) (only_if (nullable q) None)) (λ l. walk l ts) (ended (nullable q && true) (t ∷ ts))
        ≡ next (or_else (followed_by (after q t) []) (only_if (nullable q) None)) (λ l. walk l ts) (ended (nullable q && true) (t ∷ ts))
    go None h = refl
    go (Some l) h = (cc)

pub either_end : (p q : Shape) → read (p ∣ q) [] ≡ ended (nullable p || nullable q) []
unfolding read walk
either_end p q = rw (and-true (nullable p || nullable q)) refl

pub nothing_read : (ts : List Lexeme) → read nothing ts ≡ Past ts
unfolding read walk
nothing_read [] = refl
nothing_read (t ∷ ts) = refl

pub many_end : (p : Shape) → read (many p) [] ≡ Past []
unfolding read walk
many_end p = refl

pub many_done : (p : Shape) (t : Lexeme) (ts : List Lexeme) → starts p t ≡ false → read (many p) (t ∷ ts) ≡ Past (t ∷ ts)
unfolding read walk
many_done p t ts h = go (after p t) h
  where
    go : (o : Option (List Shape)) → has o ≡ false
        → next (or_else (followed_by (followed_by o (many p ∷ [])) []) None) (λ l. walk l ts) (Past (t ∷ ts)) ≡ Past (t ∷ ts)
    go None h = refl
    go (Some l) h = (cc)

pub many_more : (p : Shape) (t : Lexeme) (ts : List Lexeme) → starts p t ≡ true → read (many p) (t ∷ ts) ≡ on (read p (t ∷ ts)) (λ rest. read (many p) rest)
unfolding read walk
many_more p t ts h = go (after p t) h ∙ walk-append (t ∷ ts) (p ∷ []) (many p ∷ [])
  where
    go : (o : Option (List Shape)) → has o ≡ true
        → next (or_else (followed_by (followed_by o (many p ∷ [])) []) None) (λ l. walk l ts) (Past (t ∷ ts))
        ≡ next (or_else (followed_by o (many p ∷ [])) (only_if (nullable p) (or_else (followed_by (followed_by (after p t) (many p ∷ [])) []) None))) (λ l. walk l ts) (ended (nullable p && true) (t ∷ ts))
    go None h = (cc)
    go (Some l) h = ap (λ k. walk k ts) (append_nil (l ++ many p ∷ []))

pub end_read : (p : Shape) → read p [] ≡ ended (nullable p) []
unfolding read walk
end_read p = ap (λ b. ended b []) (and-true (nullable p))

abbrev left_of : Outcome → List Lexeme
left_of (Past rest) = rest
left_of (Stopped rest) = rest

walk_shorter : (ts : List Lexeme) (k : List Shape) → length (left_of (walk k ts)) ≤ length ts
unfolding walk
walk_shorter [] k = go (nullable_all k)
  where
    go : (b : Bool) → length (left_of (ended b [])) ≤ 0
    go true = omega arith
    go false = omega arith
walk_shorter (t ∷ ts) k = go (λ l. walk_shorter ts l) (after_all k t) (nullable_all k)
  where
    go : ((l : List Shape) → length (left_of (walk l ts)) ≤ length ts) → (o : Option (List Shape)) (b : Bool)
        → length (left_of (next o (λ l. walk l ts) (ended b (t ∷ ts)))) ≤ length (t ∷ ts)
    go f None true = omega arith
    go f None false = omega arith
    go f (Some l) b = let h : length (left_of (walk l ts)) ≤ length ts = f l in omega arith

pub read_shorter : (p : Shape) (s z : List Lexeme) → read p s ≡ Past z → length z ≤ length s
unfolding read
read_shorter p s z e = subst (λ o. length (left_of o) ≤ length s) e (walk_shorter s (p ∷ []))

read_next : (p : Shape) (t : Lexeme) (s : List Lexeme) → read p (t ∷ s) ≡ next (or_else (followed_by (after p t) []) (only_if (nullable p) None)) (λ l. walk l s) (ended (nullable p && true) (t ∷ s))
unfolding read walk
read_next p t s = refl

-- A shape that generates no empty list takes a token.
pub read_shrinks : (p : Shape) (s z : List Lexeme) → nullable p ≡ false → read p s ≡ Past z → length z < length s
read_shrinks p [] z n e = absurd (no (nullable p) n (sym (end_read p) ∙ e))
  where
    no : (b : Bool) → b ≡ false → ended b [] ≡ Past z → ⊥
    no true n e = (cc)
    no false n e = (cc)
read_shrinks p (t ∷ s) z n e = go (nullable p) n (after p t) (sym (read_next p t s) ∙ e)
  where
    go : (b : Bool) → b ≡ false → (o : Option (List Shape)) → next (or_else (followed_by o []) (only_if b None)) (λ l. walk l s) (ended (b && true) (t ∷ s)) ≡ Past z → length z < length (t ∷ s)
    go true n o e = (cc)
    go false n None e = (cc)
    go false n (Some l) e = let h : length (left_of (walk (l ++ []) s)) ≤ length s = walk_shorter s (l ++ []) in let k : length z ≤ length s = subst (λ o. length (left_of o) ≤ length s) e h in omega arith
