-- The steps of a parser: what each reads follows from what its parts read.
use Rattle.std.proofs.Common.{◌≡◌, ◌≤◌, ℕ, Bool, true, false, not, ◌||◌, nat_eq, List, [], ◌∷◌, ◌++◌, Option, Some, None, drop, length, refl, sym, ◌∙◌, ap, subst, append_assoc, arith}
use Rattle.std.specs.Cmp.Lexicographic.{pointwise}
use Rattle.std.proofs.lemmas.Bool.Decides.{Decides-eqb}
use Rattle.std.proofs.lemmas.Slice.Eq.{slice_eq-Decides}
use Rattle.script_lex.specs.declared.kinds.Symbol.{Symbol}
use Rattle.script_lex.specs.declared.kinds.Symbol.TheVariants.{Open, Close, Comma, Dot, Eq, Ne, Lt, Le, Gt, Ge}
use Rattle.spj_syntax.specs.Lexemes.{Lexeme, Word, Number, Quoted, Mark}
use Rattle.spj_syntax.specs.Shapes.{Terminal, word, name, int, text, mark, primary, matches, code, Shape, one, ◌⨾◌, ◌∣◌, many, nothing}
use Rattle.std.proofs.Common.{ℤ, IsTrue}
use Rattle.cqa_value.specs.Literals.{is_in_range}
use Rattle.spj_syntax.specs.Grammar.{literal}
use Rattle.cqa_value.specs.declared.value.Value.{Value}
use Rattle.cqa_value.specs.declared.value.Value.TheVariants.{Int, Text}
use Rattle.spj_syntax.specs.Written.{literal_tokens, each_after, between, filtered_tokens, anded_tokens, head_tokens, col_tokens, listed_tokens, name_tokens, column_tokens, strict_tokens, key_tokens, statement_tokens}
use Rattle.cqa_model.specs.declared.schema.Column.{Column}
use Rattle.spj_syntax.specs.declared.tree.Statement.TheVariants.{Create}
use Rattle.spj_syntax.specs.declared.tree.RawCol.{RawCol}
use Rattle.std.proofs.Common.{codes}
use Rattle.std.proofs.Common.{◌<◌}
use Rattle.std.proofs.lemmas.List.{append-nil}
use Rattle.spj_syntax.specs.Names.{AreNames}
use Rattle.spj_syntax.specs.Walk.{nullable, followed_by, or_else, only_if, after, starts, has, opens, Opens, Outcome, Past, Stopped, ended, on, read}
use Rattle.std.specs.Result.{IsErrAnd, IfOk}
use Rattle.std.proofs.Common.{Result, Ok, Err}
use Rattle.std.proofs.lemmas.Result.{err_from_is_err_and}
use Rattle.std.proofs.Math.Bool.{or-false}
use Rattle.spj_syntax.specs.declared.reader.Stop.{Stop}
use Rattle.spj_syntax.specs.declared.reader.Stop.TheVariants.{NoMemory, Syntax}
use Rattle.spj_syntax.specs.declared.lists.Between.{Between}
use Rattle.spj_syntax.specs.declared.lists.Between.TheVariants as betweens
use Rattle.spj_syntax.specs.Reading.{separator, separator_lexeme, Pushes, Takes, Took, StopsAt, Failed, Reads, front_of, each_before, body_tokens}
use Rattle.spj_syntax.specs.Parsed.{Fits}
use Rattle.spj_syntax.proofs.Walking.{read-both, one_past, one_stopped, one_end, both_past, both_stopped, first_stopped, left_read, right_read, either_end, nothing_read, many_end, many_done, many_more, end_read, read_shorter, read_shrinks}

pub front_cons : (s : List Lexeme) (l : Lexeme) → front_of s ≡ Some l → s ≡ l ∷ drop 1 s
front_cons [] l e = (cc)
front_cons (t ∷ s) l e = ap (λ z. z ∷ s) (the_same t l e)
  where
    the_same : (a b : Lexeme) → Some a ≡ Some b → a ≡ b
    the_same a b e = cc

pub one_left : (x : Terminal) (s : List Lexeme) → opens (one x) s ≡ false → read (one x) s ≡ Stopped s
one_left x [] h = one_end x
one_left x (t ∷ s) h = one_stopped x t s (no (matches x t) h)
  where
    no : (b : Bool) → has (only_if b (Some [])) ≡ false → b ≡ false
    no true h = (cc)
    no false h = refl

-- the first token is taken
pub one_takes : (x : Terminal) (l : Lexeme) (s w : List Lexeme) → front_of s ≡ Some l → matches x l ≡ true → (Fits false l → w ≡ l ∷ []) → Took (one x) w s (drop 1 s)
one_takes x l [] w e m f = (cc)
one_takes x l (t ∷ s) w e m f = let k : t ≡ l = the_same t l e in record {
  way = one_past x t s (ap (λ z. matches x z) k ∙ m);
  takes = λ a. (sym (ap (λ z. z ++ s) (f (subst (Fits false) k a.0)) ∙ ap (λ z. z ∷ s) (sym k)), a.1);
}
  where
    the_same : (a b : Lexeme) → Some a ≡ Some b → a ≡ b
    the_same a b e = cc

opened : (x : Terminal) (s : List Lexeme) → opens (one x) s ≡ true → (l : Lexeme) × (front_of s ≡ Some l) × (matches x l ≡ true)
opened x [] h = (cc)
opened x (t ∷ s) h = (t, refl, yes (matches x t) h)
  where
    yes : (b : Bool) → has (only_if b (Some [])) ≡ true → b ≡ true
    yes true h = refl
    yes false h = (cc)

code_same : (s r : Symbol) → code s ≡ code r → s ≡ r
code_same Open Open e = refl
code_same Close Close e = refl
code_same Comma Comma e = refl
code_same Dot Dot e = refl
code_same Eq Eq e = refl
code_same Ne Ne e = refl
code_same Lt Lt e = refl
code_same Le Le e = refl
code_same Gt Gt e = refl
code_same Ge Ge e = refl
code_same _ _ e = (cc)

word_same : (w : List ℕ) (l : Lexeme) → matches (word w) l ≡ true → Word w ≡ l
word_same w (Word v) h = ap Word ((slice_eq-Decides Decides-eqb w v (pointwise nat_eq w v) refl).0 h)
word_same w (Number z) h = (cc)
word_same w (Quoted t) h = (cc)
word_same w (Mark s) h = (cc)

mark_same : (s : Symbol) (l : Lexeme) → matches (mark s) l ≡ true → Mark s ≡ l
mark_same s (Word v) h = (cc)
mark_same s (Number z) h = (cc)
mark_same s (Quoted t) h = (cc)
mark_same s (Mark r) h = ap Mark (code_same s r ((Decides-eqb (code s) (code r)).0 h))

pub word_taken : (w : List ℕ) (s : List Lexeme) → opens (one (word w)) s ≡ true → Took (one (word w)) (Word w ∷ []) s (drop 1 s)
word_taken w s h = let o = opened (word w) s h in one_takes (word w) o.0 s (Word w ∷ []) o.1 o.2 (λ _. ap (λ z. z ∷ []) (word_same w o.0 o.2))

pub mark_taken : (y : Symbol) (s : List Lexeme) → opens (one (mark y)) s ≡ true → Took (one (mark y)) (Mark y ∷ []) s (drop 1 s)
mark_taken y s h = let o = opened (mark y) s h in one_takes (mark y) o.0 s (Mark y ∷ []) o.1 o.2 (λ _. ap (λ z. z ∷ []) (mark_same y o.0 o.2))

-- a word that was taken stood first
pub word_first : {w : List ℕ} {v s z : List Lexeme} → Took (one (word w)) v s z → s ≡ Word w ∷ z
word_first {w = w} {s = s} {z = z} h = go s h.way
  where
    past : (a b : List Lexeme) → Past a ≡ Past b → a ≡ b
    past a b e = cc

    told : (t : Lexeme) (s : List Lexeme) (b : Bool) → matches (word w) t ≡ b → read (one (word w)) (t ∷ s) ≡ Past z → t ∷ s ≡ Word w ∷ z
    told t s true m e = ap (λ l. l ∷ s) (sym (word_same w t m)) ∙ ap (λ r. Word w ∷ r) (past s z (sym (one_past (word w) t s m) ∙ e))
    told t s false m e = let f : Stopped (t ∷ s) ≡ Past z = sym (one_stopped (word w) t s m) ∙ e in absurd (cc)

    go : (s : List Lexeme) → read (one (word w)) s ≡ Past z → s ≡ Word w ∷ z
    go [] e = let f : Stopped [] ≡ Past z = sym (one_end (word w)) ∙ e in absurd (cc)
    go (t ∷ s) e = told t s (matches (word w) t) refl e

-- one after another
pub took_both : {p q : Shape} {w u v s r z : List Lexeme} → Took p w s r → Took q u r z → v ≡ w ++ u → Took (p ⨾ q) v s z
took_both {p = p} {q = q} {w = w} {u = u} {v = v} {s = s} {r = r} {z = z} h k e = record {
  way = both_past p q s r z h.way k.way;
  takes = λ a.
      let b = h.takes a in
      let d = k.takes b.1 in
      (b.0 ∙ ap (λ x. w ++ x) d.0 ∙ sym (append_assoc w u z) ∙ ap (λ x. x ++ z) (sym e), d.1);
}

-- what is written of both begins a whole that goes on
pub took_before : {p q : Shape} {g a s r z : List Lexeme} (n f : List Lexeme) → g ≡ a ++ n → Took p a s r → Took q (n ++ f) r z → Took (p ⨾ q) (g ++ f) s z
took_before {a = a} n f e h k = took_both h k (ap (λ x. x ++ f) e ∙ append_assoc a n f)

-- the first of two
pub left_is : (p q : Shape) (s : List Lexeme) (o : Outcome) → opens p s ≡ true → read p s ≡ o → read (p ∣ q) s ≡ o
left_is p q [] o h e = (cc)
left_is p q (t ∷ s) o h e = left_read p q t s h ∙ e

pub right_is : (p q : Shape) (s : List Lexeme) (o : Outcome) → nullable p ≡ false → opens p s ≡ false → read q s ≡ o → read (p ∣ q) s ≡ o
right_is p q [] o n h e = either_end p q ∙ ap (λ b. ended (b || nullable q) []) n ∙ sym (end_read q) ∙ e
right_is p q (t ∷ s) o n h e = right_read p q t s n h ∙ e

pub took_left : {p q : Shape} {w s z : List Lexeme} → Opens true p s → Took p w s z → Took (p ∣ q) w s z
took_left {p = p} {q = q} {w = w} {s = s} {z = z} h k = record { way = left_is p q s (Past z) (sym h.is) k.way; takes = k.takes }

pub took_right : {p q : Shape} {w s z : List Lexeme} → nullable p ≡ false → Opens false p s → Took q w s z → Took (p ∣ q) w s z
took_right {p = p} {q = q} {w = w} {s = s} {z = z} n h k = record { way = right_is p q s (Past z) n (sym h.is) k.way; takes = k.takes }

pub took_nothing : {s : List Lexeme} → Took nothing [] s s
took_nothing {s = s} = record { way = nothing_read s; takes = λ a. (refl, a) }

-- with what a shape opens
has-followed : (o : Option (List Shape)) (k : List Shape) → has (followed_by o k) ≡ has o
has-followed None k = refl
has-followed (Some l) k = refl

has-or : (o r : Option (List Shape)) → has (or_else o r) ≡ (has o || has r)
has-or None r = refl
has-or (Some l) r = refl

pub opens-both : (p q : Shape) (s : List Lexeme) → nullable p ≡ false → opens (p ⨾ q) s ≡ opens p s
opens-both p q [] n = refl
opens-both p q (t ∷ s) n = has-or (followed_by (after p t) (q ∷ [])) (only_if (nullable p) (after q t)) ∙ ap (λ b. has (followed_by (after p t) (q ∷ [])) || has (only_if b (after q t))) n ∙ or-false (has (followed_by (after p t) (q ∷ []))) ∙ has-followed (after p t) (q ∷ [])

pub opens-either : (p q : Shape) (s : List Lexeme) → opens (p ∣ q) s ≡ (opens p s || opens q s)
opens-either p q [] = refl
opens-either p q (t ∷ s) = has-or (after p t) (after q t)

pub opens_then : {b : Bool} {p q : Shape} {s : List Lexeme} → nullable p ≡ false → Opens b p s → Opens b (p ⨾ q) s
opens_then {p = p} {q = q} {s = s} n h = record { is = h.is ∙ sym (opens-both p q s n) }

pub opens_left : {p q : Shape} {s : List Lexeme} → Opens true p s → Opens true (p ∣ q) s
opens_left {p = p} {q = q} {s = s} h = record { is = sym (opens-either p q s ∙ ap (λ b. b || opens q s) (sym h.is)) }

pub opens_either : {b : Bool} {p q : Shape} {s : List Lexeme} → Opens false p s → Opens b q s → Opens b (p ∣ q) s
opens_either {p = p} {q = q} {s = s} h k = record { is = sym (opens-either p q s ∙ ap (λ b. b || opens q s) (sym h.is) ∙ sym k.is) }

-- any number of times
pub many_stops : (p : Shape) (s : List Lexeme) → opens p s ≡ false → read (many p) s ≡ Past s
many_stops p [] h = many_end p
many_stops p (t ∷ s) h = many_done p t s h

pub many_goes : (p : Shape) (s r : List Lexeme) → opens p s ≡ true → read p s ≡ Past r → read (many p) s ≡ read (many p) r
many_goes p [] r h e = (cc)
many_goes p (t ∷ s) r h e = many_more p t s h ∙ ap (λ o. on o (λ rest. read (many p) rest)) e

pub many_fails : (p : Shape) (s r : List Lexeme) → opens p s ≡ true → read p s ≡ Stopped r → read (many p) s ≡ Stopped r
many_fails p [] r h e = (cc)
many_fails p (t ∷ s) r h e = many_more p t s h ∙ ap (λ o. on o (λ rest. read (many p) rest)) e

pub name_left : (s : List Lexeme) (b : List ℕ) → front_of s ≡ Some (Word b) → pointwise nat_eq primary b ≡ true → read (one name) s ≡ Stopped s
name_left [] b e h = (cc)
name_left (t ∷ s) b e h = one_stopped name t s (subst (λ l. matches name l ≡ false) (sym (the_same t (Word b) e)) (ap not h))
  where
    the_same : (a b : Lexeme) → Some a ≡ Some b → a ≡ b
    the_same a b e = cc

pub name_takes : (s : List Lexeme) (b n : List ℕ) → front_of s ≡ Some (Word b) → pointwise nat_eq primary b ≡ false → (length b ≤ 64 → n ≡ b) → Took (one name) (Word n ∷ []) s (drop 1 s)
name_takes s b n e h f = one_takes name (Word b) s (Word n ∷ []) e (ap not h) (λ fits. ap (λ z. Word z ∷ []) (f (omega arith)))

-- where a part fails, the whole does
pub fails_first : {p q : Shape} {e : Stop} {s z : List Lexeme} → Failed p e s z → Failed (p ⨾ q) e s z
fails_first {p = p} {q = q} {e = e} {s = s} {z = z} h = record { way = go e h.way }
  where
    go : (e : Stop) → StopsAt p e s z → StopsAt (p ⨾ q) e s z
    go Syntax h = first_stopped p q s z h
    go NoMemory h = tt

pub fails_then : {p q : Shape} {w : List Lexeme} {e : Stop} {s r z : List Lexeme} → Took p w s r → Failed q e r z → Failed (p ⨾ q) e s z
fails_then {p = p} {q = q} {w = w} {e = e} {s = s} {r = r} {z = z} k h = record { way = go e h.way }
  where
    go : (e : Stop) → StopsAt q e r z → StopsAt (p ⨾ q) e s z
    go Syntax h = both_stopped p q s r z k.way h
    go NoMemory h = tt

pub fails_left : {p q : Shape} {e : Stop} {s z : List Lexeme} → Opens true p s → Failed p e s z → Failed (p ∣ q) e s z
fails_left {p = p} {q = q} {e = e} {s = s} {z = z} o h = record { way = go e h.way }
  where
    go : (e : Stop) → StopsAt p e s z → StopsAt (p ∣ q) e s z
    go Syntax h = left_is p q s (Stopped z) (sym o.is) h
    go NoMemory h = tt

pub fails_right : {p q : Shape} {e : Stop} {s z : List Lexeme} → nullable p ≡ false → Opens false p s → Failed q e s z → Failed (p ∣ q) e s z
fails_right {p = p} {q = q} {e = e} {s = s} {z = z} n o h = record { way = go e h.way }
  where
    go : (e : Stop) → StopsAt q e s z → StopsAt (p ∣ q) e s z
    go Syntax h = right_is p q s (Stopped z) n (sym o.is) h
    go NoMemory h = tt

pub stops_at : {p : Shape} {s z : List Lexeme} → read p s ≡ Stopped z → Failed p Syntax s z
stops_at h = record { way = h }

-- what a `?` returns
pub exit : {A : Type 0} {p : Shape} {e : Stop} {s z : List Lexeme} (w : A → List Lexeme) (r : Result A Stop) → IsErrAnd r (λ y. y ≡ e) → Failed p e s z → Reads p w r s z
exit w r i h = let g = err_from_is_err_and r i in rw (g.1, g.2) h

pub exit_pushes : {A : Type 0} {p : Shape} {e : Stop} {s z : List Lexeme} (w : A → List Lexeme) (kept : A → Type 0) (xs ys : List A) (r : Result (Unit {0}) Stop) → IsErrAnd r (λ y. y ≡ e) → Failed p e s z → Pushes p w kept r xs ys s z
exit_pushes w kept xs ys r i h = let g = err_from_is_err_and r i in rw (g.1, g.2) h

pub word_took : {w : List ℕ} {s z : List Lexeme} → Opens true (one (word w)) s → z ≡ drop 1 s → Took (one (word w)) (Word w ∷ []) s z
word_took {w = w} {s = s} h e = rw e (word_taken w s (sym h.is))

pub mark_took : {y : Symbol} {s z : List Lexeme} → Opens true (one (mark y)) s → z ≡ drop 1 s → Took (one (mark y)) (Mark y ∷ []) s z
mark_took {y = y} {s = s} h e = rw e (mark_taken y s (sym h.is))

pub separator_took : (b : Between) {s z : List Lexeme} → Opens true (one (separator b)) s → z ≡ drop 1 s → Took (one (separator b)) (separator_lexeme b ∷ []) s z
separator_took betweens.Comma o e = mark_took o e
separator_took betweens.And o e = word_took o e
separator_took betweens.Union o e = word_took o e

-- the shape stops where it doesn't open
pub one_fails : {x : Terminal} {s : List Lexeme} → Opens false (one x) s → Failed (one x) Syntax s s
one_fails {x = x} {s = s} h = record { way = one_left x s (sym h.is) }

-- what the first token says of a shape
pub opens_front : {s : List Lexeme} {l : Lexeme} (p : Shape) → front_of s ≡ Some l → Opens (starts p l) p s
opens_front {s = s} {l = l} p e = record { is = go s e }
  where
    go : (s : List Lexeme) → front_of s ≡ Some l → starts p l ≡ opens p s
    go [] e = (cc)
    go (t ∷ s) e = ap (λ z. starts p z) (let h : l ≡ t = cc in h)

pub shut_end : {s : List Lexeme} (p : Shape) → front_of s ≡ None → Opens false p s
shut_end {s = s} p e = record { is = go s e }
  where
    go : (s : List Lexeme) → front_of s ≡ None → false ≡ opens p s
    go [] e = refl
    go (t ∷ s) e = (cc)

pub int_takes : (s : List Lexeme) (z : ℤ) (v : Value) → front_of s ≡ Some (Number z) → (IsTrue (is_in_range z) → v ≡ Int z) → Took literal (literal_tokens v) s (drop 1 s)
int_takes s z v e h = took_left (opens_front (one int) e) (one_takes int (Number z) s (literal_tokens v) e refl (λ f. ap literal_tokens (h f)))

pub text_takes : (s : List Lexeme) (b t : List ℕ) → front_of s ≡ Some (Quoted b) → (length b ≤ 1024 → t ≡ b) → Took literal (literal_tokens (Text t)) s (drop 1 s)
text_takes s b t e h = took_right refl (opens_front (one int) e) (one_takes text (Quoted b) s (literal_tokens (Text t)) e refl (λ f. ap (λ z. Quoted z ∷ []) (h f)))

pub literal_shut : (s : List Lexeme) (l : Lexeme) → front_of s ≡ Some l → starts (one int) l ≡ false → starts (one text) l ≡ false → Failed literal Syntax s s
literal_shut s l e h k =
    fails_right refl (subst (λ b. Opens b (one int) s) h (opens_front (one int) e)) (one_fails (subst (λ b. Opens b (one text) s) k (opens_front (one text) e)))

pub literal_end : (s : List Lexeme) → front_of s ≡ None → Failed literal Syntax s s
literal_end s e = fails_right refl (shut_end (one int) e) (one_fails (shut_end (one text) e))

-- What p reads from the old tokens is what q reads from the new ones, and between them these stand.
pub record Rest (p q : Shape) (written old new : List Lexeme) : Type 0 where
  pub way : read p old ≡ read q new
  pub takes : Takes written old new

takes_both : (w u v s r z : List Lexeme) → Takes w s r → Takes u r z → v ≡ w ++ u → Takes v s z
takes_both w u v s r z h k e = λ a.
    let b = h a in
    let d = k b.1 in
    (b.0 ∙ ap (λ x. w ++ x) d.0 ∙ sym (append_assoc w u z) ∙ ap (λ x. x ++ z) (sym e), d.1)

pub rest_after : {p q : Shape} {w s r : List Lexeme} → Took p w s r → Rest (p ⨾ q) q w s r
rest_after {p = p} {q = q} {w = w} {s = s} {r = r} h = record { way = read-both p q s ∙ ap (λ o. on o (λ x. read q x)) h.way; takes = h.takes }

pub rest_took : {p q : Shape} {w u v s r z : List Lexeme} → Rest p q w s r → Took q u r z → v ≡ w ++ u → Took p v s z
rest_took {w = w} {u = u} {v = v} {s = s} {r = r} {z = z} h k e = record { way = h.way ∙ k.way; takes = takes_both w u v s r z h.takes k.takes e }

pub rest_fails : {p q : Shape} {w : List Lexeme} {e : Stop} {s r z : List Lexeme} → Rest p q w s r → Failed q e r z → Failed p e s z
rest_fails {p = p} {q = q} {w = w} {e = e} {s = s} {r = r} {z = z} k h = record { way = go e h.way }
  where
    go : (e : Stop) → StopsAt q e r z → StopsAt p e s z
    go Syntax h = k.way ∙ h
    go NoMemory h = tt

pub rest_more : {p q : Shape} {w u v s r z : List Lexeme} → Rest p (many q) w s r → Opens true q r → Took q u r z → v ≡ w ++ u → Rest p (many q) v s z
rest_more {p = p} {q = q} {w = w} {u = u} {v = v} {s = s} {r = r} {z = z} h o k e = record {
  way = h.way ∙ many_goes q r z (sym o.is) k.way;
  takes = takes_both w u v s r z h.takes k.takes e;
}

pub many_nothing : {p : Shape} {s : List Lexeme} → Opens false p s → Took (many p) [] s s
many_nothing {p = p} {s = s} o = record { way = many_stops p s (sym o.is); takes = λ a. (refl, a) }

pub many_failed : {p : Shape} {e : Stop} {s z : List Lexeme} → Opens true p s → Failed p e s z → Failed (many p) e s z
many_failed {p = p} {e = e} {s = s} {z = z} o h = record { way = go e h.way }
  where
    go : (e : Stop) → StopsAt p e s z → StopsAt (many p) e s z
    go Syntax h = many_fails p s z (sym o.is) h
    go NoMemory h = tt

pub no_memory : {p : Shape} {s z : List Lexeme} → Failed p NoMemory s z
no_memory = record { way = tt }

-- lists with a token between their items
each_after-push : {A : Type 0} (l : Lexeme) (f : A → List Lexeme) (xs : List A) (x : A) → each_after l f (xs ++ x ∷ []) ≡ each_after l f xs ++ l ∷ f x
each_after-push l f [] x = ap (λ z. l ∷ z) (append-nil (f x))
each_after-push l f (y ∷ xs) x = ap (λ z. l ∷ z) (ap (λ z. f y ++ z) (each_after-push l f xs x) ∙ sym (append_assoc (f y) (each_after l f xs) (l ∷ f x)))

pub between-push : {A : Type 0} (l : Lexeme) (f : A → List Lexeme) (xs : List A) (x : A) → 0 < length xs → between l f (xs ++ x ∷ []) ≡ between l f xs ++ l ∷ f x
between-push l f [] x h = absurd (omega arith)
between-push l f (y ∷ xs) x h = ap (λ z. f y ++ z) (each_after-push l f xs x) ∙ sym (append_assoc (f y) (each_after l f xs) (l ∷ f x))

pub took_shorter : {p : Shape} {w s z : List Lexeme} → Took p w s z → length z ≤ length s
took_shorter {p = p} {s = s} {z = z} h = read_shorter p s z h.way

pub took_fewer : {p : Shape} {w s z : List Lexeme} → nullable p ≡ false → Took p w s z → length z < length s
took_fewer {p = p} {s = s} {z = z} n h = read_shrinks p s z n h.way

pub open_some : {p : Shape} {s : List Lexeme} → Opens true p s → 0 < length s
open_some {p = p} {s = s} h = go s h.is
  where
    go : (s : List Lexeme) → true ≡ opens p s → 0 < length s
    go [] e = (cc)
    go (t ∷ s) e = omega arith

pub drop_shorter : (s : List Lexeme) → 0 < length s → length (drop 1 s) < length s
drop_shorter [] h = absurd (omega arith)
drop_shorter (t ∷ s) h = omega arith

pub filtered_some : {A : Type 0} (f : A → List Lexeme) (xs : List A) → 0 < length xs → filtered_tokens f xs ≡ Word (codes "where") ∷ anded_tokens f xs
filtered_some f [] h = absurd (omega arith)
filtered_some f (x ∷ xs) h = refl

pub head_some : (cs : List RawCol) → 0 < length cs → head_tokens cs ≡ Word (codes "select") ∷ between (Mark Comma) col_tokens cs
head_some [] h = absurd (omega arith)
head_some (c ∷ cs) h = refl

-- A column list with a comma behind each is one with commas between them and a comma behind it.
each_after-then : {A : Type 0} (l : Lexeme) (f : A → List Lexeme) (xs : List A) (r : List Lexeme) → each_after l f xs ++ l ∷ r ≡ l ∷ (each_before l f xs ++ r)
each_after-then l f [] r = refl
each_after-then l f (x ∷ xs) r = ap (λ z. l ∷ z) (append_assoc (f x) (each_after l f xs) (l ∷ r) ∙ ap (λ z. f x ++ z) (each_after-then l f xs r)
    ∙ sym (ap (λ z. z ++ r) (append_assoc (f x) (l ∷ []) (each_before l f xs)) ∙ append_assoc (f x) (l ∷ each_before l f xs) r))

each_before-is : {A : Type 0} (l : Lexeme) (f : A → List Lexeme) (xs : List A) (r : List Lexeme) → 0 < length xs → each_before l f xs ++ r ≡ between l f xs ++ l ∷ r
each_before-is l f [] r h = absurd (omega arith)
each_before-is l f (x ∷ xs) r h = ap (λ z. z ++ r) (append_assoc (f x) (l ∷ []) (each_before l f xs)) ∙ append_assoc (f x) (l ∷ each_before l f xs) r
    ∙ sym (append_assoc (f x) (each_after l f xs) (l ∷ r) ∙ ap (λ z. f x ++ z) (each_after-then l f xs r))

pub each_before-push : {A : Type 0} (l : Lexeme) (f : A → List Lexeme) (xs : List A) (x : A) → each_before l f (xs ++ x ∷ []) ≡ each_before l f xs ++ (f x ++ l ∷ [])
each_before-push l f [] x = append-nil (f x ++ l ∷ [])
each_before-push l f (y ∷ xs) x = ap (λ z. (f y ++ l ∷ []) ++ z) (each_before-push l f xs x) ∙ sym (append_assoc (f y ++ l ∷ []) (each_before l f xs) (f x ++ l ∷ []))

pub created : {p : Shape} {s z : List Lexeme} (n : List ℕ) (cs : List Column) (k : List (List ℕ)) (strict : Bool) (some_column : 1 ≤ length cs) (some_key : 1 ≤ length k) (named : AreNames n cs k)
    → Took p (Word (codes "create") ∷ (strict_tokens strict ++ (Word (codes "table") ∷ (name_tokens n ++ body_tokens (cs, k))))) s z
    → Took p (statement_tokens (Create (record { name = n; columns = cs; key = k; strict = strict; some_column = some_column; some_key = some_key; named = named }))) s z
created {p = p} {s = s} {z = z} n cs k strict some_column some_key named t =
    subst (λ w. Took p (Word (codes "create") ∷ (strict_tokens strict ++ (Word (codes "table") ∷ Word n ∷ Mark Open ∷ w))) s z)
    (each_before-is (Mark Comma) column_tokens cs (key_tokens k ++ Mark Close ∷ []) some_column
    ∙ ap (λ w. between (Mark Comma) column_tokens cs ++ (Mark Comma ∷ Word (codes "primary") ∷ Word (codes "key") ∷ Mark Open ∷ w)) (append_assoc (listed_tokens name_tokens k) (Mark Close ∷ []) (Mark Close ∷ []))) t

-- what a part returns, the whole returns
pub reads_left : {A : Type 0} {p : Shape} {s : List Lexeme} (q : Shape) (w : A → List Lexeme) (r : Result A Stop) (z : List Lexeme) → Opens true p s → Reads p w r s z → Reads (p ∣ q) w r s z
reads_left q w (Ok v) z o h = took_left o h
reads_left q w (Err e) z o h = fails_left o h

pub reads_right : {A : Type 0} {p : Shape} {s : List Lexeme} (q : Shape) (w : A → List Lexeme) (r : Result A Stop) (z : List Lexeme) → nullable p ≡ false → Opens false p s → Reads q w r s z → Reads (p ∣ q) w r s z
reads_right q w (Ok v) z n o h = took_right n o h
reads_right q w (Err e) z n o h = fails_right n o h

pub reads_then : {A : Type 0} {p : Shape} {u s m : List Lexeme} (q : Shape) (v w : A → List Lexeme) (r : Result A Stop) (z : List Lexeme) → Took p u s m → Reads q v r m z → IfOk r (λ x. w x ≡ u ++ v x)
    → Reads (p ⨾ q) w r s z
reads_then q v w (Ok x) z h k e = took_both h k e
reads_then q v w (Err x) z h k e = fails_then h k

pub ruleset steps = (word_took, mark_took, one_fails, took_both, took_left, took_right, took_nothing, opens_then, opens_either, fails_first, fails_then, fails_left, fails_right, exit)
