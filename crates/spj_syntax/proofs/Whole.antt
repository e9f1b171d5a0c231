-- From what is read to what the parser answers.
use Rattle.std.proofs.Common.{◌≡◌, ◌≤◌, ◌<◌, ◌-◌, ◌+◌, ◌^◌, lit≤, ℕ, ℤ, Bool, true, false, List, [], ◌∷◌, ◌++◌, length, drop, take, get_or, zero, suc, length-append, arith, sym, ◌∙◌, ap, subst, refl, codes, pos, nat_eq, Ok, Err}
use Rattle.std.proofs.Common.{Some}
use Rattle.std.proofs.lemmas.Int.{ints}
use Rattle.std.proofs.lemmas.List.{drop_at, length-map, append-nil}
use Rattle.std.specs.List.{AllByRecursion}
use Rattle.std.specs.Cmp.Lexicographic.{pointwise}
use Rattle.script_lex.specs.declared.kinds.Token.{Token}
use Rattle.spj_syntax.specs.declared.tree.Statement.{Statement}
use Rattle.spj_syntax.specs.declared.tree.Statement.TheVariants.{SetConflicts}
use Rattle.spj_syntax.specs.declared.fault.SyntaxFault.{SyntaxFault}
use Rattle.spj_syntax.specs.declared.fault.SyntaxFault.TheVariants.{At, OutOfRange, TextTooLong, LongName}
use Rattle.cqa_value.specs.declared.memory.Fail.TheVariants.{Refused}
use Rattle.spj_syntax.specs.declared.reader.Stop.{Stop}
use Rattle.spj_syntax.specs.declared.reader.Stop.TheVariants.{NoMemory, Syntax}
use Rattle.spj_syntax.specs.Lexemes.{Lexeme, Word, Number, Quoted, Mark, lexeme}
use Rattle.spj_syntax.specs.First.{decided}
use Rattle.spj_syntax.specs.Shapes.{Shape, one, word, FirstFault, Generates}
use Rattle.spj_syntax.specs.Grammar as grammar
use Rattle.spj_syntax.specs.Factored.{statement, plain}
use Rattle.spj_syntax.specs.Walk.{Past, read, Opens, opens, has, only_if}
use Rattle.spj_syntax.specs.Parsed.{IsStatement, IsFaultOf, IsSyntaxFault, IsIntInRange, PlainFit, Fits, AllLexemesFit, IsFirstUnfit, RefusesTokens, fault_of, is_set, lexemes, place_of}
use Rattle.spj_syntax.specs.Reading.{Took, Failed, IsUnfit, Parses, ParsesForm, failure_of}
use Rattle.spj_syntax.specs.Written.{statement_tokens}
use Rattle.spj_syntax.proofs.Steps.{opens_then, took_left, took_right, fails_left, fails_right}
use Rattle.spj_syntax.proofs.Exact.{whole, too_many, stopped}
use Rattle.spj_syntax.proofs.Factoring.{from_factored, same_fault}
use Rattle.spj_syntax.proofs.Table.{statement_decided}

set_seen : (ls : List Lexeme) → opens (one (word (codes "set"))) ls ≡ is_set ls
set_seen [] = refl
set_seen (Word w ∷ ls) = go (pointwise nat_eq (codes "set") w)
  where
    go : (b : Bool) → has (only_if b (Some [])) ≡ b
    go true = refl
    go false = refl
set_seen (Number z ∷ ls) = refl
set_seen (Quoted t ∷ ls) = refl
set_seen (Mark s ∷ ls) = refl

-- A `set` is seen at its first word.
pub set_opens : {b : Bool} {ls : List Lexeme} → Opens b (one (word (codes "set"))) ls → is_set ls ≡ b
set_opens {ls = ls} o = sym (set_seen ls) ∙ sym o.is

opens_set : {b : Bool} {ls : List Lexeme} → is_set ls ≡ b → Opens b grammar.set ls
opens_set {ls = ls} e = let o : Opens _ (one (word (codes "set"))) ls = record { is = sym (set_seen ls ∙ e) } in opens_then refl o

pub plain_took : {w s z : List Lexeme} → is_set s ≡ false → Took plain w s z → Took statement w s z
plain_took e h = took_right refl (opens_set e) h

pub plain_failed : {s z : List Lexeme} → is_set s ≡ false → Failed plain Syntax s z → Failed statement Syntax s z
plain_failed e h = fails_right refl (opens_set e) h

pub set_took : {w s z : List Lexeme} → is_set s ≡ true → Took grammar.set w s z → Took statement w s z
set_took e h = took_left (opens_set e) h

pub set_failed : {s z : List Lexeme} → is_set s ≡ true → Failed grammar.set Syntax s z → Failed statement Syntax s z
set_failed e h = fails_left (opens_set e) h

-- a fault of a shape stands where so many tokens are left
shape_fault_at : (p : Shape) (text : List ℕ) (tokens : List Token) (rest : List Lexeme) (left at : ℕ) → FirstFault p (lexemes text tokens) rest → left ≡ length rest
    → at ≡ place_of text (drop (length tokens - left) tokens) → IsFaultOf p text tokens at
shape_fault_at shape text tokens rest left at f e p =
    let n : length (lexemes text tokens) ≡ length tokens = length-map tokens (lexeme text) in
    let m : length (lexemes text tokens) ≡ length f.front + length rest = ap length f.split ∙ length-append f.front rest in
    let k : length f.front ≡ length tokens - left = omega arith in
    let r : drop (length tokens - left) (lexemes text tokens) ≡ rest = ap (λ z. drop (length tokens - left) z) f.split ∙ drop_at f.front rest (length tokens - left) k in
    record {
      count = length tokens - left;
      place = p;
      first = subst (λ z. FirstFault shape (lexemes text tokens) z) (sym r) f;
    }

pub fault_at : (text : List ℕ) (tokens : List Token) (rest : List Lexeme) (left at : ℕ) → FirstFault statement (lexemes text tokens) rest → left ≡ length rest
    → at ≡ place_of text (drop (length tokens - left) tokens) → IsSyntaxFault text tokens at
fault_at text tokens rest left at g e p = shape_fault_at grammar.statement text tokens rest left at (same_fault (lexemes text tokens) rest g) e p

empty : (rest : List Lexeme) → length rest ≡ 0 → rest ≡ []
empty [] e = refl
empty (t ∷ rest) e = absurd (omega arith)

-- a shape of which one token ahead decides each step is read to its end, further than that, or up to its first fault
pub form_whole : {p : Shape} {w s z : List Lexeme} → decided p ≡ true → Took p w s z → length z ≡ 0 → Generates p s × (PlainFit s → s ≡ w)
form_whole {p = p} {w = w} {s = s} {z = z} one_ahead h e =
    let n : z ≡ [] = empty z e in
    (whole p s one_ahead (h.way ∙ ap Past n), λ a. (h.takes a).0 ∙ ap (λ x. w ++ x) n ∙ append-nil w)

pub more_than_form : {p : Shape} {w s z : List Lexeme} → decided p ≡ true → Took p w s z → (length z ≡ 0 → ⊥) → FirstFault p s z
more_than_form {p = p} {w = w} {s = s} {z = z} one_ahead h n = go z h.way n
  where
    go : (z : List Lexeme) → read p s ≡ Past z → (length z ≡ 0 → ⊥) → FirstFault p s z
    go [] e n = absurd (n refl)
    go (t ∷ z) e n = too_many p s t z one_ahead e

pub form_stops : {p : Shape} {s z : List Lexeme} → decided p ≡ true → Failed p Syntax s z → FirstFault p s z
form_stops {p = p} {s = s} {z = z} one_ahead h = stopped p s z one_ahead h.way

pub is_statement : {w s z : List Lexeme} → Took statement w s z → length z ≡ 0 → IsStatement s × (PlainFit s → s ≡ w)
is_statement {s = s} h e = let f = form_whole statement_decided h e in (record { generated = from_factored s f.0 }, f.1)

pub more_is_fault : {w s z : List Lexeme} → Took statement w s z → (length z ≡ 0 → ⊥) → FirstFault statement s z
more_is_fault h n = more_than_form statement_decided h n

pub stop_is_fault : {s z : List Lexeme} → Failed statement Syntax s z → FirstFault statement s z
stop_is_fault h = form_stops statement_decided h

pub fault_shorter : {p : Shape} {s z : List Lexeme} → FirstFault p s z → length z ≤ length s
fault_shorter {s = s} {z = z} f = let m : length s ≡ length f.front + length z = ap length f.split ∙ length-append f.front z in omega arith

-- A parse that stopped has failed as it should, where a want of syntax stands at the tokens left.
pub stop_refused : (text : List ℕ) (tokens : List Token) (stop : Stop) (rest : List Lexeme) (left : ℕ) → (stop ≡ Syntax → FirstFault statement (lexemes text tokens) rest) → left ≡ length rest
    → Parses text tokens (Err (failure_of stop text (drop (length tokens - left) tokens)))
stop_refused text tokens Syntax rest left f e = fault_at text tokens rest left _ (f refl) e refl
stop_refused text tokens NoMemory rest left f e = tt

-- so has that of a form
pub form_stopped : {A : Type 0} (p : Shape) (w : A → List Lexeme) (text : List ℕ) (tokens : List Token) (stop : Stop) (rest : List Lexeme) (left : ℕ)
    → (stop ≡ Syntax → FirstFault p (lexemes text tokens) rest) → left ≡ length rest → ParsesForm p w text tokens (Err (failure_of stop text (drop (length tokens - left) tokens)))
form_stopped p w text tokens Syntax rest left f e = shape_fault_at p text tokens rest left _ (f refl) e refl
form_stopped p w text tokens NoMemory rest left f e = tt

-- A symbol always fits.
unfit_not : (set : Bool) (l : Lexeme) (at k : ℕ) → ¬ Fits set l → At k ≡ fault_of l at → ⊥
unfit_not set (Word w) at k n e = (cc)
unfit_not set (Number z) at k n e = (cc)
unfit_not set (Quoted t) at k n e = (cc)
unfit_not set (Mark s) at k n e = n tt

pub refused : {set : Bool} (text : List ℕ) (tokens : List Token) (fault : SyntaxFault) → is_set (lexemes text tokens) ≡ set → IsFirstUnfit set text tokens fault → IsStatement (lexemes text tokens) → RefusesTokens text tokens fault
refused {set = set} text tokens (At k) e f s = absurd (unfit_not set (lexeme text f.token) f.token.span.from k f.unfit f.fault_is)
refused text tokens (OutOfRange k) e f s = (s, subst (λ b. IsFirstUnfit b text tokens (OutOfRange k)) (sym e) f)
refused text tokens (TextTooLong k) e f s = (s, subst (λ b. IsFirstUnfit b text tokens (TextTooLong k)) (sym e) f)
refused text tokens (LongName k) e f s = (s, subst (λ b. IsFirstUnfit b text tokens (LongName k)) (sym e) f)

pub form_refused : {A : Type 0} (p : Shape) (w : A → List Lexeme) (text : List ℕ) (tokens : List Token) (fault : SyntaxFault) → IsFirstUnfit false text tokens fault → Generates p (lexemes text tokens)
    → ParsesForm p w text tokens (Err (Refused fault))
form_refused p w text tokens (At k) f g = absurd (unfit_not false (lexeme text f.token) f.token.span.from k f.unfit f.fault_is)
form_refused p w text tokens (OutOfRange k) f g = (g, f)
form_refused p w text tokens (TextTooLong k) f g = (g, f)
form_refused p w text tokens (LongName k) f g = (g, f)

pub all_fit : {set : Bool} (ls : List Lexeme) → is_set ls ≡ set → AllByRecursion (Fits set) ls → AllLexemesFit ls
all_fit ls e a = subst (λ b. AllByRecursion (Fits b) ls) (sym e) a

pub accepted : (text : List ℕ) (tokens : List Token) (v : Statement) → is_set (lexemes text tokens) ≡ false → PlainFit (lexemes text tokens)
    → IsStatement (lexemes text tokens) × (PlainFit (lexemes text tokens) → lexemes text tokens ≡ statement_tokens v) → Parses text tokens (Ok v)
accepted text tokens v e a h = (h.0, all_fit (lexemes text tokens) e a, record { tokens = h.1 a })

split_at : (tokens : List Token) (i : ℕ) (d : Token) → i < length tokens → tokens ≡ take i tokens ++ get_or tokens i d ∷ drop (suc i) tokens
split_at [] i d h = absurd (omega arith)
split_at (t ∷ tokens) zero d h = refl
split_at (t ∷ tokens) (suc i) d h = ap (λ z. t ∷ z) (split_at tokens i d (omega arith))

pub first_unfit_at : (text : List ℕ) (tokens : List Token) (i : ℕ) (d : Token) (fault : SyntaxFault) → i < length tokens → PlainFit (lexemes text (take i tokens)) → IsUnfit text (get_or tokens i d) fault
    → IsFirstUnfit false text tokens fault
first_unfit_at text tokens i d fault lt a u = record {
  front = take i tokens;
  token = get_or tokens i d;
  rest = drop (suc i) tokens;
  split = split_at tokens i d lt;
  fit = a;
  unfit = u.unfit;
  fault_is = u.fault_is;
}

-- the answers at a `set`

abbrev set_tokens : ℤ → List Lexeme
set_tokens z = Word (codes "set") ∷ Word (codes "conflicts") ∷ Number z ∷ []

pub set_ended : (ls rest : List Lexeme) (z : ℤ) → ls ≡ Word (codes "set") ∷ Word (codes "conflicts") ∷ Number z ∷ rest → length rest ≡ 0 → ls ≡ set_tokens z
set_ended ls rest z e n = e ∙ ap (λ r. Word (codes "set") ∷ Word (codes "conflicts") ∷ Number z ∷ r) (empty rest n)

in_range : (n : ℕ) → n < 2 ^ 32 → IsIntInRange true (pos n)
in_range n h = (omega (arith, ints), omega (arith, ints))

pub set_accepted : (text : List ℕ) (tokens : List Token) (z : ℤ) (n : ℕ) → is_set (lexemes text tokens) ≡ true → lexemes text tokens ≡ set_tokens z → z ≡ pos n → n < 2 ^ 32 → IsStatement (lexemes text tokens)
    → Parses text tokens (Ok (SetConflicts n))
set_accepted text tokens z n e h k r s =
    let is : lexemes text tokens ≡ set_tokens (pos n) = h ∙ ap set_tokens k in
    (s, all_fit (lexemes text tokens) e (subst (λ ls. AllByRecursion (Fits true) ls) (sym is) (lit≤ tt, (lit≤ tt, (in_range n r, tt)))), record { tokens = is })

pub set_length : (text : List ℕ) (tokens : List Token) (z : ℤ) → lexemes text tokens ≡ set_tokens z → length tokens ≡ 3
set_length text tokens z h = sym (length-map tokens (lexeme text)) ∙ ap length h

fault_there : (l : Lexeme) (z : ℤ) (at : ℕ) → l ≡ Number z → OutOfRange at ≡ fault_of l at
fault_there (Number y) z at e = refl
fault_there (Word w) z at e = (cc)
fault_there (Quoted w) z at e = (cc)
fault_there (Mark w) z at e = (cc)

pub set_refused : (text : List ℕ) (tokens : List Token) (z : ℤ) (d : Token) → lexemes text tokens ≡ set_tokens z → ¬ IsIntInRange true z → IsFirstUnfit true text tokens (OutOfRange (get_or tokens 2 d).span.from)
set_refused text [] z d h n = absurd (cc)
set_refused text (a ∷ []) z d h n = absurd (cc)
set_refused text (a ∷ b ∷ []) z d h n = absurd (cc)
set_refused text (a ∷ b ∷ c ∷ rest) z d h n =
    let at_a : lexeme text a ≡ Word (codes "set") = cc in
    let at_b : lexeme text b ≡ Word (codes "conflicts") = cc in
    let at_c : lexeme text c ≡ Number z = cc in
    record {
      front = a ∷ b ∷ [];
      token = c;
      rest = rest;
      split = refl;
      fit = (subst (Fits true) (sym at_a) (lit≤ tt), (subst (Fits true) (sym at_b) (lit≤ tt), tt));
      unfit = λ f. n (subst (Fits true) at_c f);
      fault_is = fault_there (lexeme text c) z c.span.from at_c;
    }
