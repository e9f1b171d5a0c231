-- The lines of a formula, one by one.
use Rattle.std.proofs.Common.{◌≡◌, ◌≢◌, ℕ, ◌<◌, ◌≤◌, ◌+◌, ◌-◌, ◌==◌, ◌||◌, suc, Bool, true, false, cond, List, [], ◌∷◌, ◌++◌, ◌⊎◌, inl, inr, refl, sym, ◌∙◌, ap, subst, arith, length, drop, append_assoc, Option, Ok, Err}
use Rattle.std.specs.Prelude.{Result}
use Rattle.std.proofs.lemmas.List.{append-nil, length-append}
use Rattle.std.proofs.Math.Seq.{drop-append_seam}
use Rattle.cnf_form.specs.declared.formula.Lit.{Lit}
use Rattle.cnf_form.specs.declared.formula.Clause.{Clause}
use Rattle.cnf_form.specs.declared.body.Body.{Body}
use Rattle.cnf_form.specs.Literals.{literals}
use Rattle.cnf_form.specs.Lines.{after_line, front, is_skipped, line_of, lines, tokens}
use Rattle.cnf_form.specs.Formulas.{Token, after_lrat, body_tokens, by_header, clauses_from, content, ended, formula_of, has_lrat, header, is_lrat, lrat_line, numbers, with_vars}
use Rattle.cnf_form.specs.Reading.{IsEndOf, IsPast, outcome}

lines_of : (b : ℕ) (bs : List ℕ) → lines (b ∷ bs) ≡ line_of (b ∷ bs) ∷ lines (after_line (b ∷ bs))
lines_of b [] = go (b == 10)
  where
    go : (c : Bool) → cond c ([] ∷ []) (front b []) ≡ cond c [] (b ∷ []) ∷ lines (cond c [] [])
    go true = refl
    go false = refl
lines_of b (x ∷ xs) = go (b == 10) (lines_of x xs)
  where
    go : (c : Bool) → lines (x ∷ xs) ≡ line_of (x ∷ xs) ∷ lines (after_line (x ∷ xs)) → cond c ([] ∷ lines (x ∷ xs)) (front b (lines (x ∷ xs))) ≡ cond c [] (b ∷ line_of (x ∷ xs)) ∷ lines (cond c (x ∷ xs) (after_line (x ∷ xs)))
    go true r = refl
    go false r = ap (front b) r

pub lines_cons : (text : List ℕ) → length text ≢ 0 → lines text ≡ line_of text ∷ lines (after_line text)
lines_cons [] h = absurd (h refl)
lines_cons (b ∷ bs) h = lines_of b bs

pub line_shorter : (text : List ℕ) → length text ≢ 0 → length (after_line text) < length text
line_shorter [] h = absurd (h refl)
line_shorter (b ∷ bs) h = go (b == 10) (at_most bs)
  where
    go : (c : Bool) → length (after_line bs) ≤ length bs → length (cond c bs (after_line bs)) < length (b ∷ bs)
    go true r = omega arith
    go false r = omega (arith, r)

    at_most : (bs : List ℕ) → length (after_line bs) ≤ length bs
    at_most [] = omega arith
    at_most (b ∷ bs) = less (b == 10) (at_most bs)
      where
        less : (c : Bool) → length (after_line bs) ≤ length bs → length (cond c bs (after_line bs)) ≤ length (b ∷ bs)
        less true r = omega arith
        less false r = omega (arith, r)

pub line_end : (text : List ℕ) → IsEndOf (after_line text) text
line_end [] = ([], refl)
line_end (b ∷ bs) = go (b == 10) (line_end bs)
  where
    go : (c : Bool) → IsEndOf (after_line bs) bs → IsEndOf (cond c bs (after_line bs)) (b ∷ bs)
    go true r = (b ∷ [], refl)
    go false r = (b ∷ r.0, ap (λ (s : List ℕ). b ∷ s) r.1)

pub end_of_end : (text rest new : List ℕ) → IsEndOf rest text → IsEndOf new rest → IsEndOf new text
end_of_end text rest new a b = (a.0 ++ b.0, a.1 ∙ ap (λ (s : List ℕ). a.0 ++ s) b.1 ∙ sym (append_assoc a.0 b.0 new))

pub end_drop : (text rest : List ℕ) → IsEndOf rest text → drop (length text - length rest) text ≡ rest
end_drop text rest e =
    let a = ap length e.1 in let b = length-append e.0 rest in
    let k : length text - length rest ≡ length e.0 = omega (arith, a, b) in
    ap (λ (n : ℕ). drop n text) k ∙ ap (drop (length e.0)) e.1 ∙ drop-append_seam e.0 rest

pub past_more : (first n : ℕ) (text rest new : List ℕ) → length rest ≢ 0 → new ≡ after_line rest → is_lrat (line_of rest) ≡ false → IsPast first n text rest → IsPast first (n + 1) text new
past_more first n text rest new h e f p = let c = lines_cons rest h ∙ ap (λ (s : List ℕ). line_of rest ∷ lines s) (sym e) in record {
  line = p.line ∙ ap (lrat_line n) c ∙ ap (λ (b : Bool). cond b n (lrat_line (n + 1) (lines new))) f;
  has = p.has ∙ ap has_lrat c ∙ ap (λ (b : Bool). b || has_lrat (lines new)) f;
  after = p.after ∙ ap after_lrat c ∙ ap (λ (b : Bool). cond b (lines new) (after_lrat (lines new))) f;
  end = end_of_end text rest new p.end (subst (λ (s : List ℕ). IsEndOf s rest) (sym e) (line_end rest));
  small = let s = line_shorter rest h in let k = ap length e in let q = p.small in omega (arith, s, k, q);
}

-- at the `lrat` line
pub at_lrat : (first n : ℕ) (text rest : List ℕ) → length rest ≢ 0 → is_lrat (line_of rest) ≡ true → IsPast first n text rest
    → (lrat_line first (lines text) ≡ n) × (has_lrat (lines text) ≡ true) × (after_lrat (lines text) ≡ lines (after_line rest))
at_lrat first n text rest h f p = let c = lines_cons rest h in (
  p.line ∙ ap (lrat_line n) c ∙ ap (λ (b : Bool). cond b n (lrat_line (n + 1) (lines (after_line rest)))) f,
  p.has ∙ ap has_lrat c ∙ ap (λ (b : Bool). b || has_lrat (lines (after_line rest))) f,
  p.after ∙ ap after_lrat c ∙ ap (λ (b : Bool). cond b (lines (after_line rest)) (after_lrat (lines (after_line rest)))) f,
)

-- the header, line by line
pub formula_lrat : (n : ℕ) (text rest : List ℕ) → length rest ≢ 0 → is_lrat (line_of rest) ≡ true → IsPast 1 n text rest
    → ((missing : ℕ) → formula_of missing 1 (lines text) ≡ formula_of missing n (lines rest)) → formula_of (lrat_line 1 (lines text)) 1 (lines text) ≡ Err n
formula_lrat n text rest h f p same = let m = lrat_line 1 (lines text) in
    same m ∙ ap (formula_of m n) (lines_cons rest h)
    ∙ ap (λ (b : Bool). cond b (Err m) (cond (is_skipped (line_of rest)) (formula_of m (n + 1) (lines (after_line rest))) (by_header m n (header (tokens (line_of rest))) (lines (after_line rest))))) f
    ∙ ap (λ (k : ℕ). Err k) (at_lrat 1 n text rest h f p).0

formula_other : (missing n : ℕ) (rest : List ℕ) → length rest ≢ 0 → is_lrat (line_of rest) ≡ false
    → formula_of missing n (lines rest) ≡ cond (is_skipped (line_of rest)) (formula_of missing (n + 1) (lines (after_line rest))) (by_header missing n (header (tokens (line_of rest))) (lines (after_line rest)))
formula_other missing n rest h f = ap (formula_of missing n) (lines_cons rest h)
    ∙ ap (λ (b : Bool). cond b (Err missing) (cond (is_skipped (line_of rest)) (formula_of missing (n + 1) (lines (after_line rest))) (by_header missing n (header (tokens (line_of rest))) (lines (after_line rest))))) f

pub formula_skipped : (n : ℕ) (text rest new : List ℕ) → length rest ≢ 0 → new ≡ after_line rest → is_lrat (line_of rest) ≡ false → is_skipped (line_of rest) ≡ true
    → ((missing : ℕ) → formula_of missing 1 (lines text) ≡ formula_of missing n (lines rest)) → (missing : ℕ) → formula_of missing 1 (lines text) ≡ formula_of missing (n + 1) (lines new)
formula_skipped n text rest new h e f s same missing = same missing ∙ formula_other missing n rest h f
    ∙ ap (λ (b : Bool). cond b (formula_of missing (n + 1) (lines (after_line rest))) (by_header missing n (header (tokens (line_of rest))) (lines (after_line rest)))) s
    ∙ ap (λ (t : List ℕ). formula_of missing (n + 1) (lines t)) (sym e)

pub formula_headed : (n : ℕ) (text rest new : List ℕ) (o : Option (ℕ × ℕ)) → length rest ≢ 0 → new ≡ after_line rest → is_lrat (line_of rest) ≡ false → is_skipped (line_of rest) ≡ false → header (tokens (line_of rest)) ≡ o
    → ((missing : ℕ) → formula_of missing 1 (lines text) ≡ formula_of missing n (lines rest)) → (missing : ℕ) → formula_of missing 1 (lines text) ≡ by_header missing n o (lines new)
formula_headed n text rest new o h e f s k same missing = same missing ∙ formula_other missing n rest h f
    ∙ ap (λ (b : Bool). cond b (formula_of missing (n + 1) (lines (after_line rest))) (by_header missing n (header (tokens (line_of rest))) (lines (after_line rest)))) s
    ∙ ap (λ (x : Option (ℕ × ℕ)). by_header missing n x (lines (after_line rest))) k
    ∙ ap (λ (t : List ℕ). by_header missing n o (lines t)) (sym e)

-- the clauses, line by line
end_zero : (vars missing : ℕ) (b : Body) → b.todo ≡ 0 → outcome vars missing b [] ≡ Ok (literals b.clauses.items)
end_zero vars missing b e = ap (λ (m : ℕ). clauses_from (literals b.clauses.items) b.partial.items (numbers vars missing m [])) e
    ∙ ap (λ (cs : List (List Lit)). Ok cs) (append-nil (literals b.clauses.items))

end_more : (vars missing : ℕ) (b : Body) → (b.todo ≡ 0 → ⊥) → outcome vars missing b [] ≡ Err missing
end_more vars missing b n = let p : b.todo ≡ suc (b.todo - 1) = omega (arith, n) in
    ap (λ (m : ℕ). clauses_from (literals b.clauses.items) b.partial.items (numbers vars missing m [])) p

-- what the tokens of the lines come to, from the rest on
abbrev pub Same : ℕ → Body → ℕ → List ℕ → Body → ℕ → List ℕ → Type 0
Same vars start first text body n rest = (missing : ℕ) → outcome vars missing start (body_tokens first (lines text)) ≡ outcome vars missing body (body_tokens n (lines rest))

tokens_lrat : (n : ℕ) (rest : List ℕ) → length rest ≢ 0 → is_lrat (line_of rest) ≡ true → body_tokens n (lines rest) ≡ []
tokens_lrat n rest h f = ap (body_tokens n) (lines_cons rest h) ∙ ap (λ (b : Bool). cond b [] (content n (line_of rest) ++ body_tokens (n + 1) (lines (after_line rest)))) f

tokens_other : (n : ℕ) (rest : List ℕ) → length rest ≢ 0 → is_lrat (line_of rest) ≡ false → body_tokens n (lines rest) ≡ content n (line_of rest) ++ body_tokens (n + 1) (lines (after_line rest))
tokens_other n rest h f = ap (body_tokens n) (lines_cons rest h) ∙ ap (λ (b : Bool). cond b [] (content n (line_of rest) ++ body_tokens (n + 1) (lines (after_line rest)))) f

pub lrat_done : (vars : ℕ) (start body : Body) (first n : ℕ) (text rest : List ℕ) → length rest ≢ 0 → is_lrat (line_of rest) ≡ true → body.todo ≡ 0 → Same vars start first text body n rest
    → outcome vars (lrat_line first (lines text)) start (body_tokens first (lines text)) ≡ Ok (literals body.clauses.items)
lrat_done vars start body first n text rest h f z s = let m = lrat_line first (lines text) in
    s m ∙ ap (outcome vars m body) (tokens_lrat n rest h f) ∙ end_zero vars m body z

pub lrat_bad : (vars : ℕ) (start body : Body) (first n : ℕ) (text rest : List ℕ) → length rest ≢ 0 → is_lrat (line_of rest) ≡ true → (body.todo ≡ 0 → ⊥) → IsPast first n text rest → Same vars start first text body n rest
    → ended (has_lrat (lines text)) (lrat_line first (lines text)) (outcome vars (lrat_line first (lines text)) start (body_tokens first (lines text))) ≡ Err n
lrat_bad vars start body first n text rest h f z p s = let m = lrat_line first (lines text) in
    let a = at_lrat first n text rest h f p in
    ap (λ (b : Bool). ended b m (outcome vars m start (body_tokens first (lines text)))) a.1
    ∙ s m ∙ ap (outcome vars m body) (tokens_lrat n rest h f) ∙ end_more vars m body z ∙ ap (λ (k : ℕ). Err k) a.0

ended_err : {X : Type 0} (b : Bool) (m n : ℕ) (r : Result X ℕ) → r ≡ Err n → ended b m r ≡ Err n
ended_err true m n r e = e
ended_err false m n r e = ap (ended false m) e

pub line_bad : (vars : ℕ) (start body : Body) (first n : ℕ) (text rest : List ℕ) → length rest ≢ 0 → is_lrat (line_of rest) ≡ false
    → ((missing k : ℕ) (later : List Token) → outcome vars missing body (content k (line_of rest) ++ later) ≡ Err k) → Same vars start first text body n rest
    → ended (has_lrat (lines text)) (lrat_line first (lines text)) (outcome vars (lrat_line first (lines text)) start (body_tokens first (lines text))) ≡ Err n
line_bad vars start body first n text rest h f g s = let m = lrat_line first (lines text) in
    ended_err (has_lrat (lines text)) m n (outcome vars m start (body_tokens first (lines text)))
    (s m ∙ ap (outcome vars m body) (tokens_other n rest h f) ∙ g m n (body_tokens (n + 1) (lines (after_line rest))))

pub line_more : (vars : ℕ) (start body new : Body) (first n : ℕ) (text rest after : List ℕ) → length rest ≢ 0 → is_lrat (line_of rest) ≡ false → after ≡ after_line rest
    → ((missing k : ℕ) (later : List Token) → outcome vars missing body (content k (line_of rest) ++ later) ≡ outcome vars missing new later)
    → Same vars start first text body n rest → Same vars start first text new (n + 1) after
line_more vars start body new first n text rest after h f e g s missing =
    s missing ∙ ap (outcome vars missing body) (tokens_other n rest h f) ∙ g missing n (body_tokens (n + 1) (lines (after_line rest)))
    ∙ ap (λ (t : List ℕ). outcome vars missing new (body_tokens (n + 1) (lines t))) (sym e)

zero_or_not : (m : ℕ) → (m ≡ 0) ⊎ (m ≡ 0 → ⊥)
zero_or_not m = grind arith

pub end_bad : (vars : ℕ) (start body : Body) (first n : ℕ) (text rest : List ℕ) → length rest ≡ 0 → IsPast first n text rest → Same vars start first text body n rest
    → ended (has_lrat (lines text)) (lrat_line first (lines text)) (outcome vars (lrat_line first (lines text)) start (body_tokens first (lines text))) ≡ Err n
end_bad vars start body first n text (b ∷ bs) e p s = absurd (omega (arith, e))
end_bad vars start body first n text [] e p s = let m = lrat_line first (lines text) in
    ap (λ (c : Bool). ended c m (outcome vars m start (body_tokens first (lines text)))) p.has ∙ ap (ended false m) (s m)
    ∙ elim (zero_or_not body.todo) [
      | inl z ↦ ap (ended false m) (end_zero vars m body z) ∙ ap (λ (k : ℕ). Err k) p.line
      | inr z ↦ ap (ended false m) (end_more vars m body z) ∙ ap (λ (k : ℕ). Err k) p.line
    ]

-- the whole formula
pub whole_done : (vars missing : ℕ) (text : List ℕ) (cs : List (List Lit)) (r : Result (List (List Lit)) ℕ) → has_lrat (lines text) ≡ true
    → formula_of missing 1 (lines text) ≡ with_vars vars r → r ≡ Ok cs → missing ≡ lrat_line 1 (lines text)
    → ended (has_lrat (lines text)) (lrat_line 1 (lines text)) (formula_of (lrat_line 1 (lines text)) 1 (lines text)) ≡ Ok (vars, cs)
whole_done vars missing text cs r h f e m =
    ap (λ (b : Bool). ended b (lrat_line 1 (lines text)) (formula_of (lrat_line 1 (lines text)) 1 (lines text))) h
    ∙ ap (λ (k : ℕ). formula_of k 1 (lines text)) (sym m) ∙ f ∙ ap (with_vars vars) e

pub whole_clauses : (vars m k count : ℕ) (ts : List Token) (cs new all : List Clause) (partial : List Lit) → cs ≡ [] → partial ≡ [] → k ≡ m → all ≡ new
    → clauses_from (literals cs) partial (numbers vars m count ts) ≡ Ok (literals new) → clauses_from [] [] (numbers vars k count ts) ≡ Ok (literals all)
whole_clauses vars m k count ts cs new all partial e p l a h =
    ap (λ (x : ℕ). clauses_from [] [] (numbers vars x count ts)) l
    ∙ ap (λ (x : List Lit). clauses_from [] x (numbers vars m count ts)) (sym p)
    ∙ ap (λ (x : List Clause). clauses_from (literals x) partial (numbers vars m count ts)) (sym e)
    ∙ h ∙ ap (λ (x : List Clause). Ok (literals x)) (sym a)
