-- Texts, byte by byte.
use Rattle.std.proofs.Common.{◌≡◌, ◌⊎◌, inl, inr, ◌+◌, ◌<◌, ◌≤◌, ◌==◌, ℕ, zero, suc, Bool, true, false, List, [], ◌∷◌, ◌++◌, length, take, get_or, Option, Some, None, refl, ◌∙◌, ap, arith, if◌then◌else◌}
use Rattle.std.proofs.lemmas.Bool.Decides.{nat_tests}
use Rattle.std.proofs.lemmas.Bool.{cases_order, cases_lt}
use Rattle.std.proofs.lemmas.List.{take_more}
use Rattle.script_lex.specs.TokenParts.{step_of, EndsQuoted}
use Rattle.cqa_value.specs.Literals.{doubled}
use Rattle.script_lex.specs.Tokens.{IsQuoted}

abbrev then_run : Option Bool → (Bool → Option Bool) → Option Bool
then_run None f = None
then_run (Some o) f = f o

-- whether a text is open behind some bytes, if they lie in texts
abbrev run : Bool → List ℕ → Option Bool
run o [] = Some o
run o (b ∷ bs) = then_run (step_of o b) (λ p. run p bs)

pub is_39 : (b : ℕ) → (b == 39) ≡ true → b ≡ 39
is_39 b e = grind (arith, nat_tests)

quoted_runs : (value : List ℕ) → run true (doubled value ++ 39 ∷ []) ≡ Some false
quoted_runs [] = refl
quoted_runs (b ∷ v) = go (b == 39) refl (quoted_runs v)
  where
    go : (t : Bool) → (b == 39) ≡ t → run true (doubled v ++ 39 ∷ []) ≡ Some false → run true (((if t then b ∷ b ∷ [] else b ∷ []) ++ doubled v) ++ 39 ∷ []) ≡ Some false
    go true e h = rw (is_39 b e) h
    go false e h = rw e h

abbrev Back : List ℕ → Type 0
Back bs = (run true bs ≡ Some false → IsQuoted bs) × (run false bs ≡ Some false → (bs ≡ []) ⊎ ((value : List ℕ) × (bs ≡ 39 ∷ doubled value ++ 39 ∷ [])))

runs_quoted : (bs : List ℕ) → Back bs
runs_quoted [] = (λ e. absurd (cc), λ e. inl refl)
runs_quoted (b ∷ bs) = (go (b == 39) refl (runs_quoted bs), λ e. inr (go2 (b == 39) refl (runs_quoted bs) e))
  where
    go : (t : Bool) → (b == 39) ≡ t → Back bs → then_run (if t then Some false else Some true) (λ p. run p bs) ≡ Some false → IsQuoted (b ∷ bs)
    go true e h r = elim (h.1 r) [
      | inl n ↦ ([], rw (is_39 b e, n) refl)
      | inr v ↦ (39 ∷ v.0, rw (is_39 b e, v.1) refl)
    ]
    go false e h r = let v = h.0 r in (b ∷ v.0, rw (e, v.1) refl)

    go2 : (t : Bool) → (b == 39) ≡ t → Back bs → then_run (if t then Some true else None) (λ p. run p bs) ≡ Some false → (value : List ℕ) × (b ∷ bs ≡ 39 ∷ doubled value ++ 39 ∷ [])
    go2 true e h r = let v = h.0 r in (v.0, rw (is_39 b e, v.1) refl)
    go2 false e h r = (cc)

run-push : (xs : List ℕ) (o : Bool) (b : ℕ) → run o (xs ++ b ∷ []) ≡ then_run (run o xs) (λ p. step_of p b)
run-push [] o b = last_step (step_of o b)
  where
    last_step : (r : Option Bool) → then_run r (λ p. Some p) ≡ r
    last_step None = refl
    last_step (Some p) = refl
run-push (x ∷ xs) o b = go (step_of o x) (λ p. run-push xs p b)
  where
    go : (r : Option Bool) → ((p : Bool) → run p (xs ++ b ∷ []) ≡ then_run (run p xs) (λ p. step_of p b))
        → then_run r (λ p. run p (xs ++ b ∷ [])) ≡ then_run (then_run r (λ p. run p xs)) (λ p. step_of p b)
    go None h = refl
    go (Some p) h = h p

-- what is known of a text after some bytes
pub record TextSoFar (bytes : List ℕ) (i : ℕ) (open_ : Bool) (last : ℕ) : Type 0 where
  pub state : run true (take i bytes) ≡ Some open_
  pub upto : last ≤ i
  pub ends : 0 < last → run true (take last bytes) ≡ Some false
  pub beyond : (m : ℕ) → last < m → m ≤ i → run true (take m bytes) ≡ Some false → ⊥

pub text_starts : (bytes : List ℕ) → TextSoFar bytes 0 true 0
text_starts bytes = record { state = start bytes; upto = omega arith; ends = λ lt. absurd (omega arith); beyond = λ m lt le e. absurd (omega arith) }
  where
    start : (bytes : List ℕ) → run true (take 0 bytes) ≡ Some true
    start [] = refl
    start (b ∷ bytes) = refl

more_run : (bytes : List ℕ) (i : ℕ) (o : Bool) → i < length bytes → run true (take i bytes) ≡ Some o → run true (take (i + 1) bytes) ≡ step_of o (get_or bytes i 0)
more_run bytes i o lt h = ap (λ z. run true z) (take_more bytes i 0 lt) ∙ run-push (take i bytes) true (get_or bytes i 0) ∙ ap (λ z. then_run z (λ p. step_of p (get_or bytes i 0))) h

pub text_goes : (bytes : List ℕ) (i : ℕ) (o now : Bool) (last new : ℕ) → i < length bytes → TextSoFar bytes i o last → step_of o (get_or bytes i 0) ≡ Some now → new ≡ (if now then last else i + 1) → TextSoFar bytes (i + 1) now new
text_goes bytes i o true last new lt h s e = record {
  state = more_run bytes i o lt h.state ∙ s;
  upto = omega (arith, h.upto, e);
  ends = λ z. rw e (h.ends (omega (arith, e)));
  beyond = λ m z le r. elim (cases_order m (i + 1)) [
    | inl k ↦ absurd (cc (ap (λ x. run true (take x bytes)) k, more_run bytes i o lt h.state, s, r))
    | inr q ↦ h.beyond m (omega (arith, e)) (elim q [ inl a ↦ omega arith | inr a ↦ absurd (omega arith) ]) r
  ];
}
text_goes bytes i o false last new lt h s e = record {
  state = more_run bytes i o lt h.state ∙ s;
  upto = omega (arith, e);
  ends = λ z. rw e (more_run bytes i o lt h.state ∙ s);
  beyond = λ m z le r. absurd (omega (arith, e));
}

stuck_run : (bytes : List ℕ) (i m : ℕ) (o : Bool) → run o (take i bytes) ≡ None → i ≤ m → run o (take m bytes) ≡ None
stuck_run [] zero m o h le = (cc)
stuck_run [] (suc i) m o h le = (cc)
stuck_run (b ∷ bytes) zero m o h le = (cc)
stuck_run (b ∷ bytes) (suc i) zero o h le = absurd (omega arith)
stuck_run (b ∷ bytes) (suc i) (suc m) o h le = go (step_of o b) (λ p k. stuck_run bytes i m p k (omega arith)) h
  where
    go : (r : Option Bool) → ((p : Bool) → run p (take i bytes) ≡ None → run p (take m bytes) ≡ None) → then_run r (λ p. run p (take i bytes)) ≡ None → then_run r (λ p. run p (take m bytes)) ≡ None
    go None f h = refl
    go (Some p) f h = f p h

pub text_stuck : (bytes : List ℕ) (i : ℕ) (o : Bool) (last : ℕ) → i < length bytes → TextSoFar bytes i o last → step_of o (get_or bytes i 0) ≡ None → EndsQuoted bytes last
text_stuck bytes i o last lt h s = record {
  within = omega (arith, h.upto);
  ends = λ z. (runs_quoted (take last bytes)).0 (h.ends z);
  longest = λ m z le q. elim (cases_lt i m) [
    | inl k ↦ let n : run true (take m bytes) ≡ None = stuck_run bytes (i + 1) m true (more_run bytes i o lt h.state ∙ s) (omega arith) in
        let r : run true (take m bytes) ≡ Some false = ap (λ x. run true x) q.1 ∙ quoted_runs q.0 in
        absurd (cc)
    | inr k ↦ h.beyond m z k (ap (λ x. run true x) q.1 ∙ quoted_runs q.0)
  ];
}

pub text_over : (bytes : List ℕ) (o : Bool) (last : ℕ) → TextSoFar bytes (length bytes) o last → EndsQuoted bytes last
text_over bytes o last h = record {
  within = h.upto;
  ends = λ z. (runs_quoted (take last bytes)).0 (h.ends z);
  longest = λ m z le q. h.beyond m z le (ap (λ x. run true x) q.1 ∙ quoted_runs q.0);
}

pub no_quoted : IsQuoted [] → ⊥
no_quoted q = go (doubled q.0) q.1
  where
    go : (d : List ℕ) → [] ≡ d ++ 39 ∷ [] → ⊥
    go [] e = absurd (cc)
    go (x ∷ d) e = absurd (cc)
