-- Rows that are put aside and put back, one more.
use Rattle.std.proofs.Common.{◌≡◌, ◌≢◌, ℕ, ◌+◌, ◌<◌, ◌≤◌, List, [], ◌∷◌, ◌++◌, length, take, get_or, inl, inr, refl, sym, ◌∙◌, ap, subst, arith}
use Rattle.std.proofs.lemmas.List.{take_more, get_or_past}
use Rattle.std.proofs.lemmas.Bool.{cases_lt}
use Rattle.std.proofs.lemmas.Bool.Decides.{eqb_tells}
use Rattle.block_choices.specs.declared.row.BlockRow.{BlockRow}
use Rattle.choice_values.specs.Values.{Weighted}
use Rattle.choice_values.specs.Choosing.{picked, IsFree, AreFree}
use Rattle.choice_values.specs.Keeping.{AreRowsOf, AreAside, ArePutBack, rows_at}
use Rattle.choice_values.proofs.Worths.{in-append, in-apart, are-in-apart, are-in-push}

pub rows-append : (c : ℕ → ℕ) (a b : List BlockRow) → AreRowsOf c a → AreRowsOf c b → AreRowsOf c (a ++ b)
rows-append c [] b h g = g
rows-append c (x ∷ a) b h g = (h.0, rows-append c a b h.1 g)

pub rows-apart : (c : ℕ → ℕ) (a b : List BlockRow) → AreRowsOf c (a ++ b) → AreRowsOf c a × AreRowsOf c b
rows-apart c [] b h = (tt, h)
rows-apart c (x ∷ a) b h = (let r = rows-apart c a b h.1 in ((h.0, r.0), r.1))

rows-at : (rows : List ℕ) (ps : List BlockRow) → AreRowsOf (picked rows) (rows_at rows ps)
rows-at rows [] = tt
rows-at rows (p ∷ ps) = (refl, rows-at rows ps)

free-at : (x : ℕ) (rows : List ℕ) (ps : List BlockRow) → IsFree x ps → IsFree x (rows_at rows ps)
free-at x rows [] f = tt
free-at x rows (p ∷ ps) f = (f.0, free-at x rows ps f.1)

free-from : (x : ℕ) (rows : List ℕ) (ps : List BlockRow) → IsFree x (rows_at rows ps) → IsFree x ps
free-from x rows [] f = tt
free-from x rows (p ∷ ps) f = (f.0, free-from x rows ps f.1)

pub rows_at-push : (rows : List ℕ) (ps : List BlockRow) (p : BlockRow) → rows_at rows (ps ++ p ∷ []) ≡ rows_at rows ps ++ record { block = p.block; row = picked rows p.block } ∷ []
rows_at-push rows [] p = refl
rows_at-push rows (q ∷ ps) p = ap (λ a. record { block = q.block; row = picked rows q.block } ∷ a) (rows_at-push rows ps p)

pub aside-none : (rows : List ℕ) → AreAside [] rows []
aside-none rows = record { told = tt; fewer = λ x f. tt; all = λ x f. tt }

pub aside-more : (front : List Weighted) (l : Weighted) (rows : List ℕ) (aside new : List BlockRow) → AreAside front rows aside → new ≡ aside ++ rows_at rows l.names → AreAside (front ++ l ∷ []) rows new
aside-more front l rows aside new h e = record {
  told = subst (AreRowsOf (picked rows)) (sym e) (rows-append (picked rows) aside (rows_at rows l.names) h.told (rows-at rows l.names));
  fewer = λ x f. (let a = are-in-apart (λ k. k ≢ x) front l f in subst (IsFree x) (sym e) (in-append (λ k. k ≢ x) aside (rows_at rows l.names) (h.fewer x a.0) (free-at x rows l.names a.1)));
  all = λ x f. (let a = in-apart (λ k. k ≢ x) aside (rows_at rows l.names) (subst (IsFree x) e f) in are-in-push (λ k. k ≢ x) front l (h.all x a.0) (free-from x rows l.names a.1));
}

pub back-none : (rows : List ℕ) → ArePutBack [] rows rows
back-none rows = record { size = refl; each = λ best e h x. inr (tt, refl) }

pub back-more : (front : List BlockRow) (p : BlockRow) (old mid new : List ℕ) → ArePutBack front old mid → length new ≡ length mid → (p.block < length mid → picked new p.block ≡ p.row) →
    ((x : ℕ) → x ≢ p.block → picked new x ≡ picked mid x) → ArePutBack (front ++ p ∷ []) old new
back-more front p old mid new h size here other = record {
  size = size ∙ h.size;
  each = λ best e r x. (let a = rows-apart (picked best) front (p ∷ []) r in elim (eqb_tells x p.block) [
    | inl y ↦ elim (cases_lt p.block (length mid)) [
      | inl lt ↦ inl (ap (picked new) y.1 ∙ (here lt ∙ (sym a.1.0 ∙ ap (picked best) (sym y.1))))
      | inr le ↦ inl (past best e x y.1 le)
    ]
    | inr n ↦ elim (h.each best e a.0 x) [
      | inl same ↦ inl (other x n.1 ∙ same)
      | inr f ↦ inr (in-append (λ k. k ≢ x) front (p ∷ []) f.0 ((λ e. n.1 (sym e)), tt), other x n.1 ∙ f.1)
    ]
  ]);
}
  where
    past : (best : List ℕ) → length best ≡ length old → (x : ℕ) → x ≡ p.block → length mid ≤ p.block → picked new x ≡ picked best x
    past best e x y le =
        get_or_past new x 0 (let z = size in omega (arith, y, le, z))
        ∙ sym (get_or_past best x 0 (let z = h.size in omega (arith, y, le, z, e)))
