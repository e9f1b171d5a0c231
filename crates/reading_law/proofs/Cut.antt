-- How a script is cut into the statements that were written.
use Rattle.std.proofs.Common.{ℕ, true, List, [], ◌∷◌, ◌++◌, codes, None, refl, sym, ap, subst, append_assoc}
use Rattle.std.proofs.lemmas.List.{append-nil}
use Rattle.script_lex.specs.declared.modes.Mode.TheVariants.{Outside}
use Rattle.script_lex.specs.Scripts.{IsGap, IsSpace, IsText, IsCopy, Statement, Begins, Cuts}
use Rattle.script_lex.proofs.Statements.{space_over}

-- Behind any gap the text is these statements, and another gap stands before what follows.
abbrev pub IsCutInto : List ℕ → List Statement → Type 0
IsCutInto text statements = (gap : List ℕ) → IsGap gap → (next : List ℕ) × IsGap next × ((more : List ℕ) → Begins true (gap ++ (text ++ more)) statements (next ++ more))

pub no_text : IsCutInto [] []
no_text gap g = (gap, g, λ more. refl)

begins_both : (input mid rest : List ℕ) (s t : List Statement) → Begins true input s mid → Begins true mid t rest → Begins true input (s ++ t) rest
begins_both input mid rest [] t a b = subst (λ i. Begins true i t rest) (sym a) b
begins_both input mid rest (x ∷ s) t a b = (a.0, a.1, begins_both a.0 mid rest s t a.2 b)

pub both_texts : (a b : List ℕ) (s t : List Statement) → IsCutInto a s → IsCutInto b t → IsCutInto (a ++ b) (s ++ t)
both_texts a b s t first second gap g =
    let h = first gap g in
    let k = second h.0 h.1 in (
      k.0,
      k.1,
      λ more. begins_both (gap ++ ((a ++ b) ++ more)) (h.0 ++ (b ++ more)) (k.0 ++ more) s t
          (subst (λ z. Begins true (gap ++ z) s (h.0 ++ (b ++ more))) (sym (append_assoc a b more)) (h.2 (b ++ more))) (k.2 more),
    )

feed_gap : IsGap (10 ∷ [])
feed_gap = record { leads = (refl, refl) }

pub no_gap : IsGap []
no_gap = record { leads = refl }

-- a statement that is no copy, and the end of its line
pub plain_cut : (text : List ℕ) → IsText text → (IsCopy text → ⊥) → IsCutInto (text ++ codes ";\n") ((text, None) ∷ [])
plain_cut text is no_copy gap g = (
  10 ∷ [],
  feed_gap,
  λ more. (
    10 ∷ more,
    record {
      gap = gap;
      block = None;
      first = record { is_gap = g; is_text = is; more = 10 ∷ more; whole = ap (λ z. gap ++ z) (append_assoc text (codes ";\n") more); follows = (no_copy, refl) };
      is_block = refl;
    },
    refl,
  ),
)

space_of : (gap : List ℕ) → IsGap gap → IsSpace gap
space_of gap g = record { ends = Outside; leads = g.leads; whole = λ e. cc e }

-- the whole text, as an ended input
pub whole_cut : (text : List ℕ) (s : List Statement) → IsCutInto text s → (rest : List ℕ) × Cuts true text s rest × IsSpace rest
whole_cut text s cut =
    let h = cut [] no_gap in
    let begins : Begins true text s h.0 = subst (λ z. Begins true z s h.0) (append-nil text) (subst (λ z. Begins true (text ++ []) s z) (append-nil h.0) (h.2 [])) in
    let space = space_of h.0 h.1 in
    (h.0, record { begins = begins; over = space_over true h.0 space }, space)
