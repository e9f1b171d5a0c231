-- The rows to which rows of links lead, guess by guess.
use Rattle.std.proofs.Common.{◌≡◌, ℕ, ◌<◌, ◌∙◌, Option, Some, None, IfSome, sym, List, [], ◌∷◌, length, get_or, subst, Contains}
use Rattle.std.specs.Borrow.{Bor}
use Rattle.std.specs.Option.{option_copied}
use Rattle.std.proofs.lemmas.List.{get_or_default}
use Rattle.cqa_value.specs.declared.value.Value.{Value}
use Rattle.cqa_model.specs.declared.query.Query.{Query}
use Rattle.cqa_model.specs.Database.{Table, stored}
use Rattle.cqa_model.specs.Query.{rows_of}
use Rattle.cqa_model.specs.Plan.{Placed}
use Rattle.cqa_model.proofs.Classic.{mem-head, mem-tail}
use Rattle.join_access.specs.Chains.{Indexed}
use Rattle.plan_rows.specs.Knowing.{MayFit}
use Rattle.plan_rows.specs.Links.{LeadsTo, AreLinks, HasReached}
use Rattle.plan_rows.specs.declared.links.Link.{Link}
use Rattle.plan_rows.proofs.Looking.{IsUpTo}

-- a link's index is of its atom's rows
pub path-of : (rows : List (List Value)) (o : Option Indexed) (r : Option (Bor Indexed)) → option_copied r ≡ o → IfSome o (λ x. x.rows ≡ rows) → IfSome r (λ x. x.now.rows ≡ rows)
path-of rows o None e h = tt
path-of rows o (Some x) e h = subst (λ (p : Option Indexed). IfSome p (λ x. x.rows ≡ rows)) (sym e) h

-- the first of some links, and those behind it
module _ (q : Query) (db : List Table) (links : List Link) (first : Link) (later : List Link) (is : links ≡ first ∷ later) (h : AreLinks q db links) where
  pub links-first : (first.atom < length q.atoms) × IfSome first.path (λ x. x.rows ≡ rows_of q (stored db) first.atom)
  links-first = h first (subst (λ ls. Contains ls first) (sym is) (mem-head first later))

  pub links-rest : AreLinks q db later
  links-rest l m = h l (subst (λ ls. Contains ls l) (sym is) (mem-tail l first later m))

-- what rows of links lead to is found for each row of G before a place that may fit, once it is taken
abbrev pub HasReachedUpTo : Query → List (List (List Value)) → Option (List Value) → List Placed → ℕ → List ℕ → ℕ → List ℕ → ℕ → Type 0
HasReachedUpTo q tables row taken G links F found at =
    IsUpTo (rows_of q tables G) (λ z. MayFit q row taken G z) (λ j. HasReached q tables row (record { atom = G; row = get_or (rows_of q tables G) j [] } ∷ taken) links F found) at

module _ (q : Query) (tables : List (List (List Value))) (row : Option (List Value)) (taken : List Placed) (G : ℕ) (links : List ℕ) (F : ℕ) where
  -- what was found is found still where more is
  pub reached-more : (old new : List ℕ) (at : ℕ) → ((p : ℕ) → Contains old p → Contains new p) → HasReachedUpTo q tables row taken G links F old at → HasReachedUpTo q tables row taken G links F new at
  reached-more old new at kept h j lj low f i l on = kept i (h j lj low f i l on)

  -- what each row of G leads to is all that G and the links behind it lead to
  pub reached-all : (found : List ℕ) → ((j : ℕ) → j < length (rows_of q tables G) → MayFit q row taken G (get_or (rows_of q tables G) j []) →
      HasReached q tables row (record { atom = G; row = get_or (rows_of q tables G) j [] } ∷ taken) links F found) → HasReached q tables row taken (G ∷ links) F found
  reached-all found h i l (z, m, f, on) =
      subst (λ x. MayFit q row taken G x → LeadsTo q tables row (record { atom = G; row = x } ∷ taken) links F (get_or (rows_of q tables F) i []) → Contains found i)
      (get_or_default (rows_of q tables G) m.0 [] z m.1 ∙ m.2) (λ g to. h m.0 m.1 g i l to) f on
