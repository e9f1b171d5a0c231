-- Closures of variables under the dependencies key(F) -> vars(F) of a query's atoms (Koutris and Wijsen, ACM TODS 2017).
use Rattle.std.specs.Prelude.{ℕ, ◌≢◌, ◌⊎◌, List, [], ◌∷◌, Contains}
use Rattle.cqa_model.specs.declared.query.ColRef.{ColRef}
use Rattle.cqa_model.specs.declared.query.Query.{Query}
use Rattle.cqa_model.specs.Query.{IsStrict}
use Rattle.cqa_model.specs.Variables.{AreLinked, View, IsVar, IsKeyVar}

-- a column of v's variable is in the list
abbrev pub HasVariable : Query → List ColRef → ColRef → Type 0
HasVariable q vs v = (u : ColRef) × Contains vs u × AreLinked q v u

-- v is in the start set, or in vars(K) for an atom K in use all of whose key(K) is in the list
abbrev pub IsDerived : Query → View → (ℕ → Type 0) → (ColRef → Type 0) → List ColRef → ColRef → Type 0
IsDerived q view uses start vs v =
    start v ⊎ ((K : ℕ) × uses K × IsVar q view K v × ((u : ColRef) → IsKeyVar q view K u → HasVariable q vs u))

-- each member is derived from those before it; the last stands first
abbrev pub IsDerivation : Query → View → (ℕ → Type 0) → (ColRef → Type 0) → List ColRef → Type 0
IsDerivation q view uses start [] = Unit {0}
IsDerivation q view uses start (v ∷ vs) = IsDerived q view uses start vs v × IsDerivation q view uses start vs

-- the closure of a start set under the atoms in use: the members of derivations
abbrev pub InClosure : Query → View → (ℕ → Type 0) → (ColRef → Type 0) → ColRef → Type 0
InClosure q view uses start v = (vs : List ColRef) × IsDerivation q view uses start vs × HasVariable q vs v

-- K's dependency counts for F+: K is an atom of the view other than F, or F itself where its table is strict, so that the
-- stored rows keep it (Koutris and Wijsen, ACM TODS 2017, where a strict table is one of mode c)
abbrev pub CountsFor : Query → View → ℕ → ℕ → Type 0
CountsFor q view F K = view.has K × ((K ≢ F) ⊎ IsStrict q F)

-- F+: the closure of key(F) under the atoms of the view, without F unless its table is strict
abbrev pub InPlus : Query → View → ℕ → ColRef → Type 0
InPlus q view F v = InClosure q view (CountsFor q view F) (IsKeyVar q view F) v
