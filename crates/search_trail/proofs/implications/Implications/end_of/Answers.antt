use Rattle.std.proofs.Common.{false, ◌≡◌, get_or, take, sym, List, ◌∷◌, ◌++◌, [], subst, refl, max, ℕ}
use Rattle.std.proofs.lemmas.List.Elements.{Contains-get_or}
use Rattle.std.proofs.lemmas.Grind.{take_at_read}
use Rattle.cnf_form.specs.declared.formula.Lit.{Lit}
use Rattle.cnf_form.specs.Literals.{opposite}
use Rattle.search_trail.specs.Trail.{held, EndIs}
use Rattle.search_trail.proofs.Works.{end_more}
use Rattle.search_trail.proofs.implications.Implications.end_of.Goals as goal

abbrev none : Lit
none = record { var = 0; positive = false }

pub place_after-requires : goal.place_after-requires
place_after-requires c =
    let x = get_or c.args.lits.now c.loop-lit.lit-index none in
    (opposite x, c.requires x (Contains-get_or c.args.lits.now c.loop-lit.lit-index none c.loop-lit-test.true), refl)

pub loop-lit-preserved : goal.loop-lit-preserved
loop-lit-preserved c =
    let t = held c.args.self.now.trail.now in
    let i = c.loop-lit.lit-index in
    let x = get_or c.args.lits.now i none in
    let e : max c.loop-lit.end c.place_after.result ≡ c.max-end.result = sym c.max-end.ensures in
    subst (λ (ys : List Lit). EndIs t ys c.max-end.result) (sym ((take_at_read c.args.lits.now i none c.loop-lit-test.true).1))
    (subst (λ (n : ℕ). EndIs t (take i c.args.lits.now ++ x ∷ []) n) e
    (end_more t (take i c.args.lits.now) c.loop-lit.end x c.place_after.result c.loop-lit.invariant
    (c.requires x (Contains-get_or c.args.lits.now i none c.loop-lit-test.true)) c.place_after.ensures))
