use Rattle.std.proofs.Common.{◌∙◌, ◌∷◌, refl, sym}
use Rattle.std.proofs.lemmas.Bool.{false≢true}
use Rattle.plan_rows.specs.Over.{look_query, look_taken}
use Rattle.plan_rows.proofs.Suiting.{agrees-more, agrees-not, suits-of}
use Rattle.plan_rows.proofs.fitting.suits.Goals as goal

pub returns-then-agrees_within : goal.returns-then-agrees_within
returns-then-agrees_within c =
    let q = look_query c.args.look.now in
    let taken = look_taken c.args.look.now in
    let F = c.args.look.now.atom in
    let x = c.args.x.now in
    let all = agrees-more q F x (record { atom = F; row = x } ∷ taken) (record { atom = F; row = x }) taken refl c.agrees_all.result c.agrees_all.ensures (c.agrees_within.ensures.0 c.if-agrees_within.true) in
    ((λ t. suits-of q taken F x (all.0 t) (c.passes_tests.ensures.0 c.if-not-passes_tests.false)), (λ s. all.1 s.agrees))

pub returns-else-agrees_within : goal.returns-else-agrees_within
returns-else-agrees_within c =
    let taken = look_taken c.args.look.now in
    let F = c.args.look.now.atom in
    let no = agrees-not (look_query c.args.look.now) F c.args.x.now (record { atom = F; row = c.args.x.now } ∷ taken) (record { atom = F; row = c.args.x.now }) taken refl c.agrees_within.result c.if-agrees_within.false c.agrees_within.ensures in
    ((λ e. absurd (false≢true (sym c.if-agrees_within.false ∙ e))), (λ s. no.1 s.agrees))
