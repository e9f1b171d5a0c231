use Rattle.std.proofs.Common.{refl}
use Rattle.rewrite_check.proofs.Moving.{cut_taken, cut_blank, cut_broken}
use Rattle.rewrite_check.proofs.script.Script.next_text.Goals as goal

pub returns-in-Statement-clause-taken : goal.returns-in-Statement-clause-taken
returns-in-Statement-clause-taken c =
    cut_taken c.self.inside.bytes.now c.self.inside.before c.args.self.now c.self.view_is c.in-Statement.text c.in-Statement.block c.in-Statement.rest c.in-Statement.ensures.first

pub returns-in-Blank-clause-taken : goal.returns-in-Blank-clause-taken
returns-in-Blank-clause-taken c = (cut_blank c.self.inside.bytes.now c.self.inside.before c.args.self.now c.self.view_is c.in-Blank.ensures.first, refl)

pub returns-in-Part-clause-broken : goal.returns-in-Part-clause-broken
returns-in-Part-clause-broken c = cut_broken c.self.inside.bytes.now c.self.inside.before c.args.self.now c.self.view_is c.in-Part.ensures.first
