use Rattle.std.proofs.Common.{arith}
use Rattle.spj_syntax.proofs.Answered.{form_read, form_refuses, form_complete, form_only_fault}
use Rattle.spj_syntax.proofs.Spelled.{spelled_readable, spelled_few}
use Rattle.spj_syntax.proofs.Trees.{order_same}
use Rattle.spj_syntax.proofs.forms.parse_order.Goals as goal

pub parse_form-requires : goal.parse_form-requires
parse_form-requires c = record { readable = spelled_readable c.requires.spelled; few = omega (arith, spelled_few c.requires.spelled); short = c.requires.short }

pub returns-clause-order : goal.returns-clause-order
returns-clause-order c = form_read _ _ _ _ _ c.requires.short c.requires.spelled c.parse_form.ensures.exact

pub returns-clause-complete : goal.returns-clause-complete
returns-clause-complete c = form_complete _ _ order_same _ _ _ c.requires.spelled c.parse_form.ensures.exact

pub returns-clause-refused : goal.returns-clause-refused
returns-clause-refused c = form_refuses _ _ _ _ _ c.parse_form.ensures.exact

pub returns-clause-only_fault : goal.returns-clause-only_fault
returns-clause-only_fault c = form_only_fault _ _ _ _ _ c.parse_form.ensures.exact
