use Rattle.query_replies.proofs.LineSteps.{named-attacks}
use Rattle.query_replies.proofs.classes.class_of_query.Goals as goal

pub attack_lines-requires : goal.attack_lines-requires
attack_lines-requires c = named-attacks c.args.query.now c.attacks-graph.result c.args.names.now c.requires (c.attacks-graph.ensures.whole c.whole.ensures.is)

pub returns : goal.returns
returns c = let are = c.attacks-graph.ensures.whole c.whole.ensures.is in record { classed = c.class_of-class.ensures.query c.args.query.now are; attacks = c.in_ok-lines.ensures c.args.query.now are }
