-- `records::admit` meets its contract: the rule is the kind's, and the head is admitted by it. Assumes nothing.
use Rattle.records.proofs.Laws.{rule-small}
use Rattle.records.proofs.kinds.admit.Goals as goal

pub admit_with-requires : goal.admit_with-requires
admit_with-requires c = record { few = rule-small c.rule_of-rule.result c.args.kind c.rule_of-rule.ensures; head = c.requires }
