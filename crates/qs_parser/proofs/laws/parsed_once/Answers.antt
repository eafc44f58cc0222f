use Rattle.qs_parser.proofs.CompleteRefusals.{no-refusal-beside-tree}
use Rattle.qs_parser.proofs.CompleteOnce.{one_refusal, one_tree}
use Rattle.qs_parser.proofs.laws.parsed_once.Goals as goal

pub returns-clause-tree : goal.returns-clause-tree
returns-clause-tree c = one_tree

pub returns-clause-apart : goal.returns-clause-apart
returns-clause-apart c = no-refusal-beside-tree

pub returns-clause-refusal : goal.returns-clause-refusal
returns-clause-refusal c = one_refusal
