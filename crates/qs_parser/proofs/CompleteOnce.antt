-- Tokens have one tree or one refusal, and the account of the reader finds which.
use Rattle.std.proofs.Common.{List, length}
use Rattle.qs_lexer.specs.declared.token.Token.{Token}
use Rattle.qs_tree.specs.WellFormed.{limits, twice_limits}
use Rattle.qs_parser.specs.Language.{IsRest, ParseIs}
use Rattle.qs_parser.specs.Once.{RefusalOnce, TreeOnce}
use Rattle.qs_parser.specs.Reading.{left_after}
use Rattle.qs_parser.proofs.CompleteTop.{left-is_rest, tree-once}
use Rattle.qs_parser.proofs.CompleteRefusals.{refusal-once, source_of, source_of-parses}
use Rattle.qs_parser.proofs.CompleteStatement.{complete-statement_at}

pub one_tree : TreeOnce
one_tree = tree-once (complete-statement_at limits.depth limits.operators)

pub one_refusal : RefusalOnce
one_refusal = refusal-once (complete-statement_at twice_limits.depth twice_limits.operators)

-- what the account leaves is the rest
pub read_leaves_rest : (tokens : List Token) → IsRest tokens (left_after (length tokens) tokens)
read_leaves_rest tokens = left-is_rest (complete-statement_at limits.depth limits.operators) tokens

-- what the account reads of a source is what `parse` answers
pub read_parses : (tokens : List Token) → ParseIs tokens (source_of tokens)
read_parses tokens = source_of-parses (complete-statement_at limits.depth limits.operators) (complete-statement_at twice_limits.depth twice_limits.operators) tokens
