use Rattle.qs_lexer.proofs.CutOnce.{fault_once, no_fault_beside_tokens, tokens_once}
use Rattle.qs_lexer.proofs.laws.lexed_once.Goals as goal

pub returns-clause-tokens : goal.returns-clause-tokens
returns-clause-tokens c = tokens_once

pub returns-clause-apart : goal.returns-clause-apart
returns-clause-apart c = no_fault_beside_tokens

pub returns-clause-fault : goal.returns-clause-fault
returns-clause-fault c = fault_once
