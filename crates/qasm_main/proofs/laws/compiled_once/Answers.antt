use Rattle.qasm_main.proofs.OnceLemmas.{plan-apart, plan-once, refusal-once}
use Rattle.qasm_main.proofs.laws.compiled_once.Goals as goal

pub returns-clause-plan : goal.returns-clause-plan
returns-clause-plan c = plan-once (record {
  tokens = c.lexed_once.ensures.tokens;
  apart = c.lexed_once.ensures.apart;
  fault = c.lexed_once.ensures.fault;
  tree = c.parsed_once.ensures.tree;
  whole = c.parsed_once.ensures.apart;
  refusal = c.parsed_once.ensures.refusal;
}) c.starts_are_ordered.ensures

pub returns-clause-apart : goal.returns-clause-apart
returns-clause-apart c = plan-apart (record {
  tokens = c.lexed_once.ensures.tokens;
  apart = c.lexed_once.ensures.apart;
  fault = c.lexed_once.ensures.fault;
  tree = c.parsed_once.ensures.tree;
  whole = c.parsed_once.ensures.apart;
  refusal = c.parsed_once.ensures.refusal;
})

pub returns-clause-refusal : goal.returns-clause-refusal
returns-clause-refusal c = refusal-once (record {
  tokens = c.lexed_once.ensures.tokens;
  apart = c.lexed_once.ensures.apart;
  fault = c.lexed_once.ensures.fault;
  tree = c.parsed_once.ensures.tree;
  whole = c.parsed_once.ensures.apart;
  refusal = c.parsed_once.ensures.refusal;
})
