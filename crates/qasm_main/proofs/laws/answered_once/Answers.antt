use Rattle.qasm_main.proofs.OnceLemmas.{SourceLaws, answered-once}
use Rattle.qasm_main.proofs.laws.answered_once.Goals as goal

pub returns : goal.returns
returns c =
    let laws : SourceLaws = record {
      tokens = c.lexed_once.ensures.tokens;
      apart = c.lexed_once.ensures.apart;
      fault = c.lexed_once.ensures.fault;
      tree = c.parsed_once.ensures.tree;
      whole = c.parsed_once.ensures.apart;
      refusal = c.parsed_once.ensures.refusal;
    } in
    answered-once laws c.starts_are_ordered.ensures c.runs_once.ensures
