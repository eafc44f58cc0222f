use Rattle.std.proofs.Common.{rules}
use Rattle.std.proofs.lemmas.List.Sorted.{answers_always}
use Rattle.plan_tree.specs.Sound.{start_key}
use Rattle.qasm_main.proofs.front.plans.block_of.Goals as goal

pub returns-clause-order : goal.returns-clause-order
returns-clause-order c =
    rw c.from_vec.ensures (c.in_ok-sort_by_key.ensures.sorted start_key (answers_always _ _ _ (λ f a r g called. search rules)))

pub returns-clause-stable : goal.returns-clause-stable
returns-clause-stable c =
    rw c.from_vec.ensures (c.in_ok-sort_by_key.ensures.stable start_key (answers_always _ _ _ (λ f a r g called. search rules)))
