use Rattle.std.proofs.Common.{rules, ap, ◌∙◌, subst, sym, ◌≡◌, Err}
use Rattle.box_schedule.specs.Placement.{Places}
use Rattle.qasm_main.specs.front.Compile.{CompilesStatements, IsNamedHalt}
use Rattle.qasm_main.specs.front.Gates.{gates_of}
use Rattle.qasm_main.specs.front.Planned.{IsBodyBy, is_left_out, ops_of}
use Rattle.qasm_main.proofs.CompileLemmas.{places-named, places-refused}
use Rattle.qasm_main.proofs.OperationLemmas.{plain_ops}
use Rattle.qasm_main.proofs.PlainLemmas.{gates-known, known}
use Rattle.qasm_main.proofs.SoundLemmas.{ArePlanned, names_on, sound_on}
use Rattle.qasm_main.proofs.front.plans.plan_of.Goals as goal

pub schedule-requires-clause-plain : goal.schedule-requires-clause-plain
schedule-requires-clause-plain c =
    let gates : c.in_ok-gates.gates ≡ known = c.in_ok-gates.ensures ∙ ap gates_of c.requires.machine ∙ gates-known in
    rw (c.in_ok-block.ensures, gates) (plain_ops c.args.statements.now c.requires.formed)

pub returns-in-Err-clause-compiles : goal.returns-in-Err-clause-compiles
returns-in-Err-clause-compiles c =
    let gates : c.in_ok-gates.gates ≡ known = c.in_ok-gates.ensures ∙ ap gates_of c.requires.machine ∙ gates-known in
    let ops = c.in_ok-block.ensures ∙ ap (λ g. ops_of g c.args.statements.now) gates in
    let places = subst (λ ops. Places ops (Err c.in-Err.refusal)) ops c.in-Err.ensures.places in
    subst (λ halt. CompilesStatements c.args.machine.now c.args.statements.now (Err halt)) (sym c.halt_of.ensures)
    (places-refused c.args.machine.now c.args.statements.now c.in-Err.refusal c.requires.machine places)

pub returns-in-Err-clause-code : goal.returns-in-Err-clause-code
returns-in-Err-clause-code c = subst (λ halt. IsNamedHalt (Err halt)) (sym c.halt_of.ensures) (places-named c.in-Err.refusal)

pub returns-clause-sound : goal.returns-clause-sound
returns-clause-sound c =
    let gates : c.in_ok-gates.gates ≡ known = c.in_ok-gates.ensures ∙ ap gates_of c.requires.machine ∙ gates-known in
    let places = rw (c.in_ok-block.ensures, gates) at c.in-Ok.ensures.places in
    let earliest = rw (c.in_ok-block.ensures, gates, places.0) at c.in-Ok.ensures.earliest in
    let planned : ArePlanned c.args.statements.now = record { formed = c.requires.formed; few = c.requires.few; short = places.2; admissible = earliest.0 } in
    sound_on c.plays_stay_apart.ensures c.args.machine.now c.args.statements.now _ c.requires.machine planned (search rules)

pub returns-clause-names : goal.returns-clause-names
returns-clause-names c =
    let gates : c.in_ok-gates.gates ≡ known = c.in_ok-gates.ensures ∙ ap gates_of c.requires.machine ∙ gates-known in
    let places = rw (c.in_ok-block.ensures, gates) at c.in-Ok.ensures.places in
    let earliest = rw (c.in_ok-block.ensures, gates, places.0) at c.in-Ok.ensures.earliest in
    let planned : ArePlanned c.args.statements.now = record { formed = c.requires.formed; few = c.requires.few; short = places.2; admissible = earliest.0 } in
    names_on c.args.machine.now c.args.statements.now c.in_ok-body.body c.requires.machine planned
    (subst (λ g. IsBodyBy g (is_left_out g c.args.statements.now) c.args.statements.now c.in_ok-body.body) gates c.in_ok-body.ensures)
