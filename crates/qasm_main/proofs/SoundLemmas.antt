-- A plan of pulses on the built-in machine is sound.
use Rattle.std.proofs.Common.{◌≡◌, ◌<◌, ◌≤◌, [], List, ℕ, Bool, true, false, All, length, zero, suc, refl, sym, ap, subst, lit<, arith}
use Rattle.std.specs.Prelude.{IsSomeAnd, map, slice_get, sum}
use Rattle.std.proofs.lemmas.List.Elements.{All-nil, All-cons, All-from_recursion, All-weaker}
use Rattle.std.specs.List.Sorted.{IsPermutation}
use Rattle.std.proofs.lemmas.List.Sorted.{All-permutation, length_permutation}
use Rattle.std.proofs.lemmas.Map.Keys.{IsDistinct-IsPermutation}
use Rattle.qs_values.specs.declared.tape.FrameStart.{FrameStart}
use Rattle.plan_tree.specs.declared.plan.Plan.{Plan}
use Rattle.plan_tree.specs.declared.plan.Block.{Block as Block-}
use Rattle.plan_tree.specs.declared.plan.Deed.{Deed}
use Rattle.plan_tree.specs.declared.plan.Event.{Event}
use Rattle.plan_tree.specs.declared.plan.PlanStmt.{PlanStmt}
use Rattle.plan_tree.specs.declared.plan.PlanStmt.TheVariants.{Block}
use Rattle.plan_tree.specs.Sound.{HasVars, IsMet, IsSound, IsSoundBlock, IsSoundDeed, IsSoundEvent, IsSoundStmt, OfBlock, same_start, weight_in}
use Rattle.plan_tree.specs.Laws.{PlaysStayApart}
use Rattle.box_schedule.specs.Placement.{IsAdmissible, length_of, longest, starts_of}
use Rattle.qasm_main.specs.declared.front.statement.LocatedStatement.{LocatedStatement}
use Rattle.qs_machine.specs.declared.machine.Machine.{Machine}
use Rattle.qs_machine.specs.BuiltIn.{built_in}
use Rattle.qasm_main.specs.front.Source.{most_statements}
use Rattle.qasm_main.specs.front.Statement.{AreWellFormed}
use Rattle.timeline_board.specs.Conditions.{HasNamesOf, HasWave}
use Rattle.qasm_main.specs.front.Planned.{IsBlockOf, IsBodyBy, IsPlanOf, is_left_out, ops_of, owners_of}
use Rattle.qasm_main.proofs.PlainLemmas.{known, plain_from, pulses-plain}
use Rattle.qasm_main.proofs.PulseLemmas.{IsQubitPulse, qubit_pulses, length-plain_from, begin_before_end, pulses_apart, same_start_flips}

frame_of : (port : ℕ) → port < 3 → IsSomeAnd (slice_get built_in.frames port) (λ s. s.port ≡ port)
frame_of zero h = refl
frame_of (suc zero) h = refl
frame_of (suc (suc zero)) h = refl
frame_of (suc (suc (suc n))) h = absurd (omega arith)

sound_event : (plan : Plan) (ticks : ℕ) (e : Event) → plan.frames ≡ built_in.frames → plan.owner ≡ owners_of built_in.ports → IsQubitPulse e → e.offset < ticks → IsSoundEvent plan ticks e
sound_event plan ticks e framed owned known below =
    let HasFrame : List FrameStart → Type 0 = λ all. IsSomeAnd (slice_get all e.port) (λ s. s.port ≡ e.port) in
    let IsSoundAct : Deed → Type 0 = λ act. IsSoundDeed plan ticks e.offset e.port act in
    let HasPort : List ℕ → Type 0 = λ all. e.port < length all in
    record {
      port = subst HasPort (sym owned) (omega (arith, known.port));
      act = subst IsSoundAct (sym known.act) (subst HasFrame (sym framed) (frame_of e.port known.port), below);
    }

-- what holds of statements that are planned: they are well formed, and their placement is admissible and not too long
pub record ArePlanned (statements : List LocatedStatement) : Type 0 where
  pub formed : AreWellFormed statements
  pub few : length statements ≤ most_statements
  pub short : length_of (ops_of known statements) ≤ longest
  pub admissible : IsAdmissible (ops_of known statements) (starts_of (ops_of known statements))

-- the pulses of planned statements
abbrev plain_of : List LocatedStatement → List Event
plain_of statements = plain_from statements (starts_of (ops_of known statements))

moved : (statements : List LocatedStatement) (b : Block-) → ArePlanned statements → IsBlockOf known statements b → IsPermutation (plain_of statements) b.events
moved statements b planned block = subst (λ all. IsPermutation all b.events) (pulses-plain statements (starts_of (ops_of known statements)) planned.formed) block.events

sound_block : PlaysStayApart → (statements : List LocatedStatement) (plan : Plan) (b : Block-) → ArePlanned statements → plan.frames ≡ built_in.frames → plan.owner ≡ owners_of built_in.ports
    → IsBlockOf known statements b → IsSoundBlock plan b
sound_block stay_apart statements plan b planned framed owned block =
    let starts : List ℕ = starts_of (ops_of known statements) in
    let events : IsPermutation (plain_of statements) b.events = moved statements b planned block in
    let pulses : All IsQubitPulse b.events = All-permutation IsQubitPulse _ _ events (qubit_pulses statements starts planned.formed) in
    let early : All (λ e. e.offset < length_of (ops_of known statements)) b.events =
    All-permutation (λ e. e.offset < length_of (ops_of known statements)) _ _ events (begin_before_end statements starts) in
    record {
      length = omega (arith, block.ticks, planned.short);
      events = λ k d h. sound_event plan b.length _ framed owned (pulses k d h) (omega (arith, block.ticks, early k d h));
      order = block.order;
      apart = stay_apart b.events (IsDistinct-IsPermutation same_start same_start_flips _ _ events
          (pulses_apart statements starts planned.formed planned.admissible.apart));
    }

-- how much statements weigh
abbrev weight_all : ℕ → List PlanStmt → ℕ
weight_all budget body = sum (map (weight_in budget) body)

sound_body : PlaysStayApart → (statements : List LocatedStatement) (plan : Plan) (n : ℕ) (body : List PlanStmt) (left_out : Bool) → ArePlanned statements → plan.frames ≡ built_in.frames → plan.owner ≡ owners_of built_in.ports
    → IsBodyBy known left_out statements body → All (IsSoundStmt plan false) body × (weight_all n body ≤ 1048576)
sound_body stay_apart statements plan n body true planned framed owned is =
    subst (λ (all : List PlanStmt). All (IsSoundStmt plan false) all × (weight_all n all ≤ 1048576)) (sym is) (All-nil (IsSoundStmt plan false), omega arith)
sound_body stay_apart statements plan n body false planned framed owned (b, is, block) =
    let as_many : length b.events ≡ length (plain_of statements) = length_permutation _ _ (moved statements b planned block) in
    subst (λ (all : List PlanStmt). All (IsSoundStmt plan false) all × (weight_all n all ≤ 1048576)) (sym is) (
      All-cons (IsSoundStmt plan false) (Block b) []
          (All-cons (IsMet plan) (OfBlock b) [] (sound_block stay_apart statements plan b planned framed owned block) (All-nil (IsMet plan))) (All-nil (IsSoundStmt plan false)),
      omega (arith, as_many, planned.few, length-plain_from statements (starts_of (ops_of known statements))),
    )

owners_known : All (λ k. (0 < k) × (k < 5)) (owners_of built_in.ports)
owners_known =
    All-from_recursion (λ k. (0 < k) × (k < 5)) (owners_of built_in.ports)
    ((lit< tt, lit< tt), ((lit< tt, lit< tt), ((lit< tt, lit< tt), ((lit< tt, lit< tt), ((lit< tt, lit< tt), ((lit< tt, lit< tt), tt))))))

ports_known : All (λ f. f.port < 6) built_in.frames
ports_known = All-from_recursion (λ f. f.port < 6) built_in.frames (lit< tt, (lit< tt, (lit< tt, (lit< tt, (lit< tt, (lit< tt, tt))))))

pub sound_plan : PlaysStayApart → (statements : List LocatedStatement) (plan : Plan) → ArePlanned statements → IsPlanOf built_in statements plan → IsSound plan
sound_plan stay_apart statements plan planned is =
    let body = sound_body stay_apart statements plan plan.budget plan.body (is_left_out known statements) planned is.frames is.owner is.body in
    let ports : length plan.owner ≡ 6 = ap length is.owner in
    let frame_count : length plan.frames ≡ 6 = ap length is.frames in
    record {
      some = omega arith;
      few = omega arith;
      ports = omega arith;
      owners = rw (is.owner, is.controllers) owners_known;
      frames = omega arith;
      frame_ports = rw (is.frames, is.owner) ports_known;
      inputs = rw is.inputs (All-nil (λ i. HasVars plan.vars i.first i.ty.kind i.ty.width));
      apart = rw is.inputs (λ i j a b below first second. cc);
      outs = rw is.outs (All-nil (λ o. HasVars plan.vars o.first o.ty.kind o.ty.width));
      body = body.0;
      gap = omega arith;
      turns = omega arith;
      budget = omega arith;
      weight = body.1;
    }

-- ---- names

waves_of : (e : Event) → IsQubitPulse e → (e.port < 6) × HasWave 3 e.act
waves_of e pulse = (omega (arith, pulse.port), rw pulse.act pulse.wave_known)

body_names : (statements : List LocatedStatement) (body : List PlanStmt) (left_out : Bool) → ArePlanned statements → IsBodyBy known left_out statements body → All (HasNamesOf built_in) body
body_names statements body true planned is = subst (All (HasNamesOf built_in)) (sym is) (All-nil (HasNamesOf built_in))
body_names statements body false planned (b, is, block) =
    let pulses = All-permutation IsQubitPulse _ _ (moved statements b planned block) (qubit_pulses statements (starts_of (ops_of known statements)) planned.formed) in
    subst (All (HasNamesOf built_in)) (sym is)
    (All-cons (HasNamesOf built_in) (Block b) [] (All-weaker IsQubitPulse (λ e. (e.port < 6) × HasWave 3 e.act) waves_of b.events pulses) (All-nil (HasNamesOf built_in)))

-- A plan of planned statements on the built-in machine is sound, and the machine has its names.
pub sound_on : PlaysStayApart → (machine : Machine) (statements : List LocatedStatement) (plan : Plan) → machine ≡ built_in → ArePlanned statements → IsPlanOf machine statements plan → IsSound plan
sound_on stay_apart machine statements plan known_machine planned is = sound_plan stay_apart statements plan planned (subst (λ m. IsPlanOf m statements plan) known_machine is)

pub names_on : (machine : Machine) (statements : List LocatedStatement) (body : List PlanStmt) → machine ≡ built_in → ArePlanned statements
    → IsBodyBy known (is_left_out known statements) statements body → All (HasNamesOf machine) body
names_on machine statements body known_machine planned is =
    subst (λ m. All (HasNamesOf m) body) (sym known_machine) (body_names statements body (is_left_out known statements) planned is)
