-- The plan of statements: one block, its operations placed as early as possible. This project's own.
use Rattle.std.specs.Prelude.{◌≡◌, ℕ, pos, List, [], ◌∷◌, ◌++◌, length, map, Bool, true, false, ◌&&◌, nat_eq, None}
use Rattle.std.specs.List.Sorted.{IsPermutation, IsSortedByKey, IsStableByKey}
use Rattle.qs_values.specs.declared.span.Span.{Span}
use Rattle.plan_tree.specs.declared.plan.Plan.{Plan}
use Rattle.plan_tree.specs.declared.plan.Block.{Block as Block-}
use Rattle.plan_tree.specs.declared.plan.Event.{Event}
use Rattle.plan_tree.specs.declared.plan.Deed.TheVariants.{Pulse}
use Rattle.plan_tree.specs.declared.plan.PlanStmt.{PlanStmt}
use Rattle.plan_tree.specs.declared.plan.PlanStmt.TheVariants.{Block}
use Rattle.plan_tree.specs.Sound.{start_key, start_cmp}
use Rattle.qs_machine.specs.declared.machine.Machine.{Machine}
use Rattle.qs_machine.specs.declared.machine.Port.{Port}
use Rattle.box_schedule.specs.declared.block.TOp.{TOp, roll-TOp}
use Rattle.box_schedule.specs.Placement.{starts_of, length_of}
use Rattle.qasm_main.specs.declared.front.gates.Gates.{Gates}
use Rattle.qasm_main.specs.declared.front.statement.Statement.{Statement}
use Rattle.qasm_main.specs.declared.front.statement.Statement.TheVariants.{X, Cx, Delay, Barrier}
use Rattle.qasm_main.specs.declared.front.statement.LocatedStatement.{LocatedStatement}
use Rattle.qasm_main.specs.front.Gates.{drive_of, gates_of}

-- an operation of constant length
abbrev pub op_of : Span → List ℕ → ℕ → Bool → TOp
op_of span qubits ticks barrier = roll-TOp (record {
  span = span;
  qubits = qubits;
  length = record { ticks = pos ticks; parts = [] };
  inner = None;
  fixed = None;
  barrier = barrier;
})

module _ (gates : Gates) where
  -- the operation of a statement at its place
  abbrev pub op_by : Span → Statement → TOp
  op_by span (X q) = op_of span (q ∷ []) gates.x.ticks false
  op_by span (Cx a b) = op_of span (a ∷ b ∷ []) gates.cx.ticks false
  op_by span (Delay ticks q) = op_of span (q ∷ []) ticks false
  op_by span (Barrier qubits) = op_of span qubits 0 true

  -- the operations of statements
  abbrev pub ops_of : List LocatedStatement → List TOp
  ops_of statements = map (λ s. op_by s.span s.statement) statements

  -- a pulse on a qubit: on the frame that drives it, and that frame's port
  abbrev pub pulse_at : ℕ → ℕ → ℕ → Event
  pulse_at start qubit wave = record { offset = start; port = (drive_of gates qubit).port; act = Pulse (drive_of gates qubit).frame wave }

  -- the pulses of a statement that begins at a tick
  abbrev pub pulses_by : ℕ → Statement → List Event
  pulses_by start (X q) = pulse_at start q gates.x.wave ∷ []
  pulses_by start (Cx a b) = pulse_at start a gates.cx.wave ∷ pulse_at start b gates.cx.wave ∷ []
  pulses_by start (Delay ticks q) = []
  pulses_by start (Barrier qubits) = []

  -- the pulses of statements that begin at these ticks, in the order of the source
  abbrev pub pulses_from : List LocatedStatement → List ℕ → List Event
  pulses_from [] starts = []
  pulses_from (s ∷ ss) [] = []
  pulses_from (s ∷ ss) (start ∷ starts) = pulses_by start s.statement ++ pulses_from ss starts

  -- the pulses of statements, at the least starts of their operations
  abbrev pub pulses_of : List LocatedStatement → List Event
  pulses_of statements = pulses_from statements (starts_of (ops_of statements))

  -- A block of these statements: their pulses by offset, then by port, then in the order of the source.
  pub record IsBlockOf (statements : List LocatedStatement) (b : Block-) : Type 0 where
    pub events : IsPermutation (pulses_of statements) b.events
    pub order : IsSortedByKey start_key start_cmp b.events
    pub stable : IsStableByKey start_key start_cmp (pulses_of statements) b.events
    pub ticks : b.length ≡ length_of (ops_of statements)

  -- whether a block is left out: it has no event and takes no tick
  abbrev pub is_left_out : List LocatedStatement → Bool
  is_left_out statements = nat_eq (length (pulses_of statements)) 0 && nat_eq (length_of (ops_of statements)) 0

  -- the statements of a plan: none where the block is left out, and else the block of the source
  abbrev pub IsBodyBy : Bool → List LocatedStatement → List PlanStmt → Type 0
  IsBodyBy true statements body = body ≡ []
  IsBodyBy false statements body = (b : Block-) × (body ≡ Block b ∷ []) × IsBlockOf statements b

-- the controllers of ports
abbrev pub owners_of : List Port → List ℕ
owners_of ports = map (λ p. p.controller) ports

-- the plan of statements on a machine
pub record IsPlanOf (machine : Machine) (statements : List LocatedStatement) (plan : Plan) : Type 0 where
  pub vars : plan.vars ≡ []
  pub inputs : plan.inputs ≡ []
  pub outs : plan.outs ≡ []
  pub frames : plan.frames ≡ machine.frames
  pub owner : plan.owner ≡ owners_of machine.ports
  pub controllers : plan.controllers ≡ length machine.controllers
  pub gap : plan.gap ≡ machine.gap
  pub budget : plan.budget ≡ machine.budget
  pub body : IsBodyBy (gates_of machine) (is_left_out (gates_of machine) statements) statements plan.body
