-- The report of a run. This project's own.
use Rattle.std.specs.Prelude.{◌≡◌, ℕ, ◌+◌, ◌-◌, ◌^◌, List, [], ◌++◌, codes, decimal, map, slice_get, slice_index, unwrap_or, if◌then◌else◌, nat_lt, Option, Some, None, zero, suc}
use Rattle.std.specs.List.{flat_map}
use Rattle.qs_values.specs.declared.kind.Kind.{Kind}
use Rattle.qs_values.specs.declared.kind.Kind.TheVariants.{Bit, Bool, Bits, Int, Uint, Angle}
use Rattle.qs_values.specs.declared.kind.Out.{Out}
use Rattle.qs_values.specs.declared.tape.Tape.{Tape}
use Rattle.plan_tree.specs.declared.plan.Plan.{Plan}
use Rattle.plan_tree.specs.Run.{Outcome, run_of}
use Rattle.plan_tree.specs.Sound.{IsSound}
use Rattle.qs_machine.specs.declared.machine.Machine.{Machine}
use Rattle.controller_machine.specs.declared.ctl.Played.{Played}
use Rattle.controller_machine.specs.declared.stand.Ending.{Ending}
use Rattle.controller_machine.specs.declared.stand.Ending.TheVariants.{Going, Done}
use Rattle.controller_machine.specs.Alone.{Shown}
use Rattle.controller_machine.specs.Last.{IsLast, ending_as}
use Rattle.controller_machine.specs.Log.{logs_planned, timeline_of}
use Rattle.timeline_board.specs.Order.{IsMerge, in_time_order}

-- the name of this number
abbrev pub name_at : List (List ℕ) → ℕ → List ℕ
name_at names n = unwrap_or (slice_get names n) []

-- the word of an entry
abbrev pub entry_word : Option ℕ → List ℕ
entry_word None = codes "pulse "
entry_word (Some bit) = codes "capture "

-- a capture's bit stands last
abbrev pub bit_text : Option ℕ → List ℕ
bit_text None = []
bit_text (Some bit) = codes " " ++ decimal bit

-- an entry of the timeline
abbrev pub entry_line : Machine → Played → List ℕ
entry_line machine p =
    entry_word p.bit ++ decimal p.tick
    ++ codes " " ++ name_at (map (λ port. port.name) machine.ports) p.port
    ++ codes " " ++ name_at (map (λ wave. wave.name) machine.waveforms) p.wave
    ++ codes " " ++ decimal p.phase ++ codes " " ++ decimal p.hz ++ bit_text p.bit ++ codes "\n"

-- so many variables as digits, the highest first
abbrev pub digits_from : List ℕ → ℕ → ℕ → List ℕ
digits_from store first zero = []
digits_from store first (suc n) = decimal (slice_index store (first + n)) ++ digits_from store first n

-- a number below 2^width with its sign
abbrev pub signed_text : ℕ → ℕ → List ℕ
signed_text width value = if nat_lt value (2 ^ (width - 1)) then decimal value else codes "-" ++ decimal (2 ^ width - value)

-- the value of an output
abbrev pub value_text : List ℕ → ℕ → Kind → ℕ → List ℕ
value_text store first Bit width = decimal (slice_index store first)
value_text store first Bool width = decimal (slice_index store first)
value_text store first Bits width = digits_from store first width
value_text store first Int width = signed_text width (slice_index store first)
value_text store first Uint width = decimal (slice_index store first)
value_text store first Angle width = decimal (slice_index store first)

-- the line of an output
abbrev pub out_line : List ℕ → Out → List ℕ
out_line store out = codes "out " ++ out.name ++ codes " " ++ value_text store out.first out.ty.kind out.ty.width ++ codes "\n"

-- the word of an ending, which a run that goes on has none of
abbrev pub ending_word : Ending → List ℕ
ending_word Going = []
ending_word Done = codes "done"

-- the last line
abbrev pub end_line : ℕ → Ending → List ℕ
end_line tick ending = codes "end " ++ decimal tick ++ codes " " ++ ending_word ending ++ codes "\n"

-- the report of these entries, with the outputs and the end that the hub shows
abbrev pub report_text : Plan → Machine → List Played → Shown → List ℕ
report_text plan machine entries hub =
    flat_map (entry_line machine) entries ++ flat_map (out_line hub.store) plan.outs ++ end_line hub.tick hub.ending

-- the report of a run: its timeline by tick and then by port number, the outputs from its last store, and its end
abbrev pub report_of : Plan → Machine → Outcome → List ℕ
report_of plan machine run =
    flat_map (entry_line machine) (in_time_order (timeline_of run.trace))
    ++ flat_map (out_line run.store) plan.outs ++ end_line run.tick (ending_as run.ending)

-- The merged logs of controllers that have made all of their planned acts are the timeline of the undivided run, in order.
abbrev pub MergeIsTimeline : Type 0
MergeIsTimeline = (plan : Plan) (tape : Tape) (entries : List Played) → IsSound plan
    → IsMerge entries (logs_planned plan tape) → entries ≡ in_time_order (timeline_of (run_of plan tape).trace)

-- The merged logs of controllers that have made all of their planned acts, reported with the hub's last state, are the report of the undivided run.
abbrev pub ReportIsRun : Type 0
ReportIsRun = (plan : Plan) (tape : Tape) (machine : Machine) (entries : List Played) (hub : Shown) → IsSound plan
    → IsMerge entries (logs_planned plan tape) → IsLast plan tape hub
    → report_text plan machine entries hub ≡ report_of plan machine (run_of plan tape)
