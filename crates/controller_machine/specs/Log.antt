-- What a controller's log has of its acts: the pulses, as they are played. This project's own.
use Rattle.std.specs.Prelude.{ℕ, List, Option, Some, None, map}
use Rattle.std.specs.List.{filter_map, range_with_len}
use Rattle.qs_values.specs.declared.tape.Tape.{Tape}
use Rattle.plan_tree.specs.declared.plan.Plan.{Plan}
use Rattle.plan_tree.specs.Run.{Entry, Happening, Pulsed}
use Rattle.plan_tree.specs.Acts.{Act, Own, planned_acts}
use Rattle.controller_machine.specs.declared.ctl.Played.{Played}

-- what is played at a tick
abbrev pub played_at : ℕ → Happening → Option Played
played_at tick (Pulsed port wave phase hz) = Some (record { tick = tick; port = port; wave = wave; phase = phase; hz = hz; bit = None })

-- what an entry of the trace plays
abbrev pub played_in : Entry → Option Played
played_in e = played_at e.tick e.what

-- what an act plays
abbrev pub played_by : Act → Option Played
played_by (Own k tick what) = played_at tick what

-- what these acts play, in their order
abbrev pub log_of : List Act → List Played
log_of acts = filter_map played_by acts

-- the timeline of a trace
abbrev pub timeline_of : List Entry → List Played
timeline_of trace = filter_map played_in trace

-- the planned timelines of all controllers, in order of number
abbrev pub logs_planned : Plan → Tape → List (List Played)
logs_planned plan tape = map (λ k. log_of (planned_acts plan tape k)) (range_with_len 0 plan.controllers)

-- by what plays stand in order: the tick, and then the port
abbrev pub play_key : Played → ℕ × ℕ
play_key p = (p.tick, p.port)
