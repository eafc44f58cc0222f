use Rattle.std.proofs.Common.{ap, ◌≡◌, ◌+◌, ◌^◌, ◌<◌, length, subst, sym, arith}
use Rattle.std.specs.Prelude.{slice_index, slice_set, None}
use Rattle.std.proofs.lemmas.List.{length-map}
use Rattle.timeline_board.specs.Order.{Gives, NextIs, logs_of}
use Rattle.timeline_board.specs.steps.Merging.{lefts_of}
use Rattle.timeline_board.proofs.Lefts.{given-within, logs-at, next-given, next-none}
use Rattle.timeline_board.proofs.merging.Merge.next.Goals as goal

pub returns-in_err-head : goal.returns-in_err-head
returns-in_err-head g c =
    let states = g.L.Ctls.states c.self.inside.ctls.now in
    let none = next-none (logs_of states) c.self.inside.places (length states) (length-map states (λ s. s.log)) c.in_err-head.ensures.first in
    subst (NextIs c.args.self.now c.args.self.now) (sym c.from_residual.ensures) (subst (λ left. NextIs left left None) c.self.view_is none)

pub returns : goal.returns
returns g c =
    let states = g.L.Ctls.states c.self.inside.ctls.now in
    let head = c.in_ok-head.head in
    let few : length states < 17 = c.in_ok-head.ensures.few in
    let new = lefts_of (logs_of states) (slice_set c.self.inside.places head.log (slice_index c.self.inside.places head.log + 1)) in
    subst (λ left. Gives left new head.entry) c.self.view_is
    (next-given (logs_of states) c.self.inside.places (length states) head (length-map states (λ s. s.log)) (omega arith) c.in_ok-head.ensures.first)

pub overflow_add-self : goal.overflow_add-self
overflow_add-self g c =
    let states = g.L.Ctls.states c.self.inside.ctls.now in
    let head = c.in_ok-head.head in
    let within = given-within (logs_of states) c.self.inside.places (length states) head c.ctl.result.now.log c.in_ok-head.ensures.first (logs-at states head.log c.ctl.result.now c.ctl.ensures) in
    let read : c.log-count.result.now ≡ c.ctl.result.now.log = c.log-count.ensures in
    let size : length c.log-count.result.now < 2 ^ 64 = c.log-count.type_inv.0 in
    omega (arith, within, size, ap length read)
