use Rattle.std.proofs.Common.{◌≡◌, ◌+◌, ◌-◌, [], ◌++◌, ap, refl, sym, ◌∙◌, append_assoc, arith}
use Rattle.std.specs.Prelude.{decimal, slice_index}
use Rattle.std.proofs.lemmas.List.{append-nil}
use Rattle.outside.proofs.Texts.{goes-as, goes-nowhere, goes-then}
use Rattle.timeline_board.specs.Report.{digits_from}
use Rattle.timeline_board.proofs.ValueLemmas.{digits-next}
use Rattle.timeline_board.proofs.lines.put_bits.Goals as goal

pub loop-i-init : goal.loop-i-init
loop-i-init g c = ([], goes-nowhere, refl)

pub loop-i-preserved : goal.loop-i-preserved
loop-i-preserved g c =
    let store = c.args.store.now in
    let done = c.loop-i.invariant.0 in
    let digit = decimal (slice_index store (c.args.first + (c.loop-i.i - 1))) in
    let next = digits-next store c.args.first c.loop-i.i c.loop-i-test.true in (
      done ++ digit,
      goes-then c.loop-i.invariant.1 c.number.ensures,
      append_assoc done digit (digits_from store c.args.first (c.loop-i.i - 1)) ∙ ap (λ text. done ++ text) (sym next) ∙ c.loop-i.invariant.2,
    )

pub returns : goal.returns
returns g c =
    let done = c.loop-i.invariant.0 in
    let none : 0 ≡ c.loop-i.i = omega arith in
    goes-as c.loop-i.invariant.1 (sym (append-nil done) ∙ ap (λ n. done ++ digits_from c.args.store.now c.args.first n) none ∙ c.loop-i.invariant.2)
