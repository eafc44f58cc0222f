-- The order of entries by tick and then by port.
use Rattle.std.proofs.Common.{◌≡◌, true, false, refl, arith}
use Rattle.std.specs.Cmp.{IsStrictWeakOrder}
use Rattle.std.specs.List.Sorted.{ties}
use Rattle.std.proofs.lemmas.Bool.Decides.{nat_tests}
use Rattle.std.proofs.lemmas.List.Sorted.{ranks_by}
use Rattle.plan_tree.proofs.StartLemmas.{start-total}
use Rattle.controller_machine.specs.declared.ctl.Played.{Played}
use Rattle.controller_machine.specs.Log.{play_key}
use Rattle.timeline_board.specs.Order.{IsNotBefore, comes_before}

pub before-ranks : IsStrictWeakOrder comes_before
before-ranks = ranks_by start-total play_key

-- no entry comes before itself
pub not-before-itself : (p : Played) → IsNotBefore p p
not-before-itself p = elim (comes_before p p) as (λ b. comes_before p p ≡ b → comes_before p p ≡ false) [ true ↦ λ e. before-ranks.one_way p p e | false ↦ λ e. e ] refl

-- what doesn't come before an entry doesn't come before an earlier one
pub not-before-earlier : (q h e : Played) → IsNotBefore q h → comes_before e h ≡ true → IsNotBefore q e
not-before-earlier q h e not_before is_before = before-ranks.chain q h e not_before (before-ranks.one_way e h is_before)

-- entries that tie are on one port
pub ties-port : (x p : Played) → ties comes_before x p ≡ true → p.port ≡ x.port
ties-port x p tie = grind (arith, nat_tests)
