-- The entries that are written one after another are a merge of the logs.
use Rattle.std.proofs.Common.{◌≡◌, ℕ, ◌<◌, List, [], ◌∷◌, ◌++◌, length, sym, subst, arith, append_assoc}
use Rattle.std.specs.Prelude.{All, Some, slice_get, slice_set}
use Rattle.std.proofs.lemmas.List.{append-nil}
use Rattle.std.proofs.lemmas.List.Elements.{All-get_or, All-head, All-set, All-tail}
use Rattle.std.proofs.lemmas.List.Sorted.{length_permutation}
use Rattle.std.proofs.lemmas.Option.{get_or_from_slice_get, slice_get_within}
use Rattle.qs_machine.specs.declared.machine.Machine.{Machine}
use Rattle.controller_machine.specs.declared.ctl.Played.{Played}
use Rattle.timeline_board.specs.Conditions.{AreNamed, IsNamed}
use Rattle.timeline_board.specs.Order.{AreEmpty, Gives, IsMerge, all_of}
use Rattle.timeline_board.proofs.Merges.{moved}

-- What is given from here on is merged behind what was given so far.
abbrev pub GoesOnAs : List Played → List (List Played) → List (List Played) → Type 0
GoesOnAs done left logs = (more : List Played) → IsMerge more left → IsMerge (done ++ more) logs

-- nothing was given yet
pub goes-from-start : (logs : List (List Played)) → GoesOnAs [] logs logs
goes-from-start logs more merge = merge

-- one entry more was given
pub goes-further : (done : List Played) (p : Played) (left next logs : List (List Played)) → GoesOnAs done left logs → Gives left next p → GoesOnAs (done ++ p ∷ []) next logs
goes-further done p left next logs goes gives more merge =
    subst (λ es. IsMerge es logs) (sym (append_assoc done (p ∷ []) more)) (goes (p ∷ more) (next, gives, merge))

-- all were given
pub goes-to-end : (done : List Played) (left logs : List (List Played)) → GoesOnAs done left logs → AreEmpty left → IsMerge done logs
goes-to-end done left logs goes empty = subst (λ es. IsMerge es logs) (append-nil done) (goes [] empty)

-- the log of an entry has names
log-named : (machine : Machine) (logs : List (List Played)) (k : ℕ) (log : List Played) → AreNamed machine logs → slice_get logs k ≡ Some log → All (IsNamed machine) log
log-named machine logs k log named at =
    subst (All (IsNamed machine)) (get_or_from_slice_get logs k log [] at) (All-get_or (All (IsNamed machine)) logs k [] (slice_get_within logs k log at) named)

-- an entry that is given has names
pub given-named : (machine : Machine) (left next : List (List Played)) (p : Played) → AreNamed machine left → Gives left next p → IsNamed machine p
given-named machine left next p named gives = All-head (IsNamed machine) p gives.rest (log-named machine left gives.log (p ∷ gives.rest) named gives.here)

-- what is left has names
pub left-named : (machine : Machine) (left next : List (List Played)) (p : Played) → AreNamed machine left → Gives left next p → AreNamed machine next
left-named machine left next p named gives =
    subst (AreNamed machine) (sym gives.state)
    (All-set (All (IsNamed machine)) left gives.log gives.rest (All-tail (IsNamed machine) p gives.rest (log-named machine left gives.log (p ∷ gives.rest) named gives.here)) named)

-- fewer entries are left
pub fewer-left : (left next : List (List Played)) (p : Played) → Gives left next p → length (all_of next) < length (all_of left)
fewer-left left next p gives =
    let same = length_permutation (all_of left) (p ∷ all_of (slice_set left gives.log gives.rest)) (moved left gives.log p gives.rest gives.here) in
    subst (λ l. length (all_of l) < length (all_of left)) (sym gives.state) (omega (arith, same))
