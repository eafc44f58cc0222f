-- Entries of several logs in one order: by tick and then by port number. This project's own.
use Rattle.std.specs.Prelude.{◌≡◌, ℕ, List, [], ◌∷◌, map, slice_get, slice_set, if◌then◌else◌, Bool, false, Option, Some, None}
use Rattle.std.specs.List.{flat_map}
use Rattle.std.specs.List.Sorted.{IsPermutation, IsSortedByKey}
use Rattle.std.specs.Ordering.{is_lt}
use Rattle.plan_tree.specs.Sound.{start_cmp}
use Rattle.controller_machine.specs.Ctl.{CtlState}
use Rattle.controller_machine.specs.Log.{play_key}
use Rattle.controller_machine.specs.declared.ctl.Played.{Played}

-- the logs of controllers
abbrev pub logs_of : List CtlState → List (List Played)
logs_of states = map (λ c. c.log) states

-- whether an entry comes before another: by tick, and at one tick by port number
abbrev pub comes_before : Played → Played → Bool
comes_before p q = is_lt (start_cmp (play_key p) (play_key q))

-- an entry doesn't come before another
abbrev pub IsNotBefore : Played → Played → Type 0
IsNotBefore q p = comes_before q p ≡ false

-- No first entry that is left comes before this one.
abbrev pub IsFirst : List (List Played) → Played → Type 0
IsFirst lefts p = (k : ℕ) (q : Played) (rest : List Played) → slice_get lefts k ≡ Some (q ∷ rest) → IsNotBefore q p

-- An entry is given: it stood first in what is left of a log, and no other that stands so comes before it.
pub record Gives (old new : List (List Played)) (p : Played) : Type 0 where
  pub log : ℕ
  pub rest : List Played
  pub here : slice_get old log ≡ Some (p ∷ rest)
  pub first : IsFirst old p
  pub state : new ≡ slice_set old log rest

-- Nothing is left.
abbrev pub AreEmpty : List (List Played) → Type 0
AreEmpty lefts = (k : ℕ) (log : List Played) → slice_get lefts k ≡ Some log → log ≡ []

-- one call of `next`: the next entry, or none exactly where nothing is left
abbrev pub NextIs : List (List Played) → List (List Played) → Option Played → Type 0
NextIs old new None = AreEmpty old × (new ≡ old)
NextIs old new (Some p) = Gives old new p

-- all entries, one after another
abbrev pub IsMerge : List Played → List (List Played) → Type 0
IsMerge [] lefts = AreEmpty lefts
IsMerge (p ∷ ps) lefts = (rest : List (List Played)) × Gives lefts rest p × IsMerge ps rest

-- A log stands by tick and then by port number.
abbrev pub IsInOrder : List Played → Type 0
IsInOrder log = IsSortedByKey play_key start_cmp log

-- an entry put among entries: after those in front that come before it
abbrev pub put_in : Played → List Played → List Played
put_in p [] = p ∷ []
put_in p (q ∷ qs) = if comes_before q p then q ∷ put_in p qs else p ∷ q ∷ qs

-- entries by tick, then by port number, then as they stood
abbrev pub in_time_order : List Played → List Played
in_time_order [] = []
in_time_order (p ∷ ps) = put_in p (in_time_order ps)

-- the entries of all logs
abbrev pub all_of : List (List Played) → List Played
all_of logs = flat_map (λ log. log) logs

-- These are the entries of a list, by tick and then by port number.
pub record IsOrdered (entries ordered : List Played) : Type 0 where
  pub all : IsPermutation entries ordered
  pub order : IsInOrder ordered

-- Entries that are put in order are all of them, in order.
abbrev pub TimeOrderOrders : Type 0
TimeOrderOrders = (entries : List Played) → IsOrdered entries (in_time_order entries)

-- Logs that stand in order are merged to all of their entries in order.
abbrev pub MergeOrders : Type 0
MergeOrders = (logs : List (List Played)) (entries : List Played)
    → ((k : ℕ) (log : List Played) → slice_get logs k ≡ Some log → IsInOrder log) → IsMerge entries logs → IsOrdered (all_of logs) entries
