-- What is left of several logs, and which entry comes first. This project's own.
use Rattle.std.specs.Prelude.{◌≡◌, ℕ, ◌<◌, List, [], ◌∷◌, drop, slice_get, Option, Some, None}
use Rattle.controller_machine.specs.declared.ctl.Played.{Played}
use Rattle.timeline_board.specs.declared.head.Head.{Head}
use Rattle.timeline_board.specs.Order.{IsNotBefore}

-- the logs, each without as many entries as its place says
abbrev pub lefts_of : List (List Played) → List ℕ → List (List Played)
lefts_of [] places = []
lefts_of (log ∷ logs) [] = log ∷ lefts_of logs []
lefts_of (log ∷ logs) (place ∷ places) = drop place log ∷ lefts_of logs places

-- An entry stands first in its log, and no first entry of the logs before n comes before it.
pub record IsHead (lefts : List (List Played)) (n : ℕ) (h : Head) : Type 0 where
  pub rest : List Played
  pub before : h.log < n
  pub here : slice_get lefts h.log ≡ Some (h.entry ∷ rest)
  pub first : (k : ℕ) (q : Played) (left : List Played) → k < n → slice_get lefts k ≡ Some (q ∷ left) → IsNotBefore q h.entry

-- Of the first entries of the logs before n the one that comes first, or none where these logs are empty.
abbrev pub IsFirstOf : List (List Played) → ℕ → Option Head → Type 0
IsFirstOf lefts n None = (k : ℕ) (left : List Played) → k < n → slice_get lefts k ≡ Some left → left ≡ []
IsFirstOf lefts n (Some h) = IsHead lefts n h
