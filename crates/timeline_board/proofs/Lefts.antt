-- What is left of logs, as their places go on.
use Rattle.std.proofs.Common.{◌≡◌, ℕ, ◌+◌, ◌<◌, ◌≤◌, zero, suc, List, [], ◌∷◌, length, drop, replicate, refl, ap, sym, ◌∙◌, arith}
use Rattle.std.specs.Prelude.{Some, None, option_map, slice_get, slice_set, slice_index}
use Rattle.std.proofs.lemmas.List.{drop-drop, length-drop}
use Rattle.std.proofs.lemmas.Option.{slice_get-map, slice_get_within}
use Rattle.controller_machine.specs.Ctl.{CtlState}
use Rattle.controller_machine.specs.declared.ctl.Played.{Played}
use Rattle.timeline_board.specs.declared.head.Head.{Head}
use Rattle.timeline_board.specs.Order.{Gives, NextIs, logs_of}
use Rattle.timeline_board.specs.steps.Merging.{IsFirstOf, IsHead, lefts_of}

-- all is left where all places are 0
pub lefts-start : (logs : List (List Played)) (n : ℕ) → lefts_of logs (replicate n 0) ≡ logs
lefts-start [] n = refl
lefts-start (log ∷ logs) zero = ap (λ ls. log ∷ ls) (lefts-start logs zero)
lefts-start (log ∷ logs) (suc n) = ap (λ ls. log ∷ ls) (lefts-start logs n)

pub lefts-length : (logs : List (List Played)) (places : List ℕ) → length (lefts_of logs places) ≡ length logs
lefts-length [] places = refl
lefts-length (log ∷ logs) [] = ap suc (lefts-length logs [])
lefts-length (log ∷ logs) (place ∷ places) = ap suc (lefts-length logs places)

-- what is left of one log
pub lefts-at : (logs : List (List Played)) (places : List ℕ) (k : ℕ) (log : List Played) → slice_get logs k ≡ Some log
    → slice_get (lefts_of logs places) k ≡ Some (drop (slice_index places k) log)
lefts-at [] places k log at = absurd cc
lefts-at (l ∷ logs) [] zero log at = at
lefts-at (l ∷ logs) [] (suc k) log at = lefts-at logs [] k log at
lefts-at (l ∷ logs) (place ∷ places) zero log at = cc
lefts-at (l ∷ logs) (place ∷ places) (suc k) log at = lefts-at logs places k log at

-- the place of one log goes on
pub lefts-set : (logs : List (List Played)) (places : List ℕ) (k next : ℕ) (log : List Played) → slice_get logs k ≡ Some log → k < length places
    → lefts_of logs (slice_set places k next) ≡ slice_set (lefts_of logs places) k (drop next log)
lefts-set [] places k next log at h = absurd cc
lefts-set (l ∷ logs) [] k next log at h = absurd (omega arith)
lefts-set (l ∷ logs) (place ∷ places) zero next log at h = let same : l ≡ log = cc in ap (λ x. drop next x ∷ lefts_of logs places) same
lefts-set (l ∷ logs) (place ∷ places) (suc k) next log at h = ap (λ ls. drop place l ∷ ls) (lefts-set logs places k next log at (omega arith))

-- the log of one controller
pub logs-at : (states : List CtlState) (k : ℕ) (c : CtlState) → slice_get states k ≡ Some c → slice_get (logs_of states) k ≡ Some c.log
logs-at states k c at = slice_get-map (λ c. c.log) states k ∙ ap (option_map (λ c. c.log)) at

-- the next entry of a log is the first that is left
pub next-left : (log : List Played) (given : ℕ) → slice_get log given ≡ slice_get (drop given log) 0
next-left [] zero = refl
next-left [] (suc given) = refl
next-left (p ∷ log) zero = refl
next-left (p ∷ log) (suc given) = next-left log given

-- what is left behind the next entry
rest-left : (log rest : List Played) (p : Played) (given : ℕ) → drop given log ≡ p ∷ rest → drop (given + 1) log ≡ rest
rest-left log rest p given e = sym (drop-drop 1 given log) ∙ ap (drop 1) e

-- a place within a list has something
found-at : {X : Type 0} (xs : List X) (k : ℕ) → k < length xs → (x : X) × (slice_get xs k ≡ Some x)
found-at [] k h = absurd (omega arith)
found-at (x ∷ xs) zero h = (x, refl)
found-at (x ∷ xs) (suc k) h = found-at xs k (omega arith)

-- where all logs are empty, nothing is given
pub next-none : (logs : List (List Played)) (places : List ℕ) (n : ℕ) → length logs ≡ n → IsFirstOf (lefts_of logs places) n None → NextIs (lefts_of logs places) (lefts_of logs places) None
next-none logs places n size none =
    (λ k log at. none k log (let h = slice_get_within (lefts_of logs places) k log at in omega (arith, h, size, lefts-length logs places)) at, refl)

-- the first entry is given, and the place of its log goes on
pub next-given : (logs : List (List Played)) (places : List ℕ) (n : ℕ) (h : Head) → length logs ≡ n → n ≤ length places → IsHead (lefts_of logs places) n h
    → Gives (lefts_of logs places) (lefts_of logs (slice_set places h.log (slice_index places h.log + 1))) h.entry
next-given logs places n h size room is =
    let within : h.log < length logs = let b = is.before in omega (arith, b, size) in
    let found = found-at logs h.log within in
    let left : Some (drop (slice_index places h.log) found.0) ≡ Some (h.entry ∷ is.rest) = sym (lefts-at logs places h.log found.0 found.1) ∙ is.here in
    let same : drop (slice_index places h.log) found.0 ≡ h.entry ∷ is.rest = cc in
    record {
      log = h.log;
      rest = is.rest;
      here = is.here;
      first = λ k q rest at. is.first k q rest (let w = slice_get_within (lefts_of logs places) k (q ∷ rest) at in omega (arith, w, size, lefts-length logs places)) at;
      state = lefts-set logs places h.log (slice_index places h.log + 1) found.0 found.1 (omega (arith, within, size, room))
          ∙ ap (slice_set (lefts_of logs places) h.log) (rest-left found.0 is.rest h.entry (slice_index places h.log) same);
    }

-- the first entry that is left stands within its log
pub given-within : (logs : List (List Played)) (places : List ℕ) (n : ℕ) (h : Head) (log : List Played) → IsHead (lefts_of logs places) n h → slice_get logs h.log ≡ Some log
    → slice_index places h.log < length log
given-within logs places n h log is found =
    let left : Some (drop (slice_index places h.log) log) ≡ Some (h.entry ∷ is.rest) = sym (lefts-at logs places h.log log found) ∙ is.here in
    let same : drop (slice_index places h.log) log ≡ h.entry ∷ is.rest = cc in
    omega (arith, length-drop (slice_index places h.log) log, ap length same)
