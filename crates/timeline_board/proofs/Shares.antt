-- Of each port, a merge of all planned logs has what the timeline has, in the same order.
use Rattle.std.proofs.Common.{◌≡◌, ◌≢◌, ℕ, ◌+◌, ◌<◌, List, [], ◌∷◌, Bool, true, false, true≢false, cond, filter, map, zero, suc, refl, sym, ap, ◌∙◌, subst, arith, inl, inr}
use Rattle.std.specs.Prelude.{All, Some, Option, None, nat_eq, slice_get, slice_index, slice_set, unwrap_or}
use Rattle.std.specs.List.{range_with_len}
use Rattle.std.proofs.lemmas.List.Elements.{All-head, All-tail}
use Rattle.std.proofs.lemmas.Bool.{eqb-true}
use Rattle.std.proofs.lemmas.Bool.Decides.{nat_tests}
use Rattle.qs_values.specs.declared.tape.Tape.{Tape}
use Rattle.plan_tree.specs.declared.plan.Plan.{Plan}
use Rattle.plan_tree.specs.Acts.{Own, acts_of, all_acts, planned_acts}
use Rattle.plan_tree.specs.Parts.{owner_of}
use Rattle.plan_tree.specs.Run.{Entry, Happening, Pulsed, run_of}
use Rattle.plan_tree.specs.Sound.{IsSound}
use Rattle.controller_machine.specs.declared.ctl.Played.{Played}
use Rattle.controller_machine.specs.Log.{log_of, logs_planned, timeline_of}
use Rattle.timeline_board.specs.Order.{AreEmpty, Gives, IsMerge}
use Rattle.timeline_board.proofs.Merges.{set-cases}

-- ---- a merge, of entries that stand in one log alone

-- the log of this number, or none
abbrev log_at : List (List Played) → ℕ → List Played
log_at logs k = unwrap_or (slice_get logs k) []

module _ (test : Played → Bool) (k : ℕ) where
  -- entries that pass a test stand in log k alone
  abbrev StandIn : List (List Played) → Type 0
  StandIn logs = (j : ℕ) (log : List Played) → slice_get logs j ≡ Some log → j ≢ k → filter test log ≡ []

  empty-log : (logs : List (List Played)) → AreEmpty logs → filter test (log_at logs k) ≡ []
  empty-log logs empty = by-log (slice_get logs k) refl
    where
      by-log : (log : Option (List Played)) → slice_get logs k ≡ log → filter test (unwrap_or log []) ≡ []
      by-log None e = refl
      by-log (Some log) e = ap (filter test) (empty k log e)

  set-here : (logs : List (List Played)) (j : ℕ) (old new : List Played) → slice_get logs j ≡ Some old → slice_get (slice_set logs j new) j ≡ Some new
  set-here [] j old new at = absurd cc
  set-here (log ∷ logs) zero old new at = refl
  set-here (log ∷ logs) (suc j) old new at = set-here logs j old new at

  set-there : (logs : List (List Played)) (j i : ℕ) (new : List Played) → j ≢ i → slice_get (slice_set logs j new) i ≡ slice_get logs i
  set-there [] j i new other = refl
  set-there (log ∷ logs) zero zero new other = absurd (other refl)
  set-there (log ∷ logs) zero (suc i) new other = refl
  set-there (log ∷ logs) (suc j) zero new other = refl
  set-there (log ∷ logs) (suc j) (suc i) new other = set-there logs j i new (λ e. other (ap suc e))

  filter-head : (p : Played) (ps : List Played) → filter test (p ∷ ps) ≡ [] → (test p ≡ false) × (filter test ps ≡ [])
  filter-head p ps = elim (test p) as (λ b. cond b (p ∷ filter test ps) (filter test ps) ≡ [] → (b ≡ false) × (filter test ps ≡ [])) [ true ↦ λ e. absurd cc | false ↦ λ e. (refl, e) ]

  stand-left : (logs left : List (List Played)) (p : Played) → StandIn logs → Gives logs left p → StandIn left
  stand-left logs left p stand gives j log at other =
      elim (set-cases logs gives.log j gives.rest log (subst (λ l. slice_get l j ≡ Some log) gives.state at)) [
        | inl e ↦ rw (sym e.1) (filter-head p gives.rest (stand gives.log (p ∷ gives.rest) gives.here (λ same. other (sym e.0 ∙ same)))).1
        | inr e ↦ stand j log e other
      ]

  -- what a merge has of them is what log k has
  pub merge-share : (entries : List Played) (logs : List (List Played)) → StandIn logs → IsMerge entries logs → filter test entries ≡ filter test (log_at logs k)
  merge-share [] logs stand empty = sym (empty-log logs empty)
  merge-share (p ∷ ps) logs stand m =
      let gives = m.1 in
      let rest : filter test ps ≡ filter test (log_at (slice_set logs gives.log gives.rest) k) =
      subst (λ l. filter test ps ≡ filter test (log_at l k)) gives.state (merge-share ps m.0 (stand-left logs m.0 p stand gives) m.2) in
      by-log (nat_eq gives.log k) refl rest
    where
      by-log : (b : Bool) → nat_eq m.1.log k ≡ b → filter test ps ≡ filter test (log_at (slice_set logs m.1.log m.1.rest) k) → filter test (p ∷ ps) ≡ filter test (log_at logs k)
      by-log true e rest =
          let same : m.1.log ≡ k = eqb-true m.1.log k e in
          let here : slice_get logs k ≡ Some (p ∷ m.1.rest) = subst (λ n. slice_get logs n ≡ Some (p ∷ m.1.rest)) same m.1.here in
          let left : slice_get (slice_set logs m.1.log m.1.rest) k ≡ Some m.1.rest =
          subst (λ n. slice_get (slice_set logs m.1.log m.1.rest) n ≡ Some m.1.rest) same (set-here logs m.1.log (p ∷ m.1.rest) m.1.rest m.1.here) in
          ap (λ l. cond (test p) (p ∷ l) l) (rest ∙ ap (λ l. filter test (unwrap_or l [])) left) ∙ ap (λ l. filter test (unwrap_or l [])) (sym here)
      by-log false e rest =
          let other : m.1.log ≢ k = grind (arith, nat_tests) in
          let none = filter-head p m.1.rest (stand m.1.log (p ∷ m.1.rest) m.1.here other) in
          ap (λ b. cond b (p ∷ filter test ps) (filter test ps)) none.0 ∙ rest ∙ ap (λ l. filter test (unwrap_or l [])) (set-there logs m.1.log k m.1.rest other)

-- ---- the planned log of a controller is the timeline on its ports

-- whether an entry is on a port of this controller
abbrev is_on : Plan → ℕ → Played → Bool
is_on plan k p = nat_eq (owner_of plan p.port) k

own-entry : (plan : Plan) (k : ℕ) (e : Entry) (es : List Entry) (what : Happening) → e.what ≡ what
    → log_of (acts_of k (all_acts plan es)) ≡ filter (is_on plan k) (timeline_of es)
    → log_of (acts_of k (all_acts plan (e ∷ es))) ≡ filter (is_on plan k) (timeline_of (e ∷ es))
own-entry plan k e es (Pulsed port wave phase hz) is rest =
    rw is (elim (nat_eq (owner_of plan port) k) as (λ b.
    log_of (cond b (Own (owner_of plan port) e.tick (Pulsed port wave phase hz) ∷ acts_of k (all_acts plan es)) (acts_of k (all_acts plan es)))
    ≡ cond b (record { tick = e.tick; port = port; wave = wave; phase = phase; hz = hz; bit = None } ∷ filter (is_on plan k) (timeline_of es)) (filter (is_on plan k) (timeline_of es))) [
      | true ↦ ap (λ l. record { tick = e.tick; port = port; wave = wave; phase = phase; hz = hz; bit = None } ∷ l) rest
      | false ↦ rest
    ])

own-log : (plan : Plan) (k : ℕ) (trace : List Entry) → log_of (acts_of k (all_acts plan trace)) ≡ filter (is_on plan k) (timeline_of trace)
own-log plan k [] = refl
own-log plan k (e ∷ es) = own-entry plan k e es e.what refl (own-log plan k es)

pub own-planned : (plan : Plan) (tape : Tape) (k : ℕ) → log_of (planned_acts plan tape k) ≡ filter (is_on plan k) (timeline_of (run_of plan tape).trace)
own-planned plan tape k = own-log plan k (run_of plan tape).trace

-- a test after one that it implies, and after one that it rules out
filter-within : (test own : Played → Bool) (ps : List Played) → ((p : Played) → test p ≡ true → own p ≡ true) → filter test (filter own ps) ≡ filter test ps
filter-within test own [] implies = refl
filter-within test own (p ∷ ps) implies = by-tests (own p) (test p) refl refl (filter-within test own ps implies)
  where
    by-tests : (a b : Bool) → own p ≡ a → test p ≡ b → filter test (filter own ps) ≡ filter test ps
        → filter test (cond a (p ∷ filter own ps) (filter own ps)) ≡ cond b (p ∷ filter test ps) (filter test ps)
    by-tests true true one other rest = rw other (ap (λ l. p ∷ l) rest)
    by-tests true false one other rest = rw other rest
    by-tests false true one other rest = absurd (true≢false (sym (implies p other) ∙ one))
    by-tests false false one other rest = rest

filter-without : (test own : Played → Bool) (ps : List Played) → ((p : Played) → test p ≡ true → own p ≡ false) → filter test (filter own ps) ≡ []
filter-without test own [] rules_out = refl
filter-without test own (p ∷ ps) rules_out = by-tests (own p) (test p) refl refl (filter-without test own ps rules_out)
  where
    by-tests : (a b : Bool) → own p ≡ a → test p ≡ b → filter test (filter own ps) ≡ [] → filter test (cond a (p ∷ filter own ps) (filter own ps)) ≡ []
    by-tests true true one other rest = absurd (true≢false (sym one ∙ rules_out p other))
    by-tests true false one other rest = rw other rest
    by-tests false b one other rest = rest

-- ---- all logs

-- what stands at a place of a list that goes by numbers, the first of them j
pub made-at : (f : ℕ → List Played) (n j i : ℕ) (log : List Played) → slice_get (map f (range_with_len j n)) i ≡ Some log → log ≡ f (j + i)
made-at f zero j i log at = absurd cc
made-at f (suc n) j zero log at = let same : f j ≡ log = cc in sym same ∙ ap f (omega arith)
made-at f (suc n) j (suc i) log at = made-at f n (j + 1) i log at ∙ ap f (omega arith)

made-within : (f : ℕ → List Played) (n j i : ℕ) → i < n → slice_get (map f (range_with_len j n)) i ≡ Some (f (j + i))
made-within f zero j i below = absurd (omega arith)
made-within f (suc n) j zero below = ap (λ k. Some (f k)) (omega arith)
made-within f (suc n) j (suc i) below = made-within f n (j + 1) i (omega arith) ∙ ap (λ k. Some (f k)) (omega arith)

-- each port has a controller of the plan
index-below : (n port : ℕ) (owner : List ℕ) → 0 < n → All (λ k. (0 < k) × (k < n)) owner → slice_index owner port < n
index-below n port [] some all = some
index-below n zero (k ∷ owner) some all = (All-head (λ j. (0 < j) × (j < n)) k owner all).1
index-below n (suc port) (k ∷ owner) some all = index-below n port owner some (All-tail (λ j. (0 < j) × (j < n)) k owner all)

-- Of the entries on one port a merge of all planned logs has what the timeline has, in the same order.
pub port-share : (plan : Plan) (tape : Tape) (entries : List Played) (test : Played → Bool) (port : ℕ) → IsSound plan → ((p : Played) → test p ≡ true → p.port ≡ port)
    → IsMerge entries (logs_planned plan tape) → filter test entries ≡ filter test (timeline_of (run_of plan tape).trace)
port-share plan tape entries test port sound on merged =
    let k = owner_of plan port in
    let timeline = timeline_of (run_of plan tape).trace in
    let f : ℕ → List Played = λ j. log_of (planned_acts plan tape j) in
    let below : k < plan.controllers = index-below plan.controllers port plan.owner (omega (arith, sound.some)) sound.owners in
    let is_mine : (p : Played) → test p ≡ true → is_on plan k p ≡ true = λ p passes. let here = on p passes in rw here (grind (arith, nat_tests)) in
    let is_others : (j : ℕ) → j ≢ k → (p : Played) → test p ≡ true → is_on plan j p ≡ false = λ j other p passes. let here = on p passes in rw here (grind (arith, nat_tests)) in
    merge-share test k entries (logs_planned plan tape)
    (λ j log at other. ap (filter test) (made-at f plan.controllers 0 j log at ∙ ap f (omega arith) ∙ own-planned plan tape j) ∙ filter-without test (is_on plan j) timeline (is_others j other)) merged
    ∙ ap (λ l. filter test (unwrap_or l [])) (made-within f plan.controllers 0 k below ∙ ap (λ n. Some (f n)) (omega arith))
    ∙ ap (filter test) (own-planned plan tape k)
    ∙ filter-within test (is_on plan k) timeline is_mine
