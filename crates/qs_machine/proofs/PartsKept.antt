-- What is read of a machine table's lists keeps their forms and limits.
use Rattle.std.proofs.Common.{◌≡◌, ◌≢◌, ℕ, ◌-◌, ◌^◌, ◌<◌, ◌≤◌, ℤ, ◌≤ℤ◌, pos, negsuc, List, [], ◌∷◌, ◌++◌, Bool, true, false, not, ◌&&◌, map, length, get_or, Ok, Err, Option, Some, None, refl, ap, sym, ◌∙◌, subst, arith, ⊎_elim, true≢false}
use Rattle.std.specs.Prelude.{All, codes, bytes_eq, nat_eq, nat_lt, ◌==◌, slice_get, slice_index, is_ok, option_and_then, option_map, ok_or, if◌then◌else◌, ⊤}
use Rattle.std.specs.List.{list_any, list_all}
use Rattle.std.specs.Option.{option_map_or}
use Rattle.std.proofs.lemmas.Bool.{and_parts, ne_eqb, not-true, not-false, ltb-true, eqb-true, cases_lt}
use Rattle.std.proofs.lemmas.Option.{none-some, same_Some, cond_some, option_and_then_some, slice_get_within, slice_get-get_or, get_or_from_slice_get}
use Rattle.std.proofs.lemmas.List.{get_or_push, get_or_append_left, length_push}
use Rattle.std.proofs.lemmas.List.Elements.{All-nil, All-push}
use Rattle.std.proofs.lemmas.List.Quantifiers.{position-Some}
use Rattle.std.proofs.lemmas.List.Sums.{AllPass-from_list_all}
use Rattle.serde_json.specs.Data.{Data}
use Rattle.serde_json.specs.Find.{as_str}
use Rattle.qs_values.specs.declared.tape.FrameStart.{FrameStart}
use Rattle.qs_machine.specs.declared.machine.CtlKind.{CtlKind}
use Rattle.qs_machine.specs.declared.machine.CtlKind.TheVariants.{Hub, Drive, Acquire}
use Rattle.qs_machine.specs.declared.machine.Port.{Port}
use Rattle.qs_machine.specs.declared.machine.Wave.{Wave}
use Rattle.qs_machine.specs.declared.machine.Sample.{Sample}
use Rattle.qs_machine.specs.declared.machine.Family.{Family as MachineFamily}
use Rattle.qs_machine.specs.declared.refusal.Field.TheVariants.{Controllers, Ports, Frames, Waveforms, Families}
use Rattle.qs_machine.specs.declared.refusal.Part.TheVariants.{Entry, Family}
use Rattle.qs_machine.specs.declared.refusal.MachineRefusal.TheVariants.{FieldWrong, NameDoubled, ControllerUnknown, QubitUnknown, FrameWrong, FamilyWrong}
use Rattle.qs_machine.specs.Limits.{IsIn, AreDistinct, AreNamed, IsPort, IsFrame, IsSample, IsWave, ReachesAlone, IsFamily, HasHub}
use Rattle.qs_machine.specs.Steps.{in_order, refuse_if}
use Rattle.qs_machine.specs.Table.{at_key, formed, is_among, place_of, needed, optional, kind_at, controller_of, controllers_of, qubit_of, reached_of, known_qubits, port_of, ports_of, frame_of, frames_of, sample_of, samples_of, wave_of, waveforms_of, reaches_alone, texts_of, member_of, members_of, family_of, families_of}
use Rattle.qs_machine.specs.Values.{passing, is_short_name, name_in, whole_in, signed_in, list_in, amplitude_at, sample_in, entries_in}
use Rattle.qs_machine.proofs.DistinctLemmas.{AllPairs-push, fresh_number}
use Rattle.qs_machine.proofs.KeptLemmas.{ok_is, after, was_some, was_false, passed, name_kept, whole_kept, signed_within, list_within, needed_was, in_order_keeps, in_order_count, named_keep}

-- ---- controllers

is_hub : CtlKind → Bool
is_hub Hub = true
is_hub Drive = false
is_hub Acquire = false

-- the first so far is the hub, and no other is
abbrev HubSoFar : List CtlKind → Type 0
HubSoFar [] = ⊤
HubSoFar (first ∷ others) = (first ≡ Hub) × All (λ kind. kind ≢ Hub) others

word_is_no_hub : (drive acquire : Bool) (kind : CtlKind) → (if drive then Some Drive else (if acquire then Some Acquire else None)) ≡ Some kind → kind ≢ Hub
unfolding is_hub
word_is_no_hub true acquire kind h = λ same. true≢false (sym (ap is_hub same) ∙ ap is_hub (sym (same_Some Drive kind h)))
word_is_no_hub false true kind h = λ same. true≢false (sym (ap is_hub same) ∙ ap is_hub (sym (same_Some Acquire kind h)))
word_is_no_hub false false kind h = absurd (none-some kind h)

no_later_hub : (n : ℕ) (text : List ℕ) (kind : CtlKind) → (n ≡ 0 → ⊥) → kind_at n text ≡ Some kind → kind ≢ Hub
no_later_hub n text kind later h =
    let other : Option CtlKind = if bytes_eq text (codes "drive") then Some Drive else (if bytes_eq text (codes "acquire") then Some Acquire else None) in
    let first : Option CtlKind = if bytes_eq text (codes "hub") then Some Hub else None in
    word_is_no_hub (bytes_eq text (codes "drive")) (bytes_eq text (codes "acquire")) kind
    (subst (λ b. (if b then first else other) ≡ Some kind) (ne_eqb n 0 later) h)

hub_step : (before : List CtlKind) (d : Data) (kind : CtlKind) → HubSoFar before → Ok kind ≡ controller_of before d → HubSoFar (before ++ kind ∷ [])
hub_step [] d kind so_far h =
    option_and_then_some (kind_at 0) (as_str d) kind (was_some (option_and_then (kind_at 0) (as_str d)) (FieldWrong Controllers (Entry 0)) kind h)
    (λ text is reads. (sym (cond_some (bytes_eq text (codes "hub")) Hub kind reads).1, All-nil (λ k. k ≢ Hub)))
hub_step (c ∷ cs) d kind so_far h =
    let n = length (c ∷ cs) in
    option_and_then_some (kind_at n) (as_str d) kind (was_some (option_and_then (kind_at n) (as_str d)) (FieldWrong Controllers (Entry n)) kind h)
    (λ text is reads. (so_far.0, All-push (λ k. k ≢ Hub) cs kind so_far.1 (no_later_hub n text kind (λ none. omega (arith, none)) reads)))

hub_there : (kinds : List CtlKind) → HubSoFar kinds → 1 ≤ length kinds → HasHub kinds
hub_there [] so_far some = absurd (omega (arith, some))
hub_there (c ∷ cs) so_far some = so_far

-- the controllers that are read have one hub, and are few
pub controllers_kept : (table : Data) (kinds : List CtlKind) → Ok kinds ≡ controllers_of table → HasHub kinds × (length kinds ≤ 16)
controllers_kept table kinds h =
    after (needed Controllers (list_in 1 16) table) (in_order controller_of []) kinds h (λ ds is reads.
    let was = needed_was Controllers (list_in 1 16) table ds is in
    let few = list_within 1 16 was.0 ds was.1 in
    let count = in_order_count controller_of [] ds kinds reads in
    (hub_there kinds (in_order_keeps controller_of HubSoFar hub_step [] ds kinds tt reads) (omega (arith, few.0, count)), omega (arith, few.1, count)))

-- ---- ports

qubits_step : (number : ℕ) (before : List ℕ) (d : Data) (q : ℕ) → AreDistinct before → Ok q ≡ qubit_of number before d → AreDistinct (before ++ q ∷ [])
qubits_step number before d q so_far h =
    let among : ℕ → Bool = λ r. list_any (λ p. nat_eq p r) before in
    let whole = whole_in 0 (2 ^ 64 - 1) d in
    let there = passed (λ r. not (among r)) whole q (was_some (passing (λ r. not (among r)) whole) (FieldWrong Ports (Entry number)) q h) in
    AllPairs-push (λ x y. x ≢ y) before q so_far (fresh_number before q (not-true (among q) there.1))

-- the qubits that a port reaches
reached_kept : (number : ℕ) (d : Data) (reached : List ℕ) → Ok reached ≡ reached_of number d → IsIn 1 32 (length reached) × AreDistinct reached
reached_kept number d reached h =
    after (formed Ports number (list_in 1 32 d)) (in_order (qubit_of number) []) reached h (λ ds is reads.
    let few = list_within 1 32 d ds (was_some (list_in 1 32 d) (FieldWrong Ports (Entry number)) ds is) in
    let count = in_order_count (qubit_of number) [] ds reached reads in
    let none : AreDistinct {A = ℕ} [] = λ i j d lt within. absurd (omega (arith, within)) in
    ((omega (arith, few.0, count), omega (arith, few.1, count)), in_order_keeps (qubit_of number) AreDistinct (qubits_step number) [] ds reached none reads))

known_kept : (number qubits : ℕ) (reached known : List ℕ) → Ok known ≡ known_qubits number qubits reached → (reached ≡ known) × All (λ q. q < qubits) known
known_kept number qubits reached known h = by_test (list_all below reached) refl h
  where
    below : ℕ → Bool
    below q = nat_lt q qubits

    by_test : (b : Bool) → b ≡ list_all below reached → Ok known ≡ (if b then Ok reached else Err (QubitUnknown number)) → (reached ≡ known) × All (λ q. q < qubits) known
    by_test true is g =
        let same = sym (ok_is known reached g) in
        (same, subst (All (λ q. q < qubits)) same (λ k d within. ltb-true (get_or reached k d) qubits (AllPass-from_list_all below reached (sym is) k d within)))
    by_test false is g = absurd (true≢false (ap is_ok g))

-- a port that is read is one, and has a name of its own
port_kept : (qubits controllers : ℕ) (before : List Port) (entry : Data) (p : Port) → Ok p ≡ port_of qubits controllers before entry → IsPort qubits controllers p × (is_among p.name (map (λ x. x.name) before) ≡ false)
port_kept qubits controllers before entry p h =
    let n = length before in
    after (at_key Ports n (codes "name") entry) _ p h (λ name_there is_a h_a.
    after (at_key Ports n (codes "controller") entry) _ p h_a (λ owner_there is_b h_b.
    after (at_key Ports n (codes "qubits") entry) _ p h_b (λ reached_there is_c h_c.
    after (formed Ports n (name_in name_there)) _ p h_c (λ name named h_d.
    after (formed Ports n (whole_in 1 (2 ^ 64 - 1) owner_there)) _ p h_d (λ owner owned h_e.
    after (reached_of n reached_there) _ p h_e (λ reached reaches h_f.
    after (refuse_if (is_among name (map (λ x. x.name) before)) (NameDoubled Ports n)) _ p h_f (λ u fresh h_g.
    after (refuse_if (not (nat_lt owner controllers)) (ControllerUnknown n)) _ p h_g (λ v there h_h.
    after (known_qubits n qubits reached) _ p h_h (λ known knows h_i.
    let same : p ≡ record { name = name; controller = owner; qubits = known } = ok_is p _ h_i in
    let reach = reached_kept n reached_there reached reaches in
    let all = known_kept n qubits reached known knows in
    let below = not-false (nat_lt owner controllers) (was_false (not (nat_lt owner controllers)) (ControllerUnknown n) v there) in
    subst (λ x. IsPort qubits controllers x × (is_among x.name (map (λ y. y.name) before) ≡ false)) (sym same) (
      record {
        name = name_kept Ports n name_there name named;
        owned = (whole_kept Ports n 1 (2 ^ 64 - 1) owner_there owner owned).0;
        controller = ltb-true owner controllers below;
        some = subst (λ l. IsIn 1 32 (length l)) all.0 reach.0;
        reached = all.1;
        distinct = subst AreDistinct all.0 reach.1;
      },
      was_false (is_among name (map (λ x. x.name) before)) (NameDoubled Ports n) u fresh,
    ))))))))))

-- the ports that are read are ports, each of a name of its own
pub ports_kept : (qubits controllers : ℕ) (table : Data) (ports : List Port) → Ok ports ≡ ports_of qubits controllers table → AreNamed 96 (IsPort qubits controllers) (λ p. p.name) ports
ports_kept qubits controllers table ports h =
    after (needed Ports (list_in 0 96) table) (in_order (port_of qubits controllers) []) ports h (λ ds is reads.
    let was = needed_was Ports (list_in 0 96) table ds is in
    named_keep (port_of qubits controllers) 96 (IsPort qubits controllers) (λ p. p.name) (port_kept qubits controllers) ds ports (list_within 0 96 was.0 ds was.1).1 reads)

-- ---- frames

-- a frame that is read is one, and has a name of its own
frame_kept : (ports : List (List ℕ)) (before : List FrameStart) (entry : Data) (f : FrameStart) → Ok f ≡ frame_of ports before entry → IsFrame (length ports) f × (is_among f.name (map (λ x. x.name) before) ≡ false)
frame_kept ports before entry f h =
    let n = length before in
    after (at_key Frames n (codes "name") entry) _ f h (λ name_there is_a h_a.
    after (at_key Frames n (codes "port") entry) _ f h_a (λ port_there is_b h_b.
    after (at_key Frames n (codes "frequency") entry) _ f h_b (λ hz_there is_c h_c.
    after (at_key Frames n (codes "phase") entry) _ f h_c (λ phase_there is_d h_d.
    after (formed Frames n (name_in name_there)) _ f h_d (λ name named h_e.
    after (formed Frames n (as_str port_there)) _ f h_e (λ port_name is_f h_f.
    after (formed Frames n (whole_in 0 (2 ^ 40 - 1) hz_there)) _ f h_f (λ hz is_g h_g.
    after (formed Frames n (whole_in 0 (2 ^ 32 - 1) phase_there)) _ f h_g (λ phase is_h h_h.
    after (refuse_if (is_among name (map (λ x. x.name) before)) (NameDoubled Frames n)) _ f h_h (λ u fresh h_i.
    after (ok_or (place_of port_name ports) (FrameWrong n)) _ f h_i (λ port placed h_j.
    let same : f ≡ record { name = name; port = port; phase = phase; hz = hz } = ok_is f _ h_j in
    let place = position-Some (bytes_eq port_name) ports port [] (was_some (place_of port_name ports) (FrameWrong n) port placed) in
    let low = (whole_kept Frames n 0 (2 ^ 40 - 1) hz_there hz is_g).1 in
    let turn = (whole_kept Frames n 0 (2 ^ 32 - 1) phase_there phase is_h).1 in
    subst (λ x. IsFrame (length ports) x × (is_among x.name (map (λ y. y.name) before) ≡ false)) (sym same) (
      record {
        name = name_kept Frames n name_there name named;
        port = place.0;
        phase = omega (arith, turn);
        hz = omega (arith, low);
      },
      was_false (is_among name (map (λ x. x.name) before)) (NameDoubled Frames n) u fresh,
    )))))))))))

-- the frames that are read are frames, each of a name of its own
pub frames_kept : (ports : List (List ℕ)) (table : Data) (frames : List FrameStart) → Ok frames ≡ frames_of ports table → AreNamed 256 (IsFrame (length ports)) (λ f. f.name) frames
frames_kept ports table frames h =
    after (needed Frames (list_in 0 256) table) (in_order (frame_of ports) []) frames h (λ ds is reads.
    let was = needed_was Frames (list_in 0 256) table ds is in
    named_keep (frame_of ports) 256 (IsFrame (length ports)) (λ f. f.name) (frame_kept ports) ds frames (list_within 0 256 was.0 ds was.1).1 reads)

-- ---- waveforms

mapped : {A B : Type 0} (f : A → B) (o : Option A) (b : B) → option_map f o ≡ Some b → (a : A) × (o ≡ Some a) × (f a ≡ b)
mapped f None b h = absurd (none-some b h)
mapped f (Some a) b h = (a, refl, same_Some (f a) b h)

amplitude_kept : (place : ℕ) (ds : List Data) (z : ℤ) → amplitude_at place ds ≡ Some z → (negsuc 32767 ≤ℤ z) × (z ≤ℤ pos 32767)
amplitude_kept place ds z h =
    option_and_then_some (signed_in (negsuc 32767) (pos 32767)) (slice_get ds place) z h (λ d is reads. signed_within (negsuc 32767) (pos 32767) d z reads)

sample_kept : (number : ℕ) (before : List Sample) (d : Data) (s : Sample) → Ok s ≡ sample_of number before d → IsSample s
sample_kept number before d s h =
    option_and_then_some (λ ds. option_and_then (λ i. option_map (λ q. record { i = i; q = q }) (amplitude_at 1 ds)) (amplitude_at 0 ds)) (list_in 2 2 d) s
    (was_some (sample_in d) (FieldWrong Waveforms (Entry number)) s h)
    (λ ds is reads. option_and_then_some (λ i. option_map (λ q. record { i = i; q = q }) (amplitude_at 1 ds)) (amplitude_at 0 ds) s reads
    (λ i first pairs.
    let pair : (q : ℤ) × (amplitude_at 1 ds ≡ Some q) × ◌≡◌ {A = Sample} (record { i = i; q = q }) s = mapped (λ q. record { i = i; q = q }) (amplitude_at 1 ds) s pairs in
    let a = amplitude_kept 0 ds i first in
    let b = amplitude_kept 1 ds pair.0 pair.1 in
    subst IsSample pair.2 (record { i_least = a.0; i_most = a.1; q_least = b.0; q_most = b.1 })))

-- the samples of a waveform are from 1 to 4096
samples_kept : (number : ℕ) (d : Data) (samples : List Sample) → Ok samples ≡ samples_of number d → IsIn 1 4096 (length samples) × All IsSample samples
samples_kept number d samples h =
    after (formed Waveforms number (list_in 1 4096 d)) (in_order (sample_of number) []) samples h (λ ds is reads.
    let few = list_within 1 4096 d ds (was_some (list_in 1 4096 d) (FieldWrong Waveforms (Entry number)) ds is) in
    let count = in_order_count (sample_of number) [] ds samples reads in (
      (omega (arith, few.0, count), omega (arith, few.1, count)),
      in_order_keeps (sample_of number) (All IsSample) (λ before e s so_far one. All-push IsSample before s so_far (sample_kept number before e s one)) [] ds samples (All-nil IsSample) reads,
    ))

-- a waveform that is read is one, and has a name of its own
wave_kept : (before : List Wave) (entry : Data) (w : Wave) → Ok w ≡ wave_of before entry → IsWave w × (is_among w.name (map (λ x. x.name) before) ≡ false)
wave_kept before entry w h =
    let n = length before in
    after (at_key Waveforms n (codes "name") entry) _ w h (λ name_there is_a h_a.
    after (at_key Waveforms n (codes "samples") entry) _ w h_a (λ samples_there is_b h_b.
    after (formed Waveforms n (name_in name_there)) _ w h_b (λ name named h_c.
    after (samples_of n samples_there) _ w h_c (λ samples sampled h_d.
    after (refuse_if (is_among name (map (λ x. x.name) before)) (NameDoubled Waveforms n)) _ w h_d (λ u fresh h_e.
    let same : w ≡ record { name = name; samples = samples } = ok_is w _ h_e in
    let kept = samples_kept n samples_there samples sampled in
    subst (λ x. IsWave x × (is_among x.name (map (λ y. y.name) before) ≡ false)) (sym same)
    (record { name = name_kept Waveforms n name_there name named; some = kept.0; samples = kept.1 }, was_false (is_among name (map (λ x. x.name) before)) (NameDoubled Waveforms n) u fresh))))))

-- the waveforms that are read are waveforms, each of a name of its own
pub waveforms_kept : (table : Data) (waves : List Wave) → Ok waves ≡ waveforms_of table → AreNamed 256 IsWave (λ w. w.name) waves
waveforms_kept table waves h =
    after (needed Waveforms (list_in 0 256) table) (in_order wave_of []) waves h (λ ds is reads.
    let was = needed_was Waveforms (list_in 0 256) table ds is in
    named_keep wave_of 256 IsWave (λ w. w.name) wave_kept ds waves (list_within 0 256 was.0 ds was.1).1 reads)

-- ---- families

sole : (xs : List ℕ) (x : ℕ) → length xs ≡ 1 → slice_index xs 0 ≡ x → xs ≡ x ∷ []
sole [] x one at = absurd (omega (arith, one))
sole (y ∷ []) x one at = ap (λ z. z ∷ []) at
sole (y ∷ z ∷ zs) x one at = absurd (omega (arith, one))

alone : (qubit : ℕ) → Port → Bool
alone qubit p = (length p.qubits == 1) && (slice_index p.qubits 0 == qubit)

alone_by_port : (ports : List Port) (frames : List FrameStart) (qubit frame : ℕ) (start : FrameStart) → slice_get frames frame ≡ Some start → (o : Option Port) → slice_get ports start.port ≡ o
    → option_map_or (alone qubit) o false ≡ true → ReachesAlone ports frames qubit frame
unfolding alone
alone_by_port ports frames qubit frame start there None is h = absurd (true≢false (sym h))
alone_by_port ports frames qubit frame start there (Some port) is h =
    let both = and_parts (length port.qubits == 1) (slice_index port.qubits 0 == qubit) h in
    record {
      start = start;
      port = port;
      frame_there = there;
      port_there = is;
      alone = sole port.qubits qubit (eqb-true (length port.qubits) 1 both.0) (eqb-true (slice_index port.qubits 0) qubit both.1);
    }

alone_by_frame : (ports : List Port) (frames : List FrameStart) (qubit frame : ℕ) (o : Option FrameStart) → slice_get frames frame ≡ o
    → option_map_or (λ f. option_map_or (alone qubit) (slice_get ports f.port) false) o false ≡ true → ReachesAlone ports frames qubit frame
alone_by_frame ports frames qubit frame None is h = absurd (true≢false (sym h))
alone_by_frame ports frames qubit frame (Some start) is h = alone_by_port ports frames qubit frame start is (slice_get ports start.port) refl h

alone_kept : (ports : List Port) (frames : List FrameStart) (qubit frame : ℕ) → reaches_alone ports frames qubit frame ≡ true → ReachesAlone ports frames qubit frame
unfolding alone
alone_kept ports frames qubit frame h = alone_by_frame ports frames qubit frame (slice_get frames frame) refl h

-- each frame so far stands on a port that reaches its qubit alone
abbrev ReachSoFar : List Port → List FrameStart → List ℕ → Type 0
ReachSoFar ports frames members = (qubit frame : ℕ) → slice_get members qubit ≡ Some frame → ReachesAlone ports frames qubit frame

pub reach_grow : (ports : List Port) (frames : List FrameStart) (before : List ℕ) (member : ℕ) → ReachSoFar ports frames before → reaches_alone ports frames (length before) member ≡ true → ReachSoFar ports frames (before ++ member ∷ [])
reach_grow ports frames before member so_far fits qubit frame at =
    let n = length before in
    let reads = get_or_from_slice_get (before ++ member ∷ []) qubit frame frame at in
    let within = slice_get_within (before ++ member ∷ []) qubit frame at in
    let longer = length_push before member in
    ⊎_elim
    (λ (inside : qubit < n). so_far qubit frame (slice_get-get_or before qubit frame inside ∙ ap Some (sym (get_or_append_left before (member ∷ []) frame qubit inside) ∙ reads)))
    (λ (past : n ≤ qubit).
    let last : n ≡ qubit = omega (arith, within, longer, past) in
    let same : member ≡ frame = sym (get_or_push before member frame qubit last) ∙ reads in
    subst (λ f. ReachesAlone ports frames qubit f) same (subst (λ q. ReachesAlone ports frames q member) last (alone_kept ports frames n member fits)))
    (cases_lt qubit n)

pub reach_none : (ports : List Port) (frames : List FrameStart) → ReachSoFar ports frames []
reach_none ports frames qubit frame at = absurd (none-some frame at)

members_step : (ports : List Port) (frames : List FrameStart) (family : List ℕ) (before : List ℕ) (text : List ℕ) (member : ℕ) → ReachSoFar ports frames before → Ok member ≡ member_of ports frames family before text
    → ReachSoFar ports frames (before ++ member ∷ [])
members_step ports frames family before text member so_far h =
    let fits = reaches_alone ports frames (length before) in
    let found = place_of text (map (λ f. f.name) frames) in
    reach_grow ports frames before member so_far (passed fits found member (was_some (passing fits found) (FamilyWrong family) member h)).1

-- a family that is read is one
family_kept : (qubits : ℕ) (ports : List Port) (frames : List FrameStart) (before : List MachineFamily) (entry : List ℕ × Data) (f : MachineFamily) → Ok f ≡ family_of qubits ports frames before entry → IsFamily qubits ports frames f
family_kept qubits ports frames before entry f h =
    let family = entry.0 in
    after (refuse_if (not (is_short_name family)) (FieldWrong Families (Family family))) _ f h (λ u named h_a.
    after (texts_of family entry.1) _ f h_a (λ texts is_b h_b.
    after (refuse_if (not (length texts == qubits)) (FamilyWrong family)) _ f h_b (λ v long h_c.
    after (members_of ports frames family texts) _ f h_c (λ members reads h_d.
    let same : f ≡ record { name = family; frames = members } = ok_is f _ h_d in
    let short = not-false (is_short_name family) (was_false (not (is_short_name family)) (FieldWrong Families (Family family)) u named) in
    let many = eqb-true (length texts) qubits (not-false (length texts == qubits) (was_false (not (length texts == qubits)) (FamilyWrong family) v long)) in
    let count = in_order_count (member_of ports frames family) [] texts members reads in
    subst (IsFamily qubits ports frames) (sym same)
    (record {
      name = short;
      each = omega (arith, many, count);
      reach = in_order_keeps (member_of ports frames family) (ReachSoFar ports frames) (members_step ports frames family) [] texts members (reach_none ports frames) reads;
    })))))

-- the families that are read are families
pub families_kept : (qubits : ℕ) (ports : List Port) (frames : List FrameStart) (table : Data) (families : List MachineFamily) → Ok families ≡ families_of qubits ports frames table → All (IsFamily qubits ports frames) families
families_kept qubits ports frames table families h =
    let Form = IsFamily qubits ports frames in
    after (optional Families [] entries_in table) (in_order (family_of qubits ports frames) []) families h (λ entries is reads.
    in_order_keeps (family_of qubits ports frames) (All Form) (λ before e f so_far one. All-push Form before f so_far (family_kept qubits ports frames before e f one)) [] entries families (All-nil Form) reads)
