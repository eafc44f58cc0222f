-- The built-in machine keeps all forms and limits.
use Rattle.std.proofs.Common.{◌≡◌, ◌≢◌, ℕ, ◌<◌, ◌≤◌, pos, List, [], ◌∷◌, Bool, true, false, length, refl, ap, sym, ◌∙◌, arith, ⊎_elim, true≢false}
use Rattle.std.specs.Prelude.{All, codes, not, ◌&&◌, ◌||◌, nat_eq, nat_lt, nat_le, get_or}
use Rattle.std.specs.Char.{is_ascii_alphabetic}
use Rattle.std.specs.Str.{IsAscii, chars}
use Rattle.std.specs.List.{list_all}
use Rattle.std.specs.List.Sorted.{IsStrictlySortedBy}
use lib.Signed.{le_z_yes}
use Rattle.std.proofs.lemmas.Bool.{and_parts, and_from, cases_lt, leb-true, ltb-true}
use Rattle.std.proofs.lemmas.List.{length-replicate, get_or_past}
use Rattle.std.proofs.lemmas.List.Elements.{All-nil, All-cons, All-replicate}
use Rattle.std.proofs.lemmas.List.Sums.{AllPass-from_list_all}
use Rattle.std.proofs.lemmas.Str.{chars-IsAscii}
use Rattle.qs_values.specs.Names.{begins_word, continues_word, is_word, is_reserved, is_name}
use Rattle.qs_machine.specs.declared.machine.CtlKind.{CtlKind}
use Rattle.qs_machine.specs.declared.machine.CtlKind.TheVariants.{Hub, Drive, Acquire}
use Rattle.qs_machine.specs.declared.machine.Sample.{Sample}
use Rattle.qs_machine.specs.BuiltIn.{port_of, ports, frame_on, frames, flat, waveforms, family_of, families, calibrations, controllers, built_in}
use Rattle.qs_machine.specs.Limits.{AreNamed, IsPort, IsFrame, IsSample, IsWave, IsFamily, HasHub, AreInByteOrder, IsMachine}
use Rattle.qs_machine.specs.Table.{reaches_alone}
use Rattle.qs_machine.specs.Values.{is_short_name}
use Rattle.qs_machine.proofs.KeptLemmas.{named_none, named_grow}
use Rattle.qs_machine.proofs.PartsKept.{reach_none, reach_grow}

-- ---- names of ASCII letters and digits

-- whether a character is an ASCII letter or a digit
abbrev plain : ℕ → Bool
plain c = is_ascii_alphabetic c || (nat_le 48 c && nat_le c 57)

letter_begins : (line letter other : Bool) → letter ≡ true → (line || letter || other) ≡ true
letter_begins true letter other h = refl
letter_begins false true other h = refl
letter_begins false false other h = absurd (true≢false (sym h))

plain_goes_on : (line letter other digit : Bool) → (letter || digit) ≡ true → ((line || letter || other) || digit) ≡ true
plain_goes_on true letter other digit h = refl
plain_goes_on false true other digit h = refl
plain_goes_on false false true digit h = refl
plain_goes_on false false false digit h = h

all_go_on : (cs : List ℕ) → list_all plain cs ≡ true → list_all continues_word cs ≡ true
all_go_on [] h = refl
all_go_on (c ∷ cs) h =
    let parts = and_parts (plain c) (list_all plain cs) h in
    and_from (continues_word c) (list_all continues_word cs)
    (plain_goes_on (nat_eq c 95) (is_ascii_alphabetic c) _ (nat_le 48 c && nat_le c 57) parts.0) (all_go_on cs parts.1)

abbrev is_low : ℕ → Bool
is_low b = nat_lt b 128

all_ascii : (bs : List ℕ) → list_all is_low bs ≡ true → IsAscii bs
all_ascii bs h i =
    ⊎_elim
    (λ (inside : i < length bs). ltb-true (get_or bs i 0) 128 (AllPass-from_list_all is_low bs h i 0 inside))
    (λ (past : length bs ≤ i). let none = get_or_past bs i 0 past in omega (arith, none))
    (cases_lt i (length bs))

-- whether a text is a word of ASCII letters and digits, isn't reserved and isn't too long
abbrev plain_name : List ℕ → Bool
plain_name [] = false
plain_name (c ∷ cs) = (is_ascii_alphabetic c && list_all plain cs) && (not (is_reserved (c ∷ cs)) && nat_le (length (c ∷ cs)) 64)

named_plainly : (text : List ℕ) → list_all is_low text ≡ true → plain_name text ≡ true → is_short_name text ≡ true
named_plainly [] low h = absurd (true≢false (sym h))
named_plainly (c ∷ cs) low h =
    let parts = and_parts (is_ascii_alphabetic c && list_all plain cs) (not (is_reserved (c ∷ cs)) && nat_le (length (c ∷ cs)) 64) h in
    let word = and_parts (is_ascii_alphabetic c) (list_all plain cs) parts.0 in
    let others = and_parts (not (is_reserved (c ∷ cs))) (nat_le (length (c ∷ cs)) 64) parts.1 in
    let begins : begins_word c ≡ true = letter_begins (nat_eq c 95) (is_ascii_alphabetic c) _ word.0 in
    let spells : is_word (chars (c ∷ cs)) ≡ true = ap is_word (chars-IsAscii (c ∷ cs) (all_ascii (c ∷ cs) low)) ∙ and_from (begins_word c) (list_all continues_word cs) begins (all_go_on cs word.1) in
    and_from (nat_le (length (c ∷ cs)) 64) (is_name (c ∷ cs)) others.1 (and_from (is_word (chars (c ∷ cs))) (not (is_reserved (c ∷ cs))) spells others.0)

-- ---- the parts

is_other : CtlKind → Bool
is_other Hub = false
is_other Drive = true
is_other Acquire = true

no_hub : (kind : CtlKind) → is_other kind ≡ true → kind ≢ Hub
unfolding is_other
no_hub kind other same = true≢false (sym other ∙ ap is_other same)

hub_kept : HasHub controllers
unfolding is_other
hub_kept =
    let Other : CtlKind → Type 0 = λ kind. kind ≢ Hub in
    let last = All-cons Other Acquire [] (no_hub Acquire refl) (All-nil Other) in
    let third = All-cons Other Drive (Acquire ∷ []) (no_hub Drive refl) last in
    let second = All-cons Other Drive (Drive ∷ Acquire ∷ []) (no_hub Drive refl) third in
    (refl, All-cons Other Drive (Drive ∷ Drive ∷ Acquire ∷ []) (no_hub Drive refl) second)

port_kept : (name : List ℕ) (controller qubit : ℕ) → is_short_name name ≡ true → 1 ≤ controller → controller < 5 → qubit < 3 → IsPort 3 5 (port_of name controller qubit)
port_kept name controller qubit named owned below reached =
    record {
      name = named;
      owned = owned;
      controller = below;
      some = (omega arith, omega arith);
      reached = All-cons (λ q. q < 3) qubit [] reached (All-nil (λ q. q < 3));
      distinct = λ i j d lt within. absurd (omega (arith, lt, within));
    }

ports_kept : AreNamed 96 (IsPort 3 5) (λ p. p.name) ports
ports_kept =
    let Form = IsPort 3 5 in
    let d0 = port_of (codes "d0") 1 0 in
    let d1 = port_of (codes "d1") 2 1 in
    let d2 = port_of (codes "d2") 3 2 in
    let a0 = port_of (codes "a0") 4 0 in
    let a1 = port_of (codes "a1") 4 1 in
    let a2 = port_of (codes "a2") 4 2 in
    let none = named_none 96 Form (λ p. p.name) in
    let first = named_grow 96 96 Form (λ p. p.name) [] d0 none (omega arith) (port_kept (codes "d0") 1 0 (named_plainly (codes "d0") refl refl) (omega arith) (omega arith) (omega arith)) refl in
    let second = named_grow 96 96 Form (λ p. p.name) (d0 ∷ []) d1 first (omega arith) (port_kept (codes "d1") 2 1 (named_plainly (codes "d1") refl refl) (omega arith) (omega arith) (omega arith)) refl in
    let third = named_grow 96 96 Form (λ p. p.name) (d0 ∷ d1 ∷ []) d2 second (omega arith) (port_kept (codes "d2") 3 2 (named_plainly (codes "d2") refl refl) (omega arith) (omega arith) (omega arith)) refl in
    let fourth = named_grow 96 96 Form (λ p. p.name) (d0 ∷ d1 ∷ d2 ∷ []) a0 third (omega arith) (port_kept (codes "a0") 4 0 (named_plainly (codes "a0") refl refl) (omega arith) (omega arith) (omega arith)) refl in
    let fifth = named_grow 96 96 Form (λ p. p.name) (d0 ∷ d1 ∷ d2 ∷ a0 ∷ []) a1 fourth (omega arith) (port_kept (codes "a1") 4 1 (named_plainly (codes "a1") refl refl) (omega arith) (omega arith) (omega arith)) refl in
    named_grow 96 96 Form (λ p. p.name) (d0 ∷ d1 ∷ d2 ∷ a0 ∷ a1 ∷ []) a2 fifth (omega arith) (port_kept (codes "a2") 4 2 (named_plainly (codes "a2") refl refl) (omega arith) (omega arith) (omega arith)) refl

frame_kept : (name : List ℕ) (port : ℕ) → is_short_name name ≡ true → port < 6 → IsFrame 6 (frame_on name port)
frame_kept name port named there = record { name = named; port = there; phase = omega arith; hz = omega arith }

frames_kept : AreNamed 256 (IsFrame 6) (λ f. f.name) frames
frames_kept =
    let Form = IsFrame 6 in
    let d0 = frame_on (codes "d0f") 0 in
    let d1 = frame_on (codes "d1f") 1 in
    let d2 = frame_on (codes "d2f") 2 in
    let a0 = frame_on (codes "a0f") 3 in
    let a1 = frame_on (codes "a1f") 4 in
    let a2 = frame_on (codes "a2f") 5 in
    let none = named_none 256 Form (λ f. f.name) in
    let first = named_grow 256 256 Form (λ f. f.name) [] d0 none (omega arith) (frame_kept (codes "d0f") 0 (named_plainly (codes "d0f") refl refl) (omega arith)) refl in
    let second = named_grow 256 256 Form (λ f. f.name) (d0 ∷ []) d1 first (omega arith) (frame_kept (codes "d1f") 1 (named_plainly (codes "d1f") refl refl) (omega arith)) refl in
    let third = named_grow 256 256 Form (λ f. f.name) (d0 ∷ d1 ∷ []) d2 second (omega arith) (frame_kept (codes "d2f") 2 (named_plainly (codes "d2f") refl refl) (omega arith)) refl in
    let fourth = named_grow 256 256 Form (λ f. f.name) (d0 ∷ d1 ∷ d2 ∷ []) a0 third (omega arith) (frame_kept (codes "a0f") 3 (named_plainly (codes "a0f") refl refl) (omega arith)) refl in
    let fifth = named_grow 256 256 Form (λ f. f.name) (d0 ∷ d1 ∷ d2 ∷ a0 ∷ []) a1 fourth (omega arith) (frame_kept (codes "a1f") 4 (named_plainly (codes "a1f") refl refl) (omega arith)) refl in
    named_grow 256 256 Form (λ f. f.name) (d0 ∷ d1 ∷ d2 ∷ a0 ∷ a1 ∷ []) a2 fifth (omega arith) (frame_kept (codes "a2f") 5 (named_plainly (codes "a2f") refl refl) (omega arith)) refl

wave_kept : (name : List ℕ) (count : ℕ) → is_short_name name ≡ true → 1 ≤ count → count ≤ 4096 → IsWave (flat name count)
wave_kept name count named some few =
    let level : Sample = record { i = pos 1000; q = pos 0 } in
    let long = length-replicate count level in
    record {
      name = named;
      some = (omega (arith, long, some), omega (arith, long, few));
      samples = All-replicate IsSample count level (record { i_least = le_z_yes tt; i_most = le_z_yes tt; q_least = le_z_yes tt; q_most = le_z_yes tt });
    }

waveforms_kept : AreNamed 256 IsWave (λ w. w.name) waveforms
waveforms_kept =
    let w4 = flat (codes "w4") 4 in
    let w8 = flat (codes "w8") 8 in
    let r20 = flat (codes "r20") 20 in
    let none = named_none 256 IsWave (λ w. w.name) in
    let first = named_grow 256 256 IsWave (λ w. w.name) [] w4 none (omega arith) (wave_kept (codes "w4") 4 (named_plainly (codes "w4") refl refl) (omega arith) (omega arith)) refl in
    let second = named_grow 256 256 IsWave (λ w. w.name) (w4 ∷ []) w8 first (omega arith) (wave_kept (codes "w8") 8 (named_plainly (codes "w8") refl refl) (omega arith) (omega arith)) refl in
    named_grow 256 256 IsWave (λ w. w.name) (w4 ∷ w8 ∷ []) r20 second (omega arith) (wave_kept (codes "r20") 20 (named_plainly (codes "r20") refl refl) (omega arith) (omega arith)) refl

family_kept : (name : List ℕ) (f0 f1 f2 : ℕ) → is_short_name name ≡ true → reaches_alone ports frames 0 f0 ≡ true → reaches_alone ports frames 1 f1 ≡ true → reaches_alone ports frames 2 f2 ≡ true
    → IsFamily 3 ports frames (family_of name (f0 ∷ f1 ∷ f2 ∷ []))
family_kept name f0 f1 f2 named fits0 fits1 fits2 =
    let one = reach_grow ports frames [] f0 (reach_none ports frames) fits0 in
    let two = reach_grow ports frames (f0 ∷ []) f1 one fits1 in
    record { name = named; each = refl; reach = reach_grow ports frames (f0 ∷ f1 ∷ []) f2 two fits2 }

families_kept : All (IsFamily 3 ports frames) families
families_kept =
    let Form = IsFamily 3 ports frames in
    let drive = family_of (codes "drive") (0 ∷ 1 ∷ 2 ∷ []) in
    All-cons Form (family_of (codes "acquire") (3 ∷ 4 ∷ 5 ∷ [])) (drive ∷ []) (family_kept (codes "acquire") 3 4 5 (named_plainly (codes "acquire") refl refl) refl refl refl)
    (All-cons Form drive [] (family_kept (codes "drive") 0 1 2 (named_plainly (codes "drive") refl refl) refl refl refl) (All-nil Form))

names_in_order : AreInByteOrder (codes "acquire" ∷ codes "drive" ∷ [])
unfolding IsStrictlySortedBy
names_in_order = ((refl, tt), (tt, tt))

cal_kept : length calibrations ≤ 1048576
unfolding calibrations
cal_kept = leb-true (length calibrations) 1048576 refl

pub built_in_kept : IsMachine built_in
built_in_kept =
    record {
      version = refl;
      dt = (omega arith, omega arith);
      qubits = (omega arith, omega arith);
      hub = hub_kept;
      controllers = omega arith;
      ports = ports_kept;
      frames = frames_kept;
      waveforms = waveforms_kept;
      families = families_kept;
      family_names = names_in_order;
      gap = omega arith;
      budget = (omega arith, omega arith);
      mail = (omega arith, omega arith);
      cal = cal_kept;
    }
