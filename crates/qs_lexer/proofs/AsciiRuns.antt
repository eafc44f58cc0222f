-- Runs of ASCII with which the reader's state stays as it is, and the piece that ends after one.
use Rattle.std.proofs.Common.{◌≡◌, ◌≢◌, ℕ, zero, suc, ◌-◌, ◌<◌, ◌≤◌, List, [], ◌∷◌, ◌++◌, Bool, true, false, ◌&&◌, not, if◌then◌else◌, nat_eq, Option, Some, None, length, IfSome, inl, inr, refl, sym, ap, ◌∙◌, subst, arith, append_assoc, length-append}
use Rattle.std.specs.Char.{is_ascii_digit}
use Rattle.std.specs.List.{list_all, slice_get, slice_index}
use Rattle.std.proofs.lemmas.List.Folds.{list_all-append}
use Rattle.std.specs.Str.{IsAscii, chars}
use Rattle.std.proofs.lemmas.Bool.Decides.{nat_tests}
use Rattle.std.proofs.lemmas.Str.{chars-nil, chars-append, chars-IsAscii, IsUtf8-from_ascii}
use Rattle.qs_lexer.specs.declared.shape.Shape.{Shape}
use Rattle.qs_lexer.specs.declared.shape.Shape.TheVariants.{Word as WordShape}
use Rattle.qs_lexer.specs.declared.state.State.{State}
use Rattle.qs_lexer.specs.declared.state.Base.TheVariants.{Hexadecimal}
use Rattle.qs_lexer.specs.declared.state.State.TheVariants.{Based, Dollar, Line, Nothing, Physical, Slash, Start, Word}
use Rattle.qs_lexer.specs.Forms.{is_in_line}
use Rattle.qs_lexer.specs.steps.Runs.{AllStay, BeginsOnlyWord, IsAsciiPiece, IsPast, IsRead, MayEnd, ReadsOn, ReadsTo, Stops, StaysWith, is_ascii_byte}
use Rattle.qs_lexer.specs.steps.Scan.{Found, found_at, later, longest_from, run, shape_before, step}
use Rattle.qs_lexer.proofs.ReaderLemmas.{found_from_nothing}
use Rattle.qs_lexer.proofs.Runs.{run-append}

-- ---- runs

pub past_nothing : (s : State) (bytes : List ℕ) → IsPast s bytes bytes
past_nothing s bytes = record { front = []; whole = refl; stay = tt }

pub past_one : (s : State) (b : ℕ) (bytes after rest : List ℕ) → bytes ≡ b ∷ after → StaysWith s b → IsPast s after rest → IsPast s bytes rest
past_one s b bytes after rest first stays past = record {
  front = b ∷ past.front;
  whole = first ∙ ap (λ (t : List ℕ). b ∷ t) past.whole;
  stay = (stays, past.stay);
}

both_stay : (s : State) (t u : List ℕ) → AllStay s t → AllStay s u → AllStay s (t ++ u)
both_stay s [] u stay more = more
both_stay s (b ∷ t) u stay more = (stay.0, both_stay s t u stay.1 more)

-- a run after a run
pub past_more : (s : State) (bytes middle rest : List ℕ) → IsPast s bytes middle → IsPast s middle rest → IsPast s bytes rest
past_more s bytes middle rest past more = record {
  front = past.front ++ more.front;
  whole = past.whole ∙ ap (λ t. past.front ++ t) more.whole ∙ sym (append_assoc past.front more.front rest);
  stay = both_stay s past.front more.front past.stay more.stay;
}

-- the state after a run
stays_all : (s : State) (t : List ℕ) → AllStay s t → run s t ≡ s
stays_all s [] stay = refl
stays_all s (b ∷ bytes) stay = ap (λ n. run n bytes) stay.0.stays ∙ stays_all s bytes stay.1

-- ---- bytes of ASCII

both_true : (a b : Bool) → a ≡ true → b ≡ true → (a && b) ≡ true
both_true a b p q = rw (p, q) refl

both_parts : (a b : Bool) → (a && b) ≡ true → (a ≡ true) × (b ≡ true)
both_parts true b e = (refl, e)
both_parts false b e = absurd (cc)

small_passes : (b : ℕ) → b < 128 → is_ascii_byte b ≡ true
small_passes b small = grind (arith, nat_tests)

passes_small : (b : ℕ) → is_ascii_byte b ≡ true → b < 128
passes_small b passes = grind (arith, nat_tests)

in_line_passes : (b : ℕ) → b ≢ 10 → is_in_line b ≡ true
in_line_passes b h = grind (arith, nat_tests)

all_ascii : (s : State) (t : List ℕ) → AllStay s t → list_all is_ascii_byte t ≡ true
all_ascii s [] stay = refl
all_ascii s (b ∷ bytes) stay = both_true (is_ascii_byte b) (list_all is_ascii_byte bytes) (small_passes b stay.0.ascii) (all_ascii s bytes stay.1)

all_in_line : (s : State) (t : List ℕ) → AllStay s t → list_all is_in_line t ≡ true
all_in_line s [] stay = refl
all_in_line s (b ∷ bytes) stay = both_true (is_in_line b) (list_all is_in_line bytes) (in_line_passes b stay.0.in_line) (all_in_line s bytes stay.1)

pub ascii_is : (t : List ℕ) → list_all is_ascii_byte t ≡ true → (i : ℕ) → slice_index t i < 128
ascii_is [] all i = omega arith
ascii_is (b ∷ bytes) all zero = passes_small b (both_parts (is_ascii_byte b) (list_all is_ascii_byte bytes) all).0
ascii_is (b ∷ bytes) all (suc i) = ascii_is bytes (both_parts (is_ascii_byte b) (list_all is_ascii_byte bytes) all).1 i

pub one_ascii : (b : ℕ) → b < 128 → IsAscii (b ∷ [])
one_ascii b small = ascii_is (b ∷ []) (both_true (is_ascii_byte b) true (small_passes b small) refl)

-- the characters of a text that begins with ASCII
pub chars_past_ascii : (t rest : List ℕ) → IsAscii t → chars (t ++ rest) ≡ t ++ chars rest
chars_past_ascii t rest ascii = chars-append t rest (IsUtf8-from_ascii t ascii) ∙ ap (λ cs. cs ++ chars rest) (chars-IsAscii t ascii)

-- ---- what is read of a piece

pub read_nothing : (first : Bool) (bytes : List ℕ) → IsRead first bytes (Start first) true bytes
read_nothing first bytes = record { front = []; whole = refl; ascii = refl; at = refl; line = λ e. refl }

pub read_one : (first : Bool) (bytes : List ℕ) (s onto : State) (in_line : Bool) (rest : List ℕ) (b : ℕ) (after later_rest : List ℕ) → IsRead first bytes s in_line rest → rest ≡ b ∷ after → b < 128 → onto ≡ step s b → IsPast onto after later_rest
    → IsRead first bytes onto (in_line && not (nat_eq b 10)) later_rest
read_one first bytes s onto in_line rest b after later_rest read is small stepped past = record {
  front = read.front ++ b ∷ past.front;
  whole = read.whole ∙ ap (λ t. read.front ++ t) (is ∙ ap (λ (t : List ℕ). b ∷ t) past.whole) ∙ sym (append_assoc read.front (b ∷ past.front) later_rest);
  ascii = list_all-append is_ascii_byte read.front (b ∷ past.front)
      ∙ both_true (list_all is_ascii_byte read.front) (list_all is_ascii_byte (b ∷ past.front)) read.ascii
      (both_true (is_ascii_byte b) (list_all is_ascii_byte past.front) (small_passes b small) (all_ascii onto past.front past.stay));
  at = run-append (Start first) read.front (b ∷ past.front) ∙ ap (λ n. run n (b ∷ past.front)) read.at ∙ ap (λ n. run n past.front) (sym stepped) ∙ stays_all onto past.front past.stay;
  line = λ e.
      let parts = both_parts in_line (not (nat_eq b 10)) e in
      list_all-append is_in_line read.front (b ∷ past.front)
      ∙ both_true (list_all is_in_line read.front) (list_all is_in_line (b ∷ past.front)) (read.line parts.0)
      (both_true (is_in_line b) (list_all is_in_line past.front) parts.1 (all_in_line onto past.front past.stay));
}

-- a run, and what is read then
read_run : (first : Bool) (bytes : List ℕ) (s : State) (in_line : Bool) (rest run_end : List ℕ) → IsRead first bytes s in_line rest → IsPast s rest run_end → IsRead first bytes s in_line run_end
read_run first bytes s in_line rest run_end read past = record {
  front = read.front ++ past.front;
  whole = read.whole ∙ ap (λ t. read.front ++ t) past.whole ∙ sym (append_assoc read.front past.front run_end);
  ascii = list_all-append is_ascii_byte read.front past.front
      ∙ both_true (list_all is_ascii_byte read.front) (list_all is_ascii_byte past.front) read.ascii (all_ascii s past.front past.stay);
  at = run-append (Start first) read.front past.front ∙ ap (λ n. run n past.front) read.at ∙ stays_all s past.front past.stay;
  line = λ e. list_all-append is_in_line read.front past.front
      ∙ both_true (list_all is_in_line read.front) (list_all is_in_line past.front) (read.line e) (all_in_line s past.front past.stay);
}

-- ---- where a piece ends

pub first_char_is : (b : ℕ) (rest after : List ℕ) → rest ≡ b ∷ after → b < 128 → chars rest ≡ b ∷ chars after
first_char_is b rest after is small = ap chars is ∙ chars_past_ascii (b ∷ []) after (one_ascii b small)

stopped : (s : State) (b : ℕ) (cs : List ℕ) → step s b ≡ Nothing → longest_from s (b ∷ cs) ≡ None
stopped s b cs stop =
    ap (λ (n : State). later (longest_from n cs) (found_at (shape_before n (slice_get cs 0)) cs)) stop
    ∙ ap (λ (f : Option Found). later f None) (found_from_nothing cs)

none_later : (s : State) (rest : List ℕ) → Stops s rest → longest_from s (chars rest) ≡ None
none_later s rest (inl none) = ap (λ t. longest_from s (chars t)) none ∙ ap (longest_from s) chars-nil
none_later s rest (inr stop) =
    ap (longest_from s) (first_char_is stop.0 rest stop.1 stop.2 stop.3) ∙ stopped s stop.0 (chars stop.1) stop.4

next_is : (s : State) (rest : List ℕ) → Stops s rest → slice_get (chars rest) 0 ≡ slice_get rest 0
next_is s rest (inl none) = ap (λ t. slice_get (chars t) 0) none ∙ ap (λ cs. slice_get cs 0) chars-nil ∙ ap (λ (cs : List ℕ). slice_get cs 0) (sym none)
next_is s rest (inr stop) = ap (λ cs. slice_get cs 0) (first_char_is stop.0 rest stop.1 stop.2 stop.3) ∙ ap (λ (cs : List ℕ). slice_get cs 0) (sym stop.2)

-- a piece that may end here, and with which nothing goes on
ends_here : (s : State) (c : ℕ) (cs rest : List ℕ) (shape : Shape) → longest_from (run s (c ∷ cs)) rest ≡ None → shape_before (run s (c ∷ cs)) (slice_get rest 0) ≡ Some shape → longest_from s (c ∷ cs ++ rest) ≡ Some (shape, rest)
ends_here s c [] rest shape none may = rw (none, may) refl
ends_here s c (d ∷ cs) rest shape none may = ap (λ (f : Option Found). later f (found_at (shape_before (step s c) (slice_get (d ∷ cs ++ rest) 0)) (d ∷ cs ++ rest))) (ends_here (step s c) d cs rest shape none may)

-- a piece that has begun
some_ends : (first : Bool) (front rest : List ℕ) (shape : Shape) → longest_from (run (Start first) front) rest ≡ None → shape_before (run (Start first) front) (slice_get rest 0) ≡ Some shape → longest_from (Start first) (front ++ rest) ≡ Some (shape, rest)
some_ends first [] rest shape none may = absurd (let bad : None ≡ Some shape = may in cc)
some_ends first (c ∷ cs) rest shape none may = ends_here (Start first) c cs rest shape none may

-- no piece ends where nothing was read of it
begun : (first : Bool) (s : State) (front : List ℕ) (onto : Option ℕ) (shape : Shape) → run (Start first) front ≡ s → shape_before s onto ≡ Some shape → 0 < length front
begun first s [] onto shape at may = absurd (let bad : None ≡ Some shape = ap (λ n. shape_before n onto) at ∙ may in cc)
begun first s (c ∷ cs) onto shape at may = omega arith

pub piece_ends : (first : Bool) (bytes : List ℕ) (s : State) (in_line : Bool) (rest : List ℕ) (shape : Shape) (size : ℕ) → IsRead first bytes s in_line rest → Stops s rest → MayEnd s bytes rest shape size → IsAsciiPiece first bytes shape size in_line
piece_ends first bytes s in_line rest shape size read stops may = record {
  piece = read.front;
  after = rest;
  whole = read.whole;
  count = omega (arith, may.1, ap length read.whole, length-append read.front rest);
  some = omega (arith, may.1, ap length read.whole, length-append read.front rest, begun first s read.front (slice_get rest 0) shape read.at may.0);
  ascii = ascii_is read.front read.ascii;
  found =
      let none = ap (λ n. longest_from n (chars rest)) read.at ∙ none_later s rest stops in
      let ends = ap (λ n. shape_before n (slice_get (chars rest) 0)) read.at ∙ ap (shape_before s) (next_is s rest stops) ∙ may.0 in
      ap (λ (t : List ℕ). longest_from (Start first) (chars t)) read.whole
      ∙ ap (longest_from (Start first)) (chars_past_ascii read.front rest (ascii_is read.front read.ascii))
      ∙ some_ends first read.front (chars rest) shape none ends;
  line = read.line;
}

pub pieces_end : (first : Bool) (bytes : List ℕ) (s : State) (in_line : Bool) (rest : List ℕ) → IsRead first bytes s in_line rest → Stops s rest
    → (r : Option (Shape × ℕ × Bool)) → IfSome r (λ p. MayEnd s bytes rest p.0 p.1 × (p.2 ≡ in_line)) → IfSome r (λ p. IsAsciiPiece first bytes p.0 p.1 p.2)
pieces_end first bytes s in_line rest read stops None may = tt
pieces_end first bytes s in_line rest read stops (Some p) may =
    subst (IsAsciiPiece first bytes p.0 p.1) (sym may.1) (piece_ends first bytes s in_line rest p.0 p.1 read stops may.0)

pub ended : (s : State) (rest : List ℕ) → length rest ≡ 0 → Stops s rest
ended s [] none = inl refl
ended s (b ∷ rest) none = absurd (omega arith)

pub begun_length : (first : Bool) (bytes : List ℕ) (s : State) (in_line : Bool) (rest : List ℕ) → IsRead first bytes s in_line rest → length rest ≤ length bytes
begun_length first bytes s in_line rest read = omega (arith, ap length read.whole, length-append read.front rest)

-- ---- a run and one more byte

no_longer : (bytes : List ℕ) (s : State) (rest : List ℕ) → IsPast s bytes rest → length rest ≤ length bytes
no_longer bytes s rest past = omega (arith, ap length past.whole, length-append past.front rest)

pub reads_more : (first : Bool) (bytes : List ℕ) (s onto : State) (in_line line : Bool) (rest after : List ℕ) → IsRead first bytes s in_line rest → ReadsOn s rest onto after line → ¬ (onto ≡ Nothing)
    → IsRead first bytes onto (in_line && line) after × (length after < length rest)
reads_more first bytes s onto in_line line rest after read reads on =
    elim reads.then as (λ _. IsRead first bytes onto (in_line && line) after × (length after < length rest)) [
      | inl stops ↦ absurd (on stops.0)
      | inr goes ↦ let here = read_run first bytes s in_line rest reads.run_end read reads.past in (
        subst (λ l. IsRead first bytes onto (in_line && l) after) (sym goes.5) (read_one first bytes s onto in_line reads.run_end goes.0 after after here goes.1 goes.2 goes.3 (past_nothing onto after)),
        omega (arith, ap length goes.1, no_longer rest s reads.run_end reads.past),
      )
    ]

based_not_nothing : (s : State) (ended : Bool) → s ≡ Based Hexadecimal ended → ¬ (s ≡ Nothing)
based_not_nothing s ended is e = absurd (let bad : Based Hexadecimal ended ≡ Nothing = sym is ∙ e in cc)

-- hexadecimal digits, or `_` between them
pub based_reads : (first : Bool) (bytes : List ℕ) (ended onto_ended : Bool) (onto : State) (in_line line : Bool) (rest after : List ℕ) → IsRead first bytes (Based Hexadecimal ended) in_line rest → ReadsOn (Based Hexadecimal ended) rest onto after line → onto ≡ Based Hexadecimal onto_ended
    → IsRead first bytes (Based Hexadecimal onto_ended) (in_line && line) after
based_reads first bytes ended onto_ended onto in_line line rest after read reads is =
    subst (λ s. IsRead first bytes s (in_line && line) after) is
    (reads_more first bytes (Based Hexadecimal ended) onto in_line line rest after read reads (based_not_nothing onto onto_ended is)).0

-- nothing goes on with a piece
pub reads_end : (first : Bool) (bytes : List ℕ) (s onto : State) (in_line line : Bool) (rest after : List ℕ) → IsRead first bytes s in_line rest → ReadsOn s rest onto after line → onto ≡ Nothing
    → IsRead first bytes s in_line after × Stops s after
reads_end first bytes s onto in_line line rest after read reads ends =
    elim reads.then as (λ _. IsRead first bytes s in_line after × Stops s after) [
      | inl stops ↦ let here = read_run first bytes s in_line rest reads.run_end read reads.past in
          (subst (IsRead first bytes s in_line) (sym stops.1) here, subst (Stops s) (sym stops.1) stops.2)
      | inr goes ↦ absurd (goes.4 ends)
    ]

-- ---- what `read_on` answers

pub stops_at : (state : State) (bytes rest : List ℕ) → IsPast state bytes rest → Stops state rest → ReadsOn state bytes Nothing rest true
stops_at state bytes rest past stops = record { run_end = rest; past = past; then = inl (refl, refl, stops) }

pub goes_on : (state onto : State) (bytes rest after : List ℕ) (b : ℕ) → IsPast state bytes rest → rest ≡ b ∷ after → b < 128 → onto ≡ step state b → ¬ (onto ≡ Nothing) → ReadsOn state bytes onto after (not (nat_eq b 10))
goes_on state onto bytes rest after b past is small stepped on = record { run_end = rest; past = past; then = inr (b, is, small, stepped, on, refl) }

-- ---- a word

pub word_ends : (first : Bool) (bytes : List ℕ) (b : ℕ) (after rest : List ℕ) (onto : State) (line : Bool) → bytes ≡ b ∷ after → BeginsOnlyWord first b → ReadsOn Word after onto rest line → onto ≡ Nothing
    → IsAsciiPiece first bytes WordShape (length bytes - length rest) (not (nat_eq b 10))
word_ends first bytes b after rest onto line is begins reads nothing =
    let read = read_one first bytes (Start first) Word true bytes b after after (read_nothing first bytes) is begins.ascii (sym begins.begins) (past_nothing Word after) in
    let ends = reads_end first bytes Word onto (not (nat_eq b 10)) line after rest read reads nothing in
    piece_ends first bytes Word (not (nat_eq b 10)) rest WordShape (length bytes - length rest) ends.0 ends.1 (refl, refl)

-- ---- pieces that begin with two characters

pub slashes_read : (first : Bool) (bytes after rest : List ℕ) (a b : ℕ) → bytes ≡ a ∷ after → after ≡ b ∷ rest → a ≡ 47 → b ≡ 47 → IsRead first bytes Line true rest
slashes_read first bytes after rest a b is more one two =
    let begun = read_one first bytes (Start first) Slash true bytes a after after (read_nothing first bytes) is (omega (arith, one)) (ap (λ c. step (Start first) c) (sym one)) (past_nothing Slash after) in
    let both = read_one first bytes Slash Line (not (nat_eq a 10)) after b rest rest begun more (omega (arith, two)) (ap (λ c. step Slash c) (sym two)) (past_nothing Line rest) in
    subst (λ in_line. IsRead first bytes Line in_line rest) (ap (λ c. not (nat_eq c 10) && not (nat_eq b 10)) one ∙ ap (λ c. not (nat_eq c 10)) two) both

digit_small : (b : ℕ) → is_ascii_digit b ≡ true → b < 128
digit_small b h = grind (arith, nat_tests)

digit_in_line : (b : ℕ) → is_ascii_digit b ≡ true → not (nat_eq b 10) ≡ true
digit_in_line b h = grind (arith, nat_tests)

pub qubit_read : (first : Bool) (bytes after rest : List ℕ) (a b : ℕ) → bytes ≡ a ∷ after → after ≡ b ∷ rest → a ≡ 36 → is_ascii_digit b ≡ true → IsRead first bytes Physical true rest
qubit_read first bytes after rest a b is more one digit =
    let begun = read_one first bytes (Start first) Dollar true bytes a after after (read_nothing first bytes) is (omega (arith, one)) (dollar first ∙ ap (λ c. step (Start first) c) (sym one)) (past_nothing Dollar after) in
    let digits : Physical ≡ step Dollar b = ap (λ d. if d then Physical else Nothing) (sym digit) in
    let both = read_one first bytes Dollar Physical (not (nat_eq a 10)) after b rest rest begun more (digit_small b digit) digits (past_nothing Physical rest) in
    subst (λ in_line. IsRead first bytes Physical in_line rest) (ap (λ c. not (nat_eq c 10) && not (nat_eq b 10)) one ∙ digit_in_line b digit) both
  where
    dollar : (f : Bool) → Dollar ≡ step (Start f) 36
    dollar true = refl
    dollar false = refl

-- ---- from state to state

reads_to_next : (first : Bool) (bytes : List ℕ) (s onto : State) (in_line line : Bool) (rest after : List ℕ) → IsRead first bytes s in_line rest → ReadsOn s rest onto after line → ¬ (onto ≡ Nothing) → ReadsTo first bytes s in_line onto after (in_line && line)
reads_to_next first bytes s onto in_line line rest after read reads on = inr (on, (reads_more first bytes s onto in_line line rest after read reads on).0)

reads_to_end : (first : Bool) (bytes : List ℕ) (s onto : State) (in_line line next_in_line : Bool) (rest after : List ℕ) → IsRead first bytes s in_line rest → ReadsOn s rest onto after line → onto ≡ Nothing → ReadsTo first bytes s in_line onto after next_in_line
reads_to_end first bytes s onto in_line line next_in_line rest after read reads ends =
    let there = reads_end first bytes s onto in_line line rest after read reads ends in
    inl (ends, there.0, there.1)

pub reads_to : (first : Bool) (bytes : List ℕ) (s onto : State) (in_line line : Bool) (rest after : List ℕ) → IsRead first bytes s in_line rest → ReadsOn s rest onto after line → ReadsTo first bytes s in_line onto after (in_line && line)
reads_to first bytes s onto in_line line rest after read reads =
    elim reads.then as (λ _. ReadsTo first bytes s in_line onto after (in_line && line)) [
      | inl stops ↦ reads_to_end first bytes s onto in_line line (in_line && line) rest after read reads stops.0
      | inr goes ↦ reads_to_next first bytes s onto in_line line rest after read reads goes.4
    ]

pub to_end : (first : Bool) (bytes : List ℕ) (s onto : State) (in_line line : Bool) (rest : List ℕ) → ReadsTo first bytes s in_line onto rest line → onto ≡ Nothing
    → (r : Option (Shape × ℕ × Bool)) → IfSome r (λ p. MayEnd s bytes rest p.0 p.1 × (p.2 ≡ in_line)) → IfSome r (λ p. IsAsciiPiece first bytes p.0 p.1 p.2)
to_end first bytes s onto in_line line rest (inl ends) is r may = pieces_end first bytes s in_line rest ends.1 ends.2 r may
to_end first bytes s onto in_line line rest (inr goes) is r may = absurd (goes.0 is)
