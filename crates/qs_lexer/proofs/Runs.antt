-- What the reader's states come to that stay as they are, or that nothing follows.
use Rattle.std.proofs.Common.{◌≡◌, ℕ, List, [], ◌∷◌, ◌++◌, Bool, true, false, ◌&&◌, not, if◌then◌else◌, nat_eq, Option, Some, None, refl}
use Rattle.std.specs.Char.{is_ascii_digit}
use Rattle.std.specs.List.{list_all}
use Rattle.std.proofs.lemmas.Option.{none-some, same_Some}
use Rattle.std.proofs.lemmas.List.Sums.{fold-append}
use Rattle.qs_values.specs.Names.{continues_word}
use Rattle.qs_lexer.specs.declared.shape.Shape.{Shape}
use Rattle.qs_lexer.specs.declared.state.State.{State}
use Rattle.qs_lexer.specs.declared.state.State.TheVariants.{Nothing, Line, Word, Physical}
use Rattle.qs_lexer.specs.Forms.{is_in_line}
use Rattle.qs_lexer.specs.steps.Scan.{run, shape_before, step, where_so}

pub run-append : (s : State) (xs ys : List ℕ) → run s (xs ++ ys) ≡ run (run s xs) ys
run-append s xs ys = fold-append step s xs ys

-- nothing follows in vain
pub from_nothing : (cs : List ℕ) (next : Option ℕ) (shape : Shape) → shape_before (run Nothing cs) next ≡ Some shape → ⊥
from_nothing [] next shape h = absurd (let bad : None ≡ Some shape = h in cc)
from_nothing (c ∷ cs) next shape h = from_nothing cs next shape h

-- a state goes on as it is with characters that pass a test, and with no others
abbrev pub Stays : State → (ℕ → Bool) → Type 0
Stays s test = (c : ℕ) → step s c ≡ (if test c then s else Nothing)

pub line_stays : Stays Line is_in_line
line_stays c = by (nat_eq c 10)
  where
    by : (b : Bool) → ◌≡◌ {A = State} (if b then Nothing else Line) (if not b then Line else Nothing)
    by true = refl
    by false = refl

pub word_stays : Stays Word continues_word
word_stays c = refl

pub physical_stays : Stays Physical is_ascii_digit
physical_stays c = refl

-- with such characters alone it comes to itself
pub stayed : (s : State) (test : ℕ → Bool) → Stays s test → (cs : List ℕ) → list_all test cs ≡ true → run s cs ≡ s
stayed s test stays [] h = refl
stayed s test stays (c ∷ cs) h = rw (stays c) (by (test c) (stayed s test stays cs) h)
  where
    by : (b : Bool) → (list_all test cs ≡ true → run s cs ≡ s) → (b && list_all test cs) ≡ true → run (if b then s else Nothing) cs ≡ s
    by true ih h = ih h
    by false ih h = absurd (let bad : false ≡ true = h in cc)

-- and what comes to a shape has no others
pub stays_through : (s : State) (test : ℕ → Bool) → Stays s test → (cs : List ℕ) (next : Option ℕ) (shape : Shape) → shape_before (run s cs) next ≡ Some shape → (list_all test cs ≡ true) × (shape_before s next ≡ Some shape)
stays_through s test stays [] next shape h = (refl, h)
stays_through s test stays (c ∷ cs) next shape h = by (test c) (stays_through s test stays cs next shape) (rw (stays c) at h)
  where
    by : (b : Bool) → (shape_before (run s cs) next ≡ Some shape → (list_all test cs ≡ true) × (shape_before s next ≡ Some shape)) → shape_before (run (if b then s else Nothing) cs) next ≡ Some shape → ((b && list_all test cs) ≡ true) × (shape_before s next ≡ Some shape)
    by true ih h = ih h
    by false ih h = absurd (from_nothing cs next shape h)

-- a state that nothing may follow
abbrev pub IsLast : State → Type 0
IsLast s = (c : ℕ) → step s c ≡ Nothing

pub last_through : (s : State) → IsLast s → (cs : List ℕ) (next : Option ℕ) (shape : Shape) → shape_before (run s cs) next ≡ Some shape → (cs ≡ []) × (shape_before s next ≡ Some shape)
last_through s last [] next shape h = (refl, h)
last_through s last (c ∷ cs) next shape h = absurd (from_nothing cs next shape (rw (last c) at h))

-- of what is told where a test holds, the test and the shape
pub where_so_parts : (so : Bool) (told shape : Shape) → where_so so told ≡ Some shape → (so ≡ true) × (told ≡ shape)
where_so_parts true told shape h = (refl, same_Some told shape h)
where_so_parts false told shape h = absurd (none-some shape h)
