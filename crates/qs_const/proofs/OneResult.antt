-- An operation on constants comes to one thing.
use Rattle.std.proofs.Common.{◌≡◌, ◌≢◌, ◌+◌, ◌*◌, ◌^◌, ◌<◌, ℕ, zero, suc, ap, sym, ◌∙◌, subst, arith, ℤ, pos, ◌+ℤ◌, ◌-ℤ◌, ◌*ℤ◌, ◌<ℤ◌, ◌≤ℤ◌, inl, inr, ◌⊎◌, Result}
use Rattle.std.proofs.Math.Nat.{lt_of_mul-lt-mul_right}
use Rattle.std.proofs.lemmas.Int.{ints}
use borrow.Author.Differences.{up, down}
use Rattle.qs_values.specs.declared.number.Num.{Num}
use Rattle.qs_values.specs.declared.refusal.NumRefusal.{NumRefusal}
use Rattle.qs_tree.specs.declared.constant.ConstVal.{ConstVal}
use Rattle.qs_tree.specs.declared.constant.ConstVal.TheVariants.{Number, Truth, Bits}
use Rattle.qs_tree.specs.declared.operator.UnOp.{UnOp}
use Rattle.qs_tree.specs.declared.operator.UnOp.TheVariants.{Not, Neg, Invert}
use Rattle.qs_tree.specs.declared.operator.BinOp.{BinOp}
use Rattle.qs_tree.specs.declared.operator.BinOp.TheVariants.{Power, Mul, Div, Rem, Add, Sub, ShiftLeft, ShiftRight, Less, LessEqual, Greater, GreaterEqual, Equal, NotEqual, BitAnd, BitXor, BitOr, And, Or}
use Rattle.qs_const.specs.declared.cause.Cause.{Cause}
use Rattle.qs_const.specs.Operations.{AlikeGive, ByResult, DividesOther, GivesNumber, GivesWhole, IsCount, IsNoCount, IsNotWhole, IsPower, IsPowerWithPi, IsWhole, OfNumbers, OfWholes, OnWholes, PairGives, PowerGives, QuotientGives, RaisedGives, RemainderGives, Remains, ShiftGives, ShiftedGives, ShiftsDown, ShiftsUp, UnaryGives, WholesGive, number_result}
use Rattle.qs_const.proofs.PowerLemmas.{nonzero_pow}
use Rattle.qs_values.proofs.NumberLemmas.{nonzero_den}
use Rattle.qs_values.proofs.OneNumber.{difference_once, number_once, one_nonzero, product_once, ratio_once, sum_once}

-- a relation that at most one thing meets
abbrev pub Once : (Result ConstVal Cause → Type 0) → Type 0
Once P = (m n : Result ConstVal Cause) → P m → P n → m ≡ n

-- ---- numbers

pub gives_number : (an ad bn bd : ℤ) → ad ≢ pos 0 → bd ≢ pos 0 → Once (GivesNumber an ad bn bd)
gives_number an ad bn bd p q m n (r, is, e) (s, also, f) = e ∙ ap number_result (number_once an ad bn bd r s p q is also) ∙ sym f

pub gives_whole : (k : ℤ) → Once (GivesWhole k)
gives_whole k = gives_number k (pos 1) (pos 0) (pos 1) one_nonzero one_nonzero

whole_is : (x : Num) (j k : ℤ) → IsWhole x j → IsWhole x k → j ≡ k
whole_is x j k h i = sym h.2 ∙ i.2

whole_not : (x : Num) (k : ℤ) → IsWhole x k → IsNotWhole x → ⊥
whole_not x k h (inl p) = p h.0
whole_not x k h (inr p) = p h.1

-- ---- operators before an operand

inverts : (x : Num) → Once (UnaryGives Invert (Number x))
inverts x m n (inl (j, a, h)) (inl (k, b, i)) = gives_whole _ m n h (subst (λ z. GivesWhole ((pos 0 -ℤ z) -ℤ pos 1) n) (whole_is x k j b a) i)
inverts x m n (inl (j, a, h)) (inr (parted, e)) = absurd (whole_not x j a parted)
inverts x m n (inr (parted, e)) (inl (k, b, i)) = absurd (whole_not x k b parted)
inverts x m n (inr (parted, e)) (inr (also, f)) = e ∙ sym f

pub unary_once : (op : UnOp) (v : ConstVal) → Once (UnaryGives op v)
unary_once Neg (Number x) m n p q = gives_number _ _ _ _ (nonzero_den x.plain) (nonzero_den x.pi) m n p q
unary_once Neg (Truth b) m n p q = p ∙ sym q
unary_once Neg (Bits b) m n p q = p ∙ sym q
unary_once Invert (Number x) m n p q = inverts x m n p q
unary_once Invert (Truth b) m n p q = p ∙ sym q
unary_once Invert (Bits b) m n p q = p ∙ sym q
unary_once Not (Number x) m n p q = p ∙ sym q
unary_once Not (Truth b) m n p q = p ∙ sym q
unary_once Not (Bits b) m n p q = p ∙ sym q

-- ---- operators between operands of one kind

of_numbers : (Gives : Num → Num → Result ConstVal Cause → Type 0) → ((x y : Num) → Once (Gives x y)) → (left right : ConstVal) → Once (OfNumbers Gives left right)
of_numbers Gives once (Truth b) right m n p q = p ∙ sym q
of_numbers Gives once (Bits b) right m n p q = p ∙ sym q
of_numbers Gives once (Number x) (Truth b) m n p q = p ∙ sym q
of_numbers Gives once (Number x) (Bits b) m n p q = p ∙ sym q
of_numbers Gives once (Number x) (Number y) m n p q = once x y m n p q

by_result : (Is : Num → Num → Result Num NumRefusal → Type 0) → ((x y : Num) (r s : Result Num NumRefusal) → Is x y r → Is x y s → r ≡ s) → (x y : Num) → Once (ByResult Is x y)
by_result Is once x y m n (r, is, e) (s, also, f) = e ∙ ap number_result (once x y r s is also) ∙ sym f

on_wholes : (Gives : ℤ → ℤ → Result ConstVal Cause → Type 0) → ((j k : ℤ) → Once (Gives j k)) → (x y : Num) → Once (OnWholes Gives x y)
on_wholes Gives once x y m n (inl (j, k, a, b, h)) (inl (i, l, c, d, g)) =
    once j k m n h (subst (λ z. Gives z k n) (whole_is x i j c a) (subst (λ z. Gives i z n) (whole_is y l k d b) g))
on_wholes Gives once x y m n (inl (j, k, a, b, h)) (inr (inl parted, e)) = absurd (whole_not x j a parted)
on_wholes Gives once x y m n (inl (j, k, a, b, h)) (inr (inr parted, e)) = absurd (whole_not y k b parted)
on_wholes Gives once x y m n (inr (inl parted, e)) (inl (j, k, a, b, h)) = absurd (whole_not x j a parted)
on_wholes Gives once x y m n (inr (inr parted, e)) (inl (j, k, a, b, h)) = absurd (whole_not y k b parted)
on_wholes Gives once x y m n (inr (parted, e)) (inr (also, f)) = e ∙ sym f

of_wholes : (Gives : ℤ → ℤ → Result ConstVal Cause → Type 0) → ((j k : ℤ) → Once (Gives j k)) → (left right : ConstVal) → Once (OfWholes Gives left right)
of_wholes Gives once = of_numbers (OnWholes Gives) (on_wholes Gives once)

wholes_once : (op : BinOp) (j k : ℤ) → Once (WholesGive op j k)
wholes_once Power j k m n p q = p ∙ sym q
wholes_once Mul j k m n p q = p ∙ sym q
wholes_once Div j k m n p q = p ∙ sym q
wholes_once Rem j k m n p q = p ∙ sym q
wholes_once Add j k m n p q = p ∙ sym q
wholes_once Sub j k m n p q = p ∙ sym q
wholes_once ShiftLeft j k m n p q = p ∙ sym q
wholes_once ShiftRight j k m n p q = p ∙ sym q
wholes_once Less j k m n p q = p ∙ sym q
wholes_once LessEqual j k m n p q = p ∙ sym q
wholes_once Greater j k m n p q = p ∙ sym q
wholes_once GreaterEqual j k m n p q = p ∙ sym q
wholes_once Equal j k m n p q = p ∙ sym q
wholes_once NotEqual j k m n p q = p ∙ sym q
wholes_once BitAnd j k m n p q = gives_whole _ m n p q
wholes_once BitXor j k m n p q = gives_whole _ m n p q
wholes_once BitOr j k m n p q = gives_whole _ m n p q
wholes_once And j k m n p q = p ∙ sym q
wholes_once Or j k m n p q = p ∙ sym q

of_alike : (op : BinOp) (left right : ConstVal) → Once (AlikeGive op left right)
of_alike op (Number x) right m n p q = of_wholes (WholesGive op) (wholes_once op) (Number x) right m n p q
of_alike op (Bits b) right m n p q = of_wholes (WholesGive op) (wholes_once op) (Bits b) right m n p q
of_alike op (Truth a) (Number y) m n p q = p ∙ sym q
of_alike op (Truth a) (Bits b) m n p q = p ∙ sym q
of_alike op (Truth a) (Truth b) m n p q = p ∙ sym q

-- ---- quotients and remainders

divides_other : (y : Num) → Once (DividesOther y)
divides_other y m n (inl (a, e)) (inl (b, f)) = e ∙ sym f
divides_other y m n (inl (a, e)) (inr (inl (b, f))) = absurd (b a.1)
divides_other y m n (inl (a, e)) (inr (inr (b, c, f))) = absurd (b a)
divides_other y m n (inr (inl (a, e))) (inl (b, f)) = absurd (a b.1)
divides_other y m n (inr (inl (a, e))) (inr (inl (b, f))) = e ∙ sym f
divides_other y m n (inr (inl (a, e))) (inr (inr (b, c, f))) = absurd (a c)
divides_other y m n (inr (inr (a, c, e))) (inl (b, f)) = absurd (a b)
divides_other y m n (inr (inr (a, c, e))) (inr (inl (b, f))) = absurd (b c)
divides_other y m n (inr (inr (a, c, e))) (inr (inr (b, d, f))) = e ∙ sym f

quotient_once : (left right : ConstVal) → Once (QuotientGives left right)
quotient_once (Number x) (Number y) m n p q = by_result _ ratio_once x y m n p q
quotient_once (Number x) (Truth b) m n p q = p ∙ sym q
quotient_once (Number x) (Bits b) m n p q = p ∙ sym q
quotient_once (Truth a) (Number y) m n p q = divides_other y m n p q
quotient_once (Truth a) (Truth b) m n p q = p ∙ sym q
quotient_once (Truth a) (Bits b) m n p q = p ∙ sym q
quotient_once (Bits a) (Number y) m n p q = divides_other y m n p q
quotient_once (Bits a) (Truth b) m n p q = p ∙ sym q
quotient_once (Bits a) (Bits b) m n p q = p ∙ sym q

remainder_once : (left right : ConstVal) → Once (RemainderGives left right)
remainder_once left (Truth b) m n p q = p ∙ sym q
remainder_once left (Bits b) m n p q = p ∙ sym q
remainder_once left (Number y) m n (inl (a, e)) (inl (b, f)) = e ∙ sym f
remainder_once left (Number y) m n (inl (a, e)) (inr (inl (b, f))) = absurd (b a.1)
remainder_once left (Number y) m n (inl (a, e)) (inr (inr (b, c, f))) = absurd (b a)
remainder_once left (Number y) m n (inr (inl (a, e))) (inl (b, f)) = absurd (a b.1)
remainder_once left (Number y) m n (inr (inl (a, e))) (inr (inl (b, f))) = e ∙ sym f
remainder_once left (Number y) m n (inr (inl (a, e))) (inr (inr (b, c, f))) = absurd (a c)
remainder_once left (Number y) m n (inr (inr (a, c, e))) (inl (b, f)) = absurd (a b)
remainder_once left (Number y) m n (inr (inr (a, c, e))) (inr (inl (b, f))) = absurd (b c)
remainder_once left (Number y) m n (inr (inr (a, c, e))) (inr (inr (b, d, f))) = of_wholes Remains (λ j k. gives_whole _) left (Number y) m n e f

-- ---- shifts

-- the greatest number whose product is at most j is one
floor_order : (k l : ℤ) (j : ℤ) (m : ℕ) → (k *ℤ pos m) ≤ℤ j → j <ℤ ((l +ℤ pos 1) *ℤ pos m) → k ≤ℤ l
floor_order k l j m low high =
    let order : (up k + down (l +ℤ pos 1)) * m < (up (l +ℤ pos 1) + down k) * m = omega (arith, ints, low, high) in
    let plain = lt_of_mul-lt-mul_right m order in
    omega (arith, ints, plain)

floor_once : (k l j : ℤ) (m : ℕ) → (k *ℤ pos m) ≤ℤ j → j <ℤ ((k +ℤ pos 1) *ℤ pos m) → (l *ℤ pos m) ≤ℤ j → j <ℤ ((l +ℤ pos 1) *ℤ pos m) → k ≡ l
floor_once k l j m a b c d = omega (arith, ints, floor_order k l j m a d, floor_order l k j m c b)

shifts_down : (j : ℤ) (n : ℕ) → Once (ShiftsDown j n)
shifts_down j n made other (k, a, b, h) (l, c, d, g) = gives_whole k made other h (subst (λ z. GivesWhole z other) (floor_once l k j (2 ^ n) c d a b) g)

shifted_once : (Shifts : ℤ → ℕ → Result ConstVal Cause → Type 0) → ((j : ℤ) (n : ℕ) → Once (Shifts j n)) → (left : ConstVal) (n : ℕ) → Once (ShiftedGives Shifts left n)
shifted_once Shifts once (Truth b) n m o p q = p ∙ sym q
shifted_once Shifts once (Bits b) n m o p q = p ∙ sym q
shifted_once Shifts once (Number x) n m o (inl (j, a, h)) (inl (k, b, g)) = once j n m o h (subst (λ z. Shifts z n o) (whole_is x k j b a) g)
shifted_once Shifts once (Number x) n m o (inl (j, a, h)) (inr (parted, f)) = absurd (whole_not x j a parted)
shifted_once Shifts once (Number x) n m o (inr (parted, e)) (inl (k, b, g)) = absurd (whole_not x k b parted)
shifted_once Shifts once (Number x) n m o (inr (parted, e)) (inr (also, f)) = e ∙ sym f

count_not_wide : (y : Num) (n : ℕ) → IsNoCount y → IsCount y n → ⊥
count_not_wide y n (k, whole, inl low) count = omega (arith, ints, whole_is y k (pos n) whole count.0, low)
count_not_wide y n (k, whole, inr high) count = omega (arith, ints, whole_is y k (pos n) whole count.0, high, count.1)

count_is : (y : Num) (m n : ℕ) → IsCount y m → IsCount y n → m ≡ n
count_is y m n a b = omega (arith, ints, whole_is y (pos m) (pos n) a.0 b.0)

shift_once : (Shifts : ℤ → ℕ → Result ConstVal Cause → Type 0) → ((j : ℤ) (n : ℕ) → Once (Shifts j n)) → (left right : ConstVal) → Once (ShiftGives Shifts left right)
shift_once Shifts once left (Truth b) m o p q = p ∙ sym q
shift_once Shifts once left (Bits b) m o p q = p ∙ sym q
shift_once Shifts once left (Number y) m o (inl (a, e)) (inl (b, f)) = e ∙ sym f
shift_once Shifts once left (Number y) m o (inl (a, e)) (inr (inl (n, b, h))) = absurd (count_not_wide y n a b)
shift_once Shifts once left (Number y) m o (inl ((k, whole, out), e)) (inr (inr (parted, f))) = absurd (whole_not y k whole parted)
shift_once Shifts once left (Number y) m o (inr (inl (n, a, h))) (inl (b, f)) = absurd (count_not_wide y n b a)
shift_once Shifts once left (Number y) m o (inr (inl (n, a, h))) (inr (inl (i, c, g))) =
    shifted_once Shifts once left n m o h (subst (λ z. ShiftedGives Shifts left z o) (count_is y i n c a) g)
shift_once Shifts once left (Number y) m o (inr (inl (n, a, h))) (inr (inr (parted, f))) = absurd (whole_not y (pos n) a.0 parted)
shift_once Shifts once left (Number y) m o (inr (inr (parted, e))) (inl ((k, whole, out), f)) = absurd (whole_not y k whole parted)
shift_once Shifts once left (Number y) m o (inr (inr (parted, e))) (inr (inl (n, b, h))) = absurd (whole_not y (pos n) b.0 parted)
shift_once Shifts once left (Number y) m o (inr (inr (parted, e))) (inr (inr (also, f))) = e ∙ sym f

-- ---- powers

with_pi_once : (x : Num) (n : ℕ) (r s : Result Num NumRefusal) → IsPowerWithPi x n r → IsPowerWithPi x n s → r ≡ s
with_pi_once x zero r s h k = number_once _ _ _ _ r s one_nonzero one_nonzero h k
with_pi_once x (suc zero) r s h k = h ∙ sym k
with_pi_once x (suc (suc n)) r s h k = h ∙ sym k

power_once : (x : Num) (n : ℕ) (r s : Result Num NumRefusal) → IsPower x n r → IsPower x n s → r ≡ s
power_once x n r s (inl h) (inl k) = number_once _ _ _ _ r s (nonzero_pow x.plain n) one_nonzero h.1 k.1
power_once x n r s (inl h) (inr k) = absurd (k.0 h.0)
power_once x n r s (inr h) (inl k) = absurd (h.0 k.0)
power_once x n r s (inr h) (inr k) = with_pi_once x n r s h.1 k.1

raised_once : (left : ConstVal) (n : ℕ) → Once (RaisedGives left n)
raised_once (Truth b) n m o p q = p ∙ sym q
raised_once (Bits b) n m o p q = p ∙ sym q
raised_once (Number x) n m o (r, is, e) (s, also, f) = e ∙ ap number_result (power_once x n r s is also) ∙ sym f

no_exponent : (y : Num) (n : ℕ) → IsNotWhole y ⊎ IsNoCount y → IsCount y n → ⊥
no_exponent y n (inl parted) count = whole_not y (pos n) count.0 parted
no_exponent y n (inr wide) count = count_not_wide y n wide count

powers_once : (left right : ConstVal) → Once (PowerGives left right)
powers_once left (Truth b) m o p q = p ∙ sym q
powers_once left (Bits b) m o p q = p ∙ sym q
powers_once left (Number y) m o (inl (a, e)) (inl (b, f)) = e ∙ sym f
powers_once left (Number y) m o (inl (a, e)) (inr (n, b, h)) = absurd (no_exponent y n a b)
powers_once left (Number y) m o (inr (n, a, h)) (inl (b, f)) = absurd (no_exponent y n b a)
powers_once left (Number y) m o (inr (n, a, h)) (inr (i, b, g)) = raised_once left n m o h (subst (λ z. RaisedGives left z o) (count_is y i n b a) g)

-- ---- all of them

pub pair_once : (op : BinOp) (left right : ConstVal) → Once (PairGives op left right)
pair_once Power left right = powers_once left right
pair_once Mul left right = of_numbers _ (by_result _ product_once) left right
pair_once Div left right = quotient_once left right
pair_once Rem left right = remainder_once left right
pair_once Add left right = of_numbers _ (by_result _ sum_once) left right
pair_once Sub left right = of_numbers _ (by_result _ difference_once) left right
pair_once ShiftLeft left right = shift_once ShiftsUp (λ j n. gives_whole _) left right
pair_once ShiftRight left right = shift_once ShiftsDown shifts_down left right
pair_once Less left right = of_alike Less left right
pair_once LessEqual left right = of_alike LessEqual left right
pair_once Greater left right = of_alike Greater left right
pair_once GreaterEqual left right = of_alike GreaterEqual left right
pair_once Equal left right = of_alike Equal left right
pair_once NotEqual left right = of_alike NotEqual left right
pair_once BitAnd left right = of_alike BitAnd left right
pair_once BitXor left right = of_alike BitXor left right
pair_once BitOr left right = of_alike BitOr left right
pair_once And left right = of_alike And left right
pair_once Or left right = of_alike Or left right
