-- Which level's operator a sign is.
use Rattle.std.proofs.Common.{◌≡◌, ℕ, ◌+◌, true, false, List, [], ◌∷◌, Option, Some, None, Bool, refl, ap, ◌∙◌, arith}
use Rattle.qs_lexer.specs.declared.token.Token.{Token}
use Rattle.qs_tree.specs.Spelling.{sign_of_bin}
use Rattle.qs_tree.specs.WellFormed.{level_of}
use Rattle.qs_tree.specs.declared.operator.BinOp.{BinOp}
use Rattle.qs_tree.specs.declared.operator.BinOp.TheVariants.{Power, Mul, Div, Rem, Add, Sub, ShiftLeft, ShiftRight, Less, LessEqual, Greater, GreaterEqual, Equal, NotEqual, BitAnd, BitXor, BitOr, And, Or}
use Rattle.qs_parser.specs.steps.Tokens.{has_sign}
use Rattle.qs_parser.specs.steps.Expressions.{bin_op, bin_op_at}
use Rattle.qs_parser.specs.steps.Strengths.{strength, strength_at}
use Rattle.qs_parser.proofs.SoundParts.{Holds}
use Rattle.qs_parser.proofs.SoundExpr.{IsBinOp, bin_op_is}

-- the strength of an operator's sign
strength_of_sign : (op : BinOp) (n : ℕ) → level_of op + n ≡ 9 → strength (sign_of_bin op) ≡ n
strength_of_sign Power n e = absurd (omega (arith, e))
strength_of_sign Mul n e = omega (arith, e)
strength_of_sign Div n e = omega (arith, e)
strength_of_sign Rem n e = omega (arith, e)
strength_of_sign Add n e = omega (arith, e)
strength_of_sign Sub n e = omega (arith, e)
strength_of_sign ShiftLeft n e = omega (arith, e)
strength_of_sign ShiftRight n e = omega (arith, e)
strength_of_sign Less n e = omega (arith, e)
strength_of_sign LessEqual n e = omega (arith, e)
strength_of_sign Greater n e = omega (arith, e)
strength_of_sign GreaterEqual n e = omega (arith, e)
strength_of_sign Equal n e = omega (arith, e)
strength_of_sign NotEqual n e = omega (arith, e)
strength_of_sign BitAnd n e = omega (arith, e)
strength_of_sign BitXor n e = omega (arith, e)
strength_of_sign BitOr n e = omega (arith, e)
strength_of_sign And n e = omega (arith, e)
strength_of_sign Or n e = omega (arith, e)

-- a sign of another strength is no operator of a level
other_strength : (n : ℕ) (text : List ℕ) → ¬ (strength text ≡ n) → bin_op n text ≡ None
other_strength n text other = from (bin_op n text) (bin_op_is n text)
  where
    from : (r : Option BinOp) → Holds r (IsBinOp n text) → r ≡ None
    from None h = refl
    from (Some op) h = absurd (other (ap strength h.is.text_is ∙ strength_of_sign op n h.is.level_is))

-- nor one at the front
pub other_strength_at : (n : ℕ) (ts : List Token) → ¬ (strength_at ts ≡ n) → bin_op_at n ts ≡ None
other_strength_at n [] other = refl
other_strength_at n (t ∷ ts) other = by_kind (has_sign t.kind) refl
  where
    by_kind : (b : Bool) → has_sign t.kind ≡ b → bin_op_at n (t ∷ ts) ≡ None
    by_kind false e = rw e refl
    by_kind true e =
        let is : strength_at (t ∷ ts) ≡ strength t.text = rw e refl in
        rw (e, other_strength n t.text (λ same. other (is ∙ same))) refl
