-- A constant number as an angle of so many bits. This project's own, a closed formula.
use Rattle.std.specs.Prelude.{ℕ, ◌^◌, ℤ, pos, ◌+ℤ◌, ◌*ℤ◌}
use Rattle.std.specs.Int.{int_div_euclid, int_rem_euclid}
use Rattle.qs_values.specs.declared.number.Frac.{Frac}
use Rattle.qs_values.specs.declared.number.Num.{Num}

-- a full turn in units of 10^-17 of a radian, this project's number for two pi
abbrev pub turn : ℤ
turn = pos 628318530717958648

-- the part with pi, in 2^-width of a full turn: the whole part of b * 2^(width - 1) + 1/2
abbrev pub pi_part : Frac → ℕ → ℤ
pi_part b width = int_div_euclid ((b.num *ℤ pos (2 ^ width)) +ℤ b.den) (pos 2 *ℤ b.den)

-- the part without pi in units of 10^-17 of a radian, cut down, modulo a full turn
abbrev pub units : Frac → ℤ
units a = int_rem_euclid (int_div_euclid (a.num *ℤ pos (10 ^ 17)) a.den) turn

-- the part without pi, in 2^-width of a full turn: the whole part of units * 2^width / turn + 1/2
abbrev pub plain_part : Frac → ℕ → ℤ
plain_part a width = int_div_euclid ((pos 2 *ℤ (units a *ℤ pos (2 ^ width))) +ℤ turn) (pos 2 *ℤ turn)

-- the angle of a number: both parts together, modulo 2^width
abbrev pub angle_of : Num → ℕ → ℤ
angle_of x width = int_rem_euclid (pi_part x.pi width +ℤ plain_part x.plain width) (pos (2 ^ width))
