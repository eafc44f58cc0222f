-- The widths of run-time types (OpenQASM 3.0, types, in this project's profile).
use Rattle.std.specs.Prelude.{ℕ, Bool, ◌&&◌, nat_le, nat_eq}
use Rattle.qs_values.specs.declared.kind.Kind.{Kind}
use Rattle.qs_values.specs.declared.kind.Kind.TheVariants.{Bit, Bool as Truth, Bits, Int, Uint, Angle}

-- whether a kind has values of this width; this project's own limits
abbrev pub has_width : Kind → ℕ → Bool
has_width Bit width = nat_eq width 1
has_width Truth width = nat_eq width 1
has_width Bits width = nat_le 1 width && nat_le width 64
has_width Int width = nat_le 1 width && nat_le width 64
has_width Uint width = nat_le 1 width && nat_le width 64
has_width Angle width = nat_le 1 width && nat_le width 32
