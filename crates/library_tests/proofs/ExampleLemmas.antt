-- The worked example as the tests make it, and its core after a run.
use Rattle.std.proofs.Common.{◌≡◌, ℕ, List, [], ◌∷◌, ap, refl, sym, ◌∙◌}
use Rattle.std.specs.Prelude.{IsTrue}
use Rattle.std.proofs.Math.Bool.{Bool-set}
use Rattle.qs_values.specs.declared.kind.Kind.{Kind}
use Rattle.qs_values.specs.declared.kind.Kind.TheVariants.{Bit, Bits, Uint}
use Rattle.qs_values.specs.declared.kind.Ty.{Ty}
use Rattle.qs_values.specs.Kind.{has_width}
use Rattle.plan_tree.specs.declared.part.Part.{Part}
use Rattle.plan_tree.specs.Parts.{parts_of}
use Rattle.controller_core.specs.Core.{CoreState}
use Rattle.library_tests.specs.Ready.{IsReady}
use Rattle.plan_tree.specs.examples.TwoBlocks.{bit, example_plan, register}

abbrev same_type : Ty → Ty → Type 0
same_type t u = t ≡ u

-- a type, whatever shows that its kind has its width
wide-same : (kind : Kind) (width : ℕ) (p q : IsTrue (has_width kind width)) → same_type (record { kind = kind; width = width; wide = p }) (record { kind = kind; width = width; wide = q })
wide-same kind width p q = ap (λ w. record { kind = kind; width = width; wide = w }) (Bool-set _ _ p q)

pub vars-same : (p q r : IsTrue (has_width Bit 1)) (s : IsTrue (has_width Uint 8)) →
    record { kind = Bit; width = 1; wide = p } ∷ record { kind = Bit; width = 1; wide = q } ∷ record { kind = Bit; width = 1; wide = r } ∷ record { kind = Uint; width = 8; wide = s } ∷ [] ≡ example_plan.vars
vars-same p q r s =
    ap (λ t. t ∷ record { kind = Bit; width = 1; wide = q } ∷ record { kind = Bit; width = 1; wide = r } ∷ record { kind = Uint; width = 8; wide = s } ∷ []) (wide-same Bit 1 p refl)
    ∙ ap (λ t. bit ∷ t ∷ record { kind = Bit; width = 1; wide = r } ∷ record { kind = Uint; width = 8; wide = s } ∷ []) (wide-same Bit 1 q refl)
    ∙ ap (λ t. bit ∷ bit ∷ t ∷ record { kind = Uint; width = 8; wide = s } ∷ []) (wide-same Bit 1 r refl)
    ∙ ap (λ t. bit ∷ bit ∷ bit ∷ t ∷ []) (wide-same Uint 8 s refl)

pub inputs-same : (b n : List ℕ) (p : IsTrue (has_width Bits 3)) (q : IsTrue (has_width Uint 8)) → b ≡ 98 ∷ [] → n ≡ 110 ∷ [] →
    record { name = b; ty = record { kind = Bits; width = 3; wide = p }; first = 0 } ∷ record { name = n; ty = record { kind = Uint; width = 8; wide = q }; first = 3 } ∷ [] ≡ example_plan.inputs
inputs-same b n p q is_b is_n = rw (is_b, is_n)
    (ap (λ t. record { name = 98 ∷ []; ty = t; first = 0 } ∷ record { name = 110 ∷ []; ty = record { kind = Uint; width = 8; wide = q }; first = 3 } ∷ []) (wide-same Bits 3 p refl)
    ∙ ap (λ t. record { name = 98 ∷ []; ty = register; first = 0 } ∷ record { name = 110 ∷ []; ty = t; first = 3 } ∷ []) (wide-same Uint 8 q refl))

-- A core of the same plan has the same parts.
pub ready-same : (parts : List Part) (old new : CoreState) → IsReady parts old → new.plan ≡ old.plan → IsReady parts new
ready-same parts old new ready same = record { fit = ready.fit ∙ ap parts_of (sym same); controllers = ap (λ p. p.controllers) same ∙ ready.controllers }
