use Rattle.std.proofs.Common.{◌≡◌, ap, sym, refl, List, [], ◌∷◌, map}
use Rattle.serde_json.specs.Data.{Data}
use Rattle.serde_json.specs.View.{view, items_of}
use Rattle.qs_machine.specs.Values.{values_of}
use Rattle.std.specs.Option.{option_map}
use Rattle.qs_machine.proofs.forms.array_in.Goals as goal

-- the values of an array are those of the list that it was made of
values_of-items_of : (ds : List Data) → values_of (items_of ds) ≡ ds
values_of-items_of [] = refl
values_of-items_of (d ∷ ds) = ap (λ rest. d ∷ rest) (values_of-items_of ds)

pub returns-in-Some : goal.returns-in-Some
returns-in-Some c =
    rw (c.as_slice.ensures.value, sym (values_of-items_of (map view c.in-Some.values.now.items))) (ap (option_map values_of) c.in-Some.ensures)
