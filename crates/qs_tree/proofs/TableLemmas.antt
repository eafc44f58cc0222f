-- A map that keeps the first of two values of one name.
use Rattle.std.proofs.Common.{◌≡◌, ℕ, List, ◌∷◌, Bool, true, false, Option, Some, None, if◌then◌else◌, refl, ap, ◌∙◌}
use Rattle.std.specs.Cmp.Lexicographic.{bytes_decides, nat_list_eq_equiv}
use Rattle.std.specs.Map.{update}
use Rattle.std.specs.List.{find}
use Rattle.std.specs.Option.{option_copied, option_map, option_or}
use Rattle.std.specs.Borrow.{Bor}
use Rattle.std.specs.Str.{bytes_eq}
use Rattle.qs_tree.specs.declared.constant.Const.{Const}
use Rattle.qs_tree.specs.declared.replacement.Replacement.{Replacement}
use Rattle.qs_tree.specs.Constants.{constant_in}
use Rattle.qs_tree.specs.Replacements.{replacement_in}

keeps_other : {X : Type 0} (p : Option X) → p ≡ option_or p None
keeps_other None = refl
keeps_other (Some x) = refl

put_at : {X : Type 0} (get : List ℕ → Option X) (name key : List ℕ) (v : X) (b : Bool) → bytes_eq key name ≡ b → get name ≡ None
    → update bytes_eq get name (Some v) key ≡ option_or (get key) (if bytes_eq key name then Some v else None)
put_at get name key v true e none =
    let same = (bytes_decides key name).0 e in
    rw (same, none, nat_list_eq_equiv.refl name) refl
put_at get name key v false e none = rw (e, nat_list_eq_equiv.symm name key, e) (keeps_other (get key))

-- a new name gets its value, and the others keep theirs
put_absent : {X : Type 0} (get : List ℕ → Option X) (name key : List ℕ) (v : X) → get name ≡ None
    → update bytes_eq get name (Some v) key ≡ option_or (get key) (if bytes_eq key name then Some v else None)
put_absent get name key v none = put_at get name key v (bytes_eq key name) refl none

seen : {X : Type 0} (p : Option (Bor X)) (b : Bool) (v : Bor X) → option_copied (option_or p (if b then Some v else None)) ≡ option_or (option_copied p) (if b then Some v.now else None)
seen None true v = refl
seen None false v = refl
seen (Some w) true v = refl
seen (Some w) false v = refl

-- the same of what stands elsewhere
pub put_seen : {X : Type 0} (get : List ℕ → Option (Bor X)) (name key : List ℕ) (v : Bor X) → get name ≡ None
    → option_copied (update bytes_eq get name (Some v) key) ≡ option_or (option_copied (get key)) (if bytes_eq key name then Some v.now else None)
put_seen get name key v none = ap option_copied (put_absent get name key v none) ∙ seen (get key) (bytes_eq key name) v

-- one more value of the list is looked up, after those before it
pub next_value : {X : Type 0} (old new : Option X) (b : Bool) (v : X) (rest whole : Option X)
    → new ≡ option_or old (if b then Some v else None)
    → option_or old (if b then Some v else rest) ≡ whole
    → option_or new rest ≡ whole
next_value None new true v rest whole put before = rw put before
next_value None new false v rest whole put before = rw put before
next_value (Some w) new true v rest whole put before = rw put before
next_value (Some w) new false v rest whole put before = rw put before

cons_case : {A X : Type 0} (name_of : A → List ℕ) (value_of : A → X) (b : Bool) (a : A) (rest : List A) (name : List ℕ) → bytes_eq (name_of a) name ≡ b
    → option_map value_of (find (λ x. bytes_eq (name_of x) name) (a ∷ rest)) ≡ (if b then Some (value_of a) else option_map value_of (find (λ x. bytes_eq (name_of x) name) rest))
cons_case name_of value_of true a rest name e = rw e refl
cons_case name_of value_of false a rest name e = rw e refl

-- the value of a name in a list, by the list's first
pub first_in_cons : {A X : Type 0} (name_of : A → List ℕ) (value_of : A → X) (a : A) (rest : List A) (name : List ℕ)
    → option_map value_of (find (λ x. bytes_eq (name_of x) name) (a ∷ rest)) ≡ (if bytes_eq name (name_of a) then Some (value_of a) else option_map value_of (find (λ x. bytes_eq (name_of x) name) rest))
first_in_cons name_of value_of a rest name = cons_case name_of value_of (bytes_eq name (name_of a)) a rest name (nat_list_eq_equiv.symm (name_of a) name)

-- the constant of a name in a list, by the list's first
pub constant_in_cons : (c : Const) (rest : List Const) (name : List ℕ) → constant_in (c ∷ rest) name ≡ (if bytes_eq name c.name then Some c.value else constant_in rest name)
constant_in_cons c rest name = first_in_cons (λ x. x.name) (λ x. x.value) c rest name

-- what is put in for a name by a list, by the list's first
pub replacement_in_cons : (pair : Replacement) (rest : List Replacement) (name : List ℕ) → replacement_in (pair ∷ rest) name ≡ (if bytes_eq name pair.name.now then Some pair.by.now else replacement_in rest name)
replacement_in_cons pair rest name = first_in_cons (λ x. x.name.now) (λ x. x.by.now) pair rest name
