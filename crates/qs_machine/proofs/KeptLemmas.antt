-- What the steps of a reading say of the value that came of them.
use Rattle.std.proofs.Common.{◌≡◌, ◌≢◌, ℕ, ◌+◌, ◌≤◌, ℤ, ◌≤ℤ◌, List, [], ◌∷◌, ◌++◌, Bool, true, false, ◌&&◌, map, length, Result, Ok, Err, Option, Some, None, refl, ap, sym, subst, arith, true≢false}
use Rattle.std.specs.Prelude.{T, ok_or, is_ok, nat_le, int_le, option_and_then, ⊤}
use Rattle.std.proofs.lemmas.Bool.{and_parts, leb-true}
use lib.Signed.{le_z_yes}
use Rattle.std.specs.Option.{option_map_or}
use Rattle.std.proofs.lemmas.Option.{none-some, cond_some}
use Rattle.std.proofs.lemmas.List.{length_push}
use Rattle.std.proofs.lemmas.List.Elements.{All-nil, All-push}
use Rattle.serde_json.specs.Data.{Data}
use Rattle.serde_json.specs.Find.{get, as_number, as_str, as_u64, as_i64}
use Rattle.qs_machine.specs.declared.refusal.Field.{Field}
use Rattle.qs_machine.specs.declared.refusal.Part.TheVariants.{Whole, Entry}
use Rattle.qs_machine.specs.declared.refusal.MachineRefusal.TheVariants.{FieldWrong}
use Rattle.qs_machine.specs.Limits.{IsIn, AreNamed}
use Rattle.qs_machine.specs.Refused.{key_of}
use Rattle.qs_machine.specs.Steps.{◌>>=◌, in_order, refuse_if}
use Rattle.qs_machine.specs.Table.{is_among, there, needed, optional, formed}
use Rattle.qs_machine.specs.Values.{passing, is_short_name, name_in, array_in, list_in, whole_in, signed_in}
use Rattle.qs_machine.proofs.DistinctLemmas.{AllPairs-push, fresh_name}

err_is_no_ok : {A E : Type 0} (a : A) (e : E) → ◌≡◌ {A = Result A E} (Ok a) (Err e) → ⊥
err_is_no_ok a e h = true≢false (ap is_ok h)

value_or : {A E : Type 0} → A → Result A E → A
value_or d (Ok a) = a
value_or d (Err e) = d

-- the same value came
pub ok_is : {A E : Type 0} (a b : A) → ◌≡◌ {A = Result A E} (Ok a) (Ok b) → a ≡ b
unfolding value_or
ok_is a b h = ap (value_or a) h

-- a value came by a step's value and what followed it
pub after : {A B E P : Type 0} (r : Result A E) (next : A → Result B E) (b : B) → Ok b ≡ (r >>= next) → ((a : A) → Ok a ≡ r → Ok b ≡ next a → P) → P
after (Ok a) next b h goes_on = goes_on a refl h
after (Err e) next b h goes_on = absurd (err_is_no_ok b e h)

-- a form that held gave its value
pub was_some : {A E : Type 0} (o : Option A) (e : E) (a : A) → Ok a ≡ ok_or o e → o ≡ Some a
was_some None e a h = absurd (err_is_no_ok a e h)
was_some (Some x) e a h = ap Some (sym (ok_is a x h))

-- nothing was refused
pub was_false : {E : Type 0} (b : Bool) (e : E) (u : ⊤) → Ok u ≡ refuse_if b e → b ≡ false
was_false true e u h = absurd (err_is_no_ok u e h)
was_false false e u h = refl

-- what passed a test is the value that was there, and the test holds of it
pub passed : {A : Type 0} (test : A → Bool) (o : Option A) (a : A) → passing test o ≡ Some a → (o ≡ Some a) × (test a ≡ true)
passed test None a h = absurd (none-some a h)
passed test (Some x) a h = let p = cond_some (test x) x a h in (ap Some p.1, subst (λ y. test y ≡ true) p.1 p.0)

-- a whole number is within its limits
pub whole_within : (least most : ℕ) (d : Data) (n : ℕ) → whole_in least most d ≡ Some n → IsIn least most n
whole_within least most d n h =
    let p = passed (λ k. nat_le least k && nat_le k most) (option_and_then as_u64 (as_number d)) n h in
    let q = and_parts (nat_le least n) (nat_le n most) p.1 in
    (leb-true least n q.0, leb-true n most q.1)

int_at_most : (a b : ℤ) → int_le a b ≡ true → a ≤ℤ b
int_at_most a b e = le_z_yes (subst T (sym e) tt)

-- a whole number with a sign is within its limits
pub signed_within : (least most : ℤ) (d : Data) (z : ℤ) → signed_in least most d ≡ Some z → (least ≤ℤ z) × (z ≤ℤ most)
signed_within least most d z h =
    let p = passed (λ k. int_le least k && int_le k most) (option_and_then as_i64 (as_number d)) z h in
    let q = and_parts (int_le least z) (int_le z most) p.1 in
    (int_at_most least z q.0, int_at_most z most q.1)

-- an entry's name is one that isn't too long
pub name_kept : (field : Field) (number : ℕ) (d : Data) (name : List ℕ) → Ok name ≡ formed field number (name_in d) → is_short_name name ≡ true
name_kept field number d name h = (passed is_short_name (as_str d) name (was_some (name_in d) (FieldWrong field (Entry number)) name h)).1

-- an entry's whole number is within its limits
pub whole_kept : (field : Field) (number least most : ℕ) (d : Data) (n : ℕ) → Ok n ≡ formed field number (whole_in least most d) → IsIn least most n
whole_kept field number least most d n h = whole_within least most d n (was_some (whole_in least most d) (FieldWrong field (Entry number)) n h)

-- a list has as many entries as it may
pub list_within : (least most : ℕ) (d : Data) (ds : List Data) → list_in least most d ≡ Some ds → IsIn least most (length ds)
list_within least most d ds h =
    let p = passed (λ l. nat_le least (length l) && nat_le (length l) most) (array_in d) ds h in
    let q = and_parts (nat_le least (length ds)) (nat_le (length ds) most) p.1 in
    (leb-true least (length ds) q.0, leb-true (length ds) most q.1)

-- a field that has to be there was, in its form
pub needed_was : {A : Type 0} (field : Field) (form : Data → Option A) (table : Data) (a : A) → Ok a ≡ needed field form table → (d : Data) × (form d ≡ Some a)
needed_was field form table a h =
    after (there field table) (λ d. ok_or (form d) (FieldWrong field Whole)) a h (λ d is was. (d, was_some (form d) (FieldWrong field Whole) a was))

-- a field's whole number is within its limits
pub field_kept : (field : Field) (least most : ℕ) (table : Data) (n : ℕ) → Ok n ≡ needed field (whole_in least most) table → IsIn least most n
field_kept field least most table n h = let was = needed_was field (whole_in least most) table n h in whole_within least most was.0 n was.1

-- a field that may be missing was, or was in its form
pub optional_keeps : {A : Type 0} (field : Field) (otherwise : A) (form : Data → Option A) (table : Data) (a : A) (P : A → Type 0) → P otherwise → ((d : Data) → form d ≡ Some a → P a) → Ok a ≡ optional field otherwise form table → P a
optional_keeps {A} field otherwise form table a P missing there_is h = at_hand (get (key_of field) table) h
  where
    at_hand : (o : Option Data) → Ok a ≡ option_map_or (λ d. ok_or (form d) (FieldWrong field Whole)) o (Ok otherwise) → P a
    at_hand None g = subst P (sym (ok_is a otherwise g)) missing
    at_hand (Some d) g = there_is d (was_some (form d) (FieldWrong field Whole) a g)

-- no entry yet
pub named_none : {A : Type 0} (most : ℕ) (Form : A → Type 0) (name : A → List ℕ) → AreNamed most Form name []
named_none most Form name = record { few = omega arith; each = All-nil Form; distinct = λ i j d lt within. absurd (omega (arith, within)) }

-- one more entry of the form, whose name is none of those before it
pub named_grow : {A : Type 0} (most more : ℕ) (Form : A → Type 0) (name : A → List ℕ) (xs : List A) (x : A) → AreNamed most Form name xs → length xs + 1 ≤ more → Form x → is_among (name x) (map name xs) ≡ false
    → AreNamed more Form name (xs ++ x ∷ [])
named_grow most more Form name xs x so_far few form fresh =
    let longer = length_push xs x in
    record {
      few = omega (arith, few, longer);
      each = All-push Form xs x so_far.each form;
      distinct = AllPairs-push (λ a b. name a ≢ name b) xs x so_far.distinct (fresh_name name xs (name x) fresh);
    }

module _ {A D E : Type 0} (read : List A → D → Result A E) where
  -- what holds of the entries so far, and goes on at each entry that is read, holds of all
  pub in_order_keeps : (P : List A → Type 0) → ((before : List A) (d : D) (a : A) → P before → Ok a ≡ read before d → P (before ++ a ∷ [])) → (before : List A) (ds : List D) (all : List A) → P before → Ok all ≡ in_order read before ds → P all
  in_order_keeps P step before [] all so_far h = subst P (sym (ok_is all before h)) so_far
  in_order_keeps P step before (d ∷ ds) all so_far h =
      after (read before d) (λ a. in_order read (before ++ a ∷ []) ds) all h (λ a is rest. in_order_keeps P step (before ++ a ∷ []) ds all (step before d a so_far is) rest)

  -- there are as many values as entries
  pub in_order_count : (before : List A) (ds : List D) (all : List A) → Ok all ≡ in_order read before ds → length all ≡ length before + length ds
  in_order_count before [] all h = let same : length all ≡ length before = ap length (ok_is all before h) in omega (arith, same)
  in_order_count before (d ∷ ds) all h =
      after (read before d) (λ a. in_order read (before ++ a ∷ []) ds) all h (λ a is more.
      let rest = in_order_count (before ++ a ∷ []) ds all more in
      let longer = length_push before a in
      omega (arith, rest, longer))

  -- entries that are read one by one, each of a form and of a name of its own
  pub named_keep : (most : ℕ) (Form : A → Type 0) (name : A → List ℕ) → ((before : List A) (d : D) (a : A) → Ok a ≡ read before d → Form a × (is_among (name a) (map name before) ≡ false))
      → (ds : List D) (all : List A) → length ds ≤ most → Ok all ≡ in_order read [] ds → AreNamed most Form name all
  named_keep most Form name each ds all few h =
      let Kept : List A → Type 0 = λ xs. AreNamed (length xs) Form name xs in
      let step : (before : List A) (d : D) (a : A) → Kept before → Ok a ≡ read before d → Kept (before ++ a ∷ []) = λ before d a so_far reads.
      let e = each before d a reads in
      let longer = length_push before a in
      named_grow (length before) (length (before ++ a ∷ [])) Form name before a so_far (omega (arith, longer)) e.0 e.1 in
      let kept = in_order_keeps Kept step [] ds all (named_none 0 Form name) h in
      let count = in_order_count [] ds all h in
      record { few = omega (arith, few, count); each = kept.each; distinct = kept.distinct }
