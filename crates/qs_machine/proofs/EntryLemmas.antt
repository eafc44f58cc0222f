-- The members of an object beside the entries of the map that holds them.
use Rattle.std.specs.Prelude.{⊤}
use Rattle.std.proofs.Common.{◌≡◌, ◌∙◌, sym, subst, Result, Ok, Err, Some, append_assoc, ℕ, List, [], ◌∷◌, ◌++◌, map, refl, ap, String, Global, string_bytes, string_cmp, nat_cmp, Less}
use Rattle.std.specs.Cmp.Lexicographic.{slice_cmp}
use Rattle.std.specs.List.{AllByRecursion}
use Rattle.std.specs.List.Sorted.{IsStrictlySortedBy}
use Rattle.std.specs.Map.{keys_of}
use Rattle.serde_json.specs.Data.{Data, Members}
use Rattle.serde_json.specs.Find.{get, as_object}
use Rattle.std.specs.Option.{option_map, ok_or, option_map_or}
use Rattle.serde_json.specs.View.{view, members_view}
use Rattle.serde_json.specs.declared.value.Value.{Value}
use Rattle.qs_machine.specs.declared.refusal.Field.TheVariants.{Families}
use Rattle.qs_machine.specs.declared.refusal.Part.TheVariants.{Whole}
use Rattle.qs_machine.specs.declared.refusal.MachineRefusal.TheVariants.{FieldWrong}
use Rattle.qs_machine.specs.Refused.{key_of}
use Rattle.qs_machine.specs.Steps.{◌>>=◌, in_order, judged, IsUnlessMemory}
use Rattle.qs_machine.specs.Table.{optional}
use Rattle.qs_machine.specs.Values.{entries_of, entries_in}
use Rattle.qs_machine.proofs.Exits.{sure, bind_unless}
use Rattle.qs_machine.proofs.NameLemmas.{map-append}
use Rattle.qs_machine.specs.Limits.{AreInByteOrder}

abbrev pub Held : Type 0
Held = String Global × Value

-- a key's bytes and a value's data
abbrev pub seen : Held → List ℕ × Data
seen e = (string_bytes e.0, view e.1)

pub entries_of-members_view : (es : List Held) → entries_of (members_view es) ≡ map seen es
entries_of-members_view [] = refl
entries_of-members_view (e ∷ es) = ap (λ rest. seen e ∷ rest) (entries_of-members_view es)

below_all : (k : String Global) (es : List Held) → AllByRecursion (λ y. string_cmp k y ≡ Less) (keys_of es) → AllByRecursion (λ y. slice_cmp nat_cmp (string_bytes k) y ≡ Less) (map (λ e. string_bytes e.0) es)
below_all k [] h = tt
below_all k (e ∷ es) h = (h.0, below_all k es h.1)

-- the keys of a map stand in the order of their bytes
pub keys_in_order : (es : List Held) → IsStrictlySortedBy string_cmp (keys_of es) → AreInByteOrder (map (λ e. string_bytes e.0) es)
unfolding IsStrictlySortedBy
keys_in_order [] h = tt
keys_in_order (e ∷ es) h = (below_all e.0 es h.0, keys_in_order es h.1)

pub no_names_in_order : AreInByteOrder []
unfolding IsStrictlySortedBy
no_names_in_order = tt

-- the entries of a field that is there
pub entries_there : (table d : Data) (ms : Members) (es : List (List ℕ × Data)) → Some d ≡ get (key_of Families) table → Some ms ≡ as_object d → entries_of ms ≡ es → Ok es ≡ optional Families [] entries_in table
entries_there table d ms es there is same =
    ap Ok (sym same)
    ∙ ap (λ o. ok_or (option_map entries_of o) (FieldWrong Families Whole)) is
    ∙ ap (λ o. option_map_or (λ v. ok_or (entries_in v) (FieldWrong Families Whole)) o (Ok [])) there

module _ {A E : Type 0} (read : List A → List ℕ × Data → Result A E) where
  next_of : List A → List Held → A → Result (List A) E
  next_of before rest a = in_order read (before ++ a ∷ []) (map seen rest)

  at_first : (whole : Result (List A) E) (before : List A) (es rest : List Held) (e : Held) → whole ≡ in_order read before (map seen es) → es ≡ e ∷ rest
      → whole ≡ (read before (seen e) >>= next_of before rest)
  unfolding next_of
  at_first whole before es rest e so_far is = so_far ∙ ap (λ l. in_order read before (map seen l)) is

  -- the next entry is read, and goes to the end of the list
  pub entries_grow : (memory : E) (whole : Result (List A) E) (before after : List A) (es rest : List Held) (e : Held) (a : A) → whole ≡ in_order read before (map seen es) → es ≡ e ∷ rest
      → IsUnlessMemory memory (read before (seen e)) (Ok a) → after ≡ before ++ a ∷ [] → whole ≡ in_order read after (map seen rest)
  unfolding next_of
  entries_grow memory whole before after es rest e a so_far is reads longer =
      at_first whole before es rest e so_far is ∙ ap (λ r. r >>= next_of before rest) (sym (sure memory _ a reads)) ∙ ap (λ ys. in_order read ys (map seen rest)) (sym longer)

  -- the next entry is refused, or memory is out there
  pub entries_halt : (memory : E) (whole : Result (List A) E) (before : List A) (es rest : List Held) (e : Held) (refusal : E) → whole ≡ in_order read before (map seen es) → es ≡ e ∷ rest
      → IsUnlessMemory {A = A} memory (read before (seen e)) (Err refusal) → IsUnlessMemory {A = List A} memory whole (Err refusal)
  entries_halt memory whole before es rest e refusal so_far is reads =
      subst (λ w. IsUnlessMemory memory w (Err refusal)) (sym (at_first whole before es rest e so_far is)) (bind_unless memory (read before (seen e)) refusal (next_of before rest) reads)

-- the names so far, with the keys that are left, are all the keys
pub order_next : {A : Type 0} (name : A → List ℕ) (before after : List A) (es rest : List Held) (e : Held) (a : A) → AreInByteOrder (map name before ++ map (λ x. string_bytes x.0) es)
    → es ≡ e ∷ rest → name a ≡ string_bytes e.0 → after ≡ before ++ a ∷ [] → AreInByteOrder (map name after ++ map (λ x. string_bytes x.0) rest)
order_next name before after es rest e a order is named longer =
    let keys : List Held → List (List ℕ) = λ l. map (λ x. string_bytes x.0) l in
    let same : map name before ++ keys es ≡ map name after ++ keys rest =
    ap (λ l. map name before ++ keys l) is
    ∙ ap (λ k. map name before ++ k ∷ keys rest) (sym named)
    ∙ sym (append_assoc (map name before) (name a ∷ []) (keys rest))
    ∙ ap (λ ns. ns ++ keys rest) (sym (map-append name before (a ∷ [])))
    ∙ ap (λ l. map name l ++ keys rest) (sym longer) in
    subst AreInByteOrder same order

module _ {E : Type 0} (judge : List ℕ × Data → Result ⊤ E) where
  -- the next entry passes
  pub judged_next : (memory : E) (whole : Result ⊤ E) (es rest : List Held) (e : Held) → whole ≡ judged judge (map seen es) → es ≡ e ∷ rest → IsUnlessMemory memory (judge (seen e)) (Ok tt) → whole ≡ judged judge (map seen rest)
  judged_next memory whole es rest e so_far is passes =
      so_far ∙ ap (λ l. judged judge (map seen l)) is ∙ ap (λ r. r >>= (λ _. judged judge (map seen rest))) (sym (sure memory _ tt passes))

  -- the next entry is refused, or memory is out there
  pub judged_halt : (memory : E) (whole : Result ⊤ E) (es rest : List Held) (e : Held) (refusal : E) → whole ≡ judged judge (map seen es) → es ≡ e ∷ rest → IsUnlessMemory memory (judge (seen e)) (Err refusal)
      → IsUnlessMemory memory whole (Err refusal)
  judged_halt memory whole es rest e refusal so_far is refused =
      let stopped : whole ≡ (judge (seen e) >>= (λ _. judged judge (map seen rest))) = so_far ∙ ap (λ l. judged judge (map seen l)) is in
      subst (λ w. IsUnlessMemory memory w (Err refusal)) (sym stopped) (bind_unless memory (judge (seen e)) refusal (λ _. judged judge (map seen rest)) refused)
