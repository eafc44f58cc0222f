-- Lists with commas between, and expressions in brackets, are read where they are spelled.
use Rattle.std.proofs.Common.{◌≡◌, ℕ, zero, suc, ◌+◌, ◌-◌, ◌≤◌, max, Bool, true, false, cond, codes, List, [], ◌∷◌, ◌++◌, length, map, Option, Some, None, refl, sym, ap, subst, ◌∙◌, append_assoc, length-append, arith, inl, inr}
use Rattle.std.specs.Prelude.{nat_eq}
use Rattle.std.specs.Str.{bytes_eq}
use Rattle.std.proofs.lemmas.Bool.{and_parts}
use Rattle.qs_lexer.specs.declared.token.Token.{Token}
use Rattle.qs_lexer.specs.declared.token.TokenKind.TheVariants as kind
use Rattle.qs_tree.specs.declared.expr.Expr.{Expr}
use Rattle.qs_tree.specs.Spelling.{Piece, Sign, Spells, sign, spell, with_commas, after_commas as spell_after_commas}
use Rattle.qs_tree.specs.WellFormed.{Features, all, both, in_brackets, is_some, nothing, of_expr, where_true}
use Rattle.qs_parser.specs.steps.Tokens.{◌>>=◌, Readers, Reads, after_commas, after_sign, begins_sign, commas, renewed}
use Rattle.qs_parser.specs.steps.Expressions.{bin_op, bin_op_at, closed, enclosed}
use Rattle.qs_parser.proofs.TokenPieces.{Left, Split, after_sign_at, no_sign_after, sign_of_piece, spells_split, nothing_spelled}
use Rattle.qs_parser.proofs.Spent.{Spent, spent_split}
use Rattle.qs_parser.proofs.Featured.{features-Expr}
use Rattle.qs_parser.proofs.Complete.{Closes, ClosesExpr, Fits, IsComplete, IsCompleteBelow}

-- ---- parts and how many operators may come

pub fits_nothing : {d renew left after : ℕ} → Fits nothing d renew left after → left ≡ after
fits_nothing {left = left} {after = after} h = from h.spent
  where
    from : {renew : ℕ} → Spent renew left after 0 0 → left ≡ after
    from (inl e) = omega (arith, e.1)
    from (inr e) = omega (arith, e.0, e.1)

-- two parts, one after the other
pub record FitsBetween (f g : Features) (d renew left after : ℕ) : Type 0 where
  pub between : ℕ
  pub first : Fits f d renew left between
  pub second : Fits g d renew between after

pub fits_both : (f g : Features) (d renew left after : ℕ) → Fits (both f g) d renew left after → FitsBetween f g d renew left after
fits_both f g d renew left after h =
    let s = spent_split renew left after f.operators f.most_operators g.operators g.most_operators h.spent in
    let p = and_parts f.follows g.follows h.follows in
    record {
      between = s.between;
      first = record { follows = p.0; depth = omega (arith, h.depth); spent = s.first };
      second = record { follows = p.1; depth = omega (arith, h.depth); spent = s.second };
    }

-- a part with a rule
pub fits_where : {f : Features} {d renew left after : ℕ} (rule : Bool) → Fits (where_true rule f) d renew left after → (rule ≡ true) × Fits f d renew left after
fits_where {f = f} rule h = let p = and_parts rule f.follows h.follows in (p.0, record { follows = p.1; depth = h.depth; spent = h.spent })

-- a part by what it is
pub fits_as : {f g : Features} {d renew left after : ℕ} → f ≡ g → Fits f d renew left after → Fits g d renew left after
fits_as {d = d} {renew = renew} {left = left} {after = after} e h = subst (λ (x : Features). Fits x d renew left after) e h

-- the readers one construct deeper, where brackets stand
pub record Inside (f : Features) (d : ℕ) (below : Option Readers) (renew left after : ℕ) : Type 0 where
  pub deeper : ℕ
  pub readers : Readers
  pub is : below ≡ Some readers
  pub complete : IsComplete deeper readers
  pub fits : Fits f deeper renew left after

pub inside : (f : Features) (d : ℕ) (below : Option Readers) (renew left after : ℕ) → IsCompleteBelow d below → Fits (in_brackets f) d renew left after → Inside f d below renew left after
inside f zero below renew left after h g = absurd (omega (arith, g.depth))
inside f (suc d) None renew left after h g = absurd h
inside f (suc d) (Some b) renew left after h g = record { deeper = d; readers = b; is = refl; complete = h; fits = record { follows = g.follows; depth = omega (arith, g.depth); spent = g.spent } }

-- ---- what closes an expression

-- a sign that is no operator of a level, and no bracket that opens
pub record IsClose (text : List ℕ) : Type 0 where
  pub square : bytes_eq text (codes "[") ≡ false
  pub round : bytes_eq text (codes "(") ≡ false
  pub power : bytes_eq text (codes "**") ≡ false
  pub operators : (k : ℕ) → bin_op k text ≡ None

pub none_or : {A : Type 0} (b : Bool) (y : Option A) → y ≡ None → cond b None y ≡ None
none_or true y e = refl
none_or false y e = e

none_of_ten : {A : Type 0} (k : ℕ) → cond {A = Option A} (nat_eq k 0) None (cond (nat_eq k 1) None (cond (nat_eq k 2) None (cond (nat_eq k 3) None (cond (nat_eq k 4) None (cond (nat_eq k 5) None (cond (nat_eq k 6) None (cond (nat_eq k 7) None (cond (nat_eq k 8) None (cond (nat_eq k 9) None None))))))))) ≡ None
none_of_ten k = none_or (nat_eq k 0) _ (none_or (nat_eq k 1) _ (none_or (nat_eq k 2) _ (none_or (nat_eq k 3) _ (none_or (nat_eq k 4) _ (none_or (nat_eq k 5) _ (none_or (nat_eq k 6) _ (none_or (nat_eq k 7) _ (none_or (nat_eq k 8) _ (none_or (nat_eq k 9) _ refl)))))))))

pub close_round : IsClose (codes ")")
close_round = record { square = refl; round = refl; power = refl; operators = λ k. none_of_ten k }

pub close_square : IsClose (codes "]")
close_square = record { square = refl; round = refl; power = refl; operators = λ k. none_of_ten k }

pub close_brace : IsClose (codes "}")
close_brace = record { square = refl; round = refl; power = refl; operators = λ k. none_of_ten k }

pub close_comma : IsClose (codes ",")
close_comma = record { square = refl; round = refl; power = refl; operators = λ k. none_of_ten k }

pub close_semicolon : IsClose (codes ";")
close_semicolon = record { square = refl; round = refl; power = refl; operators = λ k. none_of_ten k }

pub close_colon : IsClose (codes ":")
close_colon = record { square = refl; round = refl; power = refl; operators = λ k. none_of_ten k }

-- an operator of a sign that is spelled
pub bin_op_at_sign : (k : ℕ) (text : List ℕ) (t : Token) (ts : List Token) → t.kind ≡ kind.Sign → t.text ≡ text → bin_op_at k (t ∷ ts) ≡ (bin_op k text >>= λ op. Some (op, ts))
bin_op_at_sign k text t ts e f = rw (e, f) refl

pub closes_at : (text : List ℕ) → IsClose text → (levels : ℕ) (ps : List Piece) (front rest : List Token) → Spells (sign text ++ ps) front → Closes levels (front ++ rest)
closes_at text c levels ps [] rest h = absurd h
closes_at text c levels ps (t ∷ ts) rest h = record {
  square = sign_of_piece (codes "[") (Sign text) t h.0.0 ∙ c.square;
  round = sign_of_piece (codes "(") (Sign text) t h.0.0 ∙ c.round;
  power = sign_of_piece (codes "**") (Sign text) t h.0.0 ∙ c.power;
  operators = λ k w. bin_op_at_sign k text t (ts ++ rest) h.0.0.0 h.0.0.1 ∙ ap (λ (o : Option _). o >>= λ op. Some (op, ts ++ rest)) (c.operators k);
}

-- whether tokens begin with another sign than the one that is spelled
pub begins_other : (text other : List ℕ) (ps : List Piece) (front rest : List Token) → Spells (sign text ++ ps) front → begins_sign other (front ++ rest) ≡ bytes_eq text other
begins_other text other ps [] rest h = absurd h
begins_other text other ps (t ∷ ts) rest h = sign_of_piece other (Sign text) t h.0.0

-- ---- expressions that are read with the operators that may come

-- an expression has as many operators as any expression of it, at most
pub most_is : (e : Expr) → (of_expr e).most_operators ≡ (of_expr e).operators
most_is e = subst (λ (f : Features). f.most_operators ≡ f.operators) (sym (features-Expr e)) refl

pub complete-renewed : (d : ℕ) (b : Readers) → IsComplete d b → (e : Expr) (renew left after : ℕ) (front rest : List Token) → Fits (of_expr e) d renew left after → Spells (spell e) front → ClosesExpr rest → renewed renew (b.expr left (front ++ rest)) ≡ Some (e, after, rest)
complete-renewed d b h e renew left after front rest f s c = from f.spent
  where
    with_most : (fewer : ℕ) → left ≡ fewer + (of_expr e).operators → max fewer renew ≡ after → renewed renew (b.expr left (front ++ rest)) ≡ Some (e, after, rest)
    with_most fewer p q = rw (h.expr e left fewer front rest f.follows f.depth p s c, q) refl

    from : Spent renew left after (of_expr e).operators (of_expr e).most_operators → renewed renew (b.expr left (front ++ rest)) ≡ Some (e, after, rest)
    from (inl p) = with_most after p.1 (omega (arith, p.0))
    from (inr p) =
        let m : (of_expr e).operators ≤ renew = omega (arith, most_is e, p.2) in
        with_most (renew - (of_expr e).operators) (omega (arith, p.0, m)) (omega (arith, p.1))

-- ---- lists with commas

-- a reader of one of them, where what may stand after it does
abbrev pub IsCompleteItem : {A : Type 0} → (A → List Piece) → (A → Features) → (List Token → Type 0) → (d renew : ℕ) → ((left : ℕ) → List Token → Reads A) → Type 0
IsCompleteItem {A = A} spelled features Ends d renew item = (x : A) (left after : ℕ) (front rest : List Token) → Fits (features x) d renew left after → Spells (spelled x) front → Ends rest → item left (front ++ rest) ≡ Some (x, after, rest)

-- a comma may stand after it
abbrev pub CommaEnds : (List Token → Type 0) → Type 0
CommaEnds Ends = (ps : List Piece) (front rest : List Token) → Spells (sign (codes ",") ++ ps) front → Ends (front ++ rest)

ends_after : (Ends : List Token → Type 0) → CommaEnds Ends → (pss : List (List Piece)) (front rest : List Token) → Spells (spell_after_commas pss) front → Ends rest → Ends (front ++ rest)
ends_after Ends h [] [] rest s e = e
ends_after Ends h [] (t ∷ ts) rest s e = absurd s
ends_after Ends h (ps ∷ pss) front rest s e = h (ps ++ spell_after_commas pss) front rest s

pub complete-after_commas : {A : Type 0} (spelled : A → List Piece) (features : A → Features) (Ends : List Token → Type 0) (d renew : ℕ) (item : (left : ℕ) → List Token → Reads A) → IsCompleteItem spelled features Ends d renew item → CommaEnds Ends → (xs : List A) (n left after : ℕ) (front rest : List Token) → length xs ≤ n → Fits (all (map features xs)) d renew left after → Spells (spell_after_commas (map spelled xs)) front → Ends rest → begins_sign (codes ",") rest ≡ false → after_commas n item left (front ++ rest) ≡ Some (xs, after, rest)
unfolding after_commas
complete-after_commas spelled features Ends d renew item h k [] zero left after [] rest l f s e c = rw (fits_nothing f) refl
complete-after_commas spelled features Ends d renew item h k [] (suc n) left after [] rest l f s e c = rw (after_commas, no_sign_after (codes ",") rest c, fits_nothing f) refl
complete-after_commas spelled features Ends d renew item h k [] n left after (t ∷ ts) rest l f s e c = absurd s
complete-after_commas spelled features Ends d renew item h k (x ∷ xs) zero left after front rest l f s e c = absurd (omega (arith, l))
complete-after_commas spelled features Ends d renew item h k (x ∷ xs) (suc n) left after front rest l f s e c =
    let one : Left (spelled x ++ spell_after_commas (map spelled xs)) (after_sign (codes ",") (front ++ rest)) rest = after_sign_at (codes ",") _ front rest s in
    let two : Split (spelled x) (spell_after_commas (map spelled xs)) one.front = spells_split _ _ one.front one.spells in
    let fs = fits_both (features x) (all (map features xs)) d renew left after f in
    let is : one.front ++ rest ≡ two.front ++ (two.after ++ rest) = ap (λ (us : List Token). us ++ rest) two.is ∙ append_assoc two.front two.after rest in
    let first : item left (one.front ++ rest) ≡ Some (x, fs.between, two.after ++ rest) = ap (item left) is ∙ h x left fs.between two.front (two.after ++ rest) fs.first two.spells_front (ends_after Ends k (map spelled xs) two.after rest two.spells_after e) in
    let more : after_commas n item fs.between (two.after ++ rest) ≡ Some (xs, after, rest) = complete-after_commas spelled features Ends d renew item h k xs n fs.between after two.after rest (omega (arith, l)) fs.second two.spells_after e c in
    rw (after_commas, one.is, first, more) refl

-- as many tokens as what they spell, at least
commas_length : {A : Type 0} (spelled : A → List Piece) (xs : List A) (front : List Token) → Spells (spell_after_commas (map spelled xs)) front → length xs ≤ length front
commas_length spelled [] front s = omega arith
commas_length spelled (x ∷ xs) [] s = absurd s
commas_length spelled (x ∷ xs) (t ∷ ts) s =
    let two = spells_split (spelled x) (spell_after_commas (map spelled xs)) ts s.1 in
    omega (arith, commas_length spelled xs two.after two.spells_after, ap length two.is, length-append two.front two.after)

pub complete-commas : {A : Type 0} (spelled : A → List Piece) (features : A → Features) (Ends : List Token → Type 0) (d renew : ℕ) (item : (left : ℕ) → List Token → Reads A) → IsCompleteItem spelled features Ends d renew item → CommaEnds Ends → (xs : List A) (left after : ℕ) (front rest : List Token) → is_some (map features xs) ≡ true → Fits (all (map features xs)) d renew left after → Spells (with_commas (map spelled xs)) front → Ends rest → begins_sign (codes ",") rest ≡ false → commas item left (front ++ rest) ≡ Some (xs, after, rest)
complete-commas spelled features Ends d renew item h k [] left after front rest i f s e c = absurd cc
complete-commas spelled features Ends d renew item h k (x ∷ xs) left after front rest i f s e c =
    let two : Split (spelled x) (spell_after_commas (map spelled xs)) front = spells_split _ _ front s in
    let fs = fits_both (features x) (all (map features xs)) d renew left after f in
    let is : front ++ rest ≡ two.front ++ (two.after ++ rest) = ap (λ (us : List Token). us ++ rest) two.is ∙ append_assoc two.front two.after rest in
    let first : item left (front ++ rest) ≡ Some (x, fs.between, two.after ++ rest) = ap (item left) is ∙ h x left fs.between two.front (two.after ++ rest) fs.first two.spells_front (ends_after Ends k (map spelled xs) two.after rest two.spells_after e) in
    let enough : length xs ≤ length (two.after ++ rest) = omega (arith, commas_length spelled xs two.after two.spells_after, length-append two.after rest) in
    let more : after_commas (length (two.after ++ rest)) item fs.between (two.after ++ rest) ≡ Some (xs, after, rest) = complete-after_commas spelled features Ends d renew item h k xs (length (two.after ++ rest)) fs.between after two.after rest enough fs.second two.spells_after e c in
    rw (first, more) refl

-- ---- brackets

-- the last sign that is spelled
pub after_last : (text : List ℕ) (front rest : List Token) → Spells (sign text) front → after_sign text (front ++ rest) ≡ Some rest
after_last text front rest s = from (after_sign_at text [] front rest s)
  where
    from : Left [] (after_sign text (front ++ rest)) rest → after_sign text (front ++ rest) ≡ Some rest
    from l = l.is ∙ ap (λ (us : List Token). Some (us ++ rest)) (nothing_spelled l.front l.spells)

pub complete-closed : (text : List ℕ) → IsClose text → (e : Expr) (below : Option Readers) (d renew left after : ℕ) (front rest : List Token) → IsCompleteBelow d below → Fits (in_brackets (of_expr e)) d renew left after → Spells (spell e ++ sign text) front → closed text below renew left (front ++ rest) ≡ Some (e, after, rest)
unfolding closed
complete-closed text c e below d renew left after front rest h f s =
    let i = inside (of_expr e) d below renew left after h f in
    let two : Split (spell e) (sign text) front = spells_split _ _ front s in
    let is : front ++ rest ≡ two.front ++ (two.after ++ rest) = ap (λ (us : List Token). us ++ rest) two.is ∙ append_assoc two.front two.after rest in
    let first : renewed renew (i.readers.expr left (front ++ rest)) ≡ Some (e, after, two.after ++ rest) = ap (λ (us : List Token). renewed renew (i.readers.expr left us)) is ∙ complete-renewed i.deeper i.readers i.complete e renew left after two.front (two.after ++ rest) i.fits two.spells_front (closes_at text c 10 [] two.after rest two.spells_after) in
    rw (closed, i.is, first, after_last text two.after rest two.spells_after) refl

pub complete-enclosed : (before text : List ℕ) → IsClose text → (e : Expr) (below : Option Readers) (d renew left after : ℕ) (front rest : List Token) → IsCompleteBelow d below → Fits (in_brackets (of_expr e)) d renew left after → Spells (sign before ++ spell e ++ sign text) front → enclosed before text below renew left (front ++ rest) ≡ Some (e, after, rest)
unfolding enclosed
complete-enclosed before text c e below d renew left after front rest h f s =
    let one : Left (spell e ++ sign text) (after_sign before (front ++ rest)) rest = after_sign_at before _ front rest s in
    rw (enclosed, one.is, complete-closed text c e below d renew left after one.front rest h f one.spells) refl
