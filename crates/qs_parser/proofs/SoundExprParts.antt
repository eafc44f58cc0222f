-- Expressions at a place, and expressions in brackets, are read as they are spelled.
use Rattle.std.proofs.Common.{◌≡◌, ℕ, ◌+◌, max, List, [], ◌∷◌, ◌++◌, map, codes, Option, Some, None, refl, sym, ap, subst, ◌∙◌, arith}
use Rattle.qs_values.specs.declared.span.Span.{Span}
use Rattle.qs_lexer.specs.declared.token.Token.{Token}
use Rattle.qs_tree.specs.declared.expr.Expr.{Expr}
use Rattle.qs_tree.specs.declared.expr.ExprKind.{ExprKind}
use Rattle.qs_tree.specs.Spelling.{Piece, at_place, in_round, sign, spell, spell_kind, with_commas}
use Rattle.qs_tree.specs.WellFormed.{Features, all, in_brackets, of_expr, of_kind, primary_level}
use Rattle.qs_tree.proofs.Spelled.{spell-Expr}
use Rattle.qs_parser.specs.steps.Tokens.{Readers, Reads, after_sign, renewed}
use Rattle.qs_parser.specs.steps.Expressions.{args_at, args_to, closed, enclosed, placed}
use Rattle.qs_parser.proofs.Featured.{features-Expr}
use Rattle.qs_parser.proofs.TokenPieces.{Took, took_placed, took_then}
use Rattle.qs_parser.proofs.SoundParts.{Counted, Holds, Read, counted_brackets, counted_nothing, holds_bind, holds_sign, holds_some, holds_with}
use Rattle.qs_parser.proofs.SoundLists.{sound-commas}
use Rattle.qs_parser.proofs.SoundReaders.{BeginsAt, IsSoundBelow, OneDeeper, ReadExpr}

-- what is read, by what it is
pub read_as : {ps qs : List Piece} {f g : Features} {d renew left after : ℕ} {ts rest : List Token} → qs ≡ ps → g ≡ f → Took ps ts rest → Counted f d renew left after → Read qs g d renew left ts after rest
read_as {d = d} {renew = renew} {left = left} {after = after} {ts = ts} {rest = rest} p q t c = record { took = subst (λ (x : List Piece). Took x ts rest) (sym p) t; counted = subst (λ (x : Features). Counted x d renew left after) (sym q) c }

-- what begins at the first token
pub took_at_place : (place : Span) (ps : List Piece) (ts rest : List Token) → BeginsAt place ts → Took ps ts rest → Took (at_place place ps) ts rest
took_at_place place ps [] rest h t = absurd h
took_at_place place ps (u ∷ us) rest h t = subst (λ (x : Span). Took (at_place x ps) (u ∷ us) rest) h (took_placed ps u us rest t)

-- what an expression that binds most tightly is
pub record ReadKind (d left : ℕ) (ts : List Token) (y : ExprKind × ℕ × List Token) : Type 0 where
  pub read : Read (spell_kind y.0) (of_kind y.0) d 0 left ts y.1 y.2
  pub level : (of_kind y.0).level ≡ primary_level

pub kind_as : {k : ExprKind} {ps : List Piece} {f : Features} {d left after : ℕ} {ts rest : List Token} → spell_kind k ≡ ps → of_kind k ≡ f → Took ps ts rest → Counted f d 0 left after → f.level ≡ primary_level → ReadKind d left ts (k, after, rest)
kind_as p q t c e = record { read = read_as p q t c; level = ap (λ (f : Features). f.level) q ∙ e }

-- an expression at the place where it begins
pub read_placed : (place : Span) (k : ExprKind) (d left after : ℕ) (ts rest : List Token) → BeginsAt place ts → Read (spell_kind k) (of_kind k) d 0 left ts after rest → Read (spell (placed place k)) (of_expr (placed place k)) d 0 left ts after rest
read_placed place k d left after ts rest h r = read_as (spell-Expr (placed place k)) (features-Expr (placed place k)) (took_at_place place (spell_kind k) ts rest h r.took)
    (record {
      follows = r.counted.follows;
      depth = r.counted.depth;
      spent = record {
        inside = r.counted.spent.inside;
        whole = λ e. let s : left ≡ after + (of_kind k).operators = r.counted.spent.inside refl in (omega arith, omega arith);
      };
    })

pub level_placed : (place : Span) (k : ExprKind) → (of_expr (placed place k)).level ≡ (of_kind k).level
level_placed place k = ap (λ (f : Features). f.level) (features-Expr (placed place k))

-- an expression has as many operators as any expression of it, at most
most_is : (e : Expr) → (of_expr e).most_operators ≡ (of_expr e).operators
most_is e = subst (λ (f : Features). f.most_operators ≡ f.operators) (sym (features-Expr e)) refl

counted_renewed : (f : Features) (d renew left after : ℕ) → f.most_operators ≡ f.operators → Counted f d 0 left after → Counted f d renew left (max after renew)
counted_renewed f d renew left after m c =
    let s : left ≡ after + f.operators = c.spent.inside refl in
    record {
      follows = c.follows;
      depth = c.depth;
      spent = record { inside = λ e. omega arith; whole = λ e. (omega arith, omega arith) };
    }

-- an expression, after which as many operators may come as before it
pub sound-renewed : {levels d left : ℕ} {ts : List Token} (renew : ℕ) (r : Reads Expr) → Holds r (ReadExpr levels d left ts) → Holds (renewed renew r) (λ y. Read (spell y.0) (of_expr y.0) d renew left ts y.1 y.2)
sound-renewed renew None h = record { is = tt }
sound-renewed {d = d} {left = left} renew (Some e) h = holds_some (e.0, max e.1 renew, e.2) (record { took = h.is.read.took; counted = counted_renewed (of_expr e.0) d renew left e.1 (most_is e.0) h.is.read.counted })

-- ---- brackets

pub sound-closed : (text : List ℕ) (below : Option Readers) (d renew : ℕ) → IsSoundBelow d below → (left : ℕ) (ts : List Token) → Holds (closed text below renew left ts) (λ y. Read (spell y.0 ++ sign text) (in_brackets (of_expr y.0)) d renew left ts y.1 y.2)
unfolding closed
sound-closed text below d renew h left ts =
    holds_bind h (λ b one.
    holds_bind (sound-renewed renew (b.expr left ts) (one.sound.expr left ts)) (λ e r.
    holds_bind (holds_sign text e.2) (λ rest t.
    holds_some (e.0, e.1, rest) (record { took = took_then r.took t; counted = counted_brackets one.room r.counted }))))

pub sound-enclosed : (before after : List ℕ) (below : Option Readers) (d renew : ℕ) → IsSoundBelow d below → (left : ℕ) (ts : List Token) → Holds (enclosed before after below renew left ts) (λ y. Read (sign before ++ spell y.0 ++ sign after) (in_brackets (of_expr y.0)) d renew left ts y.1 y.2)
unfolding enclosed
sound-enclosed before after below d renew h left ts =
    holds_bind (holds_sign before ts) (λ rest s.
    holds_with (sound-closed after below d renew h left rest) (λ y r.
    record { took = took_then s r.took; counted = r.counted }))

sound-args_to : (r : Option (List Token)) (b : Readers) (d renew left : ℕ) (ts : List Token) → OneDeeper d b → Holds r (λ rest. Took (sign (codes ")")) ts rest) → Holds (args_to r b renew left ts) (λ y. Read (with_commas (map spell y.0) ++ sign (codes ")")) (in_brackets (all (map of_expr y.0))) d renew left ts y.1 y.2)
unfolding args_to
sound-args_to (Some after) b d renew left ts one h = holds_some ([], left, after) (record { took = h.is; counted = counted_brackets one.room counted_nothing })
sound-args_to None b d renew left ts one h =
    holds_bind (sound-commas spell of_expr one.e renew (λ l us. renewed renew (b.expr l us)) (λ l us. sound-renewed renew (b.expr l us) (one.sound.expr l us)) left ts) (λ es m.
    holds_bind (holds_sign (codes ")") es.2) (λ after t.
    holds_some (es.0, es.1, after) (record { took = took_then m.read.took t; counted = counted_brackets one.room m.read.counted })))

pub sound-args_at : (below : Option Readers) (d renew : ℕ) → IsSoundBelow d below → (left : ℕ) (ts : List Token) → Holds (args_at below renew left ts) (λ y. Read (in_round (with_commas (map spell y.0))) (in_brackets (all (map of_expr y.0))) d renew left ts y.1 y.2)
unfolding args_at
sound-args_at below d renew h left ts =
    holds_bind (holds_sign (codes "(") ts) (λ rest s.
    holds_bind h (λ b one.
    holds_with (sound-args_to (after_sign (codes ")") rest) b d renew left rest one (holds_sign (codes ")") rest)) (λ y r.
    record { took = took_then s r.took; counted = r.counted })))
