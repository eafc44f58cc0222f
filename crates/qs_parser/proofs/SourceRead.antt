-- What `parse` answers by the version, the statements and the rest that are read.
use Rattle.std.proofs.Common.{◌≡◌, ℕ, List, [], ◌∷◌, length, Option, Result, Ok, Err, sym, subst}
use Rattle.qs_lexer.specs.declared.token.Token.{Token}
use Rattle.qs_tree.specs.declared.source.Source.{Source}
use Rattle.qs_tree.specs.declared.statement.Stmt.{Stmt}
use Rattle.qs_parser.specs.declared.refusal.ParseRefusal.{ParseRefusal}
use Rattle.qs_parser.specs.Language.{ParseIs}
use Rattle.qs_parser.specs.steps.Sources.{refusal_of, statements_at, version_at}
use Rattle.qs_parser.proofs.CompleteOnce.{read_parses}

-- the answer
abbrev answer_by : List Token → Option (List ℕ) × List Token → List Stmt × List Token → Result Source ParseRefusal
answer_by tokens v b = elim b.1 [ [] ↦ Ok (record { version = v.0; body = b.0 }) | t ∷ ts ↦ Err (refusal_of tokens t (t ∷ ts)) ]

answered_by : (tokens : List Token) (v : Option (List ℕ) × List Token) (b : List Stmt × List Token) → v ≡ version_at tokens → b ≡ statements_at (length tokens) v.1 → ParseIs tokens (answer_by tokens v b)
answered_by tokens v b e f =
    subst (λ (x : List Stmt × List Token). ParseIs tokens (answer_by tokens v x)) (sym f) (subst (λ (x : Option (List ℕ) × List Token). ParseIs tokens (answer_by tokens x (statements_at (length tokens) x.1))) (sym e) (read_parses tokens))

-- the tree, where nothing is left
pub tree_parsed : (tokens first rest : List Token) (version : Option (List ℕ)) (body : List Stmt) → (version, first) ≡ version_at tokens → (body, rest) ≡ statements_at (length tokens) first → rest ≡ [] → ParseIs tokens (Ok (record { version = version; body = body }))
tree_parsed tokens first rest version body e f n = subst (λ (us : List Token). ParseIs tokens (answer_by tokens (version, first) (body, us))) n (answered_by tokens (version, first) (body, rest) e f)

-- the refusal, by the first token that is left
pub refusal_parsed : (tokens first rest : List Token) (version : Option (List ℕ)) (body : List Stmt) (t : Token) (ts : List Token) (refusal : ParseRefusal) → (version, first) ≡ version_at tokens → (body, rest) ≡ statements_at (length tokens) first → rest ≡ t ∷ ts → refusal ≡ refusal_of tokens t rest → ParseIs tokens (Err refusal)
refusal_parsed tokens first rest version body t ts refusal e f n r =
    subst (λ (x : ParseRefusal). ParseIs tokens (Err x)) (sym r)
    (subst (λ (us : List Token). ParseIs tokens (Err (refusal_of tokens t us))) (sym n) (subst (λ (us : List Token). ParseIs tokens (answer_by tokens (version, first) (body, us))) n (answered_by tokens (version, first) (body, rest) e f)))
