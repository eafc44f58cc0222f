-- Statements are read as they are spelled.
use Rattle.std.proofs.Common.{◌≡◌, ℕ, true, false, List, [], ◌∷◌, codes, Option, ap, ◌∙◌}
use Rattle.std.specs.Str.{bytes_eq}
use Rattle.qs_values.specs.Names.{is_name}
use Rattle.qs_lexer.specs.declared.token.Token.{Token}
use Rattle.qs_lexer.specs.declared.token.TokenKind.TheVariants as kind
use Rattle.qs_tree.specs.declared.statement.Stmt.{Stmt}
use Rattle.qs_tree.specs.WellFormed.{Features, may_nest}
use Rattle.qs_tree.proofs.Spelled.{spell-Stmt}
use Rattle.qs_parser.specs.steps.Tokens.{Readers, has_word}
use Rattle.qs_parser.specs.steps.Expressions.{type_word}
use Rattle.qs_parser.specs.steps.Statements.{is_assigned, is_modifier, named_stmt, stmt_at, stmt_of}
use Rattle.qs_parser.proofs.Featured.{features-Stmt}
use Rattle.qs_parser.proofs.TokenPieces.{took_nothing, took_placed, word_kind}
use Rattle.qs_parser.proofs.SoundParts.{Holds, holds_bind, holds_either, holds_if, holds_some}
use Rattle.qs_parser.proofs.SoundReaders.{IsSoundBelow, ReadStmt, ReadStmtKind}
use Rattle.qs_parser.proofs.SoundExprParts.{read_as}
use Rattle.qs_parser.proofs.SoundPrimary.{took_text}
use Rattle.qs_parser.proofs.SoundCalls.{sound-gate_call_at}
use Rattle.qs_parser.proofs.SoundSimple.{sound-assignment_at, sound-barrier_at, sound-break, sound-continue, sound-declaration_at, sound-delay_at, sound-end, sound-measure_at, sound-reset_at, sound-stretch_at}
use Rattle.qs_parser.proofs.SoundNested.{sound-box_at, sound-for_at, sound-if_at, sound-while_at}

sound-named_stmt : (below : Option Readers) (d renew : ℕ) → IsSoundBelow d below → (left : ℕ) (text : List ℕ) (rest all : List Token) → Holds (named_stmt below renew left text rest all) (ReadStmtKind d renew left all)
unfolding named_stmt
sound-named_stmt below d renew h left text rest all =
    holds_if (is_modifier text) (λ e. sound-gate_call_at below d renew h left all) (λ n1.
    holds_if (is_name text) (λ e. holds_if (is_assigned rest) (λ a. sound-assignment_at below d renew h left all) (λ n. sound-gate_call_at below d renew h left all)) (λ n2.
    record { is = tt }))

sound-stmt_of : (below : Option Readers) (d renew : ℕ) → IsSoundBelow d below → (left : ℕ) (t : Token) (ts : List Token) → t.kind ≡ kind.Word → Holds (stmt_of below renew left t.text ts (t ∷ ts)) (ReadStmtKind d renew left (t ∷ ts))
unfolding stmt_of
sound-stmt_of below d renew h left t ts k =
    holds_if (bytes_eq t.text (codes "const")) (λ e. sound-declaration_at below d renew h true left (t ∷ ts) ts (took_text t ts (codes "const") k e)) (λ n1.
    holds_if (bytes_eq t.text (codes "stretch")) (λ e. sound-stretch_at d renew left (t ∷ ts) ts (took_text t ts (codes "stretch") k e)) (λ n2.
    holds_if (bytes_eq t.text (codes "measure")) (λ e. sound-measure_at below d renew h left (t ∷ ts) ts (took_text t ts (codes "measure") k e)) (λ n3.
    holds_if (bytes_eq t.text (codes "reset")) (λ e. sound-reset_at below d renew h left (t ∷ ts) ts (took_text t ts (codes "reset") k e)) (λ n4.
    holds_if (bytes_eq t.text (codes "barrier")) (λ e. sound-barrier_at below d renew h left (t ∷ ts) ts (took_text t ts (codes "barrier") k e)) (λ n5.
    holds_if (bytes_eq t.text (codes "delay")) (λ e. sound-delay_at below d renew h left (t ∷ ts) ts (took_text t ts (codes "delay") k e)) (λ n6.
    holds_if (bytes_eq t.text (codes "box")) (λ e. sound-box_at below d renew h left (t ∷ ts) ts (took_text t ts (codes "box") k e)) (λ n7.
    holds_if (bytes_eq t.text (codes "if")) (λ e. sound-if_at below d renew h left (t ∷ ts) ts (took_text t ts (codes "if") k e)) (λ n8.
    holds_if (bytes_eq t.text (codes "while")) (λ e. sound-while_at below d renew h left (t ∷ ts) ts (took_text t ts (codes "while") k e)) (λ n9.
    holds_if (bytes_eq t.text (codes "for")) (λ e. sound-for_at below d renew h left (t ∷ ts) ts (took_text t ts (codes "for") k e)) (λ n10.
    holds_if (bytes_eq t.text (codes "break")) (λ e. sound-break d renew left (t ∷ ts) ts (took_text t ts (codes "break") k e)) (λ n11.
    holds_if (bytes_eq t.text (codes "continue")) (λ e. sound-continue d renew left (t ∷ ts) ts (took_text t ts (codes "continue") k e)) (λ n12.
    holds_if (bytes_eq t.text (codes "end")) (λ e. sound-end d renew left (t ∷ ts) ts (took_text t ts (codes "end") k e)) (λ n13.
    holds_either (type_word t.text) (λ e. sound-named_stmt below d renew h left t.text ts (t ∷ ts)) (λ w e. sound-declaration_at below d renew h false left (t ∷ ts) (t ∷ ts) (took_nothing (t ∷ ts))))))))))))))))

pub sound-stmt_at : (below : Option Readers) (d renew : ℕ) → IsSoundBelow d below → (left : ℕ) (ts : List Token) → Holds (stmt_at below renew left ts) (ReadStmt d renew left ts)
unfolding stmt_at
sound-stmt_at below d renew h left [] = record { is = tt }
sound-stmt_at below d renew h left (t ∷ ts) =
    holds_if (has_word t.kind) (λ k.
    holds_bind (sound-stmt_of below d renew h left t ts (word_kind t.kind k)) (λ s r.
    let stmt : Stmt = record { span = t.span; kind = s.0 } in
    holds_some (stmt, s.1, s.2) (record {
      read = read_as (spell-Stmt stmt) (features-Stmt stmt) (took_placed _ t ts s.2 r.read.took) r.read.counted;
      nests = ap (λ (f : Features). may_nest f.standing) (features-Stmt stmt) ∙ r.nests;
    })))
    (λ n. record { is = tt })
