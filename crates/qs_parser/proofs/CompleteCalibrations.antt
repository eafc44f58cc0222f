-- Calibrations are read where they are spelled.
use Rattle.std.proofs.Common.{◌≡◌, ℕ, zero, suc, Bool, true, false, codes, List, [], ◌∷◌, ◌++◌, map, Option, Some, None, refl, sym, ap, subst, ◌∙◌, append_assoc, arith}
use Rattle.std.specs.Str.{bytes_eq}
use Rattle.std.proofs.lemmas.Bool.{and_parts}
use Rattle.qs_values.specs.Names.{is_name}
use Rattle.qs_values.specs.declared.span.Span.{Span}
use Rattle.qs_lexer.specs.declared.token.Token.{Token}
use Rattle.qs_lexer.specs.declared.token.TokenKind.TheVariants as kind
use Rattle.qs_tree.specs.declared.expr.Expr.{Expr}
use Rattle.qs_tree.specs.declared.expr.ExprKind.{ExprKind}
use Rattle.qs_tree.specs.declared.expr.ExprKind.TheOpen as layer
use Rattle.qs_tree.specs.declared.expr.TypeExpr.{TypeExpr}
use Rattle.qs_tree.specs.declared.gate.Call.{Call as Called}
use Rattle.qs_tree.specs.declared.gate.Modifier.{Modifier}
use Rattle.qs_tree.specs.declared.name.Ident.{Ident}
use Rattle.qs_tree.specs.declared.operand.Place.{Place}
use Rattle.qs_tree.specs.declared.operand.Operand.{Operand}
use Rattle.qs_tree.specs.declared.operand.Value.{Value}
use Rattle.qs_tree.specs.declared.pulse.Param.{Param}
use Rattle.qs_tree.specs.declared.pulse.Item.{Item, out-Item, roll-Item, roll-out-Item}
use Rattle.qs_tree.specs.declared.pulse.Item.TheVariants.{Port, ExternFrame, ExternWaveform, Frame, Return, Statement, rolls-Port, rolls-ExternFrame, rolls-ExternWaveform, rolls-Frame, rolls-Return, rolls-Statement}
use Rattle.qs_tree.specs.declared.statement.Body.{Body}
use Rattle.qs_tree.specs.declared.statement.Range.{Range}
use Rattle.qs_tree.specs.declared.statement.Stmt.{Stmt}
use Rattle.qs_tree.specs.declared.statement.StmtKind.{StmtKind}
use Rattle.qs_tree.specs.declared.statement.StmtKind.TheVariants.{Cal}
use Rattle.qs_tree.specs.Spelling.{Piece, Sign, Word, Spells, at_place, in_braces, joined, name, sign, spell, spell_item, spell_stmt, spell_stmt_kind, word}
use Rattle.qs_tree.specs.WellFormed.{Features, all as all_of, block, nested, may_nest, of_expr, of_item, of_stmt, of_stmt_kind, part}
use Rattle.qs_tree.proofs.Spelled.{spell-Cal, spell-ExternFrame, spell-ExternWaveform, spell-Frame, spell-Port, spell-Return, spell-Statement}
use Rattle.qs_parser.specs.steps.Tokens.{Readers, Reads, after_word, begins_sign, begins_word}
use Rattle.qs_parser.specs.steps.Expressions.{whole_at}
use Rattle.qs_parser.specs.steps.Knot.{below}
use Rattle.qs_parser.specs.steps.Globals.{cal_at, extern_at, extern_frame_at, extern_waveform_at, frame_at, item_in, item_of, items_at, port_at, return_at, statement_item, top_of}
use Rattle.qs_parser.proofs.Featured.{features-Cal, features-ExternFrame, features-ExternWaveform, features-Frame, features-Port, features-Return, features-Statement}
use Rattle.qs_parser.proofs.TokenPieces.{after_sign_at, after_word_at, begins_sign_at, begins_word_at, name_at_name, no_word_after}
use Rattle.qs_parser.proofs.Complete.{ClosesStmt, Fits, IsCompleteBelow}
use Rattle.qs_parser.proofs.CompleteExprParts.{fits_as, fits_nothing, fits_where}
use Rattle.qs_parser.proofs.CompleteExprCases.{spells_as}
use Rattle.qs_parser.proofs.CompleteExpr.{complete-whole_at}
use Rattle.qs_parser.proofs.CompleteStmtParts.{complete-stopped, next}
use Rattle.qs_parser.proofs.CompleteStmtSimple.{closes_before}
use Rattle.qs_parser.proofs.CompleteBegins.{never_first, never_words, no_else, stmt_begins, unlisted}
use Rattle.qs_parser.proofs.CompleteBlocks.{IsCompletePart, complete-to_brace}
use Rattle.qs_parser.proofs.CompleteStarts.{stmt_starts}
use Rattle.qs_parser.proofs.CompleteStmt.{complete-stmt_at, head_same}
use Rattle.qs_parser.proofs.CompleteKnot.{complete-below}
use Rattle.qs_parser.proofs.CompleteGlobals.{TopRead, by_top, fits_inside, fits_top}

-- ---- items

data ItemCase : Item → Type 0 where
  is_port : (span : Span) → (extern : Bool) → (n : Ident) → ItemCase (Port span extern n)
  is_extern_frame : (span : Span) → (n : Ident) → ItemCase (ExternFrame span n)
  is_extern_waveform : (span : Span) → (n : Ident) → ItemCase (ExternWaveform span n)
  is_frame : (span : Span) → (n : Ident) → (e : Expr) → ItemCase (Frame span n e)
  is_return : (span : Span) → (e : Expr) → ItemCase (Return span e)
  is_statement : (s : Stmt) → ItemCase (Statement s)

item_layer : (l : layer.Item-F ExprKind Modifier Operand Value Item Param Body Range StmtKind Expr TypeExpr Called Place Stmt) → ItemCase (roll-Item l)
item_layer (layer.Port span extern n) = subst ItemCase (sym (rolls-Port span extern n)) (is_port span extern n)
item_layer (layer.ExternFrame span n) = subst ItemCase (sym (rolls-ExternFrame span n)) (is_extern_frame span n)
item_layer (layer.ExternWaveform span n) = subst ItemCase (sym (rolls-ExternWaveform span n)) (is_extern_waveform span n)
item_layer (layer.Frame span n e) = subst ItemCase (sym (rolls-Frame span n e)) (is_frame span n e)
item_layer (layer.Return span e) = subst ItemCase (sym (rolls-Return span e)) (is_return span e)
item_layer (layer.Statement s) = subst ItemCase (sym (rolls-Statement s)) (is_statement s)

item_case : (x : Item) → ItemCase x
item_case x = subst ItemCase (roll-out-Item x) (item_layer (out-Item x))

-- the word at which an item begins
record ItemBegins (x : Item) : Type 0 where
  text : List ℕ
  places : List Span
  more : List Piece
  is : spell_item x ≡ record { shows = Word text; places = places } ∷ more
  other : (of_item x).follows ≡ true → bytes_eq text (codes "else") ≡ false

item_begins : (x : Item) → ItemCase x → ItemBegins x
item_begins _ (is_port span true n) = record { text = codes "extern"; places = span ∷ []; more = word (codes "port") ++ name n ++ sign (codes ";"); is = spell-Port span true n; other = λ e. refl }
item_begins _ (is_port span false n) = record { text = codes "port"; places = span ∷ []; more = name n ++ sign (codes ";"); is = spell-Port span false n; other = λ e. refl }
item_begins _ (is_extern_frame span n) = record { text = codes "extern"; places = span ∷ []; more = word (codes "frame") ++ name n ++ sign (codes ";"); is = spell-ExternFrame span n; other = λ e. refl }
item_begins _ (is_extern_waveform span n) = record { text = codes "extern"; places = span ∷ []; more = word (codes "waveform") ++ name n ++ sign (codes ";"); is = spell-ExternWaveform span n; other = λ e. refl }
item_begins _ (is_frame span n e) = record { text = codes "frame"; places = span ∷ []; more = name n ++ sign (codes "=") ++ spell e ++ sign (codes ";"); is = spell-Frame span n e; other = λ h. refl }
item_begins _ (is_return span e) = record { text = codes "return"; places = span ∷ []; more = spell e ++ sign (codes ";"); is = spell-Return span e; other = λ h. refl }
item_begins _ (is_statement s) =
    let b = stmt_begins s in
    record { text = b.text; places = b.places; more = b.more; is = spell-Statement s ∙ b.is; other = λ e. no_else b.text (b.first (sym (ap (λ (x : Features). x.follows) (features-Statement s)) ∙ e)) }

-- an item, by its first token
record ItemRead (x : Item) (b : Option Readers) (renew left after : ℕ) (front rest : List Token) : Type 0 where
  t : Token
  ts : List Token
  is : front ≡ t ∷ ts
  is_word : t.kind ≡ kind.Word
  read : item_of b renew left t.span t.text (ts ++ rest) (t ∷ (ts ++ rest)) ≡ Some (x, after, rest)

-- an item with a word of its own
by_item : (text : List ℕ) (ps : List Piece) (span : Span) (x : Item) (b : Option Readers) (renew left after : ℕ) (front rest : List Token) → Spells (at_place span (word text ++ ps)) front → ((last every : List Token) → Spells ps last → item_of b renew left span text (last ++ rest) every ≡ Some (x, after, rest)) → ItemRead x b renew left after front rest
by_item text ps span x b renew left after [] rest s g = absurd s
by_item text ps span x b renew left after (t ∷ ts) rest s g =
    let e : t.text ≡ text = s.0.0.1 in
    let p : t.span ≡ span = s.0.1.0 in
    record {
      t = t;
      ts = ts;
      is = refl;
      is_word = s.0.0.0;
      read = ap (λ (y : List ℕ). item_of b renew left t.span y (ts ++ rest) (t ∷ (ts ++ rest))) e ∙ (ap (λ (y : Span). item_of b renew left y text (ts ++ rest) (t ∷ (ts ++ rest))) p ∙ g ts (t ∷ (ts ++ rest)) s.1);
    }

-- a part on its own fits as it does elsewhere
fits_part : {f : Features} {d renew left after : ℕ} → Fits (part f) d renew left after → Fits f d renew left after
fits_part h = record { follows = h.follows; depth = h.depth; spent = h.spent }

-- what is read, where no operators are taken off
read_same : {A : Type 0} (x : A) (left after : ℕ) (rest : List Token) (read : Reads A) → read ≡ Some (x, left, rest) → left ≡ after → read ≡ Some (x, after, rest)
read_same x left after rest read e l = e ∙ ap (λ (n : ℕ). Some (x, n, rest)) l

port_read : (span : Span) (extern : Bool) (n : Ident) (left : ℕ) (front rest : List Token) → is_name n.name ≡ true → Spells (name n ++ sign (codes ";")) front → port_at span extern left (front ++ rest) ≡ Some (Port span extern n, left, rest)
unfolding port_at
port_read span extern n left front rest v s =
    let named = name_at_name n (sign (codes ";")) front rest v s in
    rw (port_at, named.is) (complete-stopped (Port span extern n) left named.front rest named.spells)

extern_frame_read : (span : Span) (n : Ident) (left : ℕ) (front rest : List Token) → is_name n.name ≡ true → Spells (name n ++ sign (codes ";")) front → extern_frame_at span left (front ++ rest) ≡ Some (ExternFrame span n, left, rest)
unfolding extern_frame_at
extern_frame_read span n left front rest v s =
    let named = name_at_name n (sign (codes ";")) front rest v s in
    rw (extern_frame_at, named.is) (complete-stopped (ExternFrame span n) left named.front rest named.spells)

extern_waveform_read : (span : Span) (n : Ident) (left : ℕ) (front rest : List Token) → is_name n.name ≡ true → Spells (word (codes "waveform") ++ (name n ++ sign (codes ";"))) front → extern_waveform_at span left (front ++ rest) ≡ Some (ExternWaveform span n, left, rest)
unfolding extern_waveform_at
extern_waveform_read span n left front rest v s =
    let one = after_word_at (codes "waveform") (name n ++ sign (codes ";")) front rest s in
    let named = name_at_name n (sign (codes ";")) one.front rest v one.spells in
    rw (extern_waveform_at, one.is, named.is) (complete-stopped (ExternWaveform span n) left named.front rest named.spells)

-- another word than the one that is spelled
no_word : (text other : List ℕ) (ps : List Piece) (front rest : List Token) → bytes_eq text other ≡ false → Spells (word text ++ ps) front → after_word other (front ++ rest) ≡ None
no_word text other ps front rest n s = no_word_after other (front ++ rest) (begins_word_at other (record { shows = Word text; places = [] }) ps front rest s ∙ n)

extern_port : (span : Span) (n : Ident) (left : ℕ) (front rest : List Token) → is_name n.name ≡ true → Spells (word (codes "port") ++ (name n ++ sign (codes ";"))) front → extern_at span left (front ++ rest) ≡ Some (Port span true n, left, rest)
unfolding extern_at
extern_port span n left front rest v s =
    let one = after_word_at (codes "port") (name n ++ sign (codes ";")) front rest s in
    rw (extern_at, one.is) (port_read span true n left one.front rest v one.spells)

extern_frame : (span : Span) (n : Ident) (left : ℕ) (front rest : List Token) → is_name n.name ≡ true → Spells (word (codes "frame") ++ (name n ++ sign (codes ";"))) front → extern_at span left (front ++ rest) ≡ Some (ExternFrame span n, left, rest)
unfolding extern_at
extern_frame span n left front rest v s =
    let one = after_word_at (codes "frame") (name n ++ sign (codes ";")) front rest s in
    rw (extern_at, no_word (codes "frame") (codes "port") (name n ++ sign (codes ";")) front rest refl s, one.is) (extern_frame_read span n left one.front rest v one.spells)

extern_waveform : (span : Span) (n : Ident) (left : ℕ) (front rest : List Token) → is_name n.name ≡ true → Spells (word (codes "waveform") ++ (name n ++ sign (codes ";"))) front → extern_at span left (front ++ rest) ≡ Some (ExternWaveform span n, left, rest)
unfolding extern_at
extern_waveform span n left front rest v s =
    rw (extern_at, no_word (codes "waveform") (codes "port") (name n ++ sign (codes ";")) front rest refl s, no_word (codes "waveform") (codes "frame") (name n ++ sign (codes ";")) front rest refl s) (extern_waveform_read span n left front rest v s)

frame_read : (span : Span) (n : Ident) (e : Expr) (b : Option Readers) (d renew left after : ℕ) (front rest : List Token) → IsCompleteBelow d b → is_name n.name ≡ true → Fits (of_expr e) d renew left after → Spells (name n ++ sign (codes "=") ++ spell e ++ sign (codes ";")) front → frame_at span b renew left (front ++ rest) ≡ Some (Frame span n e, after, rest)
unfolding frame_at
frame_read span n e b d renew left after front rest h v f s =
    let named = name_at_name n (sign (codes "=") ++ (spell e ++ sign (codes ";"))) front rest v (spells_as front (four (name n) (sign (codes "=")) (spell e) (sign (codes ";"))) s) in
    let one = after_sign_at (codes "=") (spell e ++ sign (codes ";")) named.front rest named.spells in
    let two = next (spell e) (sign (codes ";")) one.front rest one.spells in
    let read : whole_at b renew left (one.front ++ rest) ≡ Some (e, after, two.last ++ rest) = ap (whole_at b renew left) two.is ∙ complete-whole_at e b d renew left after two.first (two.last ++ rest) h f two.spells_first (closes_before two.last rest two.spells_last) in
    rw (frame_at, named.is, one.is, read) (complete-stopped (Frame span n e) after two.last rest two.spells_last)
  where
    four : (os ps qs rs : List Piece) → os ++ ps ++ qs ++ rs ≡ os ++ (ps ++ (qs ++ rs))
    four os ps qs rs = simp append_assoc refl

return_read : (span : Span) (e : Expr) (b : Option Readers) (d renew left after : ℕ) (front rest : List Token) → IsCompleteBelow d b → Fits (of_expr e) d renew left after → Spells (spell e ++ sign (codes ";")) front → return_at span b renew left (front ++ rest) ≡ Some (Return span e, after, rest)
unfolding return_at
return_read span e b d renew left after front rest h f s =
    let two = next (spell e) (sign (codes ";")) front rest s in
    let read : whole_at b renew left (front ++ rest) ≡ Some (e, after, two.last ++ rest) = ap (whole_at b renew left) two.is ∙ complete-whole_at e b d renew left after two.first (two.last ++ rest) h f two.spells_first (closes_before two.last rest two.spells_last) in
    rw (return_at, read) (complete-stopped (Return span e) after two.last rest two.spells_last)

statement_of : (s : Stmt) (d renew left after : ℕ) (front rest : List Token) → Fits (of_stmt s) d renew left after → may_nest (of_stmt s).standing ≡ true → Spells (spell_stmt s) front → ClosesStmt (of_stmt s) rest → statement_item (below d) renew left (front ++ rest) ≡ Some (Statement s, after, rest)
unfolding statement_item
statement_of s d renew left after front rest f n p c = rw (statement_item, complete-stmt_at s (below d) d renew left after front rest (complete-below d) f n p c) refl

-- a statement is read as none of the other items
statement_branch : (b : Option Readers) (renew left : ℕ) (span : Span) (text : List ℕ) (rest every : List Token) → never_first text ≡ false → item_of b renew left span text rest every ≡ statement_item b renew left every
unfolding item_of
statement_branch b renew left span text rest every n = rw (item_of, unlisted never_words text (codes "extern") n refl, unlisted never_words text (codes "port") n refl, unlisted never_words text (codes "frame") n refl, unlisted never_words text (codes "return") n refl) refl

statement_read : (s : Stmt) (d renew left after : ℕ) (front rest : List Token) → Fits (of_stmt s) d renew left after → may_nest (of_stmt s).standing ≡ true → Spells (spell_stmt s) front → ClosesStmt (of_stmt s) rest → ItemRead (Statement s) (below d) renew left after front rest
statement_read s d renew left after [] rest f n p c = absurd (spells_as [] (stmt_begins s).is p)
statement_read s d renew left after (t ∷ ts) rest f n p c =
    let w = (stmt_starts s (t ∷ ts) rest f.follows p).word in
    let same : t ≡ w.t = head_same t w.t (ts ++ rest) w.us w.is in
    record {
      t = t;
      ts = ts;
      is = refl;
      is_word = ap (λ (x : Token). x.kind) same ∙ w.is_word;
      read = statement_branch (below d) renew left t.span t.text (ts ++ rest) (t ∷ (ts ++ rest)) (ap (λ (x : Token). never_first x.text) same ∙ w.first) ∙ statement_of s d renew left after (t ∷ ts) rest f n p c;
    }

-- an item is read at the depth of the readers below
item_read : (x : Item) → ItemCase x → (d renew left after : ℕ) (front rest : List Token) → Fits (of_item x) d renew left after → may_nest (of_item x).standing ≡ true → Spells (spell_item x) front → ClosesStmt (of_item x) rest → ItemRead x (below d) renew left after front rest
unfolding item_of
item_read _ (is_port span true n) d renew left after front rest f m s c =
    let g = fits_where (is_name n.name) (fits_as (features-Port span true n) f) in
    by_item (codes "extern") (word (codes "port") ++ (name n ++ sign (codes ";"))) span (Port span true n) (below d) renew left after front rest (spells_as front (spell-Port span true n) s) (λ last every t. read_same (Port span true n) left after rest (extern_at span left (last ++ rest)) (extern_port span n left last rest g.0 t) (fits_nothing g.1))
item_read _ (is_port span false n) d renew left after front rest f m s c =
    let g = fits_where (is_name n.name) (fits_as (features-Port span false n) f) in
    by_item (codes "port") (name n ++ sign (codes ";")) span (Port span false n) (below d) renew left after front rest (spells_as front (spell-Port span false n) s) (λ last every t. read_same (Port span false n) left after rest (port_at span false left (last ++ rest)) (port_read span false n left last rest g.0 t) (fits_nothing g.1))
item_read _ (is_extern_frame span n) d renew left after front rest f m s c =
    let g = fits_where (is_name n.name) (fits_as (features-ExternFrame span n) f) in
    by_item (codes "extern") (word (codes "frame") ++ (name n ++ sign (codes ";"))) span (ExternFrame span n) (below d) renew left after front rest (spells_as front (spell-ExternFrame span n) s) (λ last every t. read_same (ExternFrame span n) left after rest (extern_at span left (last ++ rest)) (extern_frame span n left last rest g.0 t) (fits_nothing g.1))
item_read _ (is_extern_waveform span n) d renew left after front rest f m s c =
    let g = fits_where (is_name n.name) (fits_as (features-ExternWaveform span n) f) in
    by_item (codes "extern") (word (codes "waveform") ++ (name n ++ sign (codes ";"))) span (ExternWaveform span n) (below d) renew left after front rest (spells_as front (spell-ExternWaveform span n) s) (λ last every t. read_same (ExternWaveform span n) left after rest (extern_at span left (last ++ rest)) (extern_waveform span n left last rest g.0 t) (fits_nothing g.1))
item_read _ (is_frame span n e) d renew left after front rest f m s c =
    let g = fits_where (is_name n.name) (fits_as (features-Frame span n e) f) in
    by_item (codes "frame") (name n ++ sign (codes "=") ++ spell e ++ sign (codes ";")) span (Frame span n e) (below d) renew left after front rest (spells_as front (spell-Frame span n e) s) (λ last every t. frame_read span n e (below d) d renew left after last rest (complete-below d) g.0 (fits_part g.1) t)
item_read _ (is_return span e) d renew left after front rest f m s c =
    by_item (codes "return") (spell e ++ sign (codes ";")) span (Return span e) (below d) renew left after front rest (spells_as front (spell-Return span e) s) (λ last every t. return_read span e (below d) d renew left after last rest (complete-below d) (fits_part (fits_as (features-Return span e) f)) t)
item_read _ (is_statement s) d renew left after front rest f m p c =
    let is = features-Statement s in
    statement_read s d renew left after front rest (fits_as is f) (sym (ap (λ (x : Features). may_nest x.standing) is) ∙ m) (spells_as front (spell-Statement s) p) (λ l. c (ap (λ (x : Features). x.lacks_else) is ∙ l))

-- ---- items in braces

complete-item_in : (x : Item) (d renew left after : ℕ) (front rest : List Token) → Fits (nested (of_item x)) d renew left after → Spells (spell_item x) front → ClosesStmt (of_item x) rest → item_in d renew left (front ++ rest) ≡ Some (x, after, rest)
unfolding item_in
complete-item_in x zero renew left after front rest f s c = absurd (omega (arith, f.depth))
complete-item_in x (suc i) renew left after front rest f s c =
    let p = and_parts (may_nest (of_item x).standing) (of_item x).follows f.follows in
    let fits : Fits (of_item x) i renew left after = record { follows = p.1; depth = omega (arith, f.depth); spent = f.spent } in
    let r = item_read x (item_case x) i renew left after front rest fits p.0 s c in
    ap (λ (us : List Token). item_in (suc i) renew left (us ++ rest)) r.is ∙ rw (item_in, r.is_word, r.read) refl

item_no_else : (y : Item) (ps : List Piece) (front rest : List Token) → (of_item y).follows ≡ true → Spells (spell_item y ++ ps) front → begins_word (codes "else") (front ++ rest) ≡ false
item_no_else y ps front rest f s =
    let b = item_begins y (item_case y) in
    begins_word_at (codes "else") (record { shows = Word b.text; places = b.places }) (b.more ++ ps) front rest (spells_as front (ap (λ (x : List Piece). x ++ ps) b.is) s) ∙ b.other f

item_no_brace : (y : Item) (ps : List Piece) (front rest : List Token) → Spells (spell_item y ++ ps) front → begins_sign (codes "}") (front ++ rest) ≡ false
item_no_brace y ps front rest s =
    let b = item_begins y (item_case y) in
    begins_sign_at (codes "}") (record { shows = Word b.text; places = b.places }) (b.more ++ ps) front rest (spells_as front (ap (λ (x : List Piece). x ++ ps) b.is) s)

item_part : (d renew : ℕ) → IsCompletePart spell_item (λ x. nested (of_item x)) d renew (item_in d renew) (λ x rest. ClosesStmt (of_item x) rest)
item_part d renew = record {
  reads = λ x left after front rest f s c. complete-item_in x d renew left after front rest f s c;
  ends_brace = λ x front rest s l. begins_word_at (codes "else") (record { shows = Sign (codes "}"); places = [] }) [] front rest s;
  ends_part = λ x y ps front rest f s l. item_no_else y ps front rest (and_parts _ (of_item y).follows f).1 s;
  no_brace = λ x ps front rest s. item_no_brace x ps front rest s;
  some = λ x s. spells_as [] (item_begins x (item_case x)).is s;
}

nested_items : (xs : List Item) → map (λ x. nested (of_item x)) xs ≡ map nested (map of_item xs)
nested_items [] = refl
nested_items (x ∷ xs) = ap (λ (fs : List Features). nested (of_item x) ∷ fs) (nested_items xs)

pub complete-items_at : (items : List Item) (d renew left after : ℕ) (front rest : List Token) → Fits (block (map of_item items)) d renew left after → Spells (in_braces (map spell_item items)) front → items_at d renew left (front ++ rest) ≡ Some (items, after, rest)
unfolding items_at
complete-items_at items zero renew left after front rest f s = absurd (omega (arith, f.depth))
complete-items_at items (suc i) renew left after front rest f s =
    let inner : Fits (all_of (map nested (map of_item items))) i renew left after = fits_inside (all_of (map nested (map of_item items))) i renew left after f in
    let one = after_sign_at (codes "{") (joined (map spell_item items) ++ sign (codes "}")) front rest s in
    let read = complete-to_brace spell_item (λ x. nested (of_item x)) i renew (item_in i renew) (λ x us. ClosesStmt (of_item x) us) (item_part i renew) items left after one.front rest (fits_as (ap all_of (sym (nested_items items))) inner) one.spells in
    rw (items_at, one.is, read) refl

cal_read : (items : List Item) (d renew left after : ℕ) (front rest : List Token) → Fits (block (map of_item items)) d renew left after → Spells (in_braces (map spell_item items)) front → cal_at d renew left (front ++ rest) ≡ Some (Cal items, after, rest)
unfolding cal_at
cal_read items d renew left after front rest f s = rw (cal_at, complete-items_at items d renew left after front rest f s) refl

pub read-cal : (items : List Item) (d renew left after : ℕ) (front rest : List Token) → Fits (of_stmt_kind (Cal items)) d renew left after → Spells (spell_stmt_kind (Cal items)) front → TopRead (Cal items) d renew left after front rest
unfolding top_of
read-cal items d renew left after front rest f s =
    by_top (codes "cal") (in_braces (map spell_item items)) (Cal items) d renew left after front rest (spells_as front (spell-Cal items) s) (λ last t. ap (λ (r : Reads StmtKind). Some r) (cal_read items d renew left after last rest (fits_top (fits_as (features-Cal items) f)) t))
