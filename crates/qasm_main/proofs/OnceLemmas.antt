-- A source has one plan or one refusal, and one answer.
use Rattle.std.proofs.Common.{◌≡◌, ℕ, List, [], ◌∷◌, ◌++◌, ap, ap₂, sym, subst, ◌∙◌, true, false, inl, inr, arith}
use Rattle.std.specs.Prelude.{Bool, Option, Some, None, IsSomeAnd, slice_get}
use Rattle.std.specs.Cmp.{IsTotalOrder}
use Rattle.std.specs.Ordering.{is_lt}
use Rattle.std.proofs.lemmas.List.Sorted.{ranks_by}
use Rattle.qs_values.specs.declared.refusal.Refusal.{Refusal}
use Rattle.qs_values.specs.declared.span.Span.{Span}
use Rattle.qs_lexer.specs.declared.token.Token.{Token}
use Rattle.qs_lexer.specs.Lexed.{Lexes, code_of as lex_code, span_of as lex_span}
use Rattle.qs_lexer.specs.Once.{FaultOnce, NoFaultBesideTokens, TokensOnce}
use Rattle.qs_tree.specs.declared.source.Source.{Source}
use Rattle.qs_parser.specs.Language.{IsRefusedBy, IsTreeOf}
use Rattle.qs_parser.specs.Once.{NoRefusalBesideTree, RefusalOnce, TreeOnce}
use Rattle.box_schedule.specs.declared.refusal.BoxRefusal.TheVariants.{TickOut}
use Rattle.box_schedule.specs.Codes.{code_of as box_code}
use Rattle.plan_tree.specs.declared.plan.Plan.{Plan}
use Rattle.plan_tree.specs.declared.plan.Block.{Block as Block-}
use Rattle.plan_tree.specs.declared.plan.PlanStmt.{PlanStmt}
use Rattle.plan_tree.specs.declared.plan.PlanStmt.TheVariants.{Block}
use Rattle.plan_tree.specs.Run.{run_of}
use Rattle.plan_tree.specs.Sound.{start_cmp, start_key}
use Rattle.qs_machine.specs.declared.machine.Machine.{Machine}
use Rattle.controller_core.specs.Core.{start_core}
use Rattle.controller_core.specs.Laws.{EveryOrderIsTheRun, RunsOnce}
use Rattle.timeline_board.specs.Report.{ReportIsRun, report_of}
use Rattle.timeline_board.proofs.Sorts.{sorted-once}
use Rattle.qasm_main.specs.declared.front.gates.Gates.{Gates}
use Rattle.qasm_main.specs.declared.front.statement.LocatedStatement.{LocatedStatement}
use Rattle.qasm_main.specs.Answer.{Reply, StepsPlan, without_core}
use Rattle.qasm_main.specs.Once.{AnsweredOnce, EveryOrderReports, NoRefusalBesidePlan, PlanOnce, RefusedOnce}
use Rattle.qasm_main.specs.Ran.{no_tape}
use Rattle.qasm_main.specs.Texts.{counts_line, refusal_text}
use Rattle.qasm_main.specs.front.Compile.{IsBlockTooLong, IsTooLong}
use Rattle.qasm_main.specs.front.Gates.{gates_of}
use Rattle.qasm_main.specs.front.Planned.{IsBlockOf, IsBodyBy, IsPlanOf, is_left_out}
use Rattle.qasm_main.specs.front.Reads.{IsFaulty, IsMalformed, IsNotBuilt, IsParsed, IsSource, IsUnreadable}
use Rattle.qasm_main.specs.front.Refused.{malformed_by, not_built_at, refusal_at}
use Rattle.qasm_main.specs.front.Source.{Built, NotBuilt, most_statements, reading_of}
use Rattle.qasm_main.proofs.RunLemmas.{reports-run}

-- ---- plans

block-once : IsTotalOrder start_cmp → (gates : Gates) (statements : List LocatedStatement) (b c : Block-) → IsBlockOf gates statements b → IsBlockOf gates statements c → b ≡ c
block-once total gates statements b c is other =
    let alike = sorted-once (λ x y. is_lt (start_cmp (start_key x) (start_key y))) (ranks_by total start_key) b.events c.events is.order other.order (λ x. is.stable x ∙ sym (other.stable x)) in
    ap₂ (λ ticks events. let block : Block- = record { length = ticks; events = events } in block) (is.ticks ∙ sym other.ticks) alike

body-once : IsTotalOrder start_cmp → (gates : Gates) (left_out : Bool) (statements : List LocatedStatement) (xs ys : List PlanStmt) → IsBodyBy gates left_out statements xs → IsBodyBy gates left_out statements ys → xs ≡ ys
body-once total gates true statements xs ys is other = is ∙ sym other
body-once total gates false statements xs ys (b, is, block) (c, also, other) =
    is ∙ ap (λ block. Block block ∷ []) (block-once total gates statements b c block other) ∙ sym also

plan-same : (p q : Plan) → p.vars ≡ q.vars → p.inputs ≡ q.inputs → p.outs ≡ q.outs → p.frames ≡ q.frames → p.owner ≡ q.owner → p.controllers ≡ q.controllers → p.gap ≡ q.gap → p.budget ≡ q.budget → p.body ≡ q.body → p ≡ q
plan-same p q vars inputs outs frames owner controllers gap budget body =
    ap (λ v. record p { vars = v }) vars
    ∙ ap (λ v. record p { vars = q.vars; inputs = v }) inputs
    ∙ ap (λ v. record p { vars = q.vars; inputs = q.inputs; outs = v }) outs
    ∙ ap (λ v. record p { vars = q.vars; inputs = q.inputs; outs = q.outs; frames = v }) frames
    ∙ ap (λ v. record p { vars = q.vars; inputs = q.inputs; outs = q.outs; frames = q.frames; owner = v }) owner
    ∙ ap (λ v. record q { controllers = v; gap = p.gap; budget = p.budget; body = p.body }) controllers
    ∙ ap (λ v. record q { gap = v; budget = p.budget; body = p.body }) gap
    ∙ ap (λ v. record q { budget = v; body = p.body }) budget
    ∙ ap (λ v. record q { body = v }) body

-- Statements have one plan on a machine.
planned-once : IsTotalOrder start_cmp → (machine : Machine) (statements : List LocatedStatement) (p q : Plan) → IsPlanOf machine statements p → IsPlanOf machine statements q → p ≡ q
planned-once total machine statements p q is other =
    plan-same p q (is.vars ∙ sym other.vars) (is.inputs ∙ sym other.inputs) (is.outs ∙ sym other.outs) (is.frames ∙ sym other.frames) (is.owner ∙ sym other.owner) (is.controllers ∙ sym other.controllers) (is.gap ∙ sym other.gap) (is.budget ∙ sym other.budget)
    (body-once total (gates_of machine) (is_left_out (gates_of machine) statements) statements p.body q.body is.body other.body)

-- ---- sources

-- the laws of tokens and trees that a source's one answer rests on
pub record SourceLaws : Type 0 where
  pub tokens : TokensOnce
  pub apart : NoFaultBesideTokens
  pub fault : FaultOnce
  pub tree : TreeOnce
  pub whole : NoRefusalBesideTree
  pub refusal : RefusalOnce

tree-once : SourceLaws → (source : List ℕ) (x y : Source) → IsParsed source x → IsParsed source y → x ≡ y
tree-once laws source x y is other =
    let same = laws.tokens source is.tokens other.tokens is.lexes other.lexes in
    laws.tree other.tokens x y (subst (λ tokens. IsTreeOf tokens x) same is.is) other.is

-- What statements of a tree are read as goes by the source.
reading-once : SourceLaws → (source : List ℕ) (x y : Source) → IsParsed source x → IsParsed source y → reading_of most_statements x.body ≡ reading_of most_statements y.body
reading-once laws source x y is other = ap (λ tree. reading_of most_statements tree.body) (tree-once laws source x y is other)

built-once : (xs ys : List LocatedStatement) → Built xs ≡ Built ys → xs ≡ ys
built-once xs ys same = cc

place-once : (p q : Span) → NotBuilt p ≡ NotBuilt q → p ≡ q
place-once p q same = cc

built-apart : (xs : List LocatedStatement) (p : Span) → Built xs ≡ NotBuilt p → ⊥
built-apart xs p same = absurd (cc)

-- A source is one list of statements.
source-once : SourceLaws → (source : List ℕ) (xs ys : List LocatedStatement) → IsSource source xs → IsSource source ys → xs ≡ ys
source-once laws source xs ys is other = built-once xs ys (sym is.built ∙ reading-once laws source is.tree other.tree is.parsed other.parsed ∙ other.built)

-- A source has one plan.
pub plan-once : SourceLaws → IsTotalOrder start_cmp → PlanOnce
plan-once laws total source machine plan other is also =
    let same = source-once laws source is.statements also.statements is.reads also.reads in
    planned-once total machine also.statements plan other (subst (λ statements. IsPlanOf machine statements plan) same is.planned) also.planned

-- ---- refusals

fault-lexed : SourceLaws → (source : List ℕ) (r : Refusal) (tokens : List Token) → IsFaulty source r → Lexes source tokens → ⊥
fault-lexed laws source r tokens faulty lexes = laws.apart source tokens faulty.fault lexes faulty.has

malformed-parsed : SourceLaws → (source : List ℕ) (r : Refusal) (tree : Source) → IsMalformed source r → IsParsed source tree → ⊥
malformed-parsed laws source r tree malformed parsed =
    let same = laws.tokens source parsed.tokens malformed.tokens parsed.lexes malformed.lexes in
    laws.whole malformed.tokens tree malformed.cause (subst (λ tokens. IsTreeOf tokens tree) same parsed.is) malformed.has

not_built-read : SourceLaws → (source : List ℕ) (r : Refusal) (statements : List LocatedStatement) → IsNotBuilt source r → IsSource source statements → ⊥
not_built-read laws source r statements wrong is =
    built-apart statements wrong.place (sym is.built ∙ reading-once laws source is.tree wrong.tree is.parsed wrong.parsed ∙ wrong.not_built)

unreadable-read : SourceLaws → (source : List ℕ) (r : Refusal) (statements : List LocatedStatement) → IsUnreadable source r → IsSource source statements → ⊥
unreadable-read laws source r statements (inl faulty) is = fault-lexed laws source r is.parsed.tokens faulty is.parsed.lexes
unreadable-read laws source r statements (inr (inl malformed)) is = malformed-parsed laws source r is.tree malformed is.parsed
unreadable-read laws source r statements (inr (inr wrong)) is = not_built-read laws source r statements wrong is

faulty-once : SourceLaws → (source : List ℕ) (r s : Refusal) → IsFaulty source r → IsFaulty source s → r ≡ s
faulty-once laws source r s is other = is.same ∙ ap (λ fault. refusal_at (lex_code fault) (lex_span fault)) (laws.fault source is.fault other.fault is.has other.has) ∙ sym other.same

malformed-once : SourceLaws → (source : List ℕ) (r s : Refusal) → IsMalformed source r → IsMalformed source s → r ≡ s
malformed-once laws source r s is other =
    let same = laws.tokens source is.tokens other.tokens is.lexes other.lexes in
    let cause = laws.refusal other.tokens is.cause other.cause (subst (λ tokens. IsRefusedBy tokens is.cause) same is.has) other.has in
    is.same ∙ ap malformed_by cause ∙ sym other.same

not_built-once : SourceLaws → (source : List ℕ) (r s : Refusal) → IsNotBuilt source r → IsNotBuilt source s → r ≡ s
not_built-once laws source r s is other =
    let place = place-once is.place other.place (sym is.not_built ∙ reading-once laws source is.tree other.tree is.parsed other.parsed ∙ other.not_built) in
    is.same ∙ ap not_built_at place ∙ sym other.same

unreadable-once : SourceLaws → (source : List ℕ) (r s : Refusal) → IsUnreadable source r → IsUnreadable source s → r ≡ s
unreadable-once laws source r s (inl x) (inl y) = faulty-once laws source r s x y
unreadable-once laws source r s (inl x) (inr (inl y)) = absurd (fault-lexed laws source r y.tokens x y.lexes)
unreadable-once laws source r s (inl x) (inr (inr y)) = absurd (fault-lexed laws source r y.parsed.tokens x y.parsed.lexes)
unreadable-once laws source r s (inr (inl x)) (inl y) = absurd (fault-lexed laws source s x.tokens y x.lexes)
unreadable-once laws source r s (inr (inl x)) (inr (inl y)) = malformed-once laws source r s x y
unreadable-once laws source r s (inr (inl x)) (inr (inr y)) = absurd (malformed-parsed laws source r y.tree x y.parsed)
unreadable-once laws source r s (inr (inr x)) (inl y) = absurd (fault-lexed laws source s x.parsed.tokens y x.parsed.lexes)
unreadable-once laws source r s (inr (inr x)) (inr (inl y)) = absurd (malformed-parsed laws source s x.tree y x.parsed)
unreadable-once laws source r s (inr (inr x)) (inr (inr y)) = not_built-once laws source r s x y

-- the refusal of a block at its first statement
first-once : (first : Option LocatedStatement) (r s : Refusal) → IsSomeAnd first (λ it. r ≡ refusal_at (box_code (TickOut it.span)) (Some it.span))
    → IsSomeAnd first (λ it. s ≡ refusal_at (box_code (TickOut it.span)) (Some it.span)) → r ≡ s
first-once None r s is other = absurd is
first-once (Some first) r s is other = is ∙ sym other

too_long-once : SourceLaws → (source : List ℕ) (machine : Machine) (r s : Refusal) → IsTooLong source machine r → IsTooLong source machine s → r ≡ s
too_long-once laws source machine r s is other =
    let same = source-once laws source is.statements other.statements is.reads other.reads in
    let block = subst (λ statements. IsBlockTooLong machine statements r) same is.block in
    first-once (slice_get other.statements 0) r s block.first other.block.first

pub refusal-once : SourceLaws → RefusedOnce
refusal-once laws source machine r s (inl x) (inl y) = unreadable-once laws source r s x y
refusal-once laws source machine r s (inl x) (inr y) = absurd (unreadable-read laws source r y.statements x y.reads)
refusal-once laws source machine r s (inr x) (inl y) = absurd (unreadable-read laws source s x.statements y x.reads)
refusal-once laws source machine r s (inr x) (inr y) = too_long-once laws source machine r s x y

-- A source that has a plan isn't refused.
pub plan-apart : SourceLaws → NoRefusalBesidePlan
plan-apart laws source machine plan refusal compiled (inl x) = unreadable-read laws source refusal compiled.statements x compiled.reads
plan-apart laws source machine plan refusal compiled (inr x) =
    let same = source-once laws source x.statements compiled.statements x.reads compiled.reads in
    let block = subst (λ statements. IsBlockTooLong machine statements refusal) same x.block in
    let short = compiled.short in let long = block.long in omega (arith, short, long)

-- ---- answers

reply-same : (x y : Reply) → x.status ≡ y.status → x.text ≡ y.text → x.core ≡ y.core → x ≡ y
reply-same x y status text core =
    ap (λ s. record x { status = s }) status ∙ ap (λ t. record x { status = y.status; text = t }) text ∙ ap (λ c. record y { core = c }) core

-- A plan that is run has one answer.
steps-once : RunsOnce → (machine : Machine) (plan : Plan) (reply other : Reply) → StepsPlan machine plan reply → StepsPlan machine plan other → reply ≡ other
steps-once once machine plan reply other is also =
    let same = once [] (start_core plan no_tape machine.mail) is.core also.core is.stepped is.waited also.stepped also.waited is.runs also.runs in
    let counts = ap₂ (λ stepped waited. report_of plan machine (run_of plan no_tape) ++ counts_line stepped waited) same.1 same.2 in
    reply-same reply other (is.status ∙ sym also.status) (is.text ∙ counts ∙ sym also.text) (is.handed ∙ ap Some same.0 ∙ sym also.handed)

-- A source has one answer.
pub answered-once : SourceLaws → IsTotalOrder start_cmp → RunsOnce → AnsweredOnce
answered-once laws total once machine source reply other (inl (plan, compiled, steps)) (inl (plan', compiled', steps')) =
    let same = plan-once laws total source machine plan plan' compiled compiled' in
    steps-once once machine plan' reply other (subst (λ p. StepsPlan machine p reply) same steps) steps'
answered-once laws total once machine source reply other (inl (plan, compiled, steps)) (inr (refusal, refused, told)) =
    absurd (plan-apart laws source machine plan refusal compiled refused)
answered-once laws total once machine source reply other (inr (refusal, refused, told)) (inl (plan, compiled, steps)) =
    absurd (plan-apart laws source machine plan refusal compiled refused)
answered-once laws total once machine source reply other (inr (refusal, refused, told)) (inr (refusal', refused', told')) =
    told ∙ ap (λ r. without_core 1 (refusal_text r)) (refusal-once laws source machine refusal refusal' refused refused') ∙ sym told'

-- Every order gives the report of the undivided run.
pub every-order-reports : EveryOrderIsTheRun → ReportIsRun → EveryOrderReports
every-order-reports every is_run plan tape mail order core stepped waited sound fits some few runs =
    reports-run is_run plan tape mail core sound (every plan tape mail order core stepped waited sound fits some few runs).0
