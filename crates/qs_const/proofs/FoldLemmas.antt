-- What `fold` answers, of what its table of constants judges.
use Rattle.std.proofs.Common.{◌≡◌, ◌≢◌, ℕ, List, false, sym, subst, Some, None}
use Rattle.qs_tree.specs.declared.constant.Const.{Const}
use Rattle.qs_tree.specs.declared.constant.ConstTable.{ConstTable}
use Rattle.qs_tree.specs.declared.expr.Expr.{Expr}
use Rattle.qs_tree.specs.declared.constant.Consts.{Consts}
use Rattle.qs_tree.specs.Constants.{constant_at, constant_in}
use Rattle.qs_const.specs.declared.cause.Cause.TheVariants.{NoRule}
use Rattle.qs_const.specs.declared.cause.Fault.{Fault}
use Rattle.qs_const.specs.declared.judgement.Absent.{Absent as Absence}
use Rattle.qs_const.specs.declared.judgement.Judgement.{Judgement}
use Rattle.qs_const.specs.declared.judgement.Judgement.TheVariants.{Absent}
use Rattle.qs_const.specs.declared.meaning.Meaning.TheVariants.{Variable}
use Rattle.qs_const.specs.Folding.{IsFoldable, constant_or, scope_of}
use Rattle.qs_const.specs.Judging.{ComesTo}
use Rattle.qs_const.specs.Scopes.{Scope}
use Rattle.qs_const.specs.Trees.{tree_of}

-- what a table tells is what its list does
abbrev scope_at : ConstTable → Scope
scope_at table = record { means = λ name. constant_or Variable (constant_at table name); in_duration = false }

same_scope : (table : ConstTable) (list : List Const) → ((name : List ℕ) → constant_at table name ≡ constant_in list name) → scope_at table ≡ scope_of list
same_scope table list h = λ i. record { means = λ name. constant_or Variable (h name i); in_duration = false }

pub judged_by_list : (e : Expr) (table : ConstTable) (list : List Const) (j : Judgement) → ((name : List ℕ) → constant_at table name ≡ constant_in list name)
    → ComesTo (scope_at table) (tree_of e) j → ComesTo (scope_of list) (tree_of e) j
judged_by_list e table list j h comes = subst (λ s. ComesTo s (tree_of e) j) (same_scope table list h) comes

-- a refusal that may be answered is one that a rule has
pub has_rule : (e : Expr) (consts : Consts) (a : Absence) (fault : Fault) → IsFoldable e consts → ComesTo (scope_of consts.list) (tree_of e) (Absent a) → a.fault ≡ Some fault → fault.cause ≢ NoRule
has_rule e consts a fault foldable comes is none =
    let told = foldable (Absent a) comes in
    let same : told.0 ≡ fault = cc in
    told.2 (subst (λ f. f.cause ≡ NoRule) (sym same) none)

pub has_fault : (e : Expr) (consts : Consts) (a : Absence) → IsFoldable e consts → ComesTo (scope_of consts.list) (tree_of e) (Absent a) → a.fault ≢ None
has_fault e consts a foldable comes none =
    let told = foldable (Absent a) comes in
    absurd cc
