-- Where a reader stops, and what an answer is as a tree.
use Rattle.std.proofs.Common.{◌≡◌, Option, Some, None, Result, Ok, Err, refl}
use Rattle.std.specs.Result.{IsErrAnd}
use Rattle.qs_parser.specs.declared.stop.Stop.{Stop}
use Rattle.qs_parser.specs.declared.stop.Stop.TheVariants.{Unread, Memory}
use Rattle.qs_parser.specs.declared.below.Tree.{Tree}
use Rattle.qs_parser.specs.steps.Tokens.{Gives, Reads, Stops}
use Rattle.qs_parser.specs.steps.Asking.{as_tree}

-- a reader that stops where a part of it stops
pub gives_stop : {X Y Z : Type 0} (view : X → Y) (account : Option Y) (inner : Option Z) (stop : Stop) (r : Result X Stop) → IsErrAnd r (λ e. e ≡ stop) → Stops stop inner → (inner ≡ None → account ≡ None) → Gives view r account
gives_stop view account inner stop (Ok x) e s h = absurd e
gives_stop view account inner Memory (Err other) e s h = rw e tt
gives_stop view account inner Unread (Err other) e s h = rw e (h s)

-- what isn't read as a tree isn't read
pub no_tree : {A : Type 0} (tree : A → Tree) (account : Reads A) → as_tree tree account ≡ None → account ≡ None
no_tree tree None e = refl
no_tree tree (Some x) e = absurd cc
