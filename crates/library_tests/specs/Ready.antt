-- What a call of the tests asks for, and what it keeps. This project's own.
use Rattle.std.specs.Prelude.{◌≡◌, List}
use Rattle.plan_tree.specs.declared.part.Part.{Part}
use Rattle.plan_tree.specs.Parts.{parts_of}
use Rattle.controller_core.specs.Core.{CoreState}

-- a core of a plan of three controllers, and its parts
pub record IsReady (parts : List Part) (core : CoreState) : Type 0 where
  pub fit : parts ≡ parts_of core.plan
  pub controllers : core.plan.controllers ≡ 3
