-- What a walk over a condition keeps of the part behind it.
use Rattle.std.specs.Prelude.{◌≡◌, List, [], ◌∷◌, ◌++◌, map, Bool, true, false}
use Rattle.gh_path.specs.declared.condition.PathStep as kept_step
use Rattle.gh_path.specs.Conditions.{Condition}
use Rattle.gh_path.specs.Graphs.{PathStep, meets_at}
use Rattle.gh_path.specs.Kept.{step_of}
use Rattle.gh_path.specs.Terms.{no_terms}
use Rattle.gh_symb.specs.Contexts.{program_in, procedure_in}
use Rattle.gh_symb.specs.Fitting.{EncodesUnder}
use Rattle.gh_symb.specs.Following.{IsFollowed}
use Rattle.gh_symb.specs.Limits.{HasTerms}
use Rattle.gh_symb.specs.Reads.{LearnsTerms}
use Rattle.gh_symb.specs.Symbolic.{under}
use Rattle.gh_symb.specs.Tables.{Pairs, bound_by}
use Rattle.gh_symb.specs.Walkers.{terms_at}
use Rattle.gh_symb.specs.declared.context.Context.{Context}
use Rattle.gh_symb.specs.declared.passed.PathSoFar.{PathSoFar}
use Rattle.gh_symb.specs.declared.walker.Walker.{Walker}

-- the walk over the condition has come to w, where these steps are left, and this is kept of it
pub record HasPassed (set : Context) (steps : List PathStep) (c : Condition) (w : Walker) (k : PathSoFar) : Type 0 where
  pub start : EncodesUnder k.start (under (meets_at (procedure_in set) c.start) no_terms)
  pub rest : IsFollowed (program_in set) (procedure_in set) steps c (terms_at w) (bound_by k.firsts)
      (map bound_by k.states.items) k.steps.items

-- a state is kept, and what was learned since
pub record MeetsState (before now : Pairs) (old new : PathSoFar) : Type 0 where
  pub start : new.start ≡ old.start
  pub learns : LearnsTerms before now old.firsts new.firsts
  pub states : new.states.items ≡ old.states.items ++ before ∷ []
  pub steps : new.steps.items ≡ old.steps.items

-- wherever the step is the next one, it isn't left any more
abbrev pub PassesStep : Context → kept_step.PathStep → Walker → PathSoFar → Walker → PathSoFar → Type 0
PassesStep set r v k w l =
    (xs : List PathStep) (c : Condition) → HasPassed set (step_of r ∷ xs) c v k → HasPassed set xs c w l

-- no step is left; else there are too many terms
abbrev pub PassesAll : Context → Condition → Walker → PathSoFar → Bool → Type 0
PassesAll set c w k true = HasPassed set [] c w k
PassesAll set c w k false = HasTerms (program_in set) (procedure_in set) c
