-- A condition that is walked to its end.
use Rattle.std.specs.Prelude.{◌≡◌, ◌+◌, Option, Some, None}
use Rattle.gh_ast.specs.Plain.{Procedure, Program}
use Rattle.gh_path.specs.Conditions.{Condition}
use Rattle.gh_path.specs.Terms.{terms_of, versions_of}
use Rattle.gh_symb.specs.Symbolic.{symbolic_of}
use Rattle.gh_symb.specs.Encodings.{Each}
use Rattle.gh_symb.specs.Fitting.{EncodesBinding, EncodesUnder, EncodesStep, EncodesCheck}
use Rattle.gh_symb.specs.Encoded.{IsSymbolic}
use Rattle.gh_symb.specs.Limits.{HasTerms, PassesNone}
use Rattle.gh_symb.specs.Steps.{IsCount}
use Rattle.gh_symb.specs.declared.over_terms.Symbolic.{Symbolic}
use Rattle.gh_symb.specs.declared.symbolic.Walked.{Walked}

-- the terms and versions of the condition are listed and counted, and its parts are encoded
pub record IsWalked (P : Program) (proc : Procedure) (c : Condition) (w : Walked) : Type 0 where
  pub kinds_are : w.kinds ≡ terms_of P proc c.start c.way
  pub versions_are : w.version + 1 ≡ versions_of P proc c.start c.way
  pub counts_are : IsCount P proc c w.counts
  pub start_is : EncodesUnder w.start (symbolic_of P proc c).start
  pub steps_are : Each EncodesStep w.steps.items (symbolic_of P proc c).steps
  pub check_is : EncodesCheck w.check (symbolic_of P proc c).check
  pub bindings_are : Each EncodesBinding w.bindings.items (symbolic_of P proc c).bindings

-- the condition is walked to its end, unless it has too many terms
abbrev pub IsWalkedFar : Program → Procedure → Condition → Option Walked → Type 0
IsWalkedFar P proc c (Some w) = IsWalked P proc c w
IsWalkedFar P proc c None = HasTerms P proc c

-- the condition is walked, and passes no limit
pub record IsWithinLimits (P : Program) (proc : Procedure) (c : Condition) (w : Walked) : Type 0 where
  pub walked : IsWalked P proc c w
  pub few : PassesNone P proc c

-- s encodes each condition that w is a walk over and that passes no limit
abbrev pub EncodesWalked : Walked → Symbolic → Type 0
EncodesWalked w s = (P : Program) (proc : Procedure) (c : Condition) → IsWithinLimits P proc c w → IsSymbolic P proc c s
