-- What is told of conditions as they are kept.
use Rattle.std.specs.Prelude.{◌≡◌, ℕ, List, ◌++◌}
use Rattle.gh_base.specs.declared.place.Span.{Span}
use Rattle.gh_ast.specs.Plain.{Procedure, Program}
use Rattle.gh_path.specs.Graphs.{loops_of}
use Rattle.gh_path.specs.Conditions.{StartIsThere, CheckIsThere}
use Rattle.gh_path.specs.Kept.{start_of, asked_at, condition_of}
use Rattle.gh_draw.specs.Descriptions.{start_text, check_text, description}
use Rattle.gh_path.specs.declared.condition.Start as kept_start
use Rattle.gh_path.specs.declared.condition.CheckKind as kept_kind
use Rattle.gh_path.specs.declared.condition.Condition as kept_condition

-- the loop that a start names is there, and so is the procedure or the loop that a check names
abbrev pub HasStart : Procedure → kept_start.Start → Type 0
HasStart p start = StartIsThere p (start_of start)

abbrev pub HasKind : Program → kept_kind.CheckKind → Type 0
HasKind P kind = (proc : Procedure) × (at : Span) × CheckIsThere P proc (asked_at kind at)

-- a text to which the start is added
abbrev pub TellsStart : Procedure → kept_start.Start → List ℕ → List ℕ → Type 0
TellsStart p start old new = new ≡ old ++ start_text (loops_of p) (start_of start)

-- a text to which what is asked is added
abbrev pub TellsKind : Program → kept_kind.CheckKind → List ℕ → List ℕ → Type 0
TellsKind P kind old new = (at : Span) → new ≡ old ++ check_text P (asked_at kind at)

-- the text is the description of the condition
abbrev pub Describes : Program → kept_condition.Condition → List ℕ → Type 0
Describes P r text = text ≡ description P (condition_of r)
