-- The laws.
use Rattle.std.specs.Prelude.{◌≡◌, ◌↔◌, List, map, Contains, Decides}
use Rattle.gh_ast.specs.Plain.{Statement, Procedure, Program}
use Rattle.gh_ast.specs.Programs.{Name, Declares, Assigns}
use Rattle.gh_ast.specs.Rules.{IsTyped}
use Rattle.gh_path.specs.Graphs.{PathStep, Graph, number_of, IsProcedureAt}
use Rattle.gh_path.specs.Paths.{Before, Way, IsListOf, ways}
use Rattle.gh_path.specs.Conditions.{Condition, conditions, IsCondition, IsOf, IsThere}
use Rattle.gh_path.specs.Terms.{assigns}
use Rattle.gh_path.specs.Examples.{reversal, concatenation, row_of, reversal_rows, concatenation_rows}

-- no path of a graph stands before itself, and the order goes over
pub record PathsAreOrdered : Type 0 where
  pub never_itself : (g : Graph) (ps : List PathStep) → Before g ps ps → ⊥
  pub goes_over : (g : Graph) (ps qs rs : List PathStep) → Before g ps qs → Before g qs rs → Before g ps rs

-- the paths of a graph stand in one order: `ways` lists them, and no other list does
pub record HasOneList (g : Graph) : Type 0 where
  pub is_list : IsListOf g (ways g)
  pub one : (xs : List Way) → IsListOf g xs → xs ≡ ways g

abbrev pub PathsHaveOneList : Type 0
PathsHaveOneList = (g : Graph) → HasOneList g

-- the list has all conditions and nothing else
abbrev pub AllAreListed : Type 0
AllAreListed = (P : Program) (c : Condition) → Contains (conditions P) c ↔ IsCondition P c

-- the numbers of a typed program's condition are those of its procedures and of loops of the condition's procedure
abbrev pub NumbersAreThere : Type 0
NumbersAreThere =
    (P : Program) (c : Condition) (proc : Procedure) → IsTyped P → IsCondition P c → IsOf P c proc → IsThere P proc c

-- the conditions of two small programs stand where one expects them
pub record ExamplesHold : Type 0 where
  pub with_a_loop : map row_of (conditions reversal) ≡ reversal_rows
  pub with_a_call : map row_of (conditions concatenation) ≡ concatenation_rows

-- the number that a call has is that of the procedure which it means
abbrev pub CalleesAreNumbered : Type 0
CalleesAreNumbered =
    (P : Program) (f : Name) (proc : Procedure) → IsProcedureAt P (number_of P f) proc ↔ Declares P f proc

-- the walk's test of assigned variables decides which variables a statement assigns
abbrev pub AssignsDecides : Type 0
AssignsDecides = (s : Statement) (y : Name) → Decides (assigns s y) (Assigns s y)
