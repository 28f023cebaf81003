-- The program and the procedure of a condition that is kept.
use Rattle.std.specs.Prelude.{◌≡◌, List}
use Rattle.gh_ast.specs.Plain.{Procedure, Program, procedure_of, program_of}
use Rattle.gh_ast.specs.Programs.{Name, variable_names}
use Rattle.gh_path.specs.Conditions.{IsOf, IsThere}
use Rattle.gh_path.specs.Kept.{condition_of}
use Rattle.gh_path.specs.declared.condition.Condition as kept_condition
use Rattle.gh_symb.specs.declared.context.Context.{Context}

abbrev pub program_in : Context → Program
program_in s = program_of s.program.now

abbrev pub procedure_in : Context → Procedure
procedure_in s = procedure_of s.procedure.now

abbrev pub variables_in : Context → List Name
variables_in s = variable_names (procedure_in s)

-- the program is this one, the procedure that of the condition, and all numbers of the condition are there
pub record IsContextOf (P : Program) (r : kept_condition.Condition) (s : Context) : Type 0 where
  pub program : program_in s ≡ P
  pub of : IsOf P (condition_of r) (procedure_in s)
  pub there : IsThere P (procedure_in s) (condition_of r)
