-- How many terms and versions of the heap a condition has.
-- A number that no procedure or loop has (`None` of `Option Procedure` or `Option Loop`) is in no condition of a typed
-- program, so what is said of it doesn't matter.
use Rattle.std.specs.Prelude.{List, length, map, Option, Some, None, slice_get}
use Rattle.gh_ast.specs.Plain.{Procedure, Program}
use Rattle.gh_path.specs.Conditions.{Condition, conditions}
use Rattle.gh_path.specs.Terms.{terms_of, versions_of}
use Rattle.gh_symb.specs.declared.count.Count.{Count}

-- how many terms and versions of the heap a condition of the procedure proc has
abbrev pub count_of : Program → Procedure → Condition → Count
count_of P proc c = record {
  terms = length (terms_of P proc c.start c.way);
  versions = versions_of P proc c.start c.way;
}

abbrev pub no_count : Count
no_count = record { terms = 0; versions = 0 }

abbrev pub count_in : Program → Option Procedure → Condition → Count
count_in P None c = no_count
count_in P (Some proc) c = count_of P proc c

-- the same of a condition of a program, by its procedure; and of all conditions, in order
abbrev pub condition_count : Program → Condition → Count
condition_count P c = count_in P (slice_get P.procedures c.procedure) c

abbrev pub counts_of : Program → List Count
counts_of P = map (condition_count P) (conditions P)
