-- The description of a condition: `PROC from START: CHECK at L:C`. What its numbers mean is read from the program.
-- A number that no procedure or loop has (`None` of `Option Procedure` or `Option While`) is in no condition of a typed
-- program, so what is said of it doesn't matter.
use Rattle.std.specs.Prelude.{ℕ, List, [], ◌++◌, codes, Option, Some, None, slice_get}
use Rattle.std.specs.Fmt.{decimal}
use Rattle.gh_base.specs.declared.place.Span.{Span}
use Rattle.gh_ast.specs.Plain.{Procedure, Program}
use Rattle.gh_ast.specs.Programs.{Name, name_of}
use Rattle.gh_path.specs.Graphs.{Check, access, callee_entry, loop_entry, return_check, loop_end, check_place, While}
use Rattle.gh_path.specs.Graphs.{loops_of, Start, at_entry, at_loop}
use Rattle.gh_path.specs.Conditions.{Condition}

-- `L:C`
abbrev pub place_text : Span → List ℕ
place_text p = decimal p.line ++ codes ":" ++ decimal p.col

abbrev pub name_in : Option Procedure → Name
name_in (Some p) = name_of p
name_in None = []

abbrev pub loops_in : Option Procedure → List While
loops_in (Some p) = loops_of p
loops_in None = []

-- the place of a loop
abbrev pub loop_text : Option While → List ℕ
loop_text (Some l) = place_text l.at
loop_text None = []

-- `callee_entry`, or `loop at L:C` with the place of the loop of a number among those of the procedure
abbrev pub start_text : List While → Start → List ℕ
start_text ls at_entry = codes "entry"
start_text ls (at_loop n) = codes "loop at " ++ loop_text (slice_get ls n)

abbrev pub check_text : Program → Check → List ℕ
check_text P (access o) = codes "access to " ++ o.name
check_text P (callee_entry at n es) = codes "entry of " ++ name_in (slice_get P.procedures n)
check_text P (loop_entry at n) = codes "loop entry"
check_text P (return_check at) = codes "return"
check_text P (loop_end at n) = codes "loop end"

abbrev pub description : Program → Condition → List ℕ
description P c =
    let proc = slice_get P.procedures c.procedure in
    name_in proc ++ codes " from " ++ start_text (loops_in proc) c.start ++ codes ": " ++ check_text P c.way.check
    ++ codes " at " ++ place_text (check_place c.way.check)
