-- What the parts of a walk over a condition do, and what is read off them.
use Rattle.std.specs.Prelude.{◌≡◌, ℕ, ◌+◌, List, length, Some, slice_get}
use Rattle.gh_base.specs.declared.place.Span.{Span}
use Rattle.gh_ast.specs.declared.Assertion.{Assertion}
use Rattle.gh_ast.specs.declared.Expr.{Expr}
use Rattle.gh_ast.specs.declared.Occ.{Occ}
use Rattle.gh_ast.specs.declared.Procedure as whole
use Rattle.gh_ast.specs.Plain.{Procedure, Program, procedure_of}
use Rattle.gh_ast.specs.Programs.{names, results_of}
use Rattle.gh_path.specs.Graphs.{While, loops_of, meets_at}
use Rattle.gh_path.specs.declared.condition.PathStep as kept_step
use Rattle.gh_path.specs.declared.condition.Start as kept_start
use Rattle.gh_path.specs.declared.condition.CheckKind as kept_kind
use Rattle.gh_path.specs.Kept.{step_of, start_of, asked_at}
use Rattle.gh_path.specs.Terms.{Terms, walked, call_walked, exprs_terms, exprs_used, invariant_walked, step_walked}
use Rattle.gh_path.specs.Terms.{bound_inside, check_walked, entry_walked, moved_on, renewed}
use Rattle.gh_symb.specs.Tables.{Pairs, bound_by, state}
use Rattle.gh_symb.specs.Loops.{IsWhile}
use Rattle.gh_symb.specs.Contexts.{program_in, procedure_in, variables_in}
use Rattle.gh_symb.specs.Steps.{EndsWith, entry_made}
use Rattle.gh_symb.specs.Phases.{loop_done, loop_encoding, step_done, step_encoding}
use Rattle.gh_symb.specs.Fitting.{EncodesUnder, EncodesStep, EncodesCheck}
use Rattle.gh_symb.specs.Reads.{gives_walked, walked_of, ReadsEach, ReadsWalked}
use Rattle.gh_symb.specs.Symbolic as plain
use Rattle.gh_symb.specs.Symbolic.{under, each_under, call_parts, needs_under, term_check, step_used, check_used}
use Rattle.gh_symb.specs.declared.over_terms.BoundAssertion.{BoundAssertion}
use Rattle.gh_symb.specs.declared.over_terms.TermStep.{TermStep}
use Rattle.gh_symb.specs.declared.over_terms.TermCheck.{TermCheck}
use Rattle.gh_path.specs.declared.loops.While.{While as CodeWhile}
use Rattle.gh_symb.specs.declared.context.Context.{Context}
use Rattle.gh_symb.specs.declared.walker.Walker.{Walker}

abbrev pub terms_at : Walker → Terms
terms_at w = state w.kinds w.scope w.version

-- a part of a walk leads from the terms before it to f of them
abbrev pub Goes : (Terms → Terms) → Walker → Walker → Type 0
Goes f v w = terms_at w ≡ f (terms_at v)

-- an assertion, once it is walked; alternatives, each once it is walked
abbrev pub ReadsAssertion : Assertion → Walker → BoundAssertion → Type 0
ReadsAssertion a v b = ReadsWalked a v.kinds v.scope v.version b

abbrev pub ReadsWays : List Assertion → Walker → List BoundAssertion → Type 0
ReadsWays ways v bs = ReadsEach ways v.kinds v.scope v.version bs

-- the start assertion is walked, and given
abbrev pub Begins : Context → kept_start.Start → Walker → Walker → BoundAssertion → Type 0
Begins s start v w b = let f = meets_at (procedure_in s) (start_of start) in
    Goes (walked f) v w × EncodesUnder b (under f (terms_at v))

-- a step: its variables are used; it is done; both
abbrev pub UsesStep : Context → kept_step.PathStep → Walker → Walker → Type 0
UsesStep s r v w = Goes (step_used (procedure_in s) (step_of r)) v w

abbrev pub DoesStep : Context → kept_step.PathStep → Walker → Walker → Type 0
DoesStep s r v w = Goes (step_done (program_in s) (procedure_in s) (step_of r)) v w

abbrev pub WalksStep : Context → kept_step.PathStep → Walker → Walker → Type 0
WalksStep s r v w = Goes (step_walked (program_in s) (procedure_in s) (step_of r)) v w

-- how a step is encoded, once its variables are used
abbrev pub ReadsStep : Context → kept_step.PathStep → Walker → TermStep → Type 0
ReadsStep s r v encoded = EncodesStep encoded (step_encoding (program_in s) (procedure_in s) (step_of r) (terms_at v))

-- the same whatever the program is
abbrev pub DoesAnywhere : kept_step.PathStep → Walker → Walker → Type 0
DoesAnywhere r v w = (P : Program) (proc : Procedure) → Goes (step_done P proc (step_of r)) v w

abbrev pub ReadsAnywhere : kept_step.PathStep → Walker → TermStep → Type 0
ReadsAnywhere r v encoded =
    (P : Program) (proc : Procedure) → EncodesStep encoded (step_encoding P proc (step_of r) (terms_at v))

-- the invariant of the loop of a number is walked
abbrev pub WalksInvariant : Context → ℕ → Walker → Walker → Type 0
WalksInvariant s n v w = Goes (invariant_walked (slice_get (loops_of (procedure_in s)) n)) v w

-- .. and read, once it is walked
abbrev pub ReadsInvariant : Context → ℕ → Walker → BoundAssertion → Type 0
ReadsInvariant s n v b =
    (l : While) × (slice_get (loops_of (procedure_in s)) n ≡ Some l) × EncodesUnder b (under l.invariant (terms_at v))

-- a loop that is met
abbrev pub DoesLoop : Context → CodeWhile → Walker → Walker → Type 0
DoesLoop s round v w = (l : While) → IsWhile round l → Goes (loop_done (Some l) (variables_in s)) v w

abbrev pub ReadsLoop : Context → CodeWhile → Walker → TermStep → Type 0
ReadsLoop s round v encoded =
    (l : While) → IsWhile round l → EncodesStep encoded (loop_encoding (Some l) (variables_in s) (terms_at v))

-- a call of the procedure of a number
abbrev pub DoesCall : Context → ℕ → List Occ → List Expr → Walker → Walker → Type 0
DoesCall s n xs es v w =
    Goes (λ t. call_walked (slice_get (program_in s).procedures n) (names xs) (exprs_terms es t) t) v w

abbrev pub ReadsCall : Context → ℕ → List Expr → Walker → TermStep → Type 0
ReadsCall s n es v encoded = let t = terms_at v in
    EncodesStep encoded (call_parts (slice_get (program_in s).procedures n) (exprs_terms es t) t)

-- the step that makes a new cell, from the terms before it
abbrev pub cell_read : Terms → plain.TermStep
cell_read s = plain.new_step (length s.kinds) (length s.kinds + 1)

-- a call of a procedure, once its arguments are used
abbrev pub call_done : whole.Procedure → List Occ → List Expr → Terms → Terms
call_done p xs es s = call_walked (Some (procedure_of p)) (names xs) (exprs_terms es s) s

abbrev pub call_read : whole.Procedure → List Expr → Terms → plain.TermStep
call_read p es s = call_parts (Some (procedure_of p)) (exprs_terms es s) s

-- the names inside a callee: its parameters, bound to the arguments' terms
abbrev pub IsInsideCall : whole.Procedure → List Expr → Terms → Pairs → Type 0
IsInsideCall p es s inside = bound_by inside ≡ bound_inside (procedure_of p) (exprs_terms es s)

-- the terms inside a callee
abbrev pub terms_inside : Walker → Pairs → Terms
terms_inside w es = state w.kinds es w.version

-- what a callee needs is walked, and in the next version what it gives; the step over terms
abbrev pub inside_done : whole.Procedure → Terms → Terms
inside_done p s = gives_walked p (moved_on (walked_of p.needs s))

abbrev pub inside_read : whole.Procedure → Terms → plain.TermStep
inside_read p s =
    let q = procedure_of p in
    plain.part_step (under q.needs s) (each_under q.gives (renewed (results_of q) (moved_on (walked q.needs s))))

-- a check: its variables are used; the walk ends with it; what it asks
abbrev pub UsesCheck : Context → kept_kind.CheckKind → Walker → Walker → Type 0
UsesCheck s r v w = (at : Span) → bound_by w.scope ≡ (check_used (procedure_in s) (asked_at r at) (terms_at v)).bindings

abbrev pub EndsCheck : Context → kept_kind.CheckKind → Walker → Walker → Type 0
EndsCheck s r v w =
    (at : Span) → EndsWith (check_walked (program_in s) (procedure_in s) (asked_at r at) (terms_at v)) w.kinds w.version

abbrev pub ReadsCheck : Context → kept_kind.CheckKind → Walker → TermCheck → Type 0
ReadsCheck s r v asked =
    (at : Span) → EncodesCheck asked (term_check (program_in s) (procedure_in s) (asked_at r at) (terms_at v))

-- the same of what a callee needs
abbrev pub UsesAll : List Expr → Walker → Walker → Type 0
UsesAll es v w = bound_by w.scope ≡ (exprs_used es (terms_at v)).bindings

abbrev pub EndsEntry : whole.Procedure → List Expr → Walker → Walker → Type 0
EndsEntry p es v w = EndsWith (entry_made (procedure_of p) es (terms_at v)) w.kinds w.version

abbrev pub ReadsEntry : whole.Procedure → List Expr → Walker → TermCheck → Type 0
ReadsEntry p es v asked = let t = exprs_used es (terms_at v) in
    EncodesCheck asked (needs_under (Some (procedure_of p)) (exprs_terms es t) t)

-- .. of what the procedure of a number needs
abbrev pub EndsCalled : Context → ℕ → List Expr → Walker → Walker → Type 0
EndsCalled s n es v w = let t = exprs_used es (terms_at v) in
    EndsWith (entry_walked (slice_get (program_in s).procedures n) (exprs_terms es t) t) w.kinds w.version

abbrev pub ReadsCalled : Context → ℕ → List Expr → Walker → TermCheck → Type 0
ReadsCalled s n es v asked = let t = exprs_used es (terms_at v) in
    EncodesCheck asked (needs_under (slice_get (program_in s).procedures n) (exprs_terms es t) t)
