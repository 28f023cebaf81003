-- What is read off the names and kinds of a walk, and how first uses are learned.
use Rattle.std.specs.Prelude.{◌≡◌, ℕ, List, map}
use Rattle.gh_ast.specs.declared.Assertion.{Assertion}
use Rattle.gh_ast.specs.declared.Cond.{Cond}
use Rattle.gh_ast.specs.declared.Procedure as kept
use Rattle.gh_ast.specs.Plain.{assertion_of, assertions_view, procedure_of, conds_view}
use Rattle.gh_ast.specs.Programs.{Name, results_of}
use Rattle.gh_path.specs.Terms.{Kind, Terms, walked, all_walked, each_walked, renewed, conds_walked}
use Rattle.gh_grass.specs.declared.binding.Bond.{Bond}
use Rattle.gh_symb.specs.Symbolic.{under, each_under}
use Rattle.gh_symb.specs.Phases.{learned, bound_unless, under_bindings, both}
use Rattle.gh_symb.specs.Tables.{Pairs, bound_by, state, Walks}
use Rattle.gh_symb.specs.Encodings.{Each}
use Rattle.gh_symb.specs.Fitting.{EncodesBinding, EncodesUnder}
use Rattle.gh_symb.specs.declared.scope.Entry.{Entry}
use Rattle.gh_symb.specs.declared.over_terms.BoundAssertion.{BoundAssertion}

-- an assertion is walked
abbrev pub walked_of : Assertion → Terms → Terms
walked_of a = walked (assertion_of a)

-- .. as the members of a star
abbrev pub all_walked_of : List Assertion → Terms → Terms
all_walked_of assertions = all_walked (assertions_view assertions)

-- tests are walked in order
abbrev pub all_tests_of : List Cond → Terms → Terms
all_tests_of tests = conds_walked (conds_view tests)

-- alternatives are walked in order
abbrev pub each_walked_of : List Assertion → Terms → Terms
each_walked_of assertions = each_walked (map assertion_of assertions)

abbrev pub WalksEach : List Assertion → List Kind → Pairs → List Kind → Pairs → ℕ → Type 0
WalksEach assertions ks es ls fs i = Walks (each_walked_of assertions) ks es ls fs i

-- an assertion in a version, as its variables are bound
abbrev pub ReadsBound : Assertion → Pairs → ℕ → BoundAssertion → Type 0
ReadsBound a es i b = EncodesUnder b (under_bindings (assertion_of a) (bound_by es) i)

-- .. once it is walked
abbrev pub ReadsWalked : Assertion → List Kind → Pairs → ℕ → BoundAssertion → Type 0
ReadsWalked a ks es i b = EncodesUnder b (under (assertion_of a) (state ks es i))

abbrev pub ReadsEach : List Assertion → List Kind → Pairs → ℕ → List BoundAssertion → Type 0
ReadsEach assertions ks es i bs = Each EncodesUnder bs (each_under (map assertion_of assertions) (state ks es i))

-- the results of a procedure get new values, and what the procedure gives is walked; each alternative, once it is
-- walked
abbrev pub gives_walked : kept.Procedure → Terms → Terms
gives_walked p s = let q = procedure_of p in each_walked q.gives (renewed (results_of q) s)

abbrev pub ReadsGives : kept.Procedure → List Kind → Pairs → ℕ → List BoundAssertion → Type 0
ReadsGives p ks es i bs = let q = procedure_of p in
    Each EncodesUnder bs (each_under q.gives (renewed (results_of q) (state ks es i)))

-- the terms at each state, and where there are none those of first uses
abbrev pub ReadsStates : List Pairs → Pairs → List (List Bond) → Type 0
ReadsStates states firsts bs = Each EncodesBinding bs (map (λ es. both (bound_by es) (bound_by firsts)) states)

-- the variable of the entry e is bound to its term, unless the variable had a term before
abbrev pub LearnsOne : Pairs → Entry → Pairs → Pairs → Type 0
LearnsOne before e old new = bound_by new ≡ bound_unless (bound_by before e.name.now) (bound_by old) e.name.now e.term

-- the variables that had no term before and have one now are bound to it
abbrev pub LearnsTerms : Pairs → Pairs → Pairs → Pairs → Type 0
LearnsTerms before now old new =
    (x : Name) → bound_by new x ≡ learned (bound_by before x) (bound_by now x) (bound_by old x)
