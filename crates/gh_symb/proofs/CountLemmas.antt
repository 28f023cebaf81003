-- How far the walk over a condition has come.
use Rattle.std.specs.Prelude.{◌≡◌, ℕ, ◌+◌, ◌<◌, ◌≤◌, List, [], ◌∷◌, length, drop, get_or, map, slice_get, Some, All}
use Rattle.std.proofs.Common.{refl, sym, ◌∙◌, ap, subst, arith}
use Rattle.std.proofs.lemmas.List.{length-map}
use Rattle.std.proofs.lemmas.Option.{slice_get_within, get_or_from_slice_get}
use Rattle.std.proofs.Math.ListN.{get_or-map}
use Rattle.gh_base.specs.declared.place.Span.{Span}
use Rattle.gh_ast.specs.Plain.{Procedure, Program, procedure_of, program_of}
use Rattle.gh_ast.specs.declared.Procedure as whole
use Rattle.gh_ast.specs.declared.Program as whole_program
use Rattle.gh_ast.proofs.Lists.{one_value}
use Rattle.gh_path.specs.Admitted.{most_terms}
use Rattle.gh_path.specs.Graphs.{PathStep}
use Rattle.gh_path.specs.Kept.{step_of, asked_at, condition_of, IsScoped, HoldsFor}
use Rattle.gh_path.specs.Conditions.{Condition, IsOf, IsThere, StepIsThere, CheckIsThere}
use Rattle.gh_path.specs.declared.condition.PathStep as kept_step
use Rattle.gh_path.specs.declared.condition.Condition as kept_condition
use Rattle.gh_path.specs.Terms.{Kind, Terms, step_walked, steps_walked, check_walked, way_walked, terms_of}
use Rattle.gh_symb.specs.Contexts.{program_in, procedure_in, IsContextOf}
use Rattle.gh_symb.specs.declared.context.Context.{Context}
use Rattle.gh_symb.specs.Limits.{HasTerms}
use Rattle.gh_symb.specs.Steps.{EndsWith}
use Rattle.gh_symb.specs.Symbolic.{begins}
use Rattle.gh_symb.specs.Remaining.{Remains}
use Rattle.gh_symb.proofs.GrowLemmas.{size, steps_grow, check_grows}
use Rattle.gh_symb.proofs.StepLemmas.{called_procedure, callee_within}
use Rattle.gh_symb.proofs.TableLemmas.{head_of}

-- the procedure of a condition
pub its_procedure : (P : whole_program.Program) (ps : List whole.Procedure) (n : ℕ) (q : whole.Procedure)
    (proc : Procedure) → ps ≡ P.procedures.items → q ≡ get_or ps n q →
    slice_get (program_of P).procedures n ≡ Some proc → procedure_of q ≡ proc
its_procedure P ps n q proc same is at =
    let there : slice_get (map procedure_of ps) n ≡ Some proc =
    ap (λ xs. slice_get (map procedure_of xs) n) same ∙ at in
    let here : get_or (map procedure_of ps) n (procedure_of q) ≡ proc =
    get_or_from_slice_get (map procedure_of ps) n proc (procedure_of q) there in
    ap procedure_of is ∙ sym (get_or-map procedure_of ps n q) ∙ here

-- the procedure's number of a condition that fits the program is there, and what stands at it is the procedure
pub scoped_within : (P Q : whole_program.Program) (r : kept_condition.Condition) → Q ≡ P → IsScoped (program_of P) r
    → r.procedure < length Q.procedures.items
scoped_within P Q r same fits =
    let here : IsScoped (program_of Q) r =
    subst (λ (x : whole_program.Program). IsScoped (program_of x) r) (sym same) fits in
    callee_within Q r.procedure (slice_get_within (program_of Q).procedures r.procedure here.0 here.1)

pub scoped_of : (P Q : whole_program.Program) (r : kept_condition.Condition) (q : whole.Procedure) → Q ≡ P
    → IsScoped (program_of P) r → q ≡ get_or Q.procedures.items r.procedure q →
    IsOf (program_of P) (condition_of r) (procedure_of q)
scoped_of P Q r q same fits is =
    subst (λ (x : whole_program.Program). IsOf (program_of x) (condition_of r) (procedure_of q)) same
    (called_procedure Q r.procedure q (scoped_within P Q r same fits) is)

-- .. and all numbers are there
pub scoped_there : (P : Program) (r : kept_condition.Condition) (proc : Procedure) → IsScoped P r
    → IsOf P (condition_of r) proc → IsThere P proc (condition_of r)
scoped_there P r proc fits of =
    subst (λ q. IsThere P q (condition_of r)) (one_value (slice_get P.procedures r.procedure) fits.0 proc fits.1 of)
    fits.2

-- what holds of a condition and the procedure of its context holds for it
pub holds_here : (P : Program) (r : kept_condition.Condition) (proc : Procedure)
    (Q : Program → Procedure → Condition → Type 0) → IsOf P (condition_of r) proc → Q P proc (condition_of r)
    → HoldsFor P r Q
holds_here P r proc Q of here =
    λ q other. subst (λ x. Q P x (condition_of r)) (one_value (slice_get P.procedures r.procedure) proc q of other) here

-- the numbers of the check, and of a step that is left, are there
pub has_check : {P : Program} {r : kept_condition.Condition} {set : Context} → IsContextOf P r set →
    (at : Span) × CheckIsThere (program_in set) (procedure_in set) (asked_at r.check.kind at)
has_check {P} {r} {set} is = (
  r.check.span,
  subst (λ Q. CheckIsThere Q (procedure_in set) (asked_at r.check.kind r.check.span)) (sym is.program)
      is.there.check,
)

pub has_next : {P : Program} {k : kept_condition.Condition} {set : Context} → IsContextOf P k set
    → (rs : List kept_step.PathStep) (i : ℕ) {r : kept_step.PathStep} → rs ≡ k.steps.items →
    i < length rs → r ≡ get_or rs i r → StepIsThere (program_in set) (procedure_in set) (step_of r)
has_next {P} {k} {set} of rs i {r} same within is =
    let proc = procedure_in set in
    let all : All (StepIsThere P proc) (map step_of rs) =
    subst (λ xs. All (StepIsThere P proc) (map step_of xs)) (sym same) of.there.steps in
    let here : StepIsThere P proc (get_or (map step_of rs) i (step_of r)) =
    all i (step_of r) (omega (arith, within, length-map rs step_of)) in
    let one : get_or (map step_of rs) i (step_of r) ≡ step_of r = get_or-map step_of rs i r ∙ ap step_of (sym is) in
    subst (λ Q. StepIsThere Q proc (step_of r)) (sym of.program) (subst (StepIsThere P proc) one here)

-- the next of some steps
pub gone_next : (P : Program) (proc : Procedure) (rs : List kept_step.PathStep) (i : ℕ) (r : kept_step.PathStep)
    (c : Condition) (s t : Terms) → i < length rs → r ≡ get_or rs i r →
    Remains P proc (map step_of (drop i rs)) c s → t ≡ step_walked P proc (step_of r) s
    → Remains P proc (map step_of (drop (i + 1) rs)) c t
gone_next P proc rs i r c s t within is left walks =
    let now : Remains P proc (step_of r ∷ map step_of (drop (i + 1) rs)) c s =
    subst (λ xs. Remains P proc (map step_of xs) c s) (head_of rs i r within is) left in
    ap (steps_walked P proc (map step_of (drop (i + 1) rs))) walks ∙ now

-- a walk that has passed the limit has passed it at the end
pub many : (P : Program) (proc : Procedure) (steps : List PathStep) (c : Condition) (s : Terms)
    → Remains P proc steps c s → most_terms < length s.kinds → HasTerms P proc c
many P proc steps c s left over =
    let last = steps_walked P proc c.way.steps (begins proc c.start) in
    let on : size s ≤ size last = subst (λ t. size s ≤ size t) left (steps_grow P proc steps s) in
    let end : size last ≤ size (check_walked P proc c.way.check last) = check_grows P proc c.way.check last in
    let all : size (check_walked P proc c.way.check last) ≡ length (terms_of P proc c.start c.way) = refl in
    omega (arith, over, on, end, all)

-- where no step is left
pub ended : (P : Program) (proc : Procedure) (c : Condition) (s : Terms) → Remains P proc [] c s
    → (kinds : List Kind) (version : ℕ) →
    EndsWith (check_walked P proc c.way.check s) kinds version
    → EndsWith (way_walked P proc c.start c.way) kinds version
ended P proc c s left kinds version ends =
    subst (λ t. EndsWith (check_walked P proc c.way.check t) kinds version) left ends
