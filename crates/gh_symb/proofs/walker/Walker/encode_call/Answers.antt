use Rattle.std.proofs.Common.{◌≡◌, ◌∙◌, ap, map, subst}
use Rattle.gh_ast.specs.Plain.{procedure_of}
use Rattle.gh_ast.specs.Programs.{names, results_of}
use Rattle.gh_path.specs.Terms.{Bindings, Terms, all_bound, bound_inside, exprs_terms, rebound, term_of, terms}
use Rattle.gh_symb.specs.Fitting.{EncodesStep}
use Rattle.gh_symb.specs.Tables.{bound_by}
use Rattle.gh_symb.specs.Walkers.{terms_at, terms_inside, inside_done, inside_read}
use Rattle.gh_symb.proofs.walker.Walker.encode_call.Goals as goal

pub returns-clause-done : goal.returns-clause-done
returns-clause-done c =
    let v = c.args.self.now in
    let w = c.walk_callee.new.self in
    let p = procedure_of c.args.callee.now in
    let s = terms_at v in
    let ts = exprs_terms c.args.arguments.now s in
    let enters : terms_inside v c.in_ok-inside.inside ≡ rebound s (bound_inside p ts) =
    ap (λ (b : Bindings). terms v.kinds b v.version) c.in_ok-inside.ensures in
    let does : terms_inside w c.walk_callee.new.inside ≡ inside_done c.args.callee.now (rebound s (bound_inside p ts)) =
    c.in_ok-step.ensures.done ∙ ap (inside_done c.args.callee.now) enters in
    let binds : bound_by c.bind_from.new.self
    ≡ all_bound s.bindings (names c.args.targets.now)
    (map (λ x. term_of x (terms_inside w c.walk_callee.new.inside)) (results_of p)) =
    rw (c.as_slice.ensures.value, c.in_ok-step.ensures.scope) at c.in_ok-bind_from.ensures in
    ap (λ (b : Bindings). terms w.kinds b w.version) binds
    ∙ ap (λ (q : Terms). rebound q
    (all_bound s.bindings (names c.args.targets.now) (map (λ x. term_of x q) (results_of p)))) does

pub returns-clause-read : goal.returns-clause-read
returns-clause-read c =
    let v = c.args.self.now in
    let p = procedure_of c.args.callee.now in
    let s = terms_at v in
    let enters : terms_inside v c.in_ok-inside.inside
    ≡ rebound s (bound_inside p (exprs_terms c.args.arguments.now s)) =
    ap (λ (b : Bindings). terms v.kinds b v.version) c.in_ok-inside.ensures in
    subst (λ (q : Terms). EncodesStep c.in_ok-step.step (inside_read c.args.callee.now q)) enters
    c.in_ok-step.ensures.read
