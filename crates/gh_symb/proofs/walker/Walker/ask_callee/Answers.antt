use Rattle.std.proofs.Common.{◌≡◌, ◌∙◌, ap, subst, Some}
use Rattle.gh_ast.specs.Plain.{procedure_of}
use Rattle.gh_path.specs.Terms.{Terms, exprs_used, exprs_terms, walked, rebound, bound_inside, terms}
use Rattle.gh_symb.specs.Steps.{EndsWith}
use Rattle.gh_symb.specs.Symbolic.{needs_under}
use Rattle.gh_symb.specs.Tables.{state}
use Rattle.gh_symb.specs.Walkers.{terms_at}
use Rattle.gh_symb.specs.Fitting.{EncodesCheck}
use Rattle.gh_symb.specs.declared.over_terms.TermCheck.TheVariants as check
use Rattle.gh_symb.proofs.EncodingLemmas.{entry_encoded}
use Rattle.gh_symb.proofs.walker.Walker.ask_callee.Goals as goal

pub returns-clause-ended : goal.returns-clause-ended
returns-clause-ended c =
    let v = c.args.self.now.version in
    let p = procedure_of c.args.callee.now in
    let es = c.args.arguments.now in
    let t = state c.use_exprs.new.kinds c.use_exprs.new.self v in
    let used : t ≡ exprs_used es (terms_at c.args.self.now) = c.in_ok-use_exprs.ensures in
    let walks =
    c.in_ok-bound.ensures.made
    ∙ ap (λ b. walked p.needs (terms c.use_exprs.new.kinds b v)) c.in_ok-inside.ensures in
    subst (λ (q : Terms). EndsWith (walked p.needs (rebound q (bound_inside p (exprs_terms es q))))
    c.walk_bound.new.kinds v) used
    (record { kinds_are = ap (λ (q : Terms). q.kinds) walks; version_is = ap (λ (q : Terms). q.version) walks })

pub returns-clause-read : goal.returns-clause-read
returns-clause-read c =
    let v = c.args.self.now.version in
    let p = procedure_of c.args.callee.now in
    let es = c.args.arguments.now in
    let t = state c.use_exprs.new.kinds c.use_exprs.new.self v in
    let used : t ≡ exprs_used es (terms_at c.args.self.now) = c.in_ok-use_exprs.ensures in
    let ts = exprs_terms es t in
    let i = state c.use_exprs.new.kinds c.in_ok-inside.inside v in
    let enters : i ≡ rebound t (bound_inside p ts) = ap (λ b. terms c.use_exprs.new.kinds b v) c.in_ok-inside.ensures in
    subst (λ (q : Terms). EncodesCheck (check.Sub c.in_ok-bound.bound) (needs_under (Some p) (exprs_terms es q) q)) used
    (entry_encoded p ts t i c.in_ok-bound.bound enters c.in_ok-bound.ensures.encodes)
