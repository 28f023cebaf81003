use Rattle.std.proofs.Common.{◌≡◌, ◌∙◌, ◌+◌, sym, ap, subst, filter}
use Rattle.gh_ast.specs.Plain.{statements_view}
use Rattle.gh_ast.proofs.PlainLemmas.{part_of-statements}
use Rattle.gh_path.specs.Terms.{renewed, some_assigns, moved_on, walked}
use Rattle.gh_symb.specs.Phases.{under_bindings}
use Rattle.gh_symb.specs.Symbolic.{under}
use Rattle.gh_symb.specs.Contexts.{variables_in}
use Rattle.gh_symb.specs.Tables.{state}
use Rattle.gh_symb.specs.Walkers.{terms_at}
use Rattle.gh_symb.specs.Fitting.{EncodesUnder}
use Rattle.gh_symb.proofs.EncodingLemmas.{loop_encoded}
use Rattle.gh_symb.proofs.walker.Walker.encode_loop.Goals as goal

pub returns-clause-done : goal.returns-clause-done
returns-clause-done c = λ l round.
    let v = c.args.self.now.version in
    let s = terms_at c.args.self.now in
    let r = state c.renew_all.new.kinds c.renew_all.new.self (v + 1) in
    let body : statements_view c.as_slice-body.result.now ≡ l.body =
    ap statements_view c.as_slice-body.ensures.value ∙ sym (part_of-statements c.args.round.now.body.now)
    ∙ round.body in
    let renew : r ≡ renewed (filter (some_assigns l.body) (variables_in c.args.context)) (moved_on s) =
    rw body at (c.in_ok-renew_all.ensures (v + 1)) in
    c.in_ok-after.ensures.made ∙ ap (λ f. walked f r) round.invariant ∙ ap (walked l.invariant) renew

pub returns-clause-read : goal.returns-clause-read
returns-clause-read c = λ l round.
    let v = c.args.self.now.version in
    let xs = variables_in c.args.context in
    let s = terms_at c.args.self.now in
    let r = state c.renew_all.new.kinds c.renew_all.new.self (v + 1) in
    let body : statements_view c.as_slice-body.result.now ≡ l.body =
    ap statements_view c.as_slice-body.ensures.value ∙ sym (part_of-statements c.args.round.now.body.now)
    ∙ round.body in
    let renew : r ≡ renewed (filter (some_assigns l.body) xs) (moved_on s) =
    rw body at (c.in_ok-renew_all.ensures (v + 1)) in
    loop_encoded xs l s r c.in_ok-before.before c.in_ok-after.after c.in_ok-step.step
    (subst (λ f. EncodesUnder c.in_ok-before.before (under_bindings f s.bindings v)) round.invariant
    c.in_ok-before.ensures) renew
    (subst (λ f. EncodesUnder c.in_ok-after.after (under f r)) round.invariant c.in_ok-after.ensures.encodes)
    c.in_ok-step.ensures
