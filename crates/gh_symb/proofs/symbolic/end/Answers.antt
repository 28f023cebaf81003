use Rattle.std.proofs.Common.{◌≡◌, ◌∙◌, ◌∷◌, ◌++◌, [], sym, ap, subst, map, arith}
use Rattle.std.proofs.lemmas.List.{map-append}
use Rattle.gh_path.specs.Graphs.{meets_at}
use Rattle.gh_path.specs.Kept.{condition_of}
use Rattle.gh_path.specs.Terms.{no_terms}
use Rattle.gh_symb.specs.Contexts.{program_in, procedure_in}
use Rattle.gh_symb.specs.Encodings.{Each}
use Rattle.gh_symb.specs.Fitting.{EncodesBinding, EncodesUnder}
use Rattle.gh_symb.specs.Following.{Followed}
use Rattle.gh_symb.specs.Phases.{both}
use Rattle.gh_symb.specs.Symbolic.{under}
use Rattle.gh_symb.specs.Tables.{bound_by}
use Rattle.gh_symb.specs.Walkers.{terms_at}
use Rattle.gh_symb.proofs.BindingLemmas.{states_both}
use Rattle.gh_symb.proofs.CountLemmas.{has_check}
use Rattle.gh_symb.proofs.FollowLemmas.{ended, is_walked}
use Rattle.gh_symb.proofs.symbolic.end.Goals as goal

pub ask_check-requires : goal.ask_check-requires
ask_check-requires c = has_check c.requires.of

pub overflow_add-walker : goal.overflow_add-walker
overflow_add-walker c = omega (arith, c.requires.room, c.in_ok-check.ensures.version)

pub returns : goal.returns
returns c =
    let P = program_in c.args.context in
    let proc = procedure_in c.args.context in
    let d = condition_of c.args.condition.now in
    let s = terms_at c.args.walker in
    let k = c.args.passed in
    let l = c.ask_check.new.self in
    let w = c.ask_check.new.walker in
    let place = c.args.condition.now.check.span in
    let met = c.in_ok-check.ensures.met in
    let followed =
    ended P proc d s (bound_by w.scope) (bound_by k.firsts) (bound_by l.firsts) (map bound_by k.states.items)
    k.steps.items
    c.requires.passed.rest (c.in_ok-check.ensures.used place) met.learns in
    let states : map bound_by l.states.items ≡ map bound_by k.states.items ++ s.bindings ∷ [] =
    ap (map bound_by) met.states ∙ map-append bound_by k.states.items (c.args.walker.scope ∷ []) in
    is_walked P proc d s (bound_by l.firsts) (map bound_by k.states.items ++ s.bindings ∷ []) _
    (subst (λ ts. Followed P proc d s (bound_by l.firsts) (map bound_by k.states.items ++ s.bindings ∷ []) ts)
    (sym met.steps) followed)
    (c.in_ok-check.ensures.ended place) (c.in_ok-check.ensures.read place)
    (subst (λ b. EncodesUnder b (under (meets_at proc d.start) no_terms)) (sym met.start) c.requires.passed.start)
    (subst (λ ms. Each EncodesBinding c.in_ok-bindings.bindings.items ms)
    (states_both (bound_by l.firsts) l.states.items ∙ ap (map (λ b. both b (bound_by l.firsts))) states)
    (rw c.as_slice.ensures.value at c.in_ok-bindings.ensures))
    (λ terms versions. c.new-counts.ensures P proc d (terms ∙ sym c.count.ensures) versions)
