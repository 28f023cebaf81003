use Rattle.std.proofs.Common.{◌≡◌, ◌∙◌, ◌+◌, ◌++◌, ◌∷◌, [], sym, ap, subst, map, take}
use Rattle.std.proofs.lemmas.List.{take_more, map-append}
use Rattle.gh_symb.specs.Phases.{both}
use Rattle.gh_symb.specs.Tables.{Pairs, bound_by}
use Rattle.gh_symb.specs.Encodings.{Each}
use Rattle.gh_symb.specs.Fitting.{EncodesBinding}
use Rattle.gh_symb.proofs.BindingLemmas.{either_encoded}
use Rattle.gh_symb.proofs.FollowLemmas.{each_more}
use Rattle.gh_symb.proofs.bindings.all_bindings.Goals as goal

pub loop-state-preserved : goal.loop-state-preserved
loop-state-preserved c =
    let f = λ (es : Pairs). both (bound_by es) (bound_by c.args.firsts.now) in
    let ss = c.args.states.now in
    let i = c.loop-state.state-index in
    let item = c.state-item.result in
    let more : take (i + 1) ss ≡ take i ss ++ item ∷ [] =
    take_more ss i item c.loop-state-test.true ∙ ap (λ e. take i ss ++ e ∷ []) (sym c.state-item.is) in
    let all : map f (take (i + 1) ss) ≡ map f (take i ss) ++ f item ∷ [] =
    ap (map f) more ∙ map-append f (take i ss) (item ∷ []) in
    subst (Each EncodesBinding c.push.new.self.items) (sym all)
    (subst (λ bs. Each EncodesBinding bs (map f (take i ss) ++ f item ∷ [])) (sym c.in_ok-push.ensures.items)
    (each_more EncodesBinding c.loop-state.bindings.items (map f (take i ss)) _ (f item) c.loop-state.invariant
    (λ x. either_encoded (bound_by item x) (bound_by c.args.firsts.now x) _ _ (c.in_ok-over.ensures x)
    (c.in_ok-others.ensures x))))
