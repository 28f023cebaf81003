use Rattle.std.proofs.Common.{◌≡◌, ◌∙◌, ◌+◌, ◌++◌, ◌∷◌, [], List, drop, map, ap, sym, subst}
use Rattle.gh_ast.specs.Plain.{assertion_of}
use Rattle.gh_grass.proofs.ClaimLemmas.{formula_list_from}
use Rattle.gh_path.specs.Terms.{each_walked}
use Rattle.gh_symb.specs.Symbolic.{under, each_under}
use Rattle.gh_symb.specs.Tables.{state}
use Rattle.gh_symb.specs.Encodings.{Each}
use Rattle.gh_symb.specs.Fitting.{EncodesUnder}
use Rattle.gh_symb.specs.declared.over_terms.BoundAssertion.{BoundAssertion}
use Rattle.gh_symb.proofs.EncodingLemmas.{each_encoded}
use Rattle.gh_symb.proofs.scope.Scope.walk_bounds.Goals as goal

pub loop-alternative-preserved : goal.loop-alternative-preserved
loop-alternative-preserved c =
    let xs = c.args.alternatives.now in
    let i = c.loop-alternative.alternative-index in
    let v = c.args.version in
    let f = assertion_of c.alternative-item.result in
    let fs = map assertion_of (drop (i + 1) xs) in
    let s = state c.loop-alternative.kinds c.loop-alternative.self v in
    let first = state c.args.kinds.now c.args.self.now v in
    let t = state c.walk_bound.new.kinds c.walk_bound.new.self v in
    let split : map assertion_of (drop i xs) ≡ f ∷ fs =
    formula_list_from xs i c.alternative-item.result c.loop-alternative-test.true c.alternative-item.is in
    let all = each_under (map assertion_of xs) first in
    let us = c.loop-alternative.invariant.encoded.0 in
    let rest : us ++ each_under (f ∷ fs) s ≡ all =
    ap (λ gs. us ++ each_under gs s) (sym split) ∙ c.loop-alternative.invariant.encoded.2 in
    let encoded =
    each_encoded c.loop-alternative.bounds.items c.in_ok-walk_bound.field-0 us f fs s t all
    c.loop-alternative.invariant.encoded.1 c.in_ok-walk_bound.ensures.encodes c.in_ok-walk_bound.ensures.made
    rest in
    record {
      walk = ap (each_walked fs) c.in_ok-walk_bound.ensures.made ∙ ap (λ gs. each_walked gs s) (sym split)
          ∙ c.loop-alternative.invariant.walk;
      encoded = (
        us ++ under f s ∷ [],
        subst (λ (bs : List BoundAssertion). Each EncodesUnder bs (us ++ under f s ∷ []))
            (sym c.in_ok-push.ensures.items) encoded.0,
        encoded.1,
      );
    }
