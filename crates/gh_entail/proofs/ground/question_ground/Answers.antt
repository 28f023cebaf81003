use Rattle.std.proofs.Common.{◌++◌, ◌∷◌, [], map, ap, ◌∙◌, arith, append_assoc}
use Rattle.gh_grass.specs.Claims.{ground_formula_of, negation_of}
use Rattle.gh_symb.specs.Formulas.{version_formulas}
use Rattle.gh_symb.specs.Encodings.{plain_kind}
use Rattle.gh_reduce.specs.Growth.{stated_in}
use Rattle.gh_symb.specs.Inside.{binding_of}
use Rattle.gh_reduce.proofs.RowLemmas.{claim_within, one_more}
use Rattle.gh_entail.specs.Formulas.{claim_formula}
use Rattle.gh_ast.specs.Questions.{question_of}
use Rattle.gh_entail.proofs.Inside.{kept, ready_at, claim_at, question_is}
use Rattle.gh_entail.proofs.ground.question_ground.Goals as goal

pub new-ground-requires-clause-terms : goal.new-ground-requires-clause-terms
new-ground-requires-clause-terms c =
    let some = (kept (question_of c.args.asked.now.question) c.args.asked.now.over c.args.asked.now.told).some in
    omega (arith, c.count.ensures, some)

pub add_version-requires-clause-ready : goal.add_version-requires-clause-ready
add_version-requires-clause-ready c =
    let q = question_of c.args.asked.now.question in
    let k = kept q c.args.asked.now.over c.args.asked.now.told in
    ready_at q c.args.asked.now.over.terms c.args.asked.now.over.binding c.new-ground.result c.count.result k
    c.new-ground.ensures c.count.ensures

pub add_formula-requires : goal.add_formula-requires
add_formula-requires c =
    let q = question_of c.args.asked.now.question in
    let a = c.args.asked.now.over in
    let k = kept q a c.args.asked.now.told in
    let ks = map plain_kind a.terms in
    let f = claim_formula ks (binding_of a.binding) q.left in
    let r = c.add_version.new.ground in
    claim_within r.sizes f (ground_formula_of c.in_ok-left.left) c.in_ok-left.ensures
    (claim_at q a.terms a.binding c.new-ground.result r c.count.result (version_formulas ks 0) q.left k
    c.new-ground.ensures c.count.ensures c.in_ok-add_version.ensures.stated)

pub add_formula-requires-2 : goal.add_formula-requires-2
add_formula-requires-2 c =
    let q = question_of c.args.asked.now.question in
    let a = c.args.asked.now.over in
    let k = kept q a c.args.asked.now.told in
    let ks = map plain_kind a.terms in
    let f = claim_formula ks (binding_of a.binding) q.left in
    let g = claim_formula ks (binding_of a.binding) q.right in
    let p = c.new-ground.result in
    let r = c.add_formula.new.ground in
    let to =
    one_more p c.add_version.new.ground r (version_formulas ks 0) f (ground_formula_of c.in_ok-left.left)
    c.in_ok-add_version.ensures.stated c.in_ok-add_formula.ensures.stated c.in_ok-left.ensures in
    claim_within r.sizes (negation_of g) (ground_formula_of c.in_ok-fails.fails)
    (c.in_ok-fails.ensures ∙ ap negation_of c.in_ok-right.ensures)
    (claim_at q a.terms a.binding p r c.count.result (version_formulas ks 0 ++ f ∷ []) q.right k c.new-ground.ensures
    c.count.ensures to)

pub returns : goal.returns
returns c =
    let q = question_of c.args.asked.now.question in
    let a = c.args.asked.now.over in
    let k = kept q a c.args.asked.now.told in
    let ks = map plain_kind a.terms in
    let f = claim_formula ks (binding_of a.binding) q.left in
    let g = claim_formula ks (binding_of a.binding) q.right in
    let p = c.new-ground.result in
    let r = c.add_formula.new.ground in
    let end = c.add_formula-2.new.ground in
    let to =
    one_more p c.add_version.new.ground r (version_formulas ks 0) f (ground_formula_of c.in_ok-left.left)
    c.in_ok-add_version.ensures.stated c.in_ok-add_formula.ensures.stated c.in_ok-left.ensures in
    let all =
    one_more p r end (version_formulas ks 0 ++ f ∷ []) (negation_of g) (ground_formula_of c.in_ok-fails.fails) to
    c.in_ok-add_formula-2.ensures.stated (c.in_ok-fails.ensures ∙ ap negation_of c.in_ok-right.ensures) in
    question_is q a.terms a.binding p end c.count.result k c.new-ground.ensures c.count.ensures
    (all ∙ ap (stated_in p) (append_assoc (version_formulas ks 0) (f ∷ []) (negation_of g ∷ [])))
