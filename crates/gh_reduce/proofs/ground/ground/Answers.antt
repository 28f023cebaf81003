use Rattle.std.proofs.Common.{◌∙◌, ap, sym, arith, length}
use Rattle.std.proofs.lemmas.List.{length-map}
use Rattle.gh_base.specs.Grounds.{Problem}
use Rattle.gh_symb.specs.Encodings.{plain_kind}
use Rattle.gh_symb.specs.Encoded.{plain_of}
use Rattle.gh_reduce.proofs.WalkLemmas.{finished, told_problem}
use Rattle.gh_reduce.proofs.ground.ground.Goals as goal

pub new-ground-requires-clause-terms : goal.new-ground-requires-clause-terms
new-ground-requires-clause-terms c =
    let some = c.args.symbolic.now.inside.terms.some in
    let size = length-map c.args.symbolic.now.terms plain_kind in
    omega (arith, c.count.ensures ∙ ap length c.terms-terms.ensures, some, size)

pub add_condition-requires : goal.add_condition-requires
add_condition-requires c =
    let versions = ap (λ (x : Problem). x.sizes.versions) c.new-ground.ensures in
    let few = c.versions.type_inv in
    record {
      terms =
          ap (λ (x : Problem). x.sizes.terms) c.new-ground.ensures ∙ c.count.ensures ∙ ap length c.terms-terms.ensures;
      versions = versions ∙ c.versions.ensures;
      few = omega (arith, versions, few);
    }

pub returns-clause-is : goal.returns-clause-is
returns-clause-is c =
    finished (plain_of c.args.symbolic.now) c.new-ground.result c.add_condition.new.ground c.count.result
    c.versions.result c.new-ground.ensures
    (c.count.ensures ∙ ap length c.terms-terms.ensures ∙ sym (length-map c.args.symbolic.now.terms plain_kind))
    c.versions.ensures c.in_ok-add_condition.ensures

pub returns-clause-told : goal.returns-clause-told
returns-clause-told c = λ P proc k h.
    told_problem P proc k c.args.symbolic.now c.add_condition.new.ground h
    (finished (plain_of c.args.symbolic.now) c.new-ground.result c.add_condition.new.ground c.count.result
    c.versions.result c.new-ground.ensures
    (c.count.ensures ∙ ap length c.terms-terms.ensures ∙ sym (length-map c.args.symbolic.now.terms plain_kind))
    c.versions.ensures c.in_ok-add_condition.ensures)
