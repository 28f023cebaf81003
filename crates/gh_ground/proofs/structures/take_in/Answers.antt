use Rattle.std.proofs.Common.{◌≡◌, Bool, true, false, not, refl, sym, ◌∙◌}
use Rattle.gh_ground.proofs.GivenLemmas.{given_equality, given_already, given_more}
use Rattle.gh_ground.proofs.structures.take_in.Goals as goal

positive_of : (b : Bool) → not b ≡ false → b ≡ true
positive_of true e = refl
positive_of false e = cc

pub returns-then-not-is_relation-clause-given : goal.returns-then-not-is_relation-clause-given
returns-then-not-is_relation-clause-given c = λ lits h.
    let e = c.if-not-is_relation.true in
    given_equality lits c.args.lit c.args.structure.now (λ r. let f = c.is_relation.ensures.1 r in cc) h

pub returns-then-holds-clause-given : goal.returns-then-holds-clause-given
returns-then-holds-clause-given c =
    λ lits h. given_already lits c.args.lit c.args.structure.now c.requires (sym c.holds.ensures ∙ c.if-holds.true) h

pub returns-clause-given : goal.returns-clause-given
returns-clause-given c =
    λ lits h. given_more lits c.args.lit c.args.structure.now c.give_like.new.structure
    (positive_of c.args.lit.positive c.if-not-lit.false) c.give_like.ensures h
