use Rattle.std.proofs.Common.{◌++◌, ◌∷◌, [], ap, subst}
use Rattle.gh_base.specs.declared.atom.Lit.{Lit}
use Rattle.gh_ground.specs.Making.{AreClassesOf}
use Rattle.gh_ground.proofs.ClassLemmas.{join_none, lit_is, negative_none}
use Rattle.gh_ground.proofs.classes.take_in.Goals as goal

pub returns-then-not-lit : goal.returns-then-not-lit
returns-then-not-lit c =
    λ terms lits h. join_none terms lits c.args.classes.now.items c.args.lit h
    (negative_none c.args.lit c.if-not-lit.true)

pub returns-in-Eq : goal.returns-in-Eq
returns-in-Eq c = λ terms lits h.
    subst (λ (l : Lit). AreClassesOf terms (lits ++ l ∷ []) c.join.new.classes.items)
    (lit_is c.args.lit c.in-Eq.a c.in-Eq.b c.in-Eq.is c.if-not-lit.false) (c.join.ensures terms lits h)

pub returns-in_default : goal.returns-in_default
returns-in_default c =
    λ terms lits h. join_none terms lits c.args.classes.now.items c.args.lit h
    (λ a b e. c.in_default.not-Eq a b (ap (λ (l : Lit). l.atom) e))
