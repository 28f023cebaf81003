use Rattle.std.proofs.Common.{List, sym, subst}
use Rattle.gh_base.specs.declared.atom.Lit.{Lit}
use Rattle.gh_base.specs.Atoms.{AreInRange}
use Rattle.gh_grass.specs.Claims.{ground_formula_of}
use Rattle.gh_reduce.proofs.ClauseLemmas.{one_in_range}
use Rattle.gh_reduce.proofs.LiteralLemmas.{literal_in_range}
use Rattle.gh_reduce.proofs.clauses.add_formula.Goals as goal

pub add-requires : goal.add-requires
add-requires c =
    let q = c.literal.new.ground in
    let l = c.in_ok-lit.lit in
    subst (λ (ls : List Lit). AreInRange q.sizes ls) (sym c.from_array.ensures)
    (one_in_range q.sizes l (literal_in_range c.args.ground.now q (ground_formula_of c.args.formula.now) l c.requires
    c.in_ok-lit.ensures.literal c.in_ok-lit.ensures.state))
