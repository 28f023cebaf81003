use Rattle.std.proofs.Common.{◌≡◌, ◌∙◌, List, ap}
use Rattle.gh_base.specs.declared.atom.Lit.{Lit}
use Rattle.gh_base.specs.Structures.{interpretation_of}
use Rattle.gh_sat.specs.Theory.{lits_of}
use Rattle.gh_ground.proofs.OpenLemmas.{range_of, some_terms, some_versions, is_congruence, clauses_true}
use Rattle.gh_ground.proofs.solver.Solver.structure.Goals.{In_ok-lits}
use Rattle.gh_ground.proofs.solver.Solver.structure.Goals as goal

-- the literals are those of the trail
lits_are : (c : In_ok-lits) → c.in_ok-lits.lits.items ≡ lits_of c.args.self.now.search.trail
lits_are c = c.in_ok-lits.ensures ∙ ap lits_of c.steps.ensures.steps

pub structure_of-requires : goal.structure_of-requires
structure_of-requires c =
    let s = c.args.self.now.search in
    let z = c.sizes-sizes.result in
    let e : z ≡ s.sizes = c.sizes-sizes.ensures.sizes ∙ c.assignment.ensures.sizes in
    let k = c.requires.kept in
    let f = c.as_slice.ensures.value ∙ lits_are (goal.at.structure_of-requires c).In_ok-lits in
    record {
      range = range_of s z c.as_slice.result.now e f c.steps.ensures.sound;
      terms = some_terms k.0 s c.args.self.now.lines z k.1 e;
      versions = some_versions k.0 s c.args.self.now.lines z k.1 e;
    }

pub returns-clause-sizes : goal.returns-clause-sizes
returns-clause-sizes c = c.in_ok-structure.ensures.sizes ∙ c.sizes-sizes.ensures.sizes ∙ c.assignment.ensures.sizes

pub returns-clause-clauses : goal.returns-clause-clauses
returns-clause-clauses c =
    let f = c.as_slice.ensures.value ∙ lits_are (goal.at.returns-clause-clauses c).In_ok-lits in
    clauses_true c.args.self.now.search c.sizes-sizes.result c.as_slice.result.now
    (c.sizes-sizes.ensures.sizes ∙ c.assignment.ensures.sizes) f (interpretation_of c.in_ok-structure.structure)
    c.in_ok-structure.ensures.structure c.requires.open

pub returns-clause-congruence : goal.returns-clause-congruence
returns-clause-congruence c =
    let f = c.as_slice.ensures.value ∙ lits_are (goal.at.returns-clause-congruence c).In_ok-lits in
    is_congruence c.args.self.now.search c.sizes-sizes.result c.as_slice.result.now
    (c.sizes-sizes.ensures.sizes ∙ c.assignment.ensures.sizes) f (interpretation_of c.in_ok-structure.structure)
    c.in_ok-structure.ensures.structure
