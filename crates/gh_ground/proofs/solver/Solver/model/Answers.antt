use Rattle.std.proofs.Common.{All, Contains, arith, subst, vec_len}
use Rattle.gh_base.specs.Structures.{interpretation_of}
use Rattle.gh_log.specs.Lines as line
use Rattle.gh_ground.proofs.MissingLemmas.{adds_instance, none_there, some_there, are_instances, model_is}
use Rattle.gh_ground.proofs.solver.Solver.model.Goals as goal

pub add_instances-requires : goal.add_instances-requires
add_instances-requires c =
    let t = c.in_ok-structure.structure in
    are_instances t.sizes c.args.self.now.search.sizes (interpretation_of t) c.in_ok-names.names.items
    c.as_slice.result.now c.in_ok-structure.ensures.sizes c.as_slice.ensures.value c.in_ok-names.ensures.each

pub returns-then-is_empty-clause-model : goal.returns-then-is_empty-clause-model
returns-then-is_empty-clause-model c =
    let self = c.args.self.now in
    let names = c.in_ok-names.names in
    let none =
    none_there (vec_len names) names.items c.is_empty.result (omega (arith, names.ok.0)) c.is_empty.ensures
    c.if-is_empty.true in
    λ p kept. model_is p self.search self.lines c.in_ok-structure.structure kept c.in_ok-structure.ensures.sizes
    c.in_ok-structure.ensures.clauses c.in_ok-structure.ensures.congruence (c.in_ok-names.ensures.none none)

pub returns-clause-added : goal.returns-clause-added
returns-clause-added c =
    let self = c.args.self.now in
    let t = c.in_ok-structure.structure in
    let names = c.in_ok-names.names in
    let after = c.add_instances.new.self.lines in
    let some =
    some_there (vec_len names) names.items c.is_empty.result (omega (arith, names.ok.0)) c.is_empty.ensures
    c.if-is_empty.false in
    let added =
    subst (All (λ n. Contains after (line.Axiom n))) c.as_slice.ensures.value c.in_ok-add_instances.ensures.added in
    adds_instance c.requires.kept.0 self.search self.lines after (interpretation_of t) t.sizes names.items
    c.in_ok-structure.ensures.sizes c.requires.kept.1 c.in_ok-structure.ensures.clauses c.in_ok-names.ensures.each
    some added
