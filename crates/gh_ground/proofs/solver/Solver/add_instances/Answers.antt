use Rattle.std.proofs.Common.{◌≡◌, ◌∙◌, [], All, Contains, arith, refl, sym, subst, get_or, take, take_all}
use Rattle.gh_base.specs.declared.sizes.Sizes.{Sizes}
use Rattle.gh_inst.specs.declared.naming.InstanceName.{InstanceName}
use Rattle.gh_inst.specs.Instances.{IsInstance}
use Rattle.gh_log.specs.Lines as line
use Rattle.gh_ground.proofs.KeptLemmas.{keeps_same, keeps_then, added_more}
use Rattle.gh_ground.proofs.solver.Solver.add_instances.Goals as goal

pub loop-name-init : goal.loop-name-init
loop-name-init c = record {
  sizes = refl;
  added = λ k d lt. absurd (omega arith);
  keeps = keeps_same c.args.self.now.search c.args.self.now.search c.args.self.now.lines refl refl;
}

pub add_instance-requires : goal.add_instance-requires
add_instance-requires c =
    let n : InstanceName =
    get_or c.args.names.now c.loop-name.name-index (record { row = 0; version = 0; terms = []; arity = 0 }) in
    subst (λ (z : Sizes). IsInstance z.terms z.versions n) (sym c.loop-name.invariant.sizes)
    (c.requires c.loop-name.name-index _ c.loop-name-test.true)

pub loop-name-preserved : goal.loop-name-preserved
loop-name-preserved c =
    let first = c.args.self.now in
    let old = c.loop-name.self in
    let new = c.add_instance.new.self in
    let e = c.in_ok-add_instance.ensures in
    let i = c.loop-name.invariant in
    let d : InstanceName = record { row = 0; version = 0; terms = []; arity = 0 } in
    record {
      sizes = e.sizes ∙ i.sizes;
      added =
          added_more c.args.names.now c.loop-name.name-index d (get_or c.args.names.now c.loop-name.name-index d)
          old.search new.search old.lines new.lines c.loop-name-test.true refl e.keeps i.added e.added;
      keeps = keeps_then first.search old.search new.search first.lines old.lines new.lines i.keeps e.keeps;
    }

pub returns-clause-added : goal.returns-clause-added
returns-clause-added c =
    let names = c.args.names.now in
    let whole : take c.loop-name.name-index names ≡ names = take_all c.loop-name.name-index names (omega arith) in
    subst (All (λ x. Contains c.loop-name.self.lines (line.Axiom x))) whole c.loop-name.invariant.added
