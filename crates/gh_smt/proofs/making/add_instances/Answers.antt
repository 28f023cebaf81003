use Rattle.std.proofs.Common.{rules, ◌≡◌, ◌++◌, map, ap, sym, subst, All}
use Rattle.std.proofs.lemmas.List.Elements.{All-tail}
use Rattle.gh_inst.specs.Instances.{instances, clause_of, IsInstance}
use Rattle.gh_smt.proofs.ScriptLemmas.{all_are_instances}
use Rattle.gh_smt.proofs.MakingLemmas.{one_instance}
use Rattle.gh_smt.proofs.making.add_instances.Goals as goal

pub loop-name-init : goal.loop-name-init
loop-name-init c =
    let n = c.args.terms in let v = c.args.versions in
    let all : c.into_iter-name-iterator.result ≡ instances n v = search rules in
    record {
      left = ap (λ r. c.args.asserted.now.items ++ map clause_of r) all;
      are = subst (All (IsInstance n v)) (sym all) (all_are_instances n v);
    }

pub loop-name-preserved : goal.loop-name-preserved
loop-name-preserved c =
    let n = c.args.terms in let v = c.args.versions in
    let next = (c.in-Some.ensures {u = tt}).steps in
    record {
      left = one_instance _ c.loop-name.asserted.items c.push.new.self.items c.loop-name.name-iterator c.next.new.self
          c.in-Some.name c.in-Some-instance.clause c.loop-name.invariant.left next
          (c.in-Some-instance.ensures {u = tt}).clause c.in_ok-push.ensures.items;
      are = All-tail (IsInstance n v) c.in-Some.name c.next.new.self
          (subst (All (IsInstance n v)) next c.loop-name.invariant.are);
    }
