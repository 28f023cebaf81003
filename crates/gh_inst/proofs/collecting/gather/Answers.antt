use Rattle.std.proofs.Common.{◌-◌, ◌+◌, ◌∷◌, [], ◌<◌, length, arith, List}
use Rattle.gh_base.specs.declared.atom.Term.{Term}
use Rattle.gh_inst.specs.Search.{tuples_with}
use Rattle.std.proofs.lemmas.List.Elements.{All-nil}
use Rattle.gh_inst.specs.Collecting.{IsTrueAt, place}
use Rattle.gh_inst.proofs.SearchLemmas.{blocks_of}
use Rattle.gh_inst.proofs.UpLemmas.{still_up}
use Rattle.gh_inst.proofs.FirstLemmas.{at_nothing, at_next, at_end, at_exit}
use Rattle.gh_inst.proofs.collecting.gather.Goals as goal

pub loop-x-preserved : goal.loop-x-preserved
loop-x-preserved c =
    let r = c.args.row.now in
    let f : Term → List (List Term) = λ t. tuples_with (r.variables - 1) r.structure.now.sizes.terms (t ∷ []) in
    record {
      gathers =
          at_next r f c.loop-x.x c.args.found.now.items c.loop-x.found.items c.gather_second.new.found.items
          (omega arith) c.loop-x.invariant.gathers c.in_ok-gather_second.ensures.gathers;
      up = λ before. c.in_ok-gather_second.ensures.up (c.loop-x.invariant.up before);
    }

pub returns-clause-gathers : goal.returns-clause-gathers
returns-clause-gathers c =
    let r = c.args.row.now in
    let n = r.structure.now.sizes.terms in
    let f : Term → List (List Term) = λ t. tuples_with (r.variables - 1) n (t ∷ []) in
    let done =
    at_end r f c.loop-x.x c.args.found.now.items c.loop-x.found.items (omega arith) c.loop-x.invariant.gathers in
    let some = c.requires.looked.some in
    rw (blocks_of r.variables 0 n [] (omega (arith, some))) done

pub loop-x-init : goal.loop-x-init
loop-x-init c = record {
  gathers = at_nothing c.args.row.now [] c.args.found.now.items
      (All-nil (IsTrueAt c.args.row.now));
  up = λ before. before;
}

pub returns-then-len-most-clause-gathers : goal.returns-then-len-most-clause-gathers
returns-then-len-most-clause-gathers c =
    let r = c.args.row.now in
    let n = r.structure.now.sizes.terms in
    let f : Term → List (List Term) = λ t. tuples_with (r.variables - 1) n (t ∷ []) in
    let longer : length c.args.found.now.items < length c.loop-x.found.items =
    omega (arith, c.requires.room, c.if-len-most.true) in
    let done = at_exit r f c.loop-x.x c.args.found.now.items c.loop-x.found.items longer c.loop-x.invariant.gathers in
    let some = c.requires.looked.some in
    rw (blocks_of r.variables 0 n [] (omega (arith, some))) done

pub returns-clause-up : goal.returns-clause-up
returns-clause-up c = λ before.
    let r = c.args.row.now in
    still_up (place r.version r.number c.loop-x.x 0) (place r.version (r.number + 1) 0 0) c.loop-x.found.items
    (omega arith) (c.loop-x.invariant.up before)

pub returns-then-len-most-clause-up : goal.returns-then-len-most-clause-up
returns-then-len-most-clause-up c = λ before.
    let r = c.args.row.now in
    still_up (place r.version r.number c.loop-x.x 0) (place r.version (r.number + 1) 0 0) c.loop-x.found.items
    (omega arith) (c.loop-x.invariant.up before)
