use Rattle.std.proofs.Common.{◌-◌, ◌+◌, ◌∷◌, [], ◌∙◌, arith, sym, List}
use Rattle.std.proofs.lemmas.Result.{on_ok_weaker}
use Rattle.std.proofs.lemmas.Nat.Bits.{shr_and_one}
use Rattle.gh_base.specs.declared.atom.Term.{Term}
use Rattle.gh_inst.specs.Search.{tuples_with}
use Rattle.std.proofs.lemmas.List.Elements.{All-nil}
use Rattle.gh_base.specs.Atoms.{term}
use Rattle.gh_inst.specs.Collecting.{IsTrueAt, place}
use Rattle.gh_inst.proofs.SearchLemmas.{blocks_of}
use Rattle.gh_inst.proofs.UpLemmas.{first_up, second_up, still_up}
use Rattle.gh_inst.proofs.FirstLemmas.{at_nothing, at_next, at_end}
use Rattle.gh_inst.proofs.collecting.gather_second.Goals as goal

pub loop-y-preserved : goal.loop-y-preserved
loop-y-preserved c =
    let r = c.args.row.now in
    let f : Term → List (List Term) =
    λ t. tuples_with (r.variables - 2) r.structure.now.sizes.terms (c.args.x ∷ t ∷ []) in
    record {
      gathers =
          at_next r f c.loop-y.y c.args.found.now.items c.loop-y.found.items c.gather_first-in-loop-y.new.found.items
          (omega arith) c.loop-y.invariant.gathers c.in_ok-gather_first.ensures.gathers;
      up = λ before. second_up r c.args.x c.loop-y.y c.loop-y.found.items c.gather_first-in-loop-y.new.found.items
          c.in_ok-gather_first.ensures.one (c.loop-y.invariant.up before);
    }

pub loop-y-preserved-then-seconds-y-eq0 : goal.loop-y-preserved-then-seconds-y-eq0
loop-y-preserved-then-seconds-y-eq0 c =
    let r = c.args.row.now in
    let y = c.loop-y.y in
    let f : Term → List (List Term) =
    λ t. tuples_with (r.variables - 2) r.structure.now.sizes.terms (c.args.x ∷ t ∷ []) in
    let holds =
    c.second_terms-seconds.ensures y (omega arith) c.if-y-lt32.true
    (sym (shr_and_one c.second_terms-seconds.result y) ∙ c.if-seconds-y-eq0.true) in
    record {
      gathers =
          at_next r f y c.args.found.now.items c.loop-y.found.items c.loop-y.found.items (omega arith)
          c.loop-y.invariant.gathers (at_nothing r (f (term y)) c.loop-y.found.items holds);
      up = λ before. still_up (place r.version r.number c.args.x.0 y) (place r.version r.number c.args.x.0 (y + 1))
          c.loop-y.found.items (omega arith) (c.loop-y.invariant.up before);
    }

pub returns-clause-gathers : goal.returns-clause-gathers
returns-clause-gathers c =
    let r = c.args.row.now in
    let n = r.structure.now.sizes.terms in
    let f : Term → List (List Term) = λ t. tuples_with (r.variables - 2) n (c.args.x ∷ t ∷ []) in
    let done =
    at_end r f c.loop-y.y c.args.found.now.items c.loop-y.found.items (omega arith) c.loop-y.invariant.gathers in
    let some = c.requires.looked.some in
    rw (blocks_of r.variables 1 n (c.args.x ∷ []) (omega (arith, some))) done

pub loop-y-init : goal.loop-y-init
loop-y-init c = record {
  gathers = at_nothing c.args.row.now [] c.args.found.now.items
      (All-nil (IsTrueAt c.args.row.now));
  up = λ before. before;
}

pub returns-clause-up : goal.returns-clause-up
returns-clause-up c = λ before.
    let r = c.args.row.now in
    still_up (place r.version r.number c.args.x.0 c.loop-y.y) (place r.version r.number (c.args.x.0 + 1) 0)
    c.loop-y.found.items (omega arith) (c.loop-y.invariant.up before)

pub returns-then-row-eq1-clause-up : goal.returns-then-row-eq1-clause-up
returns-then-row-eq1-clause-up c =
    on_ok_weaker c.gather_first.result
    (λ one. first_up c.args.row.now c.args.x c.args.found.now.items c.gather_first.new.found.items c.if-row-eq1.true
    one) c.gather_first.ensures.one
