use Rattle.std.proofs.Common.{◌+◌, ◌-◌, ◌∷◌, List, drop, get_or, sym, subst, arith}
use Rattle.std.proofs.lemmas.List.{get_or_default}
use Rattle.gh_path.specs.Roots.{AreRoots}
use Rattle.gh_path.specs.declared.condition.Start.TheVariants.{Entry}
use Rattle.gh_path.specs.declared.starts.Root.{Root}
use Rattle.gh_path.proofs.PlaceLemmas.{roots_go, start_passed, all_after, starts_over}
use Rattle.gh_path.proofs.starts.Starts.seek.Goals as goal

pub loop-index-init : goal.loop-index-init
loop-index-init c = record {
  low = omega arith;
  after = λ P cs are. (
    cs,
    subst (λ (rs : List Root). AreRoots P c.args.self.now.nodes rs cs) (sym c.as_slice-root-items.ensures.value) are,
    all_after cs c.args.place,
  );
}

pub returns-then-before-root-clause-is : goal.returns-then-before-root-clause-is
returns-then-before-root-clause-is c = λ P cs are.
    let s = c.args.self.now in
    let i = c.loop-index.index in
    let rs = c.as_slice-root-items.result.now in
    let none : Root = record { procedure = 0; start = Entry; node = 0; count = 0 } in
    let x : Root = get_or rs i none in
    let here = c.loop-index.invariant.after P cs are in
    let from =
    roots_go P s.nodes rs i x here.0 c.loop-index-test.true (get_or_default rs i none x c.loop-index-test.true)
    here.1 in (
      here.0,
      subst (λ (qs : List Root). AreRoots P s.nodes (x ∷ drop (i + 1) qs) here.0) c.as_slice-root-items.ensures.value
          from,
      here.2,
    )

pub loop-index-preserved : goal.loop-index-preserved
loop-index-preserved c =
    let s = c.args.self.now in
    let i = c.loop-index.index in
    let rs = c.as_slice-root-items.result.now in
    let none : Root = record { procedure = 0; start = Entry; node = 0; count = 0 } in
    let x : Root = get_or rs i none in
    let m = c.loop-index.before in record {
      low = omega (arith, c.loop-index.invariant.low);
      after = λ P cs are.
          let here = c.loop-index.invariant.after P cs are in
          let from =
          roots_go P s.nodes rs i x here.0 c.loop-index-test.true
          (get_or_default rs i none x c.loop-index-test.true) here.1 in
          start_passed P s.nodes (drop (i + 1) rs) x cs here.0 c.args.place m (m - x.count)
          (omega (arith, c.if-before-root.false)) from here.2;
    }

pub returns-clause-is : goal.returns-clause-is
returns-clause-is c = λ P cs are.
    let here = c.loop-index.invariant.after P cs are in
    starts_over P c.args.self.now.nodes c.as_slice-root-items.result.now c.loop-index.index cs here.0 c.args.place
    c.loop-index.before c.loop-index-test.false here.1 here.2
