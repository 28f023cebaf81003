use Rattle.std.proofs.Common.{◌≡◌, sym, None, Some}
use Rattle.std.specs.Prelude.{slice_get}
use Rattle.gh_path.proofs.LeftLemmas.{over_left, none_left, next_left, found_at}
use Rattle.gh_path.proofs.walk.Walk.reach.Goals as goal

pub returns-in-Some-clause-come : goal.returns-in-Some-clause-come
returns-in-Some-clause-come c = λ P cs left.
    found_at P c.loop-asked.self cs c.in-Some.asked c.arrive.new.self (c.loop-asked.invariant.left P cs left)
    (λ ws come. rw c.in-Some.is at (c.in_ok-asked.ensures ws come))

pub returns-in_default-root-clause-come : goal.returns-in_default-root-clause-come
returns-in_default-root-clause-come c = λ P cs left.
    let s = c.loop-asked.self in
    let over =
    over_left P s cs (c.loop-asked.invariant.left P cs left)
    (λ ws come. rw c.in_default.is at (c.in_ok-asked.ensures ws come)) in
    let none : slice_get s.starts.now.roots.items s.next ≡ None = sym c.in_default-root.ensures in
    none_left P s.starts.now.nodes s.starts.now.roots.items s.next cs none over

pub loop-asked-preserved : goal.loop-asked-preserved
loop-asked-preserved c =
    let s = c.loop-asked.self in
    record {
      left = λ P cs left.
          let over =
          over_left P s cs (c.loop-asked.invariant.left P cs left)
          (λ ws come. rw c.in_default.is at (c.in_ok-asked.ensures ws come)) in
          let at : slice_get s.starts.now.roots.items s.next ≡ Some c.in-Some-root.root = sym c.in-Some-root.ensures in
          next_left P s cs c.in-Some-root.root c.begin.new.self over at
          (λ g shows. c.begin.ensures s.starts.now.nodes g shows) (c.loop-asked.invariant.left P cs left).held;
      given = c.loop-asked.invariant.given;
      end = c.loop-asked.invariant.end;
    }
