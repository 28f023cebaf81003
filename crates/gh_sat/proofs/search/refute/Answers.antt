use Rattle.std.proofs.Common.{List, Option, sym, subst}
use Rattle.std.specs.Prelude.{IfSome, IfNone}
use Rattle.gh_base.specs.declared.atom.Lit.{Lit}
use Rattle.gh_sat.specs.Trail.{SearchState, IsFalseIn, IsSound}
use Rattle.gh_sat.specs.Learn.{IsConflictAt, add_clause}
use Rattle.gh_sat.specs.Theory.{IsRefutedBy}
use Rattle.gh_sat.proofs.LearnLemmas.{false_in_range}
use Rattle.gh_sat.proofs.WholeLemmas.{sound_add}
use Rattle.gh_sat.proofs.TheoryLemmas.{refuted_false, false_refuted, conflict_added}
use Rattle.gh_sat.proofs.search.refute.Given.{Over}
use Rattle.gh_sat.proofs.search.refute.Goals.{In-Some}
use Rattle.gh_sat.proofs.search.refute.Goals as goal

-- the conflict is a clause of the theory, and false
refuted : (g : Over) (c : In-Some g) → g.T.Theory.valid c.args.search.now.sizes c.in-Some.clause
    × IsFalseIn c.args.search.now.trail c.in-Some.clause
refuted g c =
    let clause = c.in-Some.clause in
    let found =
    subst (λ (o : Option (List Lit)). IfSome o
    (λ x. g.T.Theory.valid (g.T.Theory.sizes c.args.theory.now) x
    × IsRefutedBy (g.T.Theory.asserted c.args.theory.now) x)) c.in-Some.is c.in_ok-conflict.ensures.found in (
      subst (λ z. g.T.Theory.valid z clause) c.requires.sizes found.0,
      refuted_false c.args.search.now.trail clause
          (subst (λ (a : List Lit). IsRefutedBy a clause) c.requires.told found.1),
    )

pub insert-requires-clause-range : goal.insert-requires-clause-range
insert-requires-clause-range g c =
    let r = refuted g (goal.at.insert-requires-clause-range g c).In-Some in
    false_in_range c.args.search.now c.in-Some.clause c.requires.sound r.1

pub returns-in-None-clause-none : goal.returns-in-None-clause-none
returns-in-None-clause-none g c =
    let s = c.args.search.now in
    let none =
    subst (λ (o : Option (List Lit)). IfNone o
    ((x : List Lit) → g.T.Theory.valid (g.T.Theory.sizes c.args.theory.now) x
    → IsRefutedBy (g.T.Theory.asserted c.args.theory.now) x → ⊥)) c.in-None.is c.in_ok-conflict.ensures.none in
    λ x v f. none x (subst (λ z. g.T.Theory.valid z x) (sym c.requires.sizes) v)
    (subst (λ (a : List Lit). IsRefutedBy a x) (sym c.requires.told) (false_refuted s.trail x f))

pub returns-in_ok-insert-in-Some-clause-conflict : goal.returns-in_ok-insert-in-Some-clause-conflict
returns-in_ok-insert-in-Some-clause-conflict g c =
    let s = c.args.search.now in
    let r = refuted g (goal.at.returns-in_ok-insert-in-Some-clause-conflict g c).In-Some in
    let h = conflict_added s c.in-Some.clause c.requires.sound r.1
    (λ level start at f. c.requires.consistent level start at c.in-Some.clause r.0 f) in
    subst (λ (t : SearchState). IsConflictAt t c.count-number.result) (sym c.in_ok-insert-in-Some.ensures.ok)
    (subst (IsConflictAt (add_clause s c.in-Some.clause)) (sym c.count-number.ensures.count) h)

pub returns-in_ok-insert-in-Some-clause-sound : goal.returns-in_ok-insert-in-Some-clause-sound
returns-in_ok-insert-in-Some-clause-sound g c =
    let s = c.args.search.now in
    let r = refuted g (goal.at.returns-in_ok-insert-in-Some-clause-sound g c).In-Some in
    let range = false_in_range s c.in-Some.clause c.requires.sound r.1 in
    subst IsSound (sym c.in_ok-insert-in-Some.ensures.ok) (sound_add s c.in-Some.clause c.requires.sound range)
