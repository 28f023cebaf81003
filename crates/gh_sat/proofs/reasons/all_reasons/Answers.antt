use Rattle.std.proofs.Common.{◌≡◌, [], ◌∙◌, ℕ, List, length, get_or, Some, refl, sym, subst, ap}
use Rattle.std.specs.Prelude.{slice_get}
use Rattle.std.proofs.lemmas.Option.{slice_get_read}
use Rattle.gh_base.specs.declared.atom.Lit.{Lit}
use Rattle.gh_sat.specs.declared.trail.Step.{Step}
use Rattle.gh_sat.specs.Trail.{SearchState, IsFalseIn}
use Rattle.gh_sat.specs.Status.{IsFalseClause}
use Rattle.gh_sat.specs.Learn.{AreReasons, marks_of}
use Rattle.gh_base.proofs.ListLemmas.{get_within}
use Rattle.gh_sat.proofs.ListLemmas.{le_along, le_same, zero_le}
use Rattle.gh_sat.proofs.LearnLemmas.{false_in_range}
use Rattle.gh_sat.proofs.ReasonLemmas.{all_have_reasons, refutation_shows}
use Rattle.gh_sat.proofs.reasons.all_reasons.Goals.{After-lits}
use Rattle.gh_sat.proofs.reasons.all_reasons.Goals as goal

-- the false clause, as the code reads it
read_false : (clauses : List (List Lit)) (trail : List Step) (k : ℕ) (c lits : List Lit) → IsFalseClause clauses trail k
    → c ≡ get_or clauses k c → lits ≡ c → (slice_get clauses k ≡ Some lits) × IsFalseIn trail lits
read_false clauses trail k c lits conflict read same =
    let there : slice_get clauses k ≡ Some c =
    slice_get_read clauses (length clauses) k c (λ _. length clauses) (get_within clauses k conflict.0 conflict.1)
    read in
    let one : conflict.0 ≡ lits = let t = conflict.1 in cc in
    (there ∙ ap Some (sym same), subst (IsFalseIn trail) one conflict.2)

-- the search, with no level
abbrev search : After-lits → SearchState
search c = record {
  sizes = c.args.trail.now.sizes;
  clauses = c.args.clauses.now;
  trail = c.args.trail.now.steps;
  starts = [];
}

known : (c : After-lits) → (slice_get c.args.clauses.now c.args.conflict ≡ Some c.lits.result.now)
    × IsFalseIn c.args.trail.now.steps c.lits.result.now
known c =
    read_false c.args.clauses.now c.args.trail.now.steps c.args.conflict c.index-clauses-conflict.result
    c.lits.result.now
    c.requires.conflict c.index-clauses-conflict.is c.lits.ensures

pub mark_reached-requires-clause-marks : goal.mark_reached-requires-clause-marks
mark_reached-requires-clause-marks c =
    let same = ap length c.steps.ensures.steps in
    c.begin.ensures.none c.args.trail.now.steps (zero_le _) (le_along (sym same) refl (le_same _))
    c.requires.long

pub mark_reached-requires-clause-conflict_range : goal.mark_reached-requires-clause-conflict_range
mark_reached-requires-clause-conflict_range c =
    let d = (goal.at.mark_reached-requires-clause-conflict_range c).After-lits in
    false_in_range (search d) c.lits.result.now c.requires.sound (known d).1

pub mark_reached-requires-clause-reasons : goal.mark_reached-requires-clause-reasons
mark_reached-requires-clause-reasons c =
    all_have_reasons (search (goal.at.mark_reached-requires-clause-reasons c).After-lits) c.requires.sound refl

pub mark_reached-requires-clause-all_false : goal.mark_reached-requires-clause-all_false
mark_reached-requires-clause-all_false c = (known (goal.at.mark_reached-requires-clause-all_false c).After-lits).1

pub returns-clause-reasons : goal.returns-clause-reasons
returns-clause-reasons c =
    let d = (goal.at.returns-clause-reasons c).After-lits in
    let e = c.in_ok-mark_reached.ensures in
    let long = le_along refl (sym (e.long ∙ c.begin.ensures.long)) c.requires.long in
    subst (λ (ks : List ℕ). AreReasons c.args.clauses.now ks []) (sym c.in_ok-reasons.ensures)
    (refutation_shows (search d) c.lits.result.now c.args.conflict (marks_of c.mark_reached.new.marks)
    c.requires.sound (known d).0 (known d).1 e.all e.resolved long)
