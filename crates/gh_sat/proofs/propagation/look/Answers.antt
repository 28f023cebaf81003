use Rattle.std.proofs.Common.{◌≡◌, ◌∙◌, ◌++◌, ◌∷◌, [], ℕ, List, Some, ap, sym, subst, ◌<◌, arith, length, inr, inl}
use Rattle.std.proofs.Common.{get_or, refl}
use Rattle.std.specs.Prelude.{slice_get}
use Rattle.std.proofs.lemmas.List.{length_push}
use Rattle.std.proofs.lemmas.Option.{slice_get_read}
use Rattle.std.proofs.lemmas.List.Elements.{All-contains}
use Rattle.gh_base.specs.declared.atom.Lit.{Lit}
use Rattle.gh_base.specs.Atoms.{opposite}
use Rattle.gh_sat.specs.declared.trail.Step.{Step}
use Rattle.gh_sat.specs.Trail.{Line, IsUnitIn, IsFalseIn, IsTrueIn}
use Rattle.gh_sat.specs.Status.{IsFalseOrUnit, IsGuarded, IsForced, Grows}
use Rattle.gh_base.proofs.ListLemmas.{get_last}
use Rattle.gh_sat.proofs.StatusLemmas.{not_free_opposite}
use Rattle.gh_sat.proofs.WatchLemmas.{grows_not, grows_one, one_unit}
use Rattle.gh_sat.proofs.PropagationLemmas.{propagates_not}
use Rattle.gh_sat.proofs.propagation.look.Goals.{After-lits}
use Rattle.gh_sat.proofs.propagation.look.Goals as goal

read : (clauses : List (List Lit)) (k : ℕ) (c lits : List Lit) → c ≡ get_or clauses k c → lits ≡ c → k < length clauses
    → slice_get clauses k ≡ Some lits
read clauses k c lits e f h = slice_get_read clauses (length clauses) k c (λ _. length clauses) h e ∙ ap Some (sym f)

same : (clauses : List (List Lit)) (k : ℕ) (c d : List Lit) → slice_get clauses k ≡ Some c
    → slice_get clauses k ≡ Some d → c ≡ d
same clauses k c d e f = cc

-- the literals that the code reads are those of the clause of the number
at_number : (c : After-lits) → slice_get c.args.database.now.clauses.now c.args.k ≡ Some c.lits.result.now
at_number c =
    read c.args.database.now.clauses.now c.args.k c.index-database-k.result c.lits.result.now c.index-database-k.is
    (c.lits.ensures ∙ sym c.index-database-k.is)
    c.requires.within

pub returns-in-False-clause-if_false : goal.returns-in-False-clause-if_false
returns-in-False-clause-if_false c = λ _. (
  c.lits.result.now,
  at_number (goal.at.returns-in-False-clause-if_false c).After-lits,
  c.in-False.ensures.status,
)

pub returns-in-False-clause-unit : goal.returns-in-False-clause-unit
returns-in-False-clause-unit c = λ d u at i.
    let is = same c.args.database.now.clauses.now c.args.k c.lits.result.now d
    (at_number (goal.at.returns-in-False-clause-unit c).After-lits) at in
    let f : IsFalseIn c.args.trail.now.steps d =
    subst (IsFalseIn c.args.trail.now.steps) is c.in-False.ensures.status in
    absurd (not_free_opposite c.args.trail.now.steps u
    (All-contains (λ (m : Lit). IsTrueIn c.args.trail.now.steps (opposite m)) d u f i.there) i.free)

pub returns-in-False-clause-propagates : goal.returns-in-False-clause-propagates
returns-in-False-clause-propagates c =
    propagates_not c.args.database.now c.args.level c.args.trail.now c.requires.ready.valid

pub returns-in-Unit-clause-propagates : goal.returns-in-Unit-clause-propagates
returns-in-Unit-clause-propagates c =
    let t = c.args.trail.now in
    let x : Step = record { lit = c.in-Unit.lit; level = c.args.level; reason = Some c.args.k } in
    let f : IsForced c.args.database.now.clauses.now c.args.level t.steps x = record {
      number = c.args.k;
      clause = c.lits.result.now;
      at = at_number (goal.at.returns-in-Unit-clause-propagates c).After-lits;
      unit = c.in-Unit.ensures.status;
      reason = refl;
      level = refl;
    } in
    record {
      valid = c.put.ensures.valid;
      sizes = ap (λ (n : Line). n.sizes) c.put.ensures.put;
      grows = subst (λ (n : Line). Grows c.args.database.now.clauses.now c.args.level t.steps n.steps)
          (sym c.put.ensures.put) (grows_one c.args.database.now.clauses.now c.args.level t.steps x f);
    }

pub returns-in-Unit-clause-unit : goal.returns-in-Unit-clause-unit
returns-in-Unit-clause-unit c = λ d u at i.
    let t = c.args.trail.now in
    let is = same c.args.database.now.clauses.now c.args.k c.lits.result.now d
    (at_number (goal.at.returns-in-Unit-clause-unit c).After-lits) at in
    let mine : IsUnitIn t.steps d c.in-Unit.lit =
    subst (λ (e : List Lit). IsUnitIn t.steps e c.in-Unit.lit) is c.in-Unit.ensures.status in
    ap (λ (n : Line). n.steps) c.put.ensures.put
    ∙ ap (λ (l : Lit). t.steps ++ (let x : Step = record { lit = l; level = c.args.level; reason = Some c.args.k } in
    x) ∷ []) (one_unit t d c.in-Unit.lit u mine i)

-- the literal that was put is true
put_true : (steps : List Step) (x : Step) → IsTrueIn (steps ++ x ∷ []) x.lit
put_true steps x = (length steps, x, omega (arith, length_push steps x), get_last steps x, refl)

pub returns-in-Unit-clause-guarded : goal.returns-in-Unit-clause-guarded
returns-in-Unit-clause-guarded c = λ d at.
    let t = c.args.trail.now in
    let x : Step = record { lit = c.in-Unit.lit; level = c.args.level; reason = Some c.args.k } in
    let is = same c.args.database.now.clauses.now c.args.k c.lits.result.now d
    (at_number (goal.at.returns-in-Unit-clause-guarded c).After-lits) at in
    let mine : IsUnitIn t.steps d c.in-Unit.lit =
    subst (λ (e : List Lit). IsUnitIn t.steps e c.in-Unit.lit) is c.in-Unit.ensures.status in
    inr (subst (λ (n : Line). IsGuarded n.steps n.steps d) (sym c.put.ensures.put)
    (inl (c.in-Unit.lit, mine.there, put_true t.steps x)))

pub returns-in-Open-clause-unit : goal.returns-in-Open-clause-unit
returns-in-Open-clause-unit c = λ d u at i.
    let is = same c.args.database.now.clauses.now c.args.k c.lits.result.now d
    (at_number (goal.at.returns-in-Open-clause-unit c).After-lits) at in
    absurd (c.in-Open.ensures.status (subst (IsFalseOrUnit c.args.trail.now.steps) (sym is) (inr (u, i))))

pub returns-in-Open-clause-propagates : goal.returns-in-Open-clause-propagates
returns-in-Open-clause-propagates c =
    propagates_not c.args.database.now c.args.level c.args.trail.now c.requires.ready.valid

pub returns-in-Open-clause-guarded : goal.returns-in-Open-clause-guarded
returns-in-Open-clause-guarded c = λ d at.
    let is = same c.args.database.now.clauses.now c.args.k c.lits.result.now d
    (at_number (goal.at.returns-in-Open-clause-guarded c).After-lits) at in
    let t = c.args.trail.now in
    inr (subst (IsGuarded t.steps t.steps) is c.in-Open.ensures.guarded)
