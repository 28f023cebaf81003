use Rattle.std.proofs.Common.{◌≡◌, ◌<◌, ◌≤◌, ◌+◌, ◌-◌, ◌∙◌, ◌++◌, ◌∷◌, [], ℕ, List, arith, sym, ap, subst, refl, get_or}
use Rattle.std.proofs.Common.{length, drop, Some, None, inl, inr, Contains}
use Rattle.std.specs.Prelude.{IfOk, OnErr}
use Rattle.std.proofs.lemmas.Result.{IfOk-weaker}
use Rattle.gh_sat.specs.declared.clause_search.Learnt.{Learnt}
use Rattle.std.specs.Prelude.{slice_get}
use Rattle.std.proofs.lemmas.Bool.{cases_lt}
use Rattle.std.proofs.lemmas.Option.{get_or_from_slice_get, slice_get_read}
use Rattle.gh_base.specs.declared.atom.Lit.{Lit}
use Rattle.gh_base.specs.Atoms.{opposite, AreInRange}
use Rattle.gh_sat.specs.declared.trail.Step.{Step}
use Rattle.gh_sat.specs.Trail.{SearchState, IsSound, IsFalseIn}
use Rattle.gh_sat.specs.Watch.{WasOpen}
use Rattle.gh_sat.specs.Learn.{Marking, HaveReasons, IsConflictAt, IsLearnt, AreReasons, marks_of, reasons_of}
use Rattle.gh_sat.specs.Learn.{IsLastMarked, add_clause}
use Rattle.gh_sat.specs.contracts.clause_search.ClauseSearch.{the_view}
use Rattle.gh_base.proofs.ListLemmas.{get_within}
use Rattle.gh_sat.proofs.ListLemmas.{le_along}
use Rattle.gh_sat.proofs.StatusLemmas.{nothing}
use Rattle.gh_sat.proofs.LearnLemmas.{have_reasons, learnt, was_open, false_in_range}
use Rattle.gh_sat.proofs.ReasonLemmas.{learnt_shows}
use Rattle.gh_sat.proofs.clause_search.ClauseSearch.learn.Goals as goal
use Rattle.gh_sat.proofs.clause_search.ClauseSearch.learn.Goals.{After-lits, In_ok-place, In_ok-learnt}

-- what is known once the present level's start and the clause are read
record Begun (s : SearchState) (k start : ℕ) (lits : List Lit) : Type 0 where
  last : ℕ
  here : slice_get s.starts last ≡ Some start
  long : length s.starts ≡ last + 1
  within : start ≤ length s.trail
  conflict : IsConflictAt s k
  same : conflict.clause ≡ lits

begun : (s now : SearchState) (k len start : ℕ) (c lits : List Lit) → IsSound s → s ≡ now → IsConflictAt now k
    → 0 < length now.starts → len ≡ length s.starts
    → start ≡ get_or s.starts (len - 1) start → c ≡ get_or s.clauses k c → lits ≡ c → Begun s k start lits
begun s now k len start c lits h is conflict some count at read same =
    let conflict' : IsConflictAt s k = subst (λ (t : SearchState). IsConflictAt t k) (sym is) conflict in
    let some' : 0 < length s.starts = subst (λ (t : SearchState). 0 < length t.starts) (sym is) some in
    let here : slice_get s.starts (len - 1) ≡ Some start =
    slice_get_read s.starts (length s.starts) (len - 1) start (λ _. length s.starts) (omega arith) at in
    let b = h.starts (len - 1) start here in
    let w = get_within s.clauses k conflict'.clause conflict'.at in
    let there : slice_get s.clauses k ≡ Some c =
    slice_get_read s.clauses (length s.clauses) k c (λ _. length s.clauses) w read in
    record {
      last = len - 1;
      here = here;
      long = omega arith;
      within = let v = get_within s.trail start b.1 b.2 in omega arith;
      conflict = conflict';
      same = let t = conflict'.at in cc;
    }

known : (c : After-lits)
    → Begun (the_view c.self.inside) c.args.conflict c.index.result.now c.lits.result.now
known c =
    begun (the_view c.self.inside) c.args.self.now c.args.conflict c.len.result c.index.result.now c.index-2.result.now
    c.lits.result.now c.self.invariant.0.sound c.self.view_is c.requires.conflict c.requires.level (omega arith)
    c.index.ensures c.index-2.ensures c.lits.ensures

pub resolve-requires-clause-marks : goal.resolve-requires-clause-marks
resolve-requires-clause-marks c =
    let s = the_view c.self.inside in
    let i = c.self.invariant in
    let b = known c in
    let steps : length s.trail ≡ length c.steps.result.now = ap length (sym c.steps.ensures.steps) in
    c.begin.ensures.none s.trail (le_along refl steps b.within) (le_along refl refl (omega arith))
    (le_along refl (sym i.4) i.0.sound.steps.few)

pub resolve-requires-clause-conflict_range : goal.resolve-requires-clause-conflict_range
resolve-requires-clause-conflict_range c =
    let s = the_view c.self.inside in
    let i = c.self.invariant in
    let b = known c in
    subst (AreInRange s.sizes) b.same (false_in_range s b.conflict.clause i.0.sound b.conflict.is_false)

pub resolve-requires-clause-reasons : goal.resolve-requires-clause-reasons
resolve-requires-clause-reasons c =
    let s = the_view c.self.inside in
    let i = c.self.invariant in
    let b = known c in
    subst (λ (cs : List (List Lit)). HaveReasons cs s.trail c.begin.new.marks.start) (sym c.as_slice.ensures.value)
    (subst (λ (n : ℕ). HaveReasons s.clauses s.trail n) (sym c.begin.ensures.start)
    (have_reasons s b.last c.index.result.now i.0.sound b.here b.long))

pub resolve-requires-clause-all_false : goal.resolve-requires-clause-all_false
resolve-requires-clause-all_false c =
    let s = the_view c.self.inside in
    let i = c.self.invariant in
    let b = known c in
    subst (IsFalseIn s.trail) b.same b.conflict.is_false

pub resolve-requires-clause-present : goal.resolve-requires-clause-present
resolve-requires-clause-present c =
    let s = the_view c.self.inside in
    let i = c.self.invariant in
    let b = known c in
    let p = b.conflict.present (let l = b.long in omega arith) in
    let low = (i.0.sound.split p.2 p.3 b.last c.index.result.now p.4 b.here).1 in
    let high : c.index.result.now ≤ p.2 = elim (cases_lt p.2 c.index.result.now) [
      | inl lt ↦ absurd (let e = low lt in omega (arith, p.6, b.long))
      | inr ge ↦ ge
    ] in
    (p.0, subst (λ l. Contains l p.0) b.same p.1, p.2, p.3, le_along (sym c.begin.ensures.start) refl high, p.4, p.5)

left : (s : SearchState) (clauses : List (List Lit)) (conflict : List Lit) (m : Marking) (place : ℕ)
    → clauses ≡ s.clauses → IsLastMarked clauses s.trail conflict m place
    → IsLastMarked s.clauses s.trail conflict m place
left s clauses conflict m place e p = subst (λ cs. IsLastMarked cs s.trail conflict m place) e p

abbrev no_step : Step
no_step = record { lit = nothing; level = 0; reason = None }

-- what is learnt, as the code makes it
made : (s : SearchState) (m : Marking) (k start place : ℕ) (lits : List Lit) (steps : List Step) (u : Lit)
    (clause : List Lit)
    → IsSound s → Begun s k start lits → m.start ≡ start → IsLastMarked s.clauses s.trail lits m place → steps ≡ s.trail
    → u ≡ opposite (get_or steps place no_step).lit
    → clause ≡ m.lower ++ u ∷ [] → IsLearnt s k clause m.level u
made s m k start place lits steps u clause h b at p same is e =
    let here : slice_get s.starts b.last ≡ Some m.start = b.here ∙ ap Some (sym at) in
    let unit : opposite p.step.lit ≡ u =
    ap (λ (x : Step). opposite x.lit) (sym (get_or_from_slice_get s.trail place p.step no_step p.at))
    ∙ ap (λ (t : List Step). opposite (get_or t place no_step).lit) (sym same) ∙ sym is in
    subst (λ (x : List Lit). IsLearnt s k x m.level u) (sym e)
    (subst (λ w. IsLearnt s k (m.lower ++ w ∷ []) m.level w) unit
    (learnt s lits m place b.last h here b.long p k (b.conflict.at ∙ ap Some b.same)
    (subst (IsFalseIn s.trail) b.same b.conflict.is_false)))

-- and its reasons
made_reasons : (s : SearchState) (m : Marking) (k start place : ℕ) (lits : List Lit) (steps : List Step) (u : Lit)
    (clause : List Lit) (reasons : List ℕ)
    → IsSound s → Begun s k start lits → m.start ≡ start → IsLastMarked s.clauses s.trail lits m place → steps ≡ s.trail
    → u ≡ opposite (get_or steps place no_step).lit
    → clause ≡ m.lower ++ u ∷ [] → reasons ≡ reasons_of m.round (drop (place + 1) m.stamps) (drop (place + 1) s.trail)
    ++ k ∷ [] → AreReasons s.clauses reasons clause
made_reasons s m k start place lits steps u clause reasons h b at p same is e all =
    let here : slice_get s.starts b.last ≡ Some m.start = b.here ∙ ap Some (sym at) in
    let unit : opposite p.step.lit ≡ u =
    ap (λ (x : Step). opposite x.lit) (sym (get_or_from_slice_get s.trail place p.step no_step p.at))
    ∙ ap (λ (t : List Step). opposite (get_or t place no_step).lit) (sym same) ∙ sym is in
    let whole : m.lower ++ opposite p.step.lit ∷ [] ≡ clause = ap (λ w. m.lower ++ w ∷ []) unit ∙ sym e in
    subst (λ (ks : List ℕ). AreReasons s.clauses ks clause) (sym all)
    (subst (AreReasons s.clauses (reasons_of m.round (drop (place + 1) m.stamps) (drop (place + 1) s.trail) ++ k ∷ []))
    whole
    (learnt_shows s lits m place b.last k h here b.long p (b.conflict.at ∙ ap Some b.same)
    (subst (IsFalseIn s.trail) b.same b.conflict.is_false)))

-- the step at the place is the one marked step that is left
remains : (c : In_ok-place)
    → IsLastMarked (the_view c.self.inside).clauses (the_view c.self.inside).trail c.lits.result.now
    (marks_of c.resolve.new.marks) c.in_ok-place.place
remains c =
    left (the_view c.self.inside) c.as_slice.result.now c.lits.result.now (marks_of c.resolve.new.marks)
    c.in_ok-place.place c.as_slice.ensures.value c.in_ok-place.ensures.point

-- the clause is learnt
lesson : (c : In_ok-learnt) → Begun (the_view c.self.inside) c.args.conflict c.index.result.now c.lits.result.now
    → IsLastMarked (the_view c.self.inside).clauses (the_view c.self.inside).trail c.lits.result.now
    (marks_of c.resolve.new.marks) c.in_ok-place.place
    → IsLearnt (the_view c.self.inside) c.args.conflict c.in_ok-learnt.learnt.clause c.in_ok-learnt.learnt.level
    c.in_ok-learnt.learnt.unit
lesson c b p =
    let s = the_view c.self.inside in
    let m = marks_of c.resolve.new.marks in
    let clause = c.in_ok-learnt.learnt.clause in
    let e = c.in_ok-learnt.ensures in
    subst (λ (n : ℕ). IsLearnt s c.args.conflict clause n c.in_ok-learnt.learnt.unit) (sym e.level)
    (subst (λ (u : Lit). IsLearnt s c.args.conflict clause m.level u) (sym e.unit)
    (made s m c.args.conflict c.index.result.now c.in_ok-place.place c.lits.result.now c.steps-2.result.now
    c.negated-unit.result clause c.self.invariant.0.sound b (c.in_ok-place.ensures.start ∙ c.begin.ensures.start) p
    c.steps-2.ensures.steps c.negated-unit.ensures (e.clause ∙ c.in_ok-push.ensures.items)))

pub bounds-steps-place : goal.bounds-steps-place
bounds-steps-place c =
    let trail = c.self.inside.trail.steps in
    let p = remains (goal.at.bounds-steps-place c).In_ok-place in
    let w : c.in_ok-place.place < length trail = get_within trail c.in_ok-place.place p.step p.at in
    subst (λ (t : List Step). c.in_ok-place.place < length t) (sym c.steps-2.ensures.steps) w

pub learnt_of-requires-clause-within : goal.learnt_of-requires-clause-within
learnt_of-requires-clause-within c =
    let p = remains (goal.at.learnt_of-requires-clause-within c).In_ok-place in
    get_within c.self.inside.trail.steps c.in_ok-place.place p.step p.at

pub learnt_of-requires-clause-long : goal.learnt_of-requires-clause-long
learnt_of-requires-clause-long c =
    let i = c.self.invariant in
    let e = c.in_ok-place.ensures.long ∙ c.begin.ensures.long ∙ i.4 in
    le_along refl (sym e) i.0.sound.steps.few

pub keep-requires-clause-range : goal.keep-requires-clause-range
keep-requires-clause-range c =
    let d = goal.at.keep-requires-clause-range c in
    let clause = c.in_ok-learnt.learnt.clause in
    let r = lesson d.In_ok-learnt (known d.After-lits) (remains d.In_ok-place) in
    (false_in_range (the_view c.self.inside) clause c.self.invariant.0.sound r.is_false)

pub keep-requires-clause-was_open : goal.keep-requires-clause-was_open
keep-requires-clause-was_open c =
    let d = goal.at.keep-requires-clause-was_open c in
    let s = the_view c.self.inside in
    let clause = c.in_ok-learnt.learnt.clause in
    let r = lesson d.In_ok-learnt (known d.After-lits) (remains d.In_ok-place) in
    let x = r.present in
    was_open s clause c.in_ok-learnt.learnt.unit r.place x.0 c.self.invariant.0.sound r.there x.1 x.2 x.3

pub returns-clause-learnt : goal.returns-clause-learnt
returns-clause-learnt c =
    let d = goal.at.returns-clause-learnt c in
    let learns : SearchState → Learnt → Type 0 = λ t l. IsLearnt t c.args.conflict l.clause l.level l.unit in
    let is : learns c.args.self.now c.in_ok-learnt.learnt =
    subst (λ (t : SearchState). learns t c.in_ok-learnt.learnt) c.self.view_is
    (lesson d.In_ok-learnt (known d.After-lits) (remains d.In_ok-place)) in
    IfOk-weaker c.keep.result (λ l. l ≡ c.in_ok-learnt.learnt) (learns c.args.self.now)
    (λ l e. subst (learns c.args.self.now) (sym e) is) c.keep.ensures.same

pub returns-clause-added : goal.returns-clause-added
returns-clause-added c =
    subst (λ (t : SearchState). IfOk c.keep.result (λ l. c.keep.new.self ≡ add_clause t l.clause)) c.self.view_is
    c.keep.ensures.added

pub returns-clause-err : goal.returns-clause-err
returns-clause-err c =
    subst (λ (t : SearchState). OnErr c.keep.result (c.keep.new.self ≡ t)) c.self.view_is c.keep.ensures.err

pub returns-clause-reasons : goal.returns-clause-reasons
returns-clause-reasons c =
    let d = goal.at.returns-clause-reasons c in
    let s = the_view c.self.inside in
    let m = marks_of c.resolve.new.marks in
    let place = c.in_ok-place.place in
    let learnt = c.in_ok-learnt.learnt in
    let e = c.in_ok-learnt.ensures in
    let r = made_reasons s m c.args.conflict c.index.result.now place c.lits.result.now c.steps-2.result.now
    c.negated-unit.result learnt.clause learnt.reasons.items c.self.invariant.0.sound (known d.After-lits)
    (c.in_ok-place.ensures.start ∙ c.begin.ensures.start) (remains d.In_ok-place) c.steps-2.ensures.steps
    c.negated-unit.ensures (e.clause ∙ c.in_ok-push.ensures.items) e.reasons in
    let shows : Learnt → Type 0 = λ l. AreReasons c.args.self.now.clauses l.reasons.items l.clause in
    let is : shows learnt =
    subst (λ (t : SearchState). AreReasons t.clauses learnt.reasons.items learnt.clause) c.self.view_is r in
    IfOk-weaker c.keep.result (λ l. l ≡ learnt) shows (λ l e. subst shows (sym e) is) c.keep.ensures.same
