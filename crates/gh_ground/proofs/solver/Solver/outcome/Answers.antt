use Rattle.std.proofs.Common.{◌≡◌, ◌∙◌, List, Option, Some, None, IfSome, IfNone, refl, subst, sym}
use Rattle.gh_base.specs.Structures.{Tables}
use Rattle.gh_sat.specs.Trail.{SearchState}
use Rattle.gh_base.specs.Grounds.{Problem}
use Rattle.gh_log.specs.Lines.{LogLine}
use Rattle.gh_ground.specs.Kept.{HasLineEach, KeepsLines, AddsInstance, IsModelOfEach}
use Rattle.gh_ground.proofs.KeptLemmas.{keeps_then, kept_through}
use Rattle.gh_ground.proofs.MissingLemmas.{round_less}
use Rattle.gh_ground.proofs.solver.Solver.outcome.Goals as goal

-- where there is no structure
if_none : (o : Option Tables) (P : Type 0) → IfNone o P → ((t : Tables) → o ≡ Some t → ⊥) → P
if_none None P h none = h
if_none (Some t) P h none = absurd (none t refl)

-- a model of what was kept
model_before : (s0 s1 : SearchState) (l0 l1 : List LogLine) (o : Option Tables) (t : Tables) → KeepsLines s0 l0 s1 l1
    → IfSome o (IsModelOfEach s1 l1) → o ≡ Some t → IsModelOfEach s0 l0 t
model_before s0 s1 l0 l1 o t keeps model is =
    λ p kept. subst (λ (x : Option Tables). IfSome x (IsModelOfEach s1 l1)) is model p (keeps.keeps p kept)

pub returns-in-Some-2-clause-outcome : goal.returns-in-Some-2-clause-outcome
returns-in-Some-2-clause-outcome c =
    let old = c.args.self.now in
    let first = c.loop-conflict.self in
    let mid = c.conflict.new.self in
    let keeps =
    keeps_then old.search first.search mid.search old.lines first.lines mid.lines c.loop-conflict.invariant
    c.in_ok-conflict.ensures.keeps in
    model_before old.search mid.search old.lines mid.lines c.in_ok-structure.field-0 c.in-Some-2.structure keeps
    c.in_ok-structure.ensures.model c.in-Some-2.is

pub returns-in-Some-2-clause-keeps : goal.returns-in-Some-2-clause-keeps
returns-in-Some-2-clause-keeps c =
    let old = c.args.self.now in
    let first = c.loop-conflict.self in
    let mid = c.conflict.new.self in
    let new = c.model.new.self in
    kept_through old.search first.search mid.search new.search old.lines first.lines mid.lines new.lines
    c.loop-conflict.invariant c.in_ok-conflict.ensures.keeps c.in_ok-structure.ensures.keeps

pub loop-conflict-preserved : goal.loop-conflict-preserved
loop-conflict-preserved c =
    let old = c.args.self.now in
    let first = c.loop-conflict.self in
    let mid = c.conflict.new.self in
    let new = c.model.new.self in
    kept_through old.search first.search mid.search new.search old.lines first.lines mid.lines new.lines
    c.loop-conflict.invariant c.in_ok-conflict.ensures.keeps c.in_ok-structure.ensures.keeps

-- the numbers of terms stay as they are
stays : (p : Problem) (s0 s1 : SearchState) (l0 l1 : List LogLine) → HasLineEach p s0 l0 → KeepsLines s0 l0 s1 l1
    → s1.sizes ≡ s0.sizes
stays p s0 s1 l0 l1 kept keeps = (keeps.keeps p kept).sizes ∙ sym kept.sizes

pub loop-conflict-smaller : goal.loop-conflict-smaller
loop-conflict-smaller c =
    let p = c.requires.0 in
    let first = c.loop-conflict.self in
    let mid = c.conflict.new.self in
    let new = c.model.new.self in
    let kept = c.loop-conflict.invariant.keeps p c.requires.1 in
    let before = c.in_ok-conflict.ensures.keeps in
    let then = c.in_ok-structure.ensures.keeps in
    let whole = keeps_then first.search mid.search new.search first.lines mid.lines new.lines before then in
    let added =
    if_none c.in_ok-structure.field-0 (AddsInstance mid.search mid.lines new.lines) c.in_ok-structure.ensures.added
    c.in_default-2.not-Some in
    round_less first.search mid.search new.search first.lines mid.lines new.lines
    (stays p first.search mid.search first.lines mid.lines kept before)
    (stays p first.search new.search first.lines new.lines kept whole) before added then
