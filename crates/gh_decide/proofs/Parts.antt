-- From what the parts of a decision answer to what is decided.
use Rattle.std.specs.Prelude.{◌≡◌, ◌<◌, List, All, length, slice_get}
use Rattle.std.proofs.Common.{sym, subst, inl, inr}
use Rattle.gh_base.specs.Grounds.{Problem}
use Rattle.gh_base.specs.Meaning.{IsCongruence, IsClauseTrue}
use Rattle.gh_base.specs.Structures.{Tables, interpretation_of}
use Rattle.gh_ast.specs.Plain.{Procedure, Program}
use Rattle.gh_ast.specs.Rules.{IsTyped}
use Rattle.gh_ast.specs.declared.typed.Limit.{Limit}
use Rattle.gh_ast.proofs.Lists.{one_value}
use Rattle.gh_path.specs.Admitted.{IsAdmitted, most_terms, most_versions}
use Rattle.gh_path.specs.Conditions.{Condition, IsCondition, IsOf}
use Rattle.gh_path.specs.Kept.{condition_of, IsOne}
use Rattle.gh_path.specs.Terms.{terms_of, versions_of}
use Rattle.gh_path.specs.declared.condition.Condition as kept
use Rattle.gh_symb.specs.Limits.{PassesLimit}
use Rattle.gh_symb.specs.Symbolic.{symbolic_of}
use Rattle.gh_symb.specs.Formulas.{problem}
use Rattle.gh_trace.specs.Validity.{IsConditionValid}
use Rattle.gh_trace.specs.Replay.{Drawn, IsDrawnCounterexample}
use Rattle.gh_trace.proofs.FirstRefuted.{condition_one}
use Rattle.gh_trace.proofs.StepCounts.{none_passes}
use Rattle.gh_log.specs.Sections.{IsValidSection}
use Rattle.gh_log.specs.Lines.{LogLine}
use Rattle.gh_log.specs.declared.lines.Section.{Section}
use Rattle.gh_log.proofs.SectionLemmas.{refute}
use Rattle.gh_inst.specs.Violations.{AreInstancesTrue}
use Rattle.gh_ground.specs.Solving.{IsModelOf, IsRefutationOf}
use Rattle.gh_model.specs.Abstraction as abstraction
use Rattle.gh_model.specs.KeptTraces.{AreBuilt}
use Rattle.gh_model.proofs.building.Drawings.{built_is_counterexample}
use Rattle.gh_model.proofs.soundness.ClauseModels.{traces_give_models}
use Rattle.gh_decide.specs.Logs.{IsSectionOf}
use Rattle.gh_decide.specs.Verdicts.{IsGroundOf, IsShown}

-- a condition of an admitted program passes no limit
pub never_refused : (P : Program) (proc : Procedure) (c : Condition) (l : Limit) → IsAdmitted P → IsCondition P c
    → IsOf P c proc → PassesLimit P proc c l → ⊥
never_refused P proc c l admitted is of (inl many) =
    none_passes P (λ q d. most_terms < length (terms_of P q d.start d.way)) proc c is of admitted.terms many.0
never_refused P proc c l admitted is of (inr many) =
    none_passes P (λ q d. most_versions < versions_of P q d.start d.way) proc c is of admitted.versions many.1

-- a valid section shows that a condition is valid
pub section_shows : (P : Program) (c : Condition) (lines : List LogLine) → IsTyped P → IsCondition P c
    → IsSectionOf P c lines → IsConditionValid P c
section_shows P c lines typed is (q, of, valid) proc there = λ x ys against.
    let same : q ≡ proc = one_value (slice_get P.procedures c.procedure) q proc of there in
    let sound : IsValidSection (problem (symbolic_of P proc c)) lines =
    subst (λ r. IsValidSection (problem (symbolic_of P r c)) lines) same valid in
    let found = traces_give_models P proc c x ys typed is there against in
    refute (problem (symbolic_of P proc c)) lines sound found.0 found.1.congruence found.1.clauses found.1.instances

pub shown : (P : Program) (r : kept.Condition) (asked : Problem) (s : Section) → IsTyped P → IsOne P r
    → IsGroundOf P r asked → IsRefutationOf asked s → IsShown P r s
shown P r asked s typed one ground is = record {
  valid = section_shows P (condition_of r) s.lines typed there section;
  section = section;
  writable = record { first = is.first; few = is.few; spelled = is.spelled };
}
  where
    there : IsCondition P (condition_of r)
    there = condition_one P r one

    section : IsSectionOf P (condition_of r) s.lines
    section = (
      there.procedure,
      there.of,
      subst (λ g. IsValidSection g s.lines) (ground there.procedure there.of) is.valid,
    )

-- a model of the clauses is one of the condition
models : (P : Program) (q : Procedure) (c : Condition) (asked : Problem) (s : Tables)
    → asked ≡ problem (symbolic_of P q c) → IsModelOf asked s → abstraction.IsModelOf P q c (interpretation_of s)
models P q c asked s same is = record {
  congruence = subst (λ (g : Problem). IsCongruence g.sizes (interpretation_of s)) same is.congruence;
  instances = subst (λ (g : Problem). AreInstancesTrue g.sizes (interpretation_of s)) same is.instances;
  clauses = subst (λ (g : Problem). All (IsClauseTrue (interpretation_of s)) g.clauses) same is.clauses;
}

-- the trace of a model refutes the condition
pub refuted : (P : Program) (r : kept.Condition) (asked : Problem) (s : Tables) (xs : List Drawn) → IsTyped P
    → IsOne P r → IsGroundOf P r asked → IsModelOf asked s → AreBuilt P r (interpretation_of s) xs
    → IsDrawnCounterexample P (condition_of r) xs
refuted P r asked s xs typed one ground is built =
    let c : Condition = condition_of r in
    let there : IsCondition P c = condition_one P r one in
    let q : Procedure = there.procedure in
    subst (IsDrawnCounterexample P c) (sym (built q there.of))
    (built_is_counterexample P q c (interpretation_of s) typed there there.of
    (models P q c asked s (ground q there.of) is))
