-- What the script of a condition means.
use Rattle.std.proofs.Common.{◌≡◌, ℕ, List, [], ◌∷◌, map, All, sym, ◌∙◌, ap, subst, arith}
use Rattle.std.specs.Prelude.{Contains, slice_get}
use Rattle.std.proofs.lemmas.List.Elements.{All-cons, All-head, All-tail, All-append, All-weaker, All-map}
use Rattle.std.proofs.lemmas.List.Elements.{All-contains_itself}
use Rattle.gh_base.specs.declared.atom.Lit.{Lit}
use Rattle.gh_base.specs.declared.sizes.Sizes.{Sizes}
use Rattle.gh_base.specs.Atoms.{AreInRange}
use Rattle.gh_base.specs.Grounds.{Problem, IsProblem}
use Rattle.gh_base.specs.Meaning as ground
use Rattle.gh_base.specs.Meaning.{Interpretation, IsCongruence}
use Rattle.gh_inst.specs.Instances.{instances, clause_of, IsInstance}
use Rattle.gh_inst.specs.Violations.{AreInstancesTrue}
use Rattle.gh_inst.proofs.ListedLemmas.{all_are_listed}
use Rattle.gh_inst.proofs.RangeLemmas.{instance_in_range}
use Rattle.gh_ast.specs.Plain.{Procedure, Program}
use Rattle.gh_ast.specs.Rules.{IsTyped}
use Rattle.gh_ast.proofs.Lists.{one_value}
use Rattle.gh_path.specs.Conditions.{Condition, IsCondition, IsOf}
use Rattle.gh_symb.specs.Symbolic.{symbolic_of}
use Rattle.gh_symb.specs.Formulas.{problem}
use Rattle.gh_trace.specs.Traces.{State}
use Rattle.gh_trace.specs.Validity.{AreCounterexample, HasCounterexample, IsConditionValid, IsCounterexample}
use Rattle.gh_model.specs.BuiltTraces.{built_trace}
use Rattle.gh_model.proofs.locality.Traces.{locality_holds}
use Rattle.gh_model.proofs.soundness.ClauseModels.{traces_give_models}
use Rattle.gh_log.proofs.NumberLemmas.{all_before, all_after}
use Rattle.gh_smt.specs.Scripts.{script_of}
use Rattle.gh_smt.specs.Meaning.{IsAssertionTrue, IsSatisfiable}
use Rattle.gh_smt.specs.Laws.{HasModel, ScriptsMeanModels, DecidesCondition, ScriptsDecide}
use Rattle.gh_smt.proofs.MeaningLemmas.{structure_of, is_congruence, structure_clause}
use Rattle.gh_smt.proofs.StructureLemmas.{model_of, model_clause}

-- what holds of the images
pub all_mapped : {X Y : Type 0} (P : Y → Type 0) (f : X → Y) (xs : List X) → All P (map f xs) → All (λ x. P (f x)) xs
all_mapped P f [] h = λ k d l. absurd (omega arith)
all_mapped P f (x ∷ xs) h =
    All-cons (λ x. P (f x)) x xs (All-head P (f x) (map f xs) h) (all_mapped P f xs (All-tail P (f x) (map f xs) h))

pub all_are_instances : (n versions : ℕ) → All (IsInstance n versions) (instances n versions)
all_are_instances n versions =
    All-weaker (Contains (instances n versions)) (IsInstance n versions)
    (λ name h. (all_are_listed n versions name).0 h) (instances n versions)
    (All-contains_itself (instances n versions))

-- all atoms of a script are in range
pub script_in_range : (p : Problem) → All (AreInRange p.sizes) p.clauses
    → All (AreInRange p.sizes) (script_of p).clauses
script_in_range p h =
    All-append (AreInRange p.sizes) p.clauses (map clause_of (instances p.sizes.terms p.sizes.versions)) h
    (All-map (AreInRange p.sizes) clause_of (instances p.sizes.terms p.sizes.versions)
    (All-weaker (IsInstance p.sizes.terms p.sizes.versions) (λ name. AreInRange p.sizes (clause_of name))
    (instance_in_range p.sizes)
    (instances p.sizes.terms p.sizes.versions) (all_are_instances p.sizes.terms p.sizes.versions)))

-- the clauses and the instances are true
parts : (p : Problem) (m : Interpretation) → All (ground.IsClauseTrue m) (script_of p).clauses
    → All (ground.IsClauseTrue m) p.clauses × AreInstancesTrue p.sizes m
parts p m h =
    let is = map clause_of (instances p.sizes.terms p.sizes.versions) in (
      all_before (ground.IsClauseTrue m) p.clauses is h,
      all_mapped (ground.IsClauseTrue m) clause_of (instances p.sizes.terms p.sizes.versions)
          (all_after (ground.IsClauseTrue m) p.clauses is h),
    )

whole : (p : Problem) (m : Interpretation) → All (ground.IsClauseTrue m) p.clauses → AreInstancesTrue p.sizes m
    → All (ground.IsClauseTrue m) (script_of p).clauses
whole p m h k =
    let is = map clause_of (instances p.sizes.terms p.sizes.versions) in
    All-append (ground.IsClauseTrue m) p.clauses is h
    (All-map (ground.IsClauseTrue m) clause_of (instances p.sizes.terms p.sizes.versions) k)

pub to_model : (p : Problem) → IsSatisfiable (script_of p) → HasModel p
to_model p (m, h) =
    let t =
    parts p (structure_of m) (All-weaker (IsAssertionTrue m) (ground.IsClauseTrue (structure_of m))
    (structure_clause m) (script_of p).clauses h) in
    (structure_of m, record { congruence = is_congruence p.sizes m; instances = t.1; clauses = t.0 })

all_in_model : (s : Sizes) (m : Interpretation) → IsCongruence s m → (cs : List (List Lit)) → All (AreInRange s) cs
    → All (ground.IsClauseTrue m) cs → All (IsAssertionTrue (model_of s m)) cs
all_in_model s m g [] r h = λ k d l. absurd (omega arith)
all_in_model s m g (c ∷ cs) r h =
    All-cons (IsAssertionTrue (model_of s m)) c cs
    (model_clause s m g c (All-head (AreInRange s) c cs r) (All-head (ground.IsClauseTrue m) c cs h))
    (all_in_model s m g cs (All-tail (AreInRange s) c cs r) (All-tail (ground.IsClauseTrue m) c cs h))

pub from_model : (p : Problem) → All (AreInRange p.sizes) p.clauses → HasModel p → IsSatisfiable (script_of p)
from_model p r (m, h) = (
  model_of p.sizes m,
  all_in_model p.sizes m h.congruence (script_of p).clauses (script_in_range p r)
      (whole p m h.clauses h.instances),
)

pub scripts_mean_models : ScriptsMeanModels
scripts_mean_models p is = (to_model p, from_model p is.in_range)

to_counterexample : (P : Program) (proc : Procedure) (c : Condition) → IsTyped P → IsCondition P c → IsOf P c proc
    → HasModel (problem (symbolic_of P proc c)) → HasCounterexample P c
to_counterexample P proc c t is of (m, h) = (
  built_trace P proc c m,
  locality_holds P proc c m t is of
      (record { congruence = h.congruence; instances = h.instances; clauses = h.clauses }),
)

-- the procedure of a condition is one
at_procedure : (P : Program) (proc q : Procedure) (c : Condition) (x : State) (ys : List State) → IsOf P c proc
    → IsOf P c q → IsCounterexample P q c x ys → IsCounterexample P proc c x ys
at_procedure P proc q c x ys of its h =
    let same : q ≡ proc = one_value (slice_get P.procedures c.procedure) q proc its of in
    subst (λ (o : Procedure). IsCounterexample P o c x ys) same h

from_counterexample : (P : Program) (proc : Procedure) (c : Condition) → IsTyped P → IsCondition P c → IsOf P c proc
    → (xs : List State) → AreCounterexample P c xs → HasModel (problem (symbolic_of P proc c))
from_counterexample P proc c t is of [] h = absurd h
from_counterexample P proc c t is of (x ∷ ys) (q, its, h) =
    let m = traces_give_models P proc c x ys t is of (at_procedure P proc q c x ys of its h) in
    (m.0, record { congruence = m.1.congruence; instances = m.1.instances; clauses = m.1.clauses })

-- a valid condition has no counterexample
not_valid : (P : Program) (c : Condition) → IsConditionValid P c → (xs : List State) → AreCounterexample P c xs → ⊥
not_valid P c valid [] h = h
not_valid P c valid (x ∷ ys) (q, its, h) = valid q its x ys h

pub scripts_decide : ScriptsDecide
scripts_decide P proc c t is of known =
    let s = problem (symbolic_of P proc c) in
    let satisfied : HasCounterexample P c → IsSatisfiable (script_of s) =
    λ h. from_model s known.in_range (from_counterexample P proc c t is of h.0 h.1) in
    let refuted : IsSatisfiable (script_of s) → HasCounterexample P c =
    λ h. to_counterexample P proc c t is of (to_model s h) in
    record {
      satisfiable = (refuted, satisfied);
      unsatisfiable = (
        λ none q its x ys h. none (satisfied (x ∷ ys, (q, its, h))),
        λ valid h. let w = refuted h in
            not_valid P c valid w.0 w.1,
      );
    }

-- the same of a script and a problem that are those
pub script_decides : (P : Program) (q : Procedure) (c : Condition) (asked s : Problem) → IsTyped P → IsCondition P c
    → IsOf P c q → asked ≡ problem (symbolic_of P q c) → IsProblem asked → s ≡ script_of asked →
    DecidesCondition P c s
script_decides P q c asked s t is of e i same =
    subst (DecidesCondition P c) (sym (same ∙ ap script_of e)) (scripts_decide P q c t is of (subst IsProblem e i))
