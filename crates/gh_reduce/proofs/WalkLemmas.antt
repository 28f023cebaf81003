-- Loops over terms, steps and versions.
use Rattle.std.specs.Prelude.{◌≡◌, ℕ, zero, suc, ◌+◌, ◌-◌, ◌<◌, ◌≤◌, List, [], ◌∷◌, ◌++◌, map, length, drop, get_or}
use Rattle.std.specs.Prelude.{slice_get, Some}
use Rattle.std.proofs.Common.{refl, sym, ◌∙◌, ap, subst, arith, add-one}
use Rattle.std.proofs.Math.Seq.{drop-cons}
use Rattle.std.proofs.lemmas.List.{length-map}
use Rattle.gh_base.specs.declared.term.TermKind.{TermKind}
use Rattle.gh_base.specs.Grounds.{Problem}
use Rattle.gh_ast.specs.Plain.{Procedure, Program}
use Rattle.gh_path.specs.Conditions.{Condition}
use Rattle.gh_path.specs.Terms.{Kind}
use Rattle.gh_symb.specs.Symbolic as plain
use Rattle.gh_symb.specs.Symbolic.{access_step, assume_step, same_step, write_step, new_step, free_step, part_step}
use Rattle.gh_symb.specs.Formulas.{version_after, versions_formulas, meets_whole, check_formulas, condition_formulas}
use Rattle.gh_symb.specs.Formulas.{problem, successor_formulas, successors_from, steps_formulas}
use Rattle.gh_symb.specs.Encodings.{plain_kind}
use Rattle.gh_symb.specs.Encoded.{IsSymbolic}
use Rattle.gh_symb.specs.declared.over_terms.TermStep.{TermStep}
use Rattle.gh_symb.specs.declared.over_terms.Symbolic.{Symbolic}
use Rattle.gh_reduce.specs.Growth.{stated_in}
use Rattle.gh_symb.specs.Inside.{step_of, AreKinds, IsUnderInside, IsStepInside, AreStepsInside, IsCheckInside}
use Rattle.gh_symb.specs.Encoded.{plain_of}
use Rattle.gh_symb.proofs.EncodedLemmas.{encoded_is}

-- the kinds from a place on
pub kinds_from : (ks : List TermKind) (t : ℕ) (k : TermKind) → Some k ≡ slice_get ks t → drop t ks ≡ k ∷ drop (t + 1) ks
kinds_from [] t k e = absurd cc
kinds_from (j ∷ ks) zero k e = let first : j ≡ k = cc in ap (λ (x : TermKind). x ∷ ks) first
kinds_from (j ∷ ks) (suc t) k e =
    let later : suc t + 1 ≡ suc (t + 1) = omega arith in
    kinds_from ks t k e ∙ ap (λ n. k ∷ drop n (j ∷ ks)) (sym later)

pub kind_at : (ks : List TermKind) (t : ℕ) (k : TermKind) → Some k ≡ slice_get ks t
    → slice_get (map plain_kind ks) t ≡ Some (plain_kind k)
kind_at [] t k e = absurd cc
kind_at (j ∷ ks) zero k e = let first : j ≡ k = cc in ap (λ (x : TermKind). Some (plain_kind x)) first
kind_at (j ∷ ks) (suc t) k e = kind_at ks t k e

-- what the first of the kinds that are left says
pub successors_first : (i : ℕ) (ks : List TermKind) (t : ℕ) (k : TermKind) → Some k ≡ slice_get ks t
    → successors_from i t (map plain_kind (drop t ks))
    ≡ successor_formulas i t (plain_kind k) ++ successors_from i (t + 1) (map plain_kind (drop (t + 1) ks))
successors_first i ks t k e = ap (λ xs. successors_from i t (map plain_kind xs)) (kinds_from ks t k e)

pub steps_from : (ss : List TermStep) (i : ℕ) (s : TermStep) → i < length ss → s ≡ get_or ss i s
    → map step_of (drop i ss) ≡ step_of s ∷ map step_of (drop (i + 1) ss)
steps_from ss i s within is = ap (map step_of) (drop-cons ss i s within) ∙ rw (← is, add-one i) refl

-- a step inside begins no version too many
pub step_version : (n v i : ℕ) (s : plain.TermStep) → IsStepInside n v i s → i < v → version_after i s < v
step_version n v i (access_step x) h l = l
step_version n v i (assume_step a e b) h l = l
step_version n v i same_step h l = l
step_version n v i (write_step x e) h l = h.2
step_version n v i (new_step a b) h l = h.2
step_version n v i (free_step x) h l = h.1
step_version n v i (part_step u us) h l = h.2

abbrev pub empty_problem : ℕ → ℕ → Problem
empty_problem n v = record { sizes = record { terms = n; versions = v; defs = 0 }; clauses = [] }

pub finished : (s : plain.Symbolic) (p q : Problem) (n v : ℕ) → p ≡ empty_problem n v → n ≡ length s.terms
    → v ≡ s.versions → q ≡ stated_in p (condition_formulas s) → q ≡ problem s
finished s p q n v e terms versions h =
    h
    ∙ ap (λ (x : Problem). stated_in x (condition_formulas s))
    (e ∙ ap (λ (k : ℕ). empty_problem k v) terms ∙ ap (empty_problem (length s.terms)) versions)

pub told_problem : (P : Program) (proc : Procedure) (c : Condition) (s : Symbolic) (q : Problem) → IsSymbolic P proc c s
    → q ≡ problem (plain_of s) → q ≡ problem (plain.symbolic_of P proc c)
told_problem P proc c s q h e = e ∙ ap problem (encoded_is P proc c s h)

-- what a condition says of its terms and versions, at the numbers of a problem
pub record InsideAt (n v : ℕ) (kinds : List Kind) (s : plain.Symbolic) : Type 0 where
  pub ready : AreKinds n kinds
  pub some : 1 ≤ v
  pub start : IsUnderInside n v s.start
  pub steps : AreStepsInside n v 0 s.steps
  pub check : IsCheckInside n v s.check

pub ready_for : (s : Symbolic) (ts : List TermKind) (p : Problem) → ts ≡ s.terms → p.sizes.terms ≡ length s.terms
    → p.sizes.versions ≡ s.versions → InsideAt p.sizes.terms p.sizes.versions (map plain_kind ts) (plain_of s)
ready_for s ts p listed terms versions =
    let h = s.inside in
    let n : p.sizes.terms ≡ length (map plain_kind s.terms) = terms ∙ sym (length-map s.terms plain_kind) in
    subst (λ m. InsideAt m p.sizes.versions (map plain_kind ts) (plain_of s)) (sym n)
    (subst (λ v. InsideAt (length (map plain_kind s.terms)) v (map plain_kind ts) (plain_of s)) (sym versions)
    (subst (λ (ks : List TermKind). InsideAt (length (map plain_kind s.terms)) s.versions (map plain_kind ks)
    (plain_of s)) (sym listed)
    (record { ready = h.terms; some = h.some_versions; start = h.start_is; steps = h.steps_are; check = h.check_is })))

pub inside_stays : (s : plain.Symbolic) (kinds : List Kind) (p q : Problem) → q ≡ p
    → InsideAt p.sizes.terms p.sizes.versions kinds s → InsideAt q.sizes.terms q.sizes.versions kinds s
inside_stays s kinds p q e h = subst (λ (x : Problem). InsideAt x.sizes.terms x.sizes.versions kinds s) (sym e) h

pub claims_are : (s : plain.Symbolic) (ks : List Kind) (v w : ℕ) (u : plain.Under) (ss : List plain.TermStep)
    (k : plain.TermCheck) → ks ≡ s.terms → v ≡ s.versions → w ≡ s.versions → u ≡ s.start → ss ≡ s.steps → k ≡ s.check
    → ((versions_formulas ks v ++ meets_whole ks u ∷ []) ++ steps_formulas ks 0 ss) ++ check_formulas ks (w - 1) k
    ≡ condition_formulas s
claims_are s ks v w u ss k a b c d e f =
    ap (λ (x : List Kind). ((versions_formulas x v ++ meets_whole x u ∷ []) ++ steps_formulas x 0 ss)
    ++ check_formulas x (w - 1) k) a
    ∙ ap (λ (x : ℕ). ((versions_formulas s.terms x ++ meets_whole s.terms u ∷ []) ++ steps_formulas s.terms 0 ss)
    ++ check_formulas s.terms (w - 1) k) b
    ∙ ap (λ (x : ℕ). ((versions_formulas s.terms s.versions ++ meets_whole s.terms u ∷ [])
    ++ steps_formulas s.terms 0 ss) ++ check_formulas s.terms (x - 1) k) c
    ∙ ap (λ (x : plain.Under).
    ((versions_formulas s.terms s.versions ++ meets_whole s.terms x ∷ []) ++ steps_formulas s.terms 0 ss)
    ++ check_formulas s.terms (s.versions - 1) k) d
    ∙ ap (λ (x : List plain.TermStep).
    ((versions_formulas s.terms s.versions ++ meets_whole s.terms s.start ∷ []) ++ steps_formulas s.terms 0 x)
    ++ check_formulas s.terms (s.versions - 1) k) e
    ∙ ap (λ (x : plain.TermCheck).
    ((versions_formulas s.terms s.versions ++ meets_whole s.terms s.start ∷ []) ++ steps_formulas s.terms 0 s.steps)
    ++ check_formulas s.terms (s.versions - 1) x) f
