-- Lines, each by what its check answers.
use Rattle.std.proofs.Common.{◌≡◌, ℕ, List, Some, inl, inr, refl, sym, subst}
use Rattle.gh_base.specs.declared.atom.Lit.{Lit}
use Rattle.gh_base.specs.declared.sizes.Sizes.{Sizes}
use Rattle.gh_base.specs.Atoms.{AreInRange}
use Rattle.gh_base.specs.Grounds.{Problem}
use Rattle.gh_base.specs.Meaning.{IsEqualityClause}
use Rattle.gh_base.specs.Propagation.{FollowsByUnits}
use Rattle.gh_base.specs.Hints.{IsShownByHints}
use Rattle.gh_inst.specs.declared.naming.InstanceName.{InstanceName}
use Rattle.gh_inst.specs.Instances.{IsInstance, clause_of}
use Rattle.gh_log.specs.Lines.{LogLine}
use Rattle.gh_log.specs.Lines as line
use Rattle.gh_log.specs.Sections.{AllUndeleted, Deletes}
use Rattle.gh_check.specs.declared.fault.FaultKind.TheVariants.{NotImplied, NoSuchLine}
use Rattle.gh_check.specs.declared.lines.Outcome.{Outcome}
use Rattle.gh_check.specs.declared.lines.Outcome.TheVariants.{Faulty, Holds}
use Rattle.gh_check.specs.Kept.{Kept, named, present, AreDeleted, MayBeDeleted, AreLinesKept}
use Rattle.gh_check.specs.Lines.{IsTaken, IsChecked, IsKeptAfter}
use Rattle.gh_check.proofs.KeptLemmas.{all_forth, all_back, hinted_forth, hinted_back, present_is, kept_push, kept_then}

own_range : (s : Sizes) (d c : List Lit) → AreInRange s d → Some d ≡ Some c → AreInRange s c
own_range s d c h e = let same : d ≡ c = cc in subst (AreInRange s) same h

pub axiom_taken : (p : Problem) (n v : ℕ) (name : InstanceName) (clause : List Lit) → n ≡ p.sizes.terms
    → v ≡ p.sizes.versions → IsInstance n v name → clause ≡ clause_of name
    → ((s : Sizes) → s.terms ≡ n → s.versions ≡ v → AreInRange s clause) → (earlier : List LogLine)
    → IsTaken p earlier (line.Axiom name)
axiom_taken p n v name clause terms versions exact is range earlier =
    record {
      kind = subst (λ (k : ℕ). IsInstance p.sizes.terms k name) versions
          (subst (λ (k : ℕ). IsInstance k v name) terms exact);
      within =
          λ c e. own_range p.sizes (clause_of name) c
          (subst (AreInRange p.sizes) is (range p.sizes (sym terms) (sym versions))) e;
    }

-- a clause of equality and congruence
pub lemma_taken : (p : Problem) (earlier : List LogLine) (c : List Lit) → IsEqualityClause p.sizes c
    → IsTaken p earlier (line.Lemma c)
lemma_taken p earlier c h = record { kind = h; within = λ x e. own_range p.sizes c x h.in_range e }

-- a clause from all lines before
pub learnt_refused : (p : Problem) (earlier : List LogLine) (k : Kept) (c : List Lit) → AreLinesKept p earlier k
    → (FollowsByUnits (present k.clauses) c → ⊥) → IsChecked p earlier (line.Learnt c) (Faulty NotImplied)
learnt_refused p earlier k c h fails =
    ((λ kind. fails (subst (λ cs. FollowsByUnits cs c) (sym (present_is p earlier k h)) kind.1)), refl)

pub learnt_taken : (p : Problem) (earlier : List LogLine) (k : Kept) (c : List Lit) → AreLinesKept p earlier k
    → AreInRange p.sizes c → FollowsByUnits (present k.clauses) c → IsTaken p earlier (line.Learnt c)
learnt_taken p earlier k c h range follows =
    record {
      kind = (range, subst (λ cs. FollowsByUnits cs c) (present_is p earlier k h) follows);
      within = λ x e. own_range p.sizes c x range e;
    }

-- a clause along hints
pub hints_refused : (p : Problem) (earlier : List LogLine) (c : List Lit) (hints : List ℕ)
    → (AllUndeleted p earlier hints → ⊥) → IsChecked p earlier (line.Hinted c hints) (Faulty NoSuchLine)
hints_refused p earlier c hints fails = ((λ kind. fails kind.1.stand), inr (fails, refl))

pub range_refused : (p : Problem) (earlier : List LogLine) (c : List Lit) (hints : List ℕ)
    → AllUndeleted p earlier hints → (AreInRange p.sizes c → ⊥)
    → IsChecked p earlier (line.Hinted c hints) (Faulty NotImplied)
range_refused p earlier c hints stand fails = ((λ kind. fails kind.0), inl (stand, refl))

pub hinted_refused : (p : Problem) (earlier : List LogLine) (k : Kept) (c : List Lit) (hints : List ℕ)
    → AreLinesKept p earlier k → AllUndeleted p earlier hints
    → (IsShownByHints (named k hints) c → ⊥) → IsChecked p earlier (line.Hinted c hints) (Faulty NotImplied)
hinted_refused p earlier k c hints h stand fails =
    ((λ kind. fails (hinted_back p earlier k h c hints kind.1)), inl (stand, refl))

pub hinted_taken : (p : Problem) (earlier : List LogLine) (k : Kept) (c : List Lit) (hints : List ℕ)
    → AreLinesKept p earlier k → AllUndeleted p earlier hints → AreInRange p.sizes c
    → IsShownByHints (named k hints) c → IsTaken p earlier (line.Hinted c hints)
hinted_taken p earlier k c hints h stand range shown =
    record {
      kind = (range, hinted_forth p earlier k h c hints stand shown);
      within = λ x e. own_range p.sizes c x range e;
    }

-- deletions
pub deletion_taken : (p : Problem) (earlier : List LogLine) (k : Kept) (positions : List ℕ) → AreLinesKept p earlier k
    → MayBeDeleted k positions → IsTaken p earlier (line.Delete positions)
deletion_taken p earlier k positions h may =
    record { kind = (all_forth p earlier k h positions may.stand, may.distinct); within = λ c e. absurd (cc) }

pub deletion_refused : (p : Problem) (earlier : List LogLine) (k : Kept) (positions : List ℕ) → AreLinesKept p earlier k
    → (MayBeDeleted k positions → ⊥)
    → IsChecked p earlier (line.Delete positions) (Faulty NoSuchLine)
deletion_refused p earlier k positions h fails =
    ((λ kind. fails (record { stand = all_back p earlier k h positions kind.0; distinct = kind.1 })), refl)

pub deletion_kept : (p : Problem) (earlier : List LogLine) (old new : Kept) (positions : List ℕ)
    → AreLinesKept p earlier old → AreDeleted old new positions
    → IsKeptAfter p earlier (line.Delete positions) Holds new
deletion_kept p earlier old new positions h d =
    kept_then p earlier old new (line.Delete positions) h d.clauses d.deleted (λ c e. absurd (cc))

-- what a line that deletes nothing leaves
pub kept_after : (p : Problem) (earlier : List LogLine) (k : Kept) (l : LogLine) (o : Outcome)
    → ((n : ℕ) → Deletes l n → ⊥) → AreLinesKept p earlier k → IsChecked p earlier l o → IsKeptAfter p earlier l o k
kept_after p earlier k l (Faulty kind) none h checked = tt
kept_after p earlier k l Holds none h checked = kept_push p earlier k l h none checked.within
