-- The conditions that a walk over all of them has met.
use Rattle.std.specs.Prelude.{◌≡◌, ◌⊎◌, ℕ, ◌+◌, ◌-◌, ◌<◌, ◌≤◌, List, [], ◌∷◌, ◌++◌, length, map, take, get_or}
use Rattle.std.specs.Prelude.{slice_get, Option, Some, None}
use Rattle.std.proofs.Common.{refl, sym, ◌∙◌, ap, subst, inl, inr, arith}
use Rattle.std.proofs.lemmas.List.{map_more}
use Rattle.std.proofs.lemmas.Option.{slice_get_within, get_or_from_slice_get}
use Rattle.gh_ast.specs.Plain.{Procedure, Program}
use Rattle.gh_ast.specs.declared.typed.Limit.{Limit}
use Rattle.gh_ast.specs.Rules.{IsTyped}
use Rattle.gh_ast.proofs.Lists.{one_value}
use Rattle.gh_path.specs.Admitted.{NoneHas, Passed, most_terms, most_versions}
use Rattle.gh_path.specs.Answers.{IsNumbered}
use Rattle.gh_path.specs.Conditions.{Condition, conditions, IsOf}
use Rattle.gh_path.specs.Graphs.{Start}
use Rattle.gh_path.specs.Kept.{condition_of, IsScoped}
use Rattle.gh_path.specs.Paths.{Way}
use Rattle.gh_path.specs.declared.condition.Condition as kept
use Rattle.gh_path.specs.Terms.{terms_of, versions_of}
use Rattle.gh_path.proofs.Numbers.{one_is_scoped}
use Rattle.gh_symb.specs.Limits.{HasTerms, HasVersions, IsLimitOf, PassesLimit, PassesNone, Passes}
use Rattle.gh_symb.specs.Met.{NoneMet, IsFirstMet, IsMet, IsOfTerms, earlier}
use Rattle.gh_symb.specs.Numbers.{count_of, count_in}
use Rattle.gh_symb.specs.Steps.{AreCounted}
use Rattle.gh_symb.specs.declared.count.Count.{Count}
use Rattle.gh_symb.proofs.FirstLemmas.{HasSome, all_stand, first_in, none_in}

at_or_before : (j k : ℕ) → j < k + 1 → (j < k) ⊎ (j ≡ k)
at_or_before j k less = grind arith

-- a way with more terms, with more versions
abbrev pub ManyTerms : Program → Procedure → Start → Way → Type 0
ManyTerms P proc a w = most_terms < length (terms_of P proc a w)

abbrev pub ManyVersions : Program → Procedure → Start → Way → Type 0
ManyVersions P proc a w = most_versions < versions_of P proc a w

pub none_yet : (P : Program) (Q : Procedure → Condition → Type 0) → NoneMet P Q 0
none_yet P Q = λ j d proc less at of holds. omega (arith, less)

pub one_more : (P : Program) (Q : Procedure → Condition → Type 0) (k : ℕ) (c : Condition) (proc : Procedure)
    → slice_get (conditions P) k ≡ Some c → IsOf P c proc → NoneMet P Q k → (Q proc c → ⊥) →
    NoneMet P Q (k + 1)
one_more P Q k c proc here of none not = λ j d q less at own holds. elim (at_or_before j k less) [
  | inl before ↦ none j d q before at own holds
  | inr now ↦
      let there : slice_get (conditions P) k ≡ Some d = ap (slice_get (conditions P)) (sym now) ∙ at in
      let same : c ≡ d = one_value (slice_get (conditions P) k) c d here there in
      let its : proc ≡ q =
      one_value (slice_get P.procedures c.procedure) proc q of
      (ap (λ (e : Condition). slice_get P.procedures e.procedure) same ∙ own) in
      not (subst (λ (r : Procedure). Q r c) (sym its) (subst (Q q) (sym same) holds))
]

first_later : (P : Program) (Q : Procedure → Condition → Type 0) (k kind count : ℕ) (l : Limit)
    → IsFirstMet P Q k kind count l → IsFirstMet P Q (k + 1) kind count l
first_later P Q k kind count l met = record {
  place = met.place;
  condition = met.condition;
  procedure = met.procedure;
  within = omega (arith, met.within);
  at = met.at;
  of = met.of;
  holds = met.holds;
  limit = met.limit;
  earlier = met.earlier;
}

-- a condition that passes no limit on terms is met
pub met_more : (P : Program) (k : ℕ) (c : Condition) (proc : Procedure) (late passed : Option Limit)
    → slice_get (conditions P) k ≡ Some c → IsOf P c proc → Passes P proc c passed → (HasTerms P proc c → ⊥) →
    IsMet P k late → IsMet P (k + 1) (earlier late passed)
met_more P k c proc (Some l) passed here of is few met = first_later P (HasVersions P) k 7 (most_versions + 1) l met
met_more P k c proc None None here of is few met = one_more P (HasVersions P) k c proc here of met is.versions
met_more P k c proc None (Some l) here of (inl many) few met = absurd (few many.0)
met_more P k c proc None (Some l) here of (inr many) few met =
    record {
      place = k;
      condition = c;
      procedure = proc;
      within = omega arith;
      at = here;
      of = of;
      holds = many.1;
      limit = many.2;
      earlier = met;
    }

-- the first that is met is that of the first procedure
pub first_passed : (P : Program) (Q : Procedure → Start → Way → Type 0) (k kind count : ℕ) (l : Limit)
    → IsFirstMet P (λ proc c. Q proc c.start c.way) k kind count l → Passed P (HasSome P Q) kind count l
first_passed P Q k kind count l met = record {
  procedure = met.procedure;
  first =
      first_in P Q 0 P.procedures (all_stand P) met.place met.condition met.procedure met.at met.of met.holds
      met.earlier;
  kind_is = met.limit.kind_is;
  span = met.limit.span;
  count = met.limit.count_is;
}

pub none_has : (P : Program) (Q : Procedure → Start → Way → Type 0) (k : ℕ) → length (conditions P) ≤ k
    → NoneMet P (λ proc c. Q proc c.start c.way) k → NoneHas P (HasSome P Q)
none_has P Q k all none =
    none_in P Q 0 P.procedures (all_stand P)
    (λ j d proc at of holds. none j d proc (omega (arith, all, slice_get_within (conditions P) j d at)) at of holds)

pub few_terms : (P : Program) (proc : Procedure) (c : Condition) (passed : Option Limit) → Passes P proc c passed
    → IsOfTerms passed None → HasTerms P proc c → ⊥
few_terms P proc c None is none many = is.terms many
few_terms P proc c (Some l) (inl at) none many = none l refl at.1.kind_is
few_terms P proc c (Some l) (inr at) none many = at.0 many

pub many_terms : (P : Program) (proc : Procedure) (c : Condition) (passed : Option Limit) (l : Limit)
    → Passes P proc c passed → IsOfTerms passed (Some l) → HasTerms P proc c × IsLimitOf proc 6 (most_terms + 1) l
many_terms P proc c None l is of = absurd cc
many_terms P proc c (Some m) l is of = by_limit m is of.0 of.1
  where
    by_limit : (m : Limit) → PassesLimit P proc c m → Some m ≡ Some l → l.kind ≡ 6
        → HasTerms P proc c × IsLimitOf proc 6 (most_terms + 1) l
    by_limit m (inl at) same six = let is : m ≡ l = cc in (at.0, subst (IsLimitOf proc 6 (most_terms + 1)) is at.1)
    by_limit m (inr at) same six =
        let is : m ≡ l = cc in
        let seven : l.kind ≡ 7 = ap (λ (k : Limit). k.kind) (sym is) ∙ at.2.kind_is in
        absurd (omega (arith, six, seven))

-- the condition that a number stands for is at its place, and fits the program
pub number_at : (P : Program) (k : ℕ) (r : kept.Condition) → IsNumbered P (k + 1) (Some r)
    → slice_get (conditions P) k ≡ Some (condition_of r)
number_at P k r found =
    let place : k ≡ k + 1 - 1 = omega arith in
    ap (slice_get (conditions P)) place ∙ found.1

pub numbered_is_scoped : (P : Program) (n : ℕ) (r : kept.Condition) → IsTyped P → IsNumbered P n (Some r) → IsScoped P r
numbered_is_scoped P n r typed found =
    let d = condition_of r in
    one_is_scoped P r typed (
      n - 1,
      slice_get_within (conditions P) (n - 1) d found.1,
      get_or_from_slice_get (conditions P) (n - 1) d d found.1,
    )

-- the counts of a condition, by its procedure
abbrev pub its_count : Program → Condition → Count
its_count P c = count_in P (slice_get P.procedures c.procedure) c

-- the counts of one condition more
pub counts_more : (P : Program) (k : ℕ) (c : Condition) (proc : Procedure) (late passed : Option Limit)
    (old new : List Count) (n : Count) → slice_get (conditions P) k ≡ Some c → IsOf P c proc →
    Passes P proc c passed → (PassesNone P proc c → n ≡ count_of P proc c) → new ≡ old ++ n ∷ []
    → (late ≡ None → old ≡ map (its_count P) (take k (conditions P))) →
    earlier late passed ≡ None → new ≡ map (its_count P) (take (k + 1) (conditions P))
counts_more P k c proc (Some l) passed old new n here of is count added before none = let no : Some l ≡ None = none in
    absurd cc
counts_more P k c proc None (Some l) old new n here of is count added before none = let no : Some l ≡ None = none in
    absurd cc
counts_more P k c proc None None old new n here of is count added before none =
    let cs = conditions P in
    let told : its_count P c ≡ count_of P proc c = ap (λ o. count_in P o c) of in
    let own : n ≡ its_count P (get_or cs k c) =
    count is ∙ sym told ∙ sym (ap (its_count P) (get_or_from_slice_get cs k c c here)) in
    added ∙ ap (λ ns. ns ++ n ∷ []) (before refl) ∙ ap (λ m. map (its_count P) (take k cs) ++ m ∷ []) own
    ∙ sym (map_more (its_count P) cs k c (slice_get_within cs k c here))

-- the limits that numbers pass
pub passes_versions : (P : Program) (proc : Procedure) (c : Condition) (terms versions : ℕ) (l : Limit)
    → AreCounted P proc c terms versions → most_versions < versions →
    IsLimitOf proc 7 (most_versions + 1) l → PassesLimit P proc c l
passes_versions P proc c terms versions l count many limit =
    inr (λ more. omega (arith, more, count.terms_are, count.few), omega (arith, many, count.versions_are), limit)

pub passes_none : (P : Program) (proc : Procedure) (c : Condition) (terms versions : ℕ)
    → AreCounted P proc c terms versions → versions ≤ most_versions → PassesNone P proc c
passes_none P proc c terms versions count few = record {
  terms = λ more. omega (arith, more, count.terms_are, count.few);
  versions = λ more. omega (arith, more, count.versions_are, few);
}

pub over_none : (P : Program) (proc : Procedure) (c : Condition) (terms versions : ℕ)
    → AreCounted P proc c terms versions → most_versions < versions → PassesNone P proc c → ⊥
over_none P proc c terms versions count many none = none.versions (omega (arith, many, count.versions_are))

abbrev pub count_with : ℕ → ℕ → Count
count_with terms versions = record { terms = terms; versions = versions }

pub numbers_of : (P : Program) (proc : Procedure) (c : Condition) (terms versions : ℕ)
    → AreCounted P proc c terms versions → count_with terms versions ≡ count_of P proc c
numbers_of P proc c terms versions count =
    ap (λ (n : ℕ). count_with n versions) (sym count.terms_are)
    ∙ ap (λ (n : ℕ). count_with (length (terms_of P proc c.start c.way)) n) (sym count.versions_are)
