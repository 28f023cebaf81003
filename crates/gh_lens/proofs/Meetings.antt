-- Questions that tell whether some heap meets one of some assertions.
use Rattle.std.specs.Prelude.{◌≡◌, ℕ, ◌+◌, ◌<◌, ◌≤◌, ◌++◌, List, [], ◌∷◌, length, map, take, Contains}
use Rattle.std.specs.List.{flat_map}
use Rattle.std.proofs.Common.{Vec, Global, sym, ◌∙◌, ap, subst, inl, inr, get_or, arith}
use Rattle.std.proofs.lemmas.Grind.{flat_map-append}
use Rattle.std.proofs.lemmas.List.{append_assoc, append-nil, map-append, take_more, take_all}
use Rattle.gh_base.specs.declared.place.Span.{Span}
use Rattle.gh_ast.specs.declared.Occ.{Occ}
use Rattle.gh_ast.specs.declared.Procedure as whole
use Rattle.gh_ast.specs.declared.Program as program
use Rattle.gh_ast.specs.declared.question.Question as kept_question
use Rattle.gh_ast.specs.declared.question.Claim as kept_claim
use Rattle.gh_ast.specs.declared.question.Claim.TheVariants as kept_variants
use Rattle.gh_ast.specs.Occurrences.{variables_of}
use Rattle.gh_ast.proofs.QuestionViews.{claim_of-Or}
use Rattle.gh_ast.specs.Plain.{Assertion, procedure_of, program_of}
use Rattle.gh_ast.specs.Questions.{Claim, leaf, either, no_claims, claims_of, claims_view, claim_of, Question}
use Rattle.gh_ast.specs.Questions.{question_of}
use Rattle.gh_ast.proofs.Lists.{member_first, member_later, member_cases, no_member}
use Rattle.gh_assert.specs.Heaps.{Heap}
use Rattle.gh_assert.specs.Meaning.{Store, Meaning, MeetsOneOf}
use Rattle.gh_assert.specs.Stores.{store_of}
use Rattle.gh_trace.specs.declared.state.State.{State}
use Rattle.gh_entail.specs.Meaning.{SomeHolds, IsEntailed}
use Rattle.gh_entail.specs.Answers.{FailsIn}
use Rattle.gh_entail.specs.Asked.{IsAdmitted, IsAskRefusal}
use Rattle.gh_entail.specs.Limits.{IsLimit, of_variables, of_atoms, of_terms}
use Rattle.gh_entail.specs.declared.admit.AskError.TheVariants as ask
use Rattle.gh_lens.specs.Assertions.{Subject, subjects_of, subjects, question_on, IsMeeting, IsRemark, AreRemarks}
use Rattle.gh_lens.specs.Stated.{subject_of, AddsRemarks}
use Rattle.gh_lens.specs.declared.remarks.Stated.{Stated}
use Rattle.gh_lens.specs.declared.remarks.Meeting.TheVariants.{Met, Unmet, Unknown}
use Rattle.gh_lens.specs.declared.remarks.Remark.{Remark}

abbrev made : List Occ → Span → Claim → Claim → Question
made vs a l r = record { variables = vs; span = a; left = l; right = r }

one_holds : (fs : List Assertion) (s : Store) (h : Heap) (f : Assertion) → Contains fs f → Meaning f s h
    → SomeHolds (claims_of (map leaf fs)) s h
one_holds [] s h f there met = absurd (no_member f there)
one_holds (g ∷ gs) s h f there met = elim (member_cases g gs f there) [
  | inl same ↦ inl (subst (λ x. Meaning x s h) (sym same) met)
  | inr later ↦ inr (one_holds gs s h f later met)
]

one_met : (fs : List Assertion) (s : Store) (h : Heap) → SomeHolds (claims_of (map leaf fs)) s h → MeetsOneOf fs s h
one_met [] s h holds = absurd holds
one_met (g ∷ gs) s h (inl here) = (g, member_first g gs, here)
one_met (g ∷ gs) s h (inr later) = let m = one_met gs s h later in (m.0, member_later g m.0 gs m.1, m.2)

-- the question is entailed
pub none_meets : (s : Subject) (q : Question) → q ≡ question_on s → IsEntailed q → IsMeeting s Unmet
none_meets s q is entailed =
    λ x h (f, there, met). (subst IsEntailed is entailed) x h (one_holds s.alternatives x h f there met)

-- the question fails in a state
pub some_meets : (s : Subject) (q : Question) (x : State) → q ≡ question_on s → FailsIn q x → IsMeeting s Met
some_meets s q x is fails = let f = subst (λ r. FailsIn r x) is fails in
    (store_of x.store, x.heap, one_met s.alternatives (store_of x.store) x.heap f.fails.left)

limit_refuses : (q : Question) (l : _) → IsLimit q l → IsAdmitted q → ⊥
limit_refuses q l (of_variables many e) admitted = let few = admitted.limits.text.0 in omega (arith, few, many)
limit_refuses q l (of_atoms few many e) admitted = let fewer = admitted.limits.text.1 in omega (arith, fewer, many)
limit_refuses q l (of_terms few many e) admitted = let fewer = admitted.limits.terms in omega (arith, fewer, many)

-- the question is refused
pub rule_broken : (s : Subject) (q : Question) (n : _) (p : _) → q ≡ question_on s → IsAskRefusal q (ask.TypeError n p)
    → IsMeeting s Unknown
rule_broken s q n p is broken = subst (λ r. IsAdmitted r → ⊥) is (λ admitted. admitted.typed n p broken.here)

pub limit_passed : (s : Subject) (q : Question) (l : _) → q ≡ question_on s → IsAskRefusal q (ask.Limit l)
    → IsMeeting s Unknown
limit_passed s q l is passed = subst (λ r. IsAdmitted r → ⊥) is (limit_refuses q l passed.1)

-- remarks on some subjects, and on more
pub remarks_append : (ss ts : List Subject) (rs us : List Remark) → AreRemarks ss rs → AreRemarks ts us
    → AreRemarks (ss ++ ts) (rs ++ us)
remarks_append [] ts [] us a b = b
remarks_append [] ts (r ∷ rs) us a b = absurd a
remarks_append (s ∷ ss) ts [] us a b = absurd a
remarks_append (s ∷ ss) ts (r ∷ rs) us a b = (a.0, remarks_append ss ts rs us a.1 b)

-- the next subject
pub adds_next : (xs : List Stated) (i : ℕ) (x : Stated) (old mid new : List Remark) (r : Remark) → i < length xs
    → x ≡ get_or xs i x → AddsRemarks old mid (map subject_of (take i xs)) → IsRemark (subject_of x) r
    → new ≡ mid ++ r ∷ []
    → AddsRemarks old new (map subject_of (take (i + 1) xs))
adds_next xs i x old mid new r within is (rs, e, are) one pushed =
    let taken : take (i + 1) xs ≡ take i xs ++ x ∷ [] =
    take_more xs i x within ∙ ap (λ y. take i xs ++ y ∷ []) (sym is) in
    let listed : map subject_of (take (i + 1) xs) ≡ map subject_of (take i xs) ++ subject_of x ∷ [] =
    ap (map subject_of) taken ∙ map-append subject_of (take i xs) (x ∷ []) in
    let all : AreRemarks (map subject_of (take i xs) ++ subject_of x ∷ []) (rs ++ r ∷ []) =
    remarks_append (map subject_of (take i xs)) (subject_of x ∷ []) rs (r ∷ []) are (one, tt) in (
      rs ++ r ∷ [],
      pushed ∙ ap (λ t. t ++ r ∷ []) e ∙ append_assoc old rs (r ∷ []),
      subst (λ ss. AreRemarks ss (rs ++ r ∷ [])) (sym listed) all,
    )

pub adds_none : (old : List Remark) → AddsRemarks old old []
adds_none old = ([], sym (append-nil old), tt)

-- the subjects of the next procedure
pub remarks_next : (ps : List whole.Procedure) (i : ℕ) (p : whole.Procedure) (old new : List Remark) (ts : List Subject)
    → i < length ps → p ≡ get_or ps i p → AreRemarks (flat_map subjects_of (map procedure_of (take i ps))) old
    → AddsRemarks old new ts
    → ts ≡ subjects_of (procedure_of p) → AreRemarks (flat_map subjects_of (map procedure_of (take (i + 1) ps))) new
remarks_next ps i p old new ts within is before (rs, e, are) same =
    let front : List Subject = flat_map subjects_of (map procedure_of (take i ps)) in
    let taken : take (i + 1) ps ≡ take i ps ++ p ∷ [] =
    take_more ps i p within ∙ ap (λ y. take i ps ++ y ∷ []) (sym is) in
    let last : subjects_of (procedure_of p) ++ [] ≡ ts = append-nil (subjects_of (procedure_of p)) ∙ sym same in
    let listed : flat_map subjects_of (map procedure_of (take (i + 1) ps)) ≡ front ++ ts =
    ap (λ qs. flat_map subjects_of (map procedure_of qs)) taken
    ∙ ap (flat_map subjects_of) (map-append procedure_of (take i ps) (p ∷ []))
    ∙ flat_map-append subjects_of (map procedure_of (take i ps)) (procedure_of p ∷ []) ∙ ap (λ us. front ++ us) last in
    let all : AreRemarks (front ++ ts) (old ++ rs) = remarks_append front ts old rs before are in
    subst (λ ss. AreRemarks ss new) (sym listed) (subst (AreRemarks (front ++ ts)) (sym e) all)

pub remarks_all : (p : program.Program) (ps : List whole.Procedure) (k : ℕ) (rs : List Remark) → ps ≡ p.procedures.items
    → length ps ≤ k → AreRemarks (flat_map subjects_of (map procedure_of (take k ps))) rs
    → AreRemarks (subjects (program_of p)) rs
remarks_all p ps k rs is past are =
    let all : take k ps ≡ p.procedures.items = take_all k ps past ∙ is in
    subst (λ qs. AreRemarks (flat_map subjects_of (map procedure_of qs)) rs) all are

pub remarks_none : AreRemarks [] []
remarks_none = tt

-- a copy of a claim, and the claim of no claims
pub question_is : (s : Subject) (q : kept_question.Question) (none : Vec kept_claim.Claim Global)
    → q.variables.items ≡ variables_of s.procedure → q.span ≡ s.place
    → claim_of q.left ≡ either (claims_of (map leaf s.alternatives)) → q.right ≡ kept_variants.Or none → none.items ≡ []
    → question_of q ≡ question_on s
question_is s q none variables span left right empty =
    let nothing : claim_of q.right ≡ either no_claims =
    ap claim_of right ∙ claim_of-Or none ∙ ap (λ cs. either (claims_view cs)) empty in
    alike (q.variables.items) (variables_of s.procedure) q.span s.place (claim_of q.left)
    (either (claims_of (map leaf s.alternatives))) (claim_of q.right) (either no_claims) variables span left nothing
  where
    alike : (vs ws : List Occ) (a b : Span) (l m r n : Claim) → vs ≡ ws → a ≡ b → l ≡ m → r ≡ n
        → made vs a l r ≡ made ws b m n
    alike vs ws a b l m r n e1 e2 e3 e4 =
        ap (λ x. made x a l r) e1 ∙ ap (λ x. made ws x l r) e2 ∙ ap (λ x. made ws b x r) e3 ∙ ap (λ x. made ws b m x) e4
