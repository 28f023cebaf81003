-- The terms of a question are there, so its formulas are in range.
use Rattle.std.specs.Prelude.{◌≡◌, ℕ, ◌+◌, ◌<◌, ◌≤◌, List, [], ◌∷◌, ◌++◌, map, length, Bool, true, false, not}
use Rattle.std.proofs.Common.{refl, sym, ◌∙◌, ap, subst, arith}
use Rattle.std.proofs.lemmas.List.{length-map}
use Rattle.gh_base.specs.declared.sizes.Sizes.{Sizes}
use Rattle.gh_base.specs.declared.term.TermKind.{TermKind}
use Rattle.gh_base.specs.Grounds.{Problem}
use Rattle.gh_path.specs.Terms.{Kind, null, Bindings, with_value, Terms, walked, no_terms}
use Rattle.gh_grass.specs.declared.binding.Bond.{Bond}
use Rattle.gh_grass.specs.Claims.{ground_formulas_of, negation_of, GroundFormula}
use Rattle.gh_symb.specs.Symbolic.{Under}
use Rattle.gh_symb.specs.Formulas.{variables, version_formulas}
use Rattle.gh_symb.specs.Encodings.{plain_kind, IsBinding}
use Rattle.gh_symb.specs.Fitting.{EncodesBinding}
use Rattle.gh_symb.specs.Tables.{Pairs, bound_by, state}
use Rattle.gh_reduce.specs.Growth.{stated_in, IsWithin, AreWithin}
use Rattle.gh_symb.specs.Inside.{binding_of, AreSuccessors, AreKinds}
use Rattle.gh_symb.proofs.EncodedLemmas.{same_function}
use Rattle.gh_reduce.proofs.InsideLemmas.{whole_within}
use Rattle.gh_reduce.proofs.GrowthLemmas.{same_terms, same_versions}
use Rattle.gh_reduce.proofs.WalkLemmas.{empty_problem}
use Rattle.gh_symb.proofs.SoundLemmas.{Sound, successors_more, bound_more, nothing_bound, value_sound, value_size}
use Rattle.gh_symb.proofs.SoundLemmas.{successor_at, term_there, walked_extends}
use Rattle.gh_ast.specs.Questions.{Claim, leaf, denial, every, either, Claims, no_claims, claim_first, Question}
use Rattle.gh_entail.specs.Terms.{witnessed, claim_walked, claims_walked, question_walked}
use Rattle.gh_entail.specs.Formulas.{claim_formula, claim_formulas, question_problem}
use Rattle.gh_entail.specs.declared.terms.QuestionTerms.{QuestionTerms}
use Rattle.gh_entail.specs.Asked.{AreTerms}

witness_sound : (n : Bool) (s : Terms) → Sound s → Sound (witnessed n s)
witness_sound true s h =
    let size = value_size s.kinds in
    record {
      some = omega (arith, size);
      successors = value_sound (s.version + 1) s.kinds h.successors;
      bindings = bound_more (length s.kinds) (length (with_value s.kinds)) s.bindings (omega (arith, size)) h.bindings;
    }
witness_sound false s h = h

mutual
  claim_sound : (c : Claim) (n : Bool) (s : Terms) → Sound s → Sound (claim_walked n c s)
  claim_sound (leaf f) n s h = witness_sound n (walked f s) ((walked_extends f s).sound h)
  claim_sound (denial c) n s h = claim_sound c (not n) s h
  claim_sound (every cs) n s h = claims_sound cs n s h
  claim_sound (either cs) n s h = claims_sound cs n s h

  claims_sound : (cs : Claims) (n : Bool) (s : Terms) → Sound s → Sound (claims_walked n cs s)
  claims_sound no_claims n s h = h
  claims_sound (claim_first c cs) n s h = claims_sound cs n (claim_walked n c s) (claim_sound c n s h)

question_sound : (q : Question) → Sound (question_walked q)
question_sound q =
    claim_sound q.right true (claim_walked false q.left no_terms)
    (claim_sound q.left false no_terms (record { some = omega arith; successors = tt; bindings = nothing_bound 1 }))

-- a walk over a question that lists few kinds has terms and versions of 8 bits
walk_sound : (q : Question) (ks : List Kind) (es : Pairs) → state ks es 0 ≡ question_walked q → Sound (state ks es 0)
walk_sound q ks es e = subst Sound (sym e) (question_sound q)

-- walks over the left claim and then over the right one, from null alone, are a walk over the question
pub walked_both : (q : Question) (ks ls ms : List Kind) (es fs gs : Pairs) → ks ≡ null ∷ [] → es ≡ []
    → state ls fs 0 ≡ claim_walked false q.left (state ks es 0)
    → state ms gs 0 ≡ claim_walked true q.right (state ls fs 0) → state ms gs 0 ≡ question_walked q
walked_both q ks ls ms es fs gs first none left right =
    let begun : state ks es 0 ≡ no_terms = ap (λ k. state k es 0) first ∙ ap (λ e. state (null ∷ []) e 0) none in
    right ∙ ap (claim_walked true q.right) (left ∙ ap (claim_walked false q.left) begun)

pub short_kinds : (q : Question) (ks : List Kind) (es : Pairs) → state ks es 0 ≡ question_walked q → length ks ≤ 32
    → AreSuccessors 256 256 ks
short_kinds q ks es e few =
    successors_more (length ks) 256 1 256 (omega (arith, few)) (omega arith) ks (walk_sound q ks es e).successors

pub bindings_are : (q : Question) (ks : List Kind) (es : Pairs) (bonds : List Bond) → state ks es 0 ≡ question_walked q
    → length ks ≤ 32 → EncodesBinding bonds (bound_by es) → IsBinding bonds (question_walked q).bindings
bindings_are q ks es bonds e few encodes =
    subst (IsBinding bonds) (ap (λ (s : Terms). s.bindings) e)
    (λ x. encodes x (let there = term_there x (state ks es 0) (walk_sound q ks es e) in omega (arith, there, few)))

-- one version, and the terms of the variables
abbrev pub Has : Sizes → List Kind → Bindings → Type 0
Has s ks b = (s.terms ≡ length ks) × (0 < s.terms) × ((x : List ℕ) → (variables b x).0 < s.terms) × (0 < s.versions)

mutual
  pub claim_in : (s : Sizes) (ks : List Kind) (b : Bindings) → Has s ks b → (c : Claim)
      → IsWithin s (claim_formula ks b c)
  claim_in s ks b H (leaf f) = let u : Under = record { assertion = f; binding = b; version = 0 } in
      whole_within s ks u H.0 H.1 (record { version = H.3; terms = H.2 })
  claim_in s ks b H (denial c) = claim_in s ks b H c
  claim_in s ks b H (every cs) = claims_in s ks b H cs
  claim_in s ks b H (either cs) = claims_in s ks b H cs

  claims_in : (s : Sizes) (ks : List Kind) (b : Bindings) → Has s ks b → (cs : Claims)
      → AreWithin s (ground_formulas_of (claim_formulas ks b cs))
  claims_in s ks b H no_claims = tt
  claims_in s ks b H (claim_first c cs) = (claim_in s ks b H c, claims_in s ks b H cs)

-- what is asked, over what is kept of its terms
pub record Kept (q : Question) (ks : List TermKind) (bonds : List Bond) : Type 0 where
  pub terms : map plain_kind ks ≡ (question_walked q).kinds
  pub binding : binding_of bonds ≡ (question_walked q).bindings
  pub count : length ks ≡ length (question_walked q).kinds
  pub some : 1 ≤ length ks
  pub ready : AreKinds (length ks) (map plain_kind ks)
  pub names : (x : List ℕ) → (variables (binding_of bonds) x).0 < length ks

pub kept : (q : Question) (a : QuestionTerms) → AreTerms q a → Kept q a.terms a.binding
kept q a A =
    let t = question_walked q in
    let h = question_sound q in
    let b : binding_of a.binding ≡ t.bindings = same_function (binding_of a.binding) t.bindings A.binding in
    let n : length a.terms ≡ length t.kinds = sym (length-map a.terms plain_kind) ∙ ap length A.terms in
    let some = h.some in
    record {
      terms = A.terms;
      binding = b;
      count = n;
      some = omega (arith, n, some);
      ready =
          subst (λ k. AreKinds k (map plain_kind a.terms)) (sym n)
          (subst (AreKinds (length t.kinds)) (sym A.terms)
          (record {
            terms = refl;
            some = some;
            successors =
                λ k i x e. (successor_at (length t.kinds) (t.version + 1) t.kinds h.successors k i x e).0;
          }));
      names =
          λ x. subst (λ k. (variables (binding_of a.binding) x).0 < k) (sym n)
          (subst (λ c. (variables c x).0 < length t.kinds) (sym b) (term_there x t h));
    }

pub ready_at : (q : Question) (ks : List TermKind) (bonds : List Bond) (p : Problem) (n : ℕ) → Kept q ks bonds
    → p ≡ empty_problem n 1 → n ≡ length ks → AreKinds p.sizes.terms (map plain_kind ks)
ready_at q ks bonds p n k e m =
    subst (λ (x : Problem). AreKinds x.sizes.terms (map plain_kind ks)) (sym e)
    (subst (λ i. AreKinds i (map plain_kind ks)) (sym m) k.ready)

-- a claim is in range of the clauses so far
pub claim_at : (q : Question) (ks : List TermKind) (bonds : List Bond) (p r : Problem) (n : ℕ) (fs : List GroundFormula)
    (c : Claim) → Kept q ks bonds → p ≡ empty_problem n 1 → n ≡ length ks → r ≡ stated_in p fs
    → IsWithin r.sizes (claim_formula (map plain_kind ks) (binding_of bonds) c)
claim_at q ks bonds p r n fs c k e m to =
    let first : p.sizes.terms ≡ n = ap (λ (x : Problem). x.sizes.terms) e in
    let one : p.sizes.versions ≡ 1 = ap (λ (x : Problem). x.sizes.versions) e in
    let terms : r.sizes.terms ≡ length ks = same_terms p r fs to ∙ first ∙ m in
    let versions = same_versions p r fs to in
    let some = k.some in
    claim_in r.sizes (map plain_kind ks) (binding_of bonds) (
      terms ∙ sym (length-map ks plain_kind),
      omega (arith, terms, some),
      λ x. subst (λ i. (variables (binding_of bonds) x).0 < i) (sym terms) (k.names x),
      omega (arith, versions, one),
    ) c

-- the formulas of the question were stated
pub question_is : (q : Question) (ks : List TermKind) (bonds : List Bond) (p r : Problem) (n : ℕ) → Kept q ks bonds
    → p ≡ empty_problem n 1 → n ≡ length ks
    → r ≡ stated_in p (version_formulas (map plain_kind ks) 0
    ++ claim_formula (map plain_kind ks) (binding_of bonds) q.left
    ∷ negation_of (claim_formula (map plain_kind ks) (binding_of bonds) q.right) ∷ [])
    → r ≡ question_problem q
question_is q ks bonds p r n k e m to =
    let t = question_walked q in
    let form : List Kind → Bindings → List GroundFormula =
    λ xs b. version_formulas xs 0 ++ claim_formula xs b q.left ∷ negation_of (claim_formula xs b q.right) ∷ [] in
    to
    ∙ ap (λ (x : Problem). stated_in x (form (map plain_kind ks) (binding_of bonds)))
    (e ∙ ap (λ i. empty_problem i 1) (m ∙ k.count))
    ∙ ap (λ xs. stated_in (empty_problem (length t.kinds) 1) (form xs (binding_of bonds))) k.terms
    ∙ ap (λ b. stated_in (empty_problem (length t.kinds) 1) (form t.kinds b)) k.binding
