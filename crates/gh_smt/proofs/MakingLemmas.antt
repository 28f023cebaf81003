-- Assertions that are added one after the other.
use Rattle.std.proofs.Common.{◌≡◌, ℕ, ◌+◌, ◌≤◌, List, [], ◌∷◌, ◌++◌, length, map, take, get_or, Some, sym, ◌∙◌, ap}
use Rattle.std.proofs.Common.{subst, append_assoc}
use Rattle.std.specs.Prelude.{slice_get}
use Rattle.std.proofs.lemmas.List.{take_more, length-map}
use Rattle.std.proofs.lemmas.Option.{slice_get_within, get_or_from_slice_get}
use Rattle.gh_base.specs.declared.atom.Lit.{Lit}
use Rattle.gh_base.specs.declared.sizes.Sizes.{Sizes}
use Rattle.gh_base.specs.Grounds.{Problem}
use Rattle.gh_inst.specs.declared.naming.InstanceName.{InstanceName}
use Rattle.gh_inst.specs.Instances.{instances, clause_of}
use Rattle.gh_base.specs.declared.term.TermKind.{TermKind}
use Rattle.gh_symb.specs.declared.over_terms.Symbolic.{Symbolic}
use Rattle.gh_symb.specs.Encodings.{plain_kind}
use Rattle.gh_symb.specs.Formulas.{problem}
use Rattle.gh_symb.specs.Encoded.{plain_of}
use Rattle.gh_smt.specs.Scripts.{instance_count, assertion_count, script_of}

pub one_clause : (xs before items new : List (List Lit)) (c d : List Lit) (i : ℕ) → Some c ≡ slice_get xs i → d ≡ c
    → items ≡ before ++ take i xs → new ≡ items ++ d ∷ [] → new ≡ before ++ take (i + 1) xs
one_clause xs before items new c d i at same e f =
    let here = slice_get_within xs i c (sym at) in
    let is : get_or xs i c ≡ c = get_or_from_slice_get xs i c c (sym at) in
    f ∙ ap (λ t. t ++ d ∷ []) e ∙ append_assoc before (take i xs) (d ∷ [])
    ∙ ap (λ t. before ++ (take i xs ++ t ∷ [])) (same ∙ sym is)
    ∙ ap (λ t. before ++ t) (sym (take_more xs i c here))

pub one_instance : (whole items new : List (List Lit)) (rest after : List InstanceName) (name : InstanceName)
    (c : List Lit) → items ++ map clause_of rest ≡ whole → rest ≡ name ∷ after → c ≡ clause_of name
    → new ≡ items ++ c ∷ [] → new ++ map clause_of after ≡ whole
one_instance whole items new rest after name c e next same f =
    ap (λ t. t ++ map clause_of after) (f ∙ ap (λ d. items ++ d ∷ []) same)
    ∙ append_assoc items (clause_of name ∷ []) (map clause_of after)
    ∙ ap (λ r. items ++ map clause_of r) (sym next) ∙ e

pub made : (p q : Problem) (sizes : Sizes) (n v : ℕ) (none a b : List (List Lit)) → sizes ≡ p.sizes → n ≡ p.sizes.terms
    → v ≡ p.sizes.versions → none ≡ [] → a ≡ none ++ p.clauses
    → b ≡ a ++ map clause_of (instances n v) → q ≡ record { sizes = sizes; clauses = b } → q ≡ script_of p
made p q sizes n v none a b s h k e f g is =
    let first : a ≡ p.clauses = f ∙ ap (λ t. t ++ p.clauses) e in
    let all : b ≡ p.clauses ++ map clause_of (instances p.sizes.terms p.sizes.versions) =
    g ∙ ap (λ t. t ++ map clause_of (instances n v)) first ∙ ap (λ m. p.clauses ++ map clause_of (instances m v)) h
    ∙ ap (λ w. p.clauses ++ map clause_of (instances p.sizes.terms w)) k in
    is ∙ (λ i. record { sizes = s i; clauses = all i })

-- the numbers of a condition over terms are those of its clauses
pub terms_are : (s : Symbolic) (p : Problem) (ts : List TermKind) (n : ℕ) → n ≡ length ts → ts ≡ s.terms
    → p ≡ problem (plain_of s) → n ≡ p.sizes.terms
terms_are s p ts n e f g =
    e ∙ ap length f ∙ sym (length-map s.terms plain_kind) ∙ sym (ap (λ (q : Problem). q.sizes.terms) g)

pub versions_are : (s : Symbolic) (p : Problem) (v : ℕ) → v ≡ s.versions → p ≡ problem (plain_of s)
    → v ≡ p.sizes.versions
versions_are s p v e g = e ∙ sym (ap (λ (q : Problem). q.sizes.versions) g)

pub short_enough : (p : Problem) (a b c n v : ℕ) → c ≡ a → a ≡ length p.clauses → b ≡ instance_count n v
    → n ≡ p.sizes.terms → v ≡ p.sizes.versions → c + b ≤ 2000000 → assertion_count p ≤ 2000000
short_enough p a b c n v same clauses instances terms versions h =
    let is : b ≡ instance_count p.sizes.terms p.sizes.versions =
    instances ∙ ap (λ k. instance_count k v) terms ∙ ap (instance_count p.sizes.terms) versions in
    let sum : c + b ≡ assertion_count p = ap (λ k. k + b) (same ∙ clauses) ∙ ap (λ k. length p.clauses + k) is in
    subst (λ k. k ≤ 2000000) sum h
