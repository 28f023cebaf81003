-- Whole scripts at the front of a text.
use Rattle.std.proofs.Common.{◌≡◌, ◌≢◌, ℕ, zero, suc, List, [], ◌∷◌, ◌++◌, length, get_or, All, Bool, true, false}
use Rattle.std.proofs.Common.{nat_eq, Some, refl, sym, ◌∙◌, ap, subst, arith, append_assoc}
use Rattle.std.specs.List.{flat_map, range_with_len}
use Rattle.std.proofs.lemmas.Bool.{both_ways, eqb-true}
use Rattle.std.proofs.lemmas.List.{append-nil, append_cancel_left}
use Rattle.std.proofs.lemmas.List.Elements.{All-head, All-tail, All-cons}
use Rattle.gh_base.specs.declared.atom.Atom.{Atom}
use Rattle.gh_base.specs.declared.atom.Atom.TheVariants.{Eq, Btwn, Hop, Alloc, Def}
use Rattle.gh_base.specs.declared.atom.Lit.{Lit}
use Rattle.gh_base.specs.declared.sizes.Sizes.{Sizes}
use Rattle.gh_base.specs.Atoms.{IsInRange, AreInRange}
use Rattle.gh_base.specs.Grounds.{Problem}
use Rattle.gh_log.specs.Reading.{SpellsNothing, IsNotFront}
use Rattle.gh_log.proofs.NumberLemmas.{AreOne}
use Rattle.gh_smt.specs.declared.kind.Kind.{Kind}
use Rattle.gh_smt.specs.declared.kind.Kind.TheVariants.{Term, Version, Definition}
use Rattle.gh_smt.specs.Kinds.{start_text}
use Rattle.gh_smt.specs.Scripts.{HasLits, IsSized, IsScript}
use Rattle.gh_smt.specs.Texts.{head_text, foot_text, term_declared, version_declared, definition_declared}
use Rattle.gh_smt.specs.Texts.{assertion_text, script_text}
use Rattle.gh_smt.specs.Reading.{FitsAtom, IsSpelledLit, IsSpelledAssertion, SpellsAssertion, SpellsAssertions}
use Rattle.gh_smt.specs.Reading.{SpellsDeclared, SpellsScript, IsNoScript}
use Rattle.gh_smt.proofs.ItemLemmas.{one_items}
use Rattle.gh_smt.proofs.AssertionLemmas.{are_assertions}
use Rattle.gh_smt.proofs.DeclaredLemmas.{one_declared}

-- atoms in range fit
fits : (s : Sizes) → IsSized s → (x : Atom) → IsInRange s x → FitsAtom x
fits s z (Eq a b) r = (omega (arith, r.0, r.1, z.terms), omega (arith, r.1, z.terms))
fits s z (Btwn v x y w) r = (
  omega (arith, r.0, z.versions),
  omega (arith, r.1, z.terms),
  omega (arith, r.2, z.terms),
  omega (arith, r.3, z.terms),
)
fits s z (Hop v x y) r = (omega (arith, r.0, z.versions), omega (arith, r.1, z.terms), omega (arith, r.2, z.terms))
fits s z (Alloc v x) r = (omega (arith, r.0, z.versions), omega (arith, r.1, z.terms))
fits s z (Def n) r = omega (arith, r, z.defs)

spelled_lits : (s : Sizes) → IsSized s → (ls : List Lit) → AreInRange s ls → All (IsSpelledLit s) ls
spelled_lits s z [] r = λ k d h. absurd (omega arith)
spelled_lits s z (l ∷ ls) r =
    let here = All-head (λ k. IsInRange s k.atom) l ls r in
    All-cons (IsSpelledLit s) l ls (record { fits = fits s z l.atom here; in_range = here })
    (spelled_lits s z ls (All-tail (λ k. IsInRange s k.atom) l ls r))

spelled_all : (s : Sizes) → IsSized s → (cs : List (List Lit)) → All HasLits cs → All (AreInRange s) cs
    → All (IsSpelledAssertion s) cs
spelled_all s z [] h r = λ k d l. absurd (omega arith)
spelled_all s z (c ∷ cs) h r =
    All-cons (IsSpelledAssertion s) c cs
    (record { some = All-head HasLits c cs h; lits = spelled_lits s z c (All-head (AreInRange s) c cs r) })
    (spelled_all s z cs (All-tail HasLits c cs h) (All-tail (AreInRange s) c cs r))

in_range_lits : (s : Sizes) (ls : List Lit) → All (IsSpelledLit s) ls → AreInRange s ls
in_range_lits s [] r = λ k d h. absurd (omega arith)
in_range_lits s (l ∷ ls) r =
    All-cons (λ k. IsInRange s k.atom) l ls (All-head (IsSpelledLit s) l ls r).in_range
    (in_range_lits s ls (All-tail (IsSpelledLit s) l ls r))

in_range_all : (s : Sizes) (cs : List (List Lit)) → All (IsSpelledAssertion s) cs → All (AreInRange s) cs
in_range_all s [] r = λ k d h. absurd (omega arith)
in_range_all s (c ∷ cs) r =
    All-cons (AreInRange s) c cs (in_range_lits s c (All-head (IsSpelledAssertion s) c cs r).lits)
    (in_range_all s cs (All-tail (IsSpelledAssertion s) c cs r))

lits_all : (s : Sizes) (cs : List (List Lit)) → All (IsSpelledAssertion s) cs → All HasLits cs
lits_all s [] r = λ k d h. absurd (omega arith)
lits_all s (c ∷ cs) r =
    All-cons HasLits c cs (All-head (IsSpelledAssertion s) c cs r).some
    (lits_all s cs (All-tail (IsSpelledAssertion s) c cs r))

-- which kind is declared is told by one byte
abbrev byte : ℕ → List ℕ → ℕ
byte i text = get_or text i 0

not_start : (kind : Kind) (text : List ℕ) → byte 1 text ≢ 100 → IsNotFront (start_text kind) text
not_start Term text h rest e = h (ap (byte 1) e)
not_start Version text h rest e = h (ap (byte 1) e)
not_start Definition text h rest e = h (ap (byte 1) e)

no_more_assertions : (cs : List (List Lit)) (rest : List ℕ)
    → byte 1 (flat_map assertion_text cs ++ (foot_text ++ rest)) ≢ 100
no_more_assertions [] rest e = absurd (omega (arith, e))
no_more_assertions ([] ∷ cs) rest e = absurd (omega (arith, e))
no_more_assertions ((l ∷ []) ∷ cs) rest e = absurd (omega (arith, e))
no_more_assertions ((l ∷ m ∷ ls) ∷ cs) rest e = absurd (omega (arith, e))

no_terms_in_defs : (k n : ℕ) (t : List ℕ) → byte 1 t ≢ 100
    → IsNotFront (start_text Term) (flat_map definition_declared (range_with_len k n) ++ t)
no_terms_in_defs k zero t h rest e = not_start Term t h rest e
no_terms_in_defs k (suc n) t h rest e = let b : ◌≡◌ {A = ℕ} 100 116 = ap (byte 13) e in absurd (omega (arith, b))

no_versions_in_defs : (k n : ℕ) (t : List ℕ) → byte 1 t ≢ 100
    → IsNotFront (start_text Version) (flat_map definition_declared (range_with_len k n) ++ t)
no_versions_in_defs k zero t h rest e = not_start Version t h rest e
no_versions_in_defs k (suc n) t h rest e = let b : ◌≡◌ {A = ℕ} 100 98 = ap (byte 13) e in absurd (omega (arith, b))

no_terms_in_versions : (k n : ℕ) (t : List ℕ) → IsNotFront (start_text Term) t
    → IsNotFront (start_text Term) (flat_map version_declared (range_with_len k n) ++ t)
no_terms_in_versions k zero t h rest e = h rest e
no_terms_in_versions k (suc n) t h rest e = let b : ◌≡◌ {A = ℕ} 98 116 = ap (byte 13) e in absurd (omega (arith, b))

-- the parts of a script, one after the other
record HasParts (text : List ℕ) (p : Problem) (rest : List ℕ) : Type 0 where
  first : List ℕ
  second : List ℕ
  third : List ℕ
  fourth : List ℕ
  head : text ≡ head_text ++ first
  terms : SpellsDeclared Term 255 0 first p.sizes.terms second
  versions : SpellsDeclared Version 255 0 second p.sizes.versions third
  defs : SpellsDeclared Definition 4294967295 0 third p.sizes.defs fourth
  asserted : SpellsAssertions p.sizes fourth p.clauses rest

five : (a b c d e f rest : List ℕ)
    → (a ++ (b ++ (c ++ (d ++ (e ++ f))))) ++ rest ≡ a ++ (b ++ (c ++ (d ++ (e ++ (f ++ rest)))))
five a b c d e f rest = simp append_assoc

parts_of : (text : List ℕ) (p : Problem) (rest : List ℕ) → SpellsScript text p rest → HasParts text p rest
parts_of text p rest s =
    let z = s.is.sized in
    let t = flat_map term_declared (range_with_len 0 p.sizes.terms) in
    let v = flat_map version_declared (range_with_len 0 p.sizes.versions) in
    let d = flat_map definition_declared (range_with_len 0 p.sizes.defs) in
    let fourth = flat_map assertion_text p.clauses ++ (foot_text ++ rest) in
    let end = no_more_assertions p.clauses rest in
    let a = z.terms in let b = z.versions in let c = z.defs in
    record {
      first = t ++ (v ++ (d ++ fourth));
      second = v ++ (d ++ fourth);
      third = d ++ fourth;
      fourth = fourth;
      head = s.front ∙ five head_text t v d (flat_map assertion_text p.clauses) foot_text rest;
      terms = record {
        front = refl;
        within = omega (arith, a);
        ends = no_terms_in_versions 0 p.sizes.versions (d ++ fourth) (no_terms_in_defs 0 p.sizes.defs fourth end);
      };
      versions = record {
        front = refl;
        within = omega (arith, b);
        ends = no_versions_in_defs 0 p.sizes.defs fourth end;
      };
      defs = record { front = refl; within = omega (arith, c); ends = not_start Definition fourth end };
      asserted = record { front = refl; spelled = spelled_all p.sizes z p.clauses s.is.lits s.is.in_range };
    }

pub script_read : (text a b c d rest : List ℕ) (s : Sizes) (n v k : ℕ) (cs : List (List Lit)) → s.terms ≡ n
    → s.versions ≡ v → s.defs ≡ k → text ≡ head_text ++ a → SpellsDeclared Term 255 0 a n b
    → SpellsDeclared Version 255 0 b v c
    → SpellsDeclared Definition 4294967295 0 c k d → SpellsAssertions s d cs rest
    → SpellsScript text (record { sizes = s; clauses = cs }) rest
script_read text a b c d rest s n v k cs ns vs ks e terms versions defs asserted =
    let x = terms.within in let y = versions.within in let z = defs.within in
    let back_terms = sym ns in let back_versions = sym vs in let back_defs = sym ks in
    let t = λ (i : ℕ). flat_map term_declared (range_with_len 0 i) in
    let w = λ (i : ℕ). flat_map version_declared (range_with_len 0 i) in
    let f = λ (i : ℕ). flat_map definition_declared (range_with_len 0 i) in
    record {
      front = e
          ∙ ap (λ u. head_text ++ u)
          (terms.front ∙ ap (λ u. t n ++ u)
          (versions.front ∙ ap (λ u. w v ++ u) (defs.front ∙ ap (λ u. f k ++ u) asserted.front)))
          ∙ (λ i. head_text ++ (t (back_terms i)
          ++ (w (back_versions i) ++ (f (back_defs i) ++ (flat_map assertion_text cs ++ (foot_text ++ rest))))))
          ∙ sym (five head_text (t s.terms) (w s.versions) (f s.defs) (flat_map assertion_text cs) foot_text rest);
      is = record {
        sized = record { terms = omega (arith, x, ns); versions = omega (arith, y, vs); defs = omega (arith, z, ks) };
        lits = lits_all s cs asserted.spelled;
        in_range = in_range_all s cs asserted.spelled;
      };
    }

pub no_head : (text : List ℕ) → IsNotFront head_text text → SpellsNothing (SpellsScript text)
no_head text h p rest s = let w = parts_of text p rest s in h w.first w.head

head_is : (text a : List ℕ) (p : Problem) (rest : List ℕ) → text ≡ head_text ++ a → (w : HasParts text p rest)
    → w.first ≡ a
head_is text a p rest e w = append_cancel_left head_text w.first a (sym w.head ∙ e)

pub no_terms : (text a : List ℕ) → text ≡ head_text ++ a → SpellsNothing (SpellsDeclared Term 255 0 a)
    → SpellsNothing (SpellsScript text)
no_terms text a e h p rest s =
    let w = parts_of text p rest s in
    h p.sizes.terms w.second (subst (λ t. SpellsDeclared Term 255 0 t p.sizes.terms w.second)
    (head_is text a p rest e w) w.terms)

-- the terms are those that were read
terms_are : (text a b : List ℕ) (n : ℕ) (p : Problem) (rest : List ℕ) → text ≡ head_text ++ a
    → SpellsDeclared Term 255 0 a n b → (w : HasParts text p rest) → AreOne n p.sizes.terms b w.second
terms_are text a b n p rest e s w =
    one_declared Term 255 0 a n p.sizes.terms b w.second s
    (subst (λ t. SpellsDeclared Term 255 0 t p.sizes.terms w.second) (head_is text a p rest e w) w.terms)

pub no_versions : (text a b : List ℕ) (n : ℕ) → text ≡ head_text ++ a → SpellsDeclared Term 255 0 a n b
    → SpellsNothing (SpellsDeclared Version 255 0 b) → SpellsNothing (SpellsScript text)
no_versions text a b n e s h p rest q =
    let w = parts_of text p rest q in
    let one = terms_are text a b n p rest e s w in
    h p.sizes.versions w.third
    (subst (λ t. SpellsDeclared Version 255 0 t p.sizes.versions w.third) (sym one.rest) w.versions)

versions_are : (text a b c : List ℕ) (n v : ℕ) (p : Problem) (rest : List ℕ) → text ≡ head_text ++ a
    → SpellsDeclared Term 255 0 a n b → SpellsDeclared Version 255 0 b v c → (w : HasParts text p rest)
    → AreOne v p.sizes.versions c w.third
versions_are text a b c n v p rest e s t w =
    let one = terms_are text a b n p rest e s w in
    one_declared Version 255 0 b v p.sizes.versions c w.third t
    (subst (λ u. SpellsDeclared Version 255 0 u p.sizes.versions w.third) (sym one.rest) w.versions)

pub no_defs : (text a b c : List ℕ) (n v : ℕ) → text ≡ head_text ++ a → SpellsDeclared Term 255 0 a n b
    → SpellsDeclared Version 255 0 b v c → SpellsNothing (SpellsDeclared Definition 4294967295 0 c)
    → SpellsNothing (SpellsScript text)
no_defs text a b c n v e s t h p rest q =
    let w = parts_of text p rest q in
    let one = versions_are text a b c n v p rest e s t w in
    h p.sizes.defs w.fourth (subst (λ u. SpellsDeclared Definition 4294967295 0 u p.sizes.defs w.fourth) (sym one.rest)
    w.defs)

defs_are : (text a b c d : List ℕ) (n v k : ℕ) (p : Problem) (rest : List ℕ) → text ≡ head_text ++ a
    → SpellsDeclared Term 255 0 a n b → SpellsDeclared Version 255 0 b v c
    → SpellsDeclared Definition 4294967295 0 c k d
    → (w : HasParts text p rest) → AreOne k p.sizes.defs d w.fourth
defs_are text a b c d n v k p rest e s t u w =
    let one = versions_are text a b c n v p rest e s t w in
    one_declared Definition 4294967295 0 c k p.sizes.defs d w.fourth u
    (subst (λ r. SpellsDeclared Definition 4294967295 0 r p.sizes.defs w.fourth) (sym one.rest) w.defs)

sizes_are : (s : Sizes) (p : Problem) → s.terms ≡ p.sizes.terms → s.versions ≡ p.sizes.versions → s.defs ≡ p.sizes.defs
    → s ≡ p.sizes
sizes_are s p a b c = λ i. record { terms = a i; versions = b i; defs = c i }

pub no_asserted : (text a b c d : List ℕ) (s : Sizes) (n v k : ℕ) → s.terms ≡ n → s.versions ≡ v → s.defs ≡ k
    → text ≡ head_text ++ a → SpellsDeclared Term 255 0 a n b → SpellsDeclared Version 255 0 b v c
    → SpellsDeclared Definition 4294967295 0 c k d → SpellsNothing (SpellsAssertions s d)
    → SpellsNothing (SpellsScript text)
no_asserted text a b c d s n v k ns vs ks e x y z h p rest q =
    let w = parts_of text p rest q in
    let t = terms_are text a b n p rest e x w in
    let u = versions_are text a b c n v p rest e x y w in
    let o = defs_are text a b c d n v k p rest e x y z w in
    let same = sizes_are s p (ns ∙ t.value) (vs ∙ u.value) (ks ∙ o.value) in
    h p.clauses rest (subst (λ i. SpellsAssertions i d p.clauses rest) (sym same)
    (subst (λ r. SpellsAssertions p.sizes r p.clauses rest) (sym o.rest) w.asserted))

-- a text is that of one script
pub one_script : (text : List ℕ) (p o : Problem) (r q : List ℕ) → SpellsScript text p r → SpellsScript text o q
    → AreOne p o r q
one_script text p o r q s u =
    let w = parts_of text p r s in let z = parts_of text o q u in
    let t = terms_are text w.first w.second p.sizes.terms o q w.head w.terms z in
    let v = versions_are text w.first w.second w.third p.sizes.terms p.sizes.versions o q w.head w.terms w.versions z in
    let d =
    defs_are text w.first w.second w.third w.fourth p.sizes.terms p.sizes.versions p.sizes.defs o q w.head w.terms
    w.versions w.defs z in
    let same = sizes_are p.sizes o t.value v.value d.value in
    let one =
    one_items assertion_text (IsSpelledAssertion p.sizes) foot_text (SpellsAssertion p.sizes)
    (are_assertions p.sizes) w.fourth p.clauses o.clauses r q w.asserted
    (subst (λ i. SpellsAssertions i w.fourth o.clauses q) (sym same)
    (subst (λ r. SpellsAssertions o.sizes r o.clauses q) (sym d.rest) z.asserted)) in
    record { value = λ i. record { sizes = same i; clauses = one.value i }; rest = one.rest }

whole : (text : List ℕ) (p : Problem) → IsScript p → text ≡ script_text p → SpellsScript text p []
whole text p is e = record { front = e ∙ sym (append-nil (script_text p)); is = is }

-- a text that goes on after a script
pub goes_on : (text : List ℕ) (p : Problem) (rest : List ℕ) → SpellsScript text p rest → rest ≢ [] → IsNoScript text
goes_on text p rest s more o is e = more (one_script text p o rest [] s (whole text o is e)).rest

pub refused : (text : List ℕ) → SpellsNothing (SpellsScript text) → IsNoScript text
refused text h o is e = h o [] (whole text o is e)

pub read_back : (text : List ℕ) (p o : Problem) (rest : List ℕ) → SpellsScript text p rest → rest ≡ [] → IsScript o
    → text ≡ script_text o → Some p ≡ Some o
read_back text p o rest s none is e = ap Some (one_script text p o rest [] s (whole text o is e)).value

pub found_text : (text : List ℕ) (p : Problem) (rest : List ℕ) → SpellsScript text p rest → rest ≡ []
    → text ≡ script_text p
found_text text p rest s none = s.front ∙ ap (λ t. script_text p ++ t) none ∙ append-nil (script_text p)

pub nothing_left : (rest : List ℕ) (b : Bool) → b ≡ (nat_eq (length rest) 0) → b ≡ true → rest ≡ []
nothing_left [] b e h = refl
nothing_left (x ∷ rest) b e h = let none : length (x ∷ rest) ≡ 0 = eqb-true (length (x ∷ rest)) 0 (sym e ∙ h) in
    absurd (omega (arith, none))

pub something_left : (rest : List ℕ) (b : Bool) → b ≡ (nat_eq (length rest) 0) → b ≡ false → rest ≢ []
something_left [] b e h f = both_ways b h (e ∙ refl)
something_left (x ∷ rest) b e h f = absurd (cc)

-- reading what was written, in other words: a text is that of at most one script
pub texts_are_one : (p o : Problem) → IsScript p → IsScript o → script_text p ≡ script_text o → p ≡ o
texts_are_one p o a b e =
    (one_script (script_text p) p o [] [] (whole (script_text p) p a refl) (whole (script_text p) o b e)).value
