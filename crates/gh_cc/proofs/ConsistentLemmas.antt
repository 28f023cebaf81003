-- Literals without a clash are consistent.
use Rattle.std.proofs.Common.{◌≡◌, ◌≢◌, ℕ, Bool, true, false, not, List, All, get_or, Option, Some, None, refl, ap, ◌∙◌}
use Rattle.std.proofs.lemmas.Bool.{eq-eqb, ne_eqb}
use Rattle.std.proofs.lemmas.Option.{get_or_from_slice_get}
use Rattle.gh_base.specs.declared.atom.Atom.{Atom}
use Rattle.gh_base.specs.declared.atom.Atom.TheVariants.{Eq, Btwn, Hop, Alloc, Def}
use Rattle.gh_base.specs.declared.atom.Lit.{Lit}
use Rattle.gh_base.specs.declared.sizes.Sizes.{Sizes}
use Rattle.gh_base.specs.Atoms.{number_of}
use Rattle.gh_base.specs.Meaning.{Interpretation, IsCongruence, atom_truth, under}
use Rattle.gh_cc.specs.declared.partition.Link.{Link}
use Rattle.gh_cc.specs.declared.signatures.SignatureEntry.{SignatureEntry}
use Rattle.gh_cc.specs.Signatures.{find_lit}
use Rattle.gh_cc.specs.Asserted.{IsConsistent}
use Rattle.gh_cc.specs.Kept.{at, normal, reps, HasSign, IsFiledAs, AllFiled}
use Rattle.gh_cc.proofs.TakingLemmas.{no_lit}

-- representatives as classes, and signatures by normal forms
abbrev pub model_of : (ℕ → ℕ) → (Atom → Bool) → Interpretation
model_of r sign = record { class = r; table = λ a. sign (normal r a) }

pub model_congruence : (s : Sizes) (r : ℕ → ℕ) (sign : Atom → Bool) → IsCongruence s (model_of r sign)
model_congruence s r sign = record {
  btwn = λ v x y z p q t _ _ e f g. let n : Btwn v (at r x) (at r y) (at r z) ≡ Btwn v (at r p) (at r q) (at r t) =
      λ i. Btwn v (record { 0 = e i }) (record { 0 = f i }) (record { 0 = g i }) in ap sign n;
  hop = λ v x y p q _ _ e f. let n : Hop v (at r x) (at r y) ≡ Hop v (at r p) (at r q) =
      λ i. Hop v (record { 0 = e i }) (record { 0 = f i }) in ap sign n;
  alloc = λ v x p _ _ e. let n : Alloc v (at r x) ≡ Alloc v (at r p) = λ i. Alloc v (record { 0 = e i }) in ap sign n;
}

-- what a literal asks of representatives and signatures
abbrev pub Agrees : (ℕ → ℕ) → (Atom → Bool) → Atom → Bool → Type 0
Agrees r sign (Eq a b) true = r a.0 ≡ r b.0
Agrees r sign (Eq a b) false = r a.0 ≢ r b.0
Agrees r sign (Btwn v x y z) p = sign (normal r (Btwn v x y z)) ≡ p
Agrees r sign (Hop v x y) p = sign (normal r (Hop v x y)) ≡ p
Agrees r sign (Alloc v x) p = sign (normal r (Alloc v x)) ≡ p
Agrees r sign (Def k) p = sign (Def k) ≡ p

under_same : (p t : Bool) → t ≡ p → under p t ≡ true
under_same true t e = e
under_same false true e = cc
under_same false false e = refl

pub agrees_true : (r : ℕ → ℕ) (sign : Atom → Bool) (a : Atom) (p : Bool) → Agrees r sign a p
    → under p (atom_truth (model_of r sign) a) ≡ true
agrees_true r sign (Eq a b) true h = eq-eqb (r a.0) (r b.0) h
agrees_true r sign (Eq a b) false h = ap not (ne_eqb (r a.0) (r b.0) h)
agrees_true r sign (Btwn v x y z) p h = under_same p _ h
agrees_true r sign (Hop v x y) p h = under_same p _ h
agrees_true r sign (Alloc v x) p h = under_same p _ h
agrees_true r sign (Def k) p h = under_same p _ h

pub consistent : (s : Sizes) (lits : List Lit) (r : ℕ → ℕ) (sign : Atom → Bool)
    → All (λ l. Agrees r sign l.atom l.positive) lits → IsConsistent s lits
consistent s lits r sign all = (
  model_of r sign,
  model_congruence s r sign,
  λ k d h. agrees_true r sign (get_or lits k d).atom (get_or lits k d).positive (all k d h),
)

-- the sign of the literal that is found
abbrev sign_of : List Lit → Option ℕ → Bool
sign_of lits None = false
sign_of lits (Some k) = (get_or lits k no_lit).positive

abbrev pub signs_in : Sizes → List Lit → List SignatureEntry → Atom → Bool
signs_in s lits entries a = sign_of lits (find_lit entries (number_of s a))

pub sign_found : (s : Sizes) (lits : List Lit) (entries : List SignatureEntry) (a : Atom) (p : Bool)
    → HasSign lits entries (number_of s a) p → signs_in s lits entries a ≡ p
sign_found s lits entries a p h =
    ap (sign_of lits) h.found ∙ ap (λ (l : Lit). l.positive) (get_or_from_slice_get lits h.place h.lit no_lit h.there)
    ∙ h.signed

filed_agrees : (s : Sizes) (r : ℕ → ℕ) (lits : List Lit) (entries : List SignatureEntry) (a : Atom) (p : Bool)
    → IsFiledAs s r lits entries a p → Agrees r (signs_in s lits entries) a p
filed_agrees s r lits entries (Eq a b) true h = h
filed_agrees s r lits entries (Eq a b) false h = h
filed_agrees s r lits entries (Btwn v x y z) p h = sign_found s lits entries (normal r (Btwn v x y z)) p h
filed_agrees s r lits entries (Hop v x y) p h = sign_found s lits entries (normal r (Hop v x y)) p h
filed_agrees s r lits entries (Alloc v x) p h = sign_found s lits entries (normal r (Alloc v x)) p h
filed_agrees s r lits entries (Def k) p h = sign_found s lits entries (Def k) p h

pub filed_consistent : (s : Sizes) (lits : List Lit) (links : List Link) (entries : List SignatureEntry)
    → AllFiled s lits links entries → IsConsistent s lits
filed_consistent s lits links entries all =
    consistent s lits (reps links) (signs_in s lits entries)
    (λ k d h. filed_agrees s (reps links) lits entries (get_or lits k d).atom (get_or lits k d).positive (all k d h))
