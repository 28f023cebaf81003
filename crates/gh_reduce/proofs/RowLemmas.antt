-- What is stated of each term or each two terms is in range.
use Rattle.std.specs.Prelude.{◌≡◌, ℕ, ◌<◌, List, [], ◌∷◌, ◌++◌, map}
use Rattle.std.proofs.Common.{subst, sym, ap, ◌∙◌}
use Rattle.gh_base.specs.declared.atom.Term.{Term}
use Rattle.gh_base.specs.declared.sizes.Sizes.{Sizes}
use Rattle.gh_base.specs.Grounds.{Problem}
use Rattle.gh_base.specs.Atoms.{terms_below}
use Rattle.gh_grass.specs.Claims.{GroundFormula, ground_formulas_of}
use Rattle.gh_symb.specs.Formulas.{hops, each, each_pair}
use Rattle.gh_reduce.specs.declared.rows.EachTerm.{EachTerm}
use Rattle.gh_reduce.specs.declared.rows.EachTerm.TheVariants.{Leads, Same, Made, Freed, Apart, Replaced}
use Rattle.gh_reduce.specs.declared.rows.EachPair.{EachPair}
use Rattle.gh_reduce.specs.declared.rows.EachPair.TheVariants.{Others, Kept}
use Rattle.gh_reduce.specs.Growth.{sized, stated_in, IsWithin, AreWithin}
use Rattle.gh_reduce.proofs.GrowthLemmas.{stated_more, same_terms}
use Rattle.gh_path.specs.Terms.{Kind}
use Rattle.gh_symb.specs.Inside.{under_of, AreKinds}
use Rattle.gh_reduce.specs.Rows.{of_term, of_pair, IsEachTermInside, IsEachPairInside}
use Rattle.gh_reduce.proofs.WithinLemmas.{below_within, equality_within}
use Rattle.gh_reduce.proofs.InsideLemmas.{under_within}

pub term_within : (s : Sizes) (e : EachTerm) → IsEachTermInside s e → (z : Term) → z.0 < s.terms
    → IsWithin s (of_term e z)
term_within s (Leads i n) h z l = (
  (h.0, l),
  subst (λ (k : ℕ). AreWithin s (ground_formulas_of (map (hops i z) (terms_below k)))) (sym h.1)
      (below_within s (hops i z) (λ v k. (h.0, l, k))),
)
term_within s (Same old new) h z l = ((h.1, l), (h.0, l))
term_within s (Made old new x) h z l = ((h.1, l), ((h.0, l), (equality_within s z x l h.2, tt)))
term_within s (Freed old new x) h z l = ((h.1, l), ((h.0, l), (equality_within s z x l h.2, tt)))
term_within s (Apart old u q) h z l =
    (((h.0, l), (under_within s (under_of u.now) h.1 z l, tt)), (under_within s (under_of q.now) h.2 z l, tt))
term_within s (Replaced old new u q) h z l = (
  (h.1, l),
  (
    ((h.0, l), (under_within s (under_of u.now) h.2 z l, tt)),
    (under_within s (under_of q.now) h.3 z l, tt),
  ),
)

pub pair_within : (s : Sizes) (e : EachPair) → IsEachPairInside s e → (z v : Term) → z.0 < s.terms → v.0 < s.terms
    → IsWithin s (of_pair e z v)
pair_within s (Others old new x) h z v l k = (equality_within s z x l h.2, (((h.1, l, k), (h.0, l, k)), tt))
pair_within s (Kept old new u) h z v l k =
    (((h.0, l), (under_within s (under_of u.now) h.2 z l, tt)), (((h.1, l, k), (h.0, l, k)), tt))

-- it stays inside when formulas are stated
term_sized : (s : Sizes) (d : ℕ) (e : EachTerm) → IsEachTermInside s e → IsEachTermInside (sized s d) e
term_sized s d (Leads i n) h = h
term_sized s d (Same old new) h = h
term_sized s d (Made old new x) h = h
term_sized s d (Freed old new x) h = h
term_sized s d (Apart old u q) h = h
term_sized s d (Replaced old new u q) h = h

pair_sized : (s : Sizes) (d : ℕ) (e : EachPair) → IsEachPairInside s e → IsEachPairInside (sized s d) e
pair_sized s d (Others old new x) h = h
pair_sized s d (Kept old new u) h = h

pub term_stays : (p q : Problem) (fs : List GroundFormula) (e : EachTerm) → q ≡ stated_in p fs
    → IsEachTermInside p.sizes e → IsEachTermInside q.sizes e
term_stays p q fs e h k =
    subst (λ (x : Problem). IsEachTermInside x.sizes e) (sym h) (term_sized p.sizes (stated_in p fs).sizes.defs e k)

pub pair_stays : (p q : Problem) (fs : List GroundFormula) (e : EachPair) → q ≡ stated_in p fs
    → IsEachPairInside p.sizes e → IsEachPairInside q.sizes e
pair_stays p q fs e h k =
    subst (λ (x : Problem). IsEachPairInside x.sizes e) (sym h) (pair_sized p.sizes (stated_in p fs).sizes.defs e k)

-- a formula that is within stays so
pub claim_stays : (p q : Problem) (fs : List GroundFormula) (f g : GroundFormula) → q ≡ stated_in p fs → g ≡ f
    → IsWithin (stated_in p fs).sizes f → IsWithin q.sizes g
claim_stays p q fs f g h e k =
    subst (λ (x : Problem). IsWithin x.sizes g) (sym h)
    (subst (λ (x : GroundFormula). IsWithin (stated_in p fs).sizes x) (sym e) k)

pub claim_within : (s : Sizes) (f g : GroundFormula) → g ≡ f → IsWithin s f → IsWithin s g
claim_within s f g e k = subst (λ (x : GroundFormula). IsWithin s x) (sym e) k

-- one formula more; one for each term; one for each two terms
pub one_more : (p q r : Problem) (fs : List GroundFormula) (f g : GroundFormula) → q ≡ stated_in p fs
    → r ≡ stated_in q (g ∷ []) → g ≡ f → r ≡ stated_in p (fs ++ f ∷ [])
one_more p q r fs f g e h is =
    stated_more p q r fs (g ∷ []) e h ∙ ap (λ (x : GroundFormula). stated_in p (fs ++ x ∷ [])) is

pub terms_more : (p q r : Problem) (fs : List GroundFormula) (f : Term → GroundFormula) → q ≡ stated_in p fs
    → r ≡ stated_in q (each q.sizes.terms f) → r ≡ stated_in p (fs ++ each p.sizes.terms f)
terms_more p q r fs f e h =
    stated_more p q r fs (each q.sizes.terms f) e h ∙ ap (λ (n : ℕ). stated_in p (fs ++ each n f)) (same_terms p q fs e)

pub pairs_more : (p q r : Problem) (fs : List GroundFormula) (f : Term → Term → GroundFormula) → q ≡ stated_in p fs
    → r ≡ stated_in q (each_pair q.sizes.terms f) → r ≡ stated_in p (fs ++ each_pair p.sizes.terms f)
pairs_more p q r fs f e h =
    stated_more p q r fs (each_pair q.sizes.terms f) e h
    ∙ ap (λ (n : ℕ). stated_in p (fs ++ each_pair n f)) (same_terms p q fs e)

pub first_one : (p q : Problem) (f g : GroundFormula) → q ≡ stated_in p (g ∷ []) → g ≡ f → q ≡ stated_in p (f ∷ [])
first_one p q f g h is = h ∙ ap (λ (x : GroundFormula). stated_in p (x ∷ [])) is

-- other formulas more
pub some_more : (p q r : Problem) (fs gs : List GroundFormula) → q ≡ stated_in p fs → r ≡ stated_in q gs
    → r ≡ stated_in p (fs ++ gs)
some_more p q r fs gs e h = stated_more p q r fs gs e h

pub ready_stays : (p q : Problem) (fs : List GroundFormula) (kinds : List Kind) → q ≡ stated_in p fs
    → AreKinds p.sizes.terms kinds → AreKinds q.sizes.terms kinds
ready_stays p q fs kinds e h = subst (λ (x : Problem). AreKinds x.sizes.terms kinds) (sym e) h

pub version_stays : (p q : Problem) (fs : List GroundFormula) (i : ℕ) → q ≡ stated_in p fs → i < p.sizes.versions
    → i < q.sizes.versions
version_stays p q fs i e h = subst (λ (x : Problem). i < x.sizes.versions) (sym e) h
