-- When a clause follows from equality and congruence alone.
use Rattle.std.proofs.Common.{◌≡◌, ◌≢◌, inl, inr, ℕ, ◌+◌, ◌<◌, ◌≤◌, Bool, true, false, not, ◌&&◌, eqb, List, [], ◌∷◌}
use Rattle.std.proofs.Common.{◌++◌, length, get_or, take, Some, IsTrue, ◌↔◌, refl, sym, ap, ◌∙◌, subst, arith}
use Rattle.std.specs.Prelude.{slice_get, Contains, MatchBool}
use Rattle.std.specs.List.{list_any}
use Rattle.std.proofs.lemmas.Bool.{eq-eqb, ne_eqb}
use Rattle.std.proofs.lemmas.List.Folds.{list_any-from_Any, list_any_none}
use Rattle.std.proofs.lemmas.List.Elements.{Contains-get_or, All-contains, All-more, All-weaker, Contains-push_cases}
use Rattle.std.proofs.lemmas.Option.{get_or_from_slice_get}
use Rattle.gh_base.specs.declared.atom.Term.{Term}
use Rattle.gh_base.specs.declared.atom.Atom.{Atom}
use Rattle.gh_base.specs.declared.atom.Atom.TheVariants.{Eq, Btwn, Hop, Alloc, Def}
use Rattle.gh_base.specs.declared.atom.Lit.{Lit}
use Rattle.gh_base.specs.declared.sizes.Sizes.{Sizes}
use Rattle.gh_base.specs.Atoms.{opposite, IsInRange, AreInRange, number_of}
use Rattle.gh_base.specs.Meaning.{Interpretation, IsCongruence, IsEqualityClause, IsClauseTrue, atom_truth, lit_truth}
use Rattle.gh_base.specs.Meaning.{under}
use Rattle.gh_base.proofs.NumberLemmas.{apart as atoms_apart}
use Rattle.gh_base.proofs.UnitLemmas.{true_or_false}
use Rattle.gh_cc.specs.declared.partition.Link.{Link}
use Rattle.gh_cc.specs.Partitions.{Merged, AreMerges, disequality_of}
use Rattle.gh_cc.specs.Asserted.{equality}
use Rattle.gh_cc.specs.Kept.{at, normal, reps, IsRelation}
use Rattle.gh_cc.specs.Lemma.{Opposes, IsOpposed, IsDerived, JoinsTerms, HaveOneClass, IsJoined, AreNegatedClasses}
use Rattle.gh_cc.proofs.PartitionLemmas.{Respects, rep_sound, same_sound, merges_more, slice_get-contains}
use Rattle.gh_cc.proofs.ExplainLemmas.{IsLitFalse, link_holds}
use Rattle.gh_cc.proofs.FilingLemmas.{normal_range}
use Rattle.gh_cc.proofs.TakingLemmas.{reps_same, reps_joined, equality_is, same_equality, same_along}
use Rattle.gh_cc.proofs.RefuteLemmas.{opposite_twice}
use Rattle.gh_cc.proofs.ConsistentLemmas.{model_of, model_congruence, Agrees, agrees_true}

-- a literal whose negation joins no two terms
pub step_none : (lits : List Lit) (i : ℕ) (x : Lit) (p : Merged) → AreNegatedClasses lits (take i lits) p
    → slice_get lits i ≡ Some x → i < length lits → ((a b : Term) → opposite x ≢ equality a b)
    → AreNegatedClasses lits (take (i + 1) lits) p
step_none lits i x p h at within none = record {
  merges = h.merges;
  linked = h.linked;
  joined = All-more (IsJoined p.links) lits i x within h.joined
      (rw (get_or_from_slice_get lits i x x at) (λ a b e. absurd (none a b e)));
}

negated_is : (x : Lit) (a b : Term) → opposite x ≡ equality a b → x ≡ record { atom = Eq a b; positive = false }
negated_is x a b e = sym (opposite_twice x) ∙ ap opposite e

step_joins : (lits : List Lit) (i : ℕ) (x : Lit) (p : Merged) (a b : Term) → AreNegatedClasses lits (take i lits) p
    → slice_get lits i ≡ Some x → i < length lits → opposite x ≡ equality a b → a.0 ≤ b.0
    → a.0 < p.terms → b.0 < p.terms → reps p.links a.0 ≢ reps p.links b.0
    → AreNegatedClasses lits (take (i + 1) lits)
    (record { terms = p.terms; links = p.links ++ (record { from = a; to = b }) ∷ [] })
step_joins lits i x p a b h at within is order from to apart =
    let k : Link = record { from = a; to = b } in
    let now = p.links ++ k ∷ [] in
    record {
      merges = merges_more p.terms p.links k h.merges from to apart;
      linked = λ j there. elim (Contains-push_cases p.links k j there) as (λ _. Contains lits (disequality_of j)) [
        | inl old ↦ h.linked j old
        | inr new ↦
            let here : x ≡ disequality_of k = negated_is x a b is ∙ ap opposite (sym (equality_is a b order)) in
            subst (λ (y : Lit). Contains lits y) (here ∙ ap disequality_of new) (slice_get-contains lits i x at)
      ];
      joined = All-more (IsJoined now) lits i x within
          (All-weaker (IsJoined p.links) (IsJoined now) (λ l j c d e. reps_same p.links k c.0 d.0 (j c d e))
          (take i lits) h.joined)
          (rw (get_or_from_slice_get lits i x x at) (λ c d e.
          let w = same_equality a b c d (sym is ∙ e) in same_along (reps now) a b c d w.0 w.1 (reps_joined p.links k)));
    }

pub step_some : (lits : List Lit) (i : ℕ) (x : Lit) (p now : Merged) (a b : Term) (r : Bool)
    → AreNegatedClasses lits (take i lits) p → slice_get lits i ≡ Some x → i < length lits → opposite x ≡ equality a b
    → a.0 ≤ b.0
    → a.0 < p.terms → b.0 < p.terms → MatchBool r (JoinsTerms p now a b) (HaveOneClass p now a b)
    → (now.terms ≡ p.terms) × AreNegatedClasses lits (take (i + 1) lits) now
step_some lits i x p now a b true h at within is order from to did = (
  ap (λ (q : Merged). q.terms) did.merged,
  subst (AreNegatedClasses lits (take (i + 1) lits)) (sym did.merged)
      (step_joins lits i x p a b h at within is order from to did.apart),
)
step_some lits i x p now a b false h at within is order from to did = (
  ap (λ (q : Merged). q.terms) did.stays,
  subst (AreNegatedClasses lits (take (i + 1) lits)) (sym did.stays) (record {
    merges = h.merges;
    linked = h.linked;
    joined = All-more (IsJoined p.links) lits i x within h.joined
        (rw (get_or_from_slice_get lits i x x at) (λ c d e. let w = same_equality a b c d (sym is ∙ e) in
        same_along (reps p.links) a b c d w.0 w.1 did.same));
  }),
)

-- an atom has the truth of its normal form
pub normal_truth : (m : Interpretation) (s : Sizes) (links : List Link) (a : Atom) → IsCongruence s m
    → Respects m.class links (length links) → IsInRange s (normal (reps links) a) → IsInRange s a
    → atom_truth m (normal (reps links) a) ≡ atom_truth m a
normal_truth m s links (Eq a b) congruence h form inside = refl
normal_truth m s links (Btwn v x y z) congruence h form inside =
    congruence.btwn v _ _ _ x y z form inside
    (rep_sound m.class links (length links) x.0 (omega arith) h)
    (rep_sound m.class links (length links) y.0 (omega arith) h)
    (rep_sound m.class links (length links) z.0 (omega arith) h)
normal_truth m s links (Hop v x y) congruence h form inside =
    congruence.hop v _ _ x y form inside
    (rep_sound m.class links (length links) x.0 (omega arith) h)
    (rep_sound m.class links (length links) y.0 (omega arith) h)
normal_truth m s links (Alloc v x) congruence h form inside =
    congruence.alloc v _ x form inside (rep_sound m.class links (length links) x.0 (omega arith) h)
normal_truth m s links (Def k) congruence h form inside = refl

both_false : (p q t : Bool) → under p t ≡ false → under q t ≡ false → p ≡ q
both_false true true t e f = refl
both_false false false t e f = refl
both_false true false true e f = cc
both_false true false false e f = cc
both_false false true true e f = cc
both_false false true false e f = cc

-- a clause with a derived literal follows
pub derived_follows : (s : Sizes) (lits : List Lit) (p : Merged) (l : Lit) → AreInRange s lits → p.terms ≡ s.terms
    → AreNegatedClasses lits lits p → Contains lits l → IsDerived s p.links lits l
    → IsEqualityClause s lits
derived_follows s lits p l all terms h there derived = record {
  in_range = all;
  follows = λ m congruence. elim (true_or_false m lits) as (λ _. IsClauseTrue m lits) [
    | inl t ↦ t
    | inr none ↦
        let links = p.links in
        let merges : AreMerges s.terms links = subst (λ n. AreMerges n links) terms h.merges in
        let holds : Respects m.class links (length links) = λ i k below at.
        link_holds m k
        (All-contains (IsLitFalse m) lits (disequality_of k) none (h.linked k (slice_get-contains links i k at))) in
        let off : IsLitFalse m l = All-contains (IsLitFalse m) lits l none there in
        elim derived as (λ _. IsClauseTrue m lits) [
          | inl w ↦
              let same : m.class w.0.0 ≡ m.class w.1.0 =
              same_sound m.class links (length links) w.0.0 w.1.0 (omega arith) holds w.3 in
              let one : lit_truth m (equality w.0 w.1) ≡ true = eq-eqb _ _ same in
              let two : lit_truth m (equality w.0 w.1) ≡ false = subst (IsLitFalse m) w.2 off in
              absurd (cc (one, two))
          | inr w ↦
              let k = w.1.0 in
              let range : (x : Lit) → Contains lits x → IsInRange s x.atom =
              λ x c. All-contains (λ (y : Lit). IsInRange s y.atom) lits x all c in
              let form = normal_range s links k.atom merges (range k w.1.1) in
              let form' = normal_range s links l.atom merges (range l there) in
              let forms : normal (reps links) k.atom ≡ normal (reps links) l.atom =
              atoms_apart s _ _ form form' w.1.2.key in
              let truths : atom_truth m k.atom ≡ atom_truth m l.atom =
              sym (normal_truth m s links k.atom congruence holds form (range k w.1.1)) ∙ ap (atom_truth m) forms
              ∙ normal_truth m s links l.atom congruence holds form' (range l there) in
              let off' : IsLitFalse m k = All-contains (IsLitFalse m) lits k none w.1.1 in
              absurd (w.1.2.signs
              (both_false k.positive l.positive (atom_truth m l.atom) (ap (under k.positive) (sym truths) ∙ off') off))
        ]
  ];
}

-- an atom is true where a negated literal has its key
abbrev negated_key : Sizes → List Link → ℕ → Lit → Bool
negated_key s links n k = not k.positive && eqb (number_of s (normal (reps links) k.atom)) n

abbrev negated_sign : Sizes → List Link → List Lit → Atom → Bool
negated_sign s links lits a = list_any (negated_key s links (number_of s a)) lits

key_at : (s : Sizes) (links : List Link) (l : Lit) (p : Bool) → l.positive ≡ p → p ≡ false
    → negated_key s links (number_of s (normal (reps links) l.atom)) l ≡ true
key_at s links l true e f = cc
key_at s links l false e f =
    ap (λ (b : Bool). not b && eqb (number_of s (normal (reps links) l.atom))
    (number_of s (normal (reps links) l.atom))) e ∙ eq-eqb _ _ refl

key_off : (s : Sizes) (links : List Link) (l k : Lit) (p : Bool) → k.positive ≡ p → l.positive ≡ true
    → (Opposes s links k l → ⊥) → negated_key s links (number_of s (normal (reps links) l.atom)) k ≡ false
key_off s links l k true e on none =
    ap (λ (b : Bool). not b && eqb (number_of s (normal (reps links) k.atom))
    (number_of s (normal (reps links) l.atom))) e
key_off s links l k false e on none =
    ap (λ (b : Bool). not b && eqb (number_of s (normal (reps links) k.atom))
    (number_of s (normal (reps links) l.atom))) e
    ∙ ne_eqb _ _ (λ same. none (record { key = same; signs = λ f. cc (e, on, f) }))

sign_is : (s : Sizes) (links : List Link) (lits : List Lit) (l : Lit) (p : Bool) → l.positive ≡ p → Contains lits l
    → (IsOpposed s links lits l → ⊥) → negated_sign s links lits (normal (reps links) l.atom) ≡ not p
sign_is s links lits l false e there none =
    list_any-from_Any (negated_key s links (number_of s (normal (reps links) l.atom))) lits
    (there.0, l, there.1, there.2, key_at s links l false e refl)
sign_is s links lits l true e there none =
    list_any_none (negated_key s links (number_of s (normal (reps links) l.atom))) lits
    (λ i d h. key_off s links l (get_or lits i d) (get_or lits i d).positive refl e
    (λ o. none (get_or lits i d, Contains-get_or lits i d h, o)))

relation_agrees : (s : Sizes) (lits : List Lit) (links : List Link) (l : Lit) (a : Atom) (p : Bool) → l.atom ≡ a
    → l.positive ≡ p → Contains lits l → IsRelation a → (IsDerived s links lits l → ⊥)
    → negated_sign s links lits (normal (reps links) a) ≡ not p
relation_agrees s lits links l a p e f there relation none =
    let is : IsRelation l.atom = subst IsRelation (sym e) relation in
    ap (λ (b : Atom). negated_sign s links lits (normal (reps links) b)) (sym e)
    ∙ sign_is s links lits l p f there (λ o. none (inr (is, o)))

-- what an underived literal's negation asks holds
underived_agrees : (s : Sizes) (lits : List Lit) (links : List Link) (l : Lit) (a : Atom) (p : Bool) → l.atom ≡ a
    → l.positive ≡ p → Contains lits l → IsJoined links l → (IsDerived s links lits l → ⊥)
    → Agrees (reps links) (negated_sign s links lits) a (not p)
underived_agrees s lits links l (Eq a b) true e f there joined none = λ same.
    none (inl (a, b, (λ i. record { atom = e i; positive = f i }), same))
underived_agrees s lits links l (Eq a b) false e f there joined none =
    joined a b (λ i. record { atom = e i; positive = not (f i) })
underived_agrees s lits links l (Btwn v x y z) p e f there joined none =
    relation_agrees s lits links l (Btwn v x y z) p e f there tt none
underived_agrees s lits links l (Hop v x y) p e f there joined none =
    relation_agrees s lits links l (Hop v x y) p e f there tt none
underived_agrees s lits links l (Alloc v x) p e f there joined none =
    relation_agrees s lits links l (Alloc v x) p e f there tt none
underived_agrees s lits links l (Def k) p e f there joined none =
    relation_agrees s lits links l (Def k) p e f there tt none

not_both : (p t : Bool) → under p t ≡ true → under (not p) t ≡ true → ⊥
not_both true true e f = cc
not_both true false e f = cc
not_both false true e f = cc
not_both false false e f = cc

-- a clause with no derived literal doesn't follow
pub underived_open : (s : Sizes) (lits : List Lit) (p : Merged) → AreNegatedClasses lits lits p
    → ((l : Lit) → Contains lits l → IsDerived s p.links lits l → ⊥) → IsEqualityClause s lits → ⊥
underived_open s lits p h none e =
    let links = p.links in
    let sign = negated_sign s links lits in
    let m = model_of (reps links) sign in
    let w = e.follows m (model_congruence s (reps links) sign) in
    let l = w.1 in
    let there : Contains lits l = (w.0, w.2, w.3) in
    let agrees = underived_agrees s lits links l l.atom l.positive refl refl there
    (All-contains (IsJoined links) lits l h.joined there) (none l there) in
    let off = agrees_true (reps links) sign l.atom (not l.positive) agrees in
    not_both l.positive (atom_truth m l.atom) w.4 off

pub exact_answer : {P Q V : Type 0} (b : Bool) → MatchBool b P Q → (P → V) → (Q → V → ⊥) → IsTrue b ↔ V
exact_answer true h f g = (λ _. f h, λ _. refl)
exact_answer false h f g = (λ e. absurd (let x : false ≡ true = e in cc), λ v. absurd (g h v))
