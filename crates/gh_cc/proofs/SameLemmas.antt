-- Whether the asserted equalities make two terms equal.
use Rattle.std.proofs.Common.{◌≡◌, ℕ, false, eqb, List, length, IsTrue, ◌↔◌, refl, sym, ◌∙◌, arith}
use Rattle.std.proofs.lemmas.Bool.{eq-eqb, eqb-true}
use Rattle.gh_base.specs.declared.atom.Term.{Term}
use Rattle.gh_base.specs.declared.atom.Lit.{Lit}
use Rattle.gh_base.specs.declared.sizes.Sizes.{Sizes}
use Rattle.gh_base.specs.Meaning.{Interpretation, IsCongruence}
use Rattle.gh_cc.specs.declared.partition.Link.{Link}
use Rattle.gh_cc.specs.declared.signatures.SignatureEntry.{SignatureEntry}
use Rattle.gh_cc.specs.Asserted.{EqualitiesHold, AreEqual}
use Rattle.gh_cc.specs.Kept.{reps, IsState}
use Rattle.gh_cc.proofs.PartitionLemmas.{Respects, same_sound, slice_get-contains}
use Rattle.gh_cc.proofs.ExplainLemmas.{link_joins}

-- an interpretation that makes the asserted equalities true respects the links
pub respects : (m : Interpretation) (s : Sizes) (lits : List Lit) (links : List Link) (entries : List SignatureEntry)
    → IsState s lits links entries → EqualitiesHold m lits → Respects m.class links (length links)
respects m s lits links entries t h i l below at =
    link_joins m l (h _ _ (t.linked l (slice_get-contains links i l at)))

-- the representatives as an interpretation in which nothing but equalities is true
abbrev alone : List Link → Interpretation
alone links = record { class = reps links; table = λ _. false }

alone_congruence : (s : Sizes) (links : List Link) → IsCongruence s (alone links)
alone_congruence s links =
    record { btwn = λ _ _ _ _ _ _ _ _ _ _ _ _. refl; hop = λ _ _ _ _ _ _ _ _ _. refl; alloc = λ _ _ _ _ _ _. refl }

pub same_terms : (s : Sizes) (lits : List Lit) (links : List Link) (entries : List SignatureEntry) (a b : Term)
    (x y : ℕ)
    → IsState s lits links entries → x ≡ reps links a.0 → y ≡ reps links b.0
    → IsTrue (eqb x y) ↔ AreEqual (record { sizes = s; lits = lits }) a b
same_terms s lits links entries a b x y t at_a at_b = (
  λ e m congruence h.
      let same : reps links a.0 ≡ reps links b.0 = sym at_a ∙ eqb-true x y e ∙ at_b in
      same_sound m.class links (length links) a.0 b.0 (omega arith) (respects m s lits links entries t h) same,
  λ entailed.
      let same : reps links a.0 ≡ reps links b.0 =
      entailed (alone links) (alone_congruence s links) (λ p q there. t.joined p q there) in
      eq-eqb x y (at_a ∙ same ∙ sym at_b),
)
