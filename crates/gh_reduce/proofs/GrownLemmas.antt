-- Ground clauses that stay in front while others come after them.
use Rattle.std.specs.Prelude.{Result, Ok, Err, OnErr}
use Rattle.std.proofs.Common.{◌≡◌, ℕ, List, [], ◌++◌, sym, refl, ◌∙◌, ap, subst, append_assoc}
use Rattle.std.proofs.lemmas.List.{append-nil}
use Rattle.gh_base.specs.declared.atom.Lit.{Lit}
use Rattle.gh_base.specs.Grounds.{Problem}
use Rattle.gh_reduce.specs.Growth.{grown, IsGrown}

pub grown_itself : (p : Problem) → IsGrown p p
grown_itself p =
    record { terms = refl; versions = refl; further = []; clauses = sym (append-nil p.clauses) }

pub grown_then : (p q r : Problem) → IsGrown p q → IsGrown q r → IsGrown p r
grown_then p q r h g = record {
  terms = g.terms ∙ h.terms;
  versions = g.versions ∙ h.versions;
  further = h.further ++ g.further;
  clauses = g.clauses ∙ ap (λ (cs : List (List Lit)). cs ++ g.further) h.clauses
      ∙ append_assoc p.clauses h.further g.further;
}

pub grown_by : (p : Problem) (next : ℕ) (more : List (List Lit)) → IsGrown p (grown p next more)
grown_by p next more = record { terms = refl; versions = refl; further = more; clauses = refl }

pub grown_is : (p q : Problem) (next : ℕ) (more : List (List Lit)) → q ≡ grown p next more → IsGrown p q
grown_is p q next more e = subst (λ (o : Problem). IsGrown p o) (sym e) (grown_by p next more)

-- where clauses and definitions came, and then others may have
pub grown_past : (p q r : Problem) (next : ℕ) (more : List (List Lit)) → q ≡ grown p next more → IsGrown q r
    → IsGrown p r
grown_past p q r next more e g = grown_then p q r (grown_is p q next more e) g

-- what holds anyway holds after an error
pub after_error : {T E P : Type 0} → (r : Result T E) → P → OnErr r P
after_error (Ok x) p = tt
after_error (Err e) p = p
