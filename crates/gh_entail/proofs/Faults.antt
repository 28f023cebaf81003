-- The type errors of a question.
use Rattle.std.specs.Prelude.{◌≡◌, List, Bool, true, false, IsTrue, ◌↔◌, Option}
use Rattle.std.proofs.Common.{refl, subst, inl, inr}
use Rattle.gh_ast.specs.declared.Occ.{Occ}
use Rattle.gh_ast.specs.Rules.{HasName}
use Rattle.gh_ast.specs.Questions.{Question}
use Rattle.gh_types.specs.declared.fault.Fault.{Fault}
use Rattle.gh_types.specs.Faults.{IsFirstOf, IsFirstIn, IsEarlier}
use Rattle.gh_types.proofs.FirstLemmas.{first_same, first_either}
use Rattle.gh_entail.specs.Checks.{UndeclaredErrors}
use Rattle.gh_entail.specs.Rules.{in_question, UnknownName, DuplicateName, Broken, unknown_name, duplicate_name}

not_known : (b : Bool) (P : Type 0) → IsTrue b ↔ P → b ≡ false → P → ⊥
not_known true P k e holds = cc
not_known false P k e holds = let t = k.1 holds in cc

is_unknown : (b : Bool) (P : Type 0) → IsTrue b ↔ P → (P → ⊥) → b ≡ false
is_unknown true P k n = absurd (n (k.0 refl))
is_unknown false P k n = refl

pub unknown_at : (vs : List Occ) (o : Occ) (b : Bool) (r : Option Fault) → IsTrue b ↔ HasName vs o.name
    → IsFirstOf (λ n s. (b ≡ false) × (n ≡ 1) × (o.span ≡ s)) r → IsFirstOf (UndeclaredErrors vs o) r
unknown_at vs o b r k h =
    first_same _ _ r (λ n s (e, f, g). (f, g, not_known b (HasName vs o.name) k e))
    (λ n s (f, g, none). (is_unknown b (HasName vs o.name) k none, f, g)) h

pub all_unknown : (q : Question) (os : List Occ) (r : Option Fault) → os ≡ in_question q
    → IsFirstIn (UndeclaredErrors q.variables) os r → IsFirstOf (λ n s. (n ≡ 1) × UnknownName q s) r
all_unknown q os r e h =
    first_same _ _ r (λ n s (k, x, l, f, p). (p.0, (k, x, l, f, (p.1, p.2))))
    (λ n s (e, (k, x, l, f, p)). (k, x, l, f, (e, p.0, p.1)))
    (subst (λ xs. IsFirstIn (UndeclaredErrors q.variables) xs r) e h).says

pub broken_first : (q : Question) (a b r : Option Fault) → IsEarlier a b r
    → IsFirstOf (λ n s. (n ≡ 1) × UnknownName q s) a → IsFirstOf (λ n s. (n ≡ 2) × DuplicateName q s) b
    → IsFirstOf (Broken q) r
broken_first q a b r i f g =
    first_same _ _ r (λ n s e. elim e [ inl x ↦ unknown_name x.0 x.1 | inr x ↦ duplicate_name x.0 x.1 ])
    (λ n s e. elim e [ unknown_name f x ↦ inl (f, x) | duplicate_name f x ↦ inr (f, x) ])
    (first_either _ _ a b r i f g)
