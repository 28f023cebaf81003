-- The structure of a heap.
use Rattle.std.specs.Prelude.{◌≡◌, ◌⊎◌, ℕ, suc, List, Bool, false, ◌==◌, is_some, Option, Some, None, Contains, Decides}
use Rattle.std.specs.FinMap.{get}
use Rattle.std.proofs.lemmas.Bool.{cases_order, eqb-true, eq-eqb, false≢true}
use Rattle.std.proofs.Common.{refl, sym, ◌∙◌, ap, subst, inl, inr}
use Rattle.gh_assert.specs.Heaps.{Heap}
use Rattle.gh_assert.specs.Walks.{walk, Allocated}
use Rattle.gh_assert.specs.Tests.{is_between}
use Rattle.gh_assert.specs.Ownership.{Owned}
use Rattle.gh_assert.specs.Hops.{Hop}
use Rattle.gh_assert.proofs.Cells.{allocated_or}
use Rattle.gh_assert.proofs.Hops.{hops_exist}
use Rattle.gh_assert.proofs.Owned.{named_or}
use Rattle.gh_assert.proofs.Tests.{tests_decide}
use Rattle.gh_model.specs.Laws.{RepresentationsExist}

-- the first named value after x is one
pub one_hop : (V : List ℕ) (h : Heap) (x v w : ℕ) → Hop V h x v → Hop V h x w → v ≡ w
one_hop V h x v w t u = elim (cases_order t.between u.between) [
  | inl same ↦ sym t.arrives ∙ ap (λ i. walk h (suc i) x) same ∙ u.arrives
  | inr other ↦ elim other [
    | inl l ↦ absurd (u.unnamed t.between l (subst (Contains V) (sym t.arrives) t.named))
    | inr l ↦ absurd (t.unnamed u.between l (subst (Contains V) (sym u.arrives) u.named))
  ]
]

abbrev MaybeHop : List ℕ → Heap → ℕ → Type 0
MaybeHop V h x = ((w : ℕ) × Hop V h x w) ⊎ (Contains V x → Allocated h x → ⊥)

maybe_hop : (V : List ℕ) (h : Heap) → get h 0 ≡ None → Owned V h → (x : ℕ) → MaybeHop V h x
maybe_hop V h null own x = elim (named_or V x) [
  | inr out ↦ inr (λ c _. out c)
  | inl c ↦ elim (allocated_or h x)
      [ inl a ↦ inl (hops_exist V h x null own c a) | inr none ↦ inr (λ _ a. let there = a.1 in absurd cc) ]
]

abbrev hops_to : (V : List ℕ) (h : Heap) (x v : ℕ) → MaybeHop V h x → Bool
hops_to V h x v (inl (w, t)) = w == v
hops_to V h x v (inr none) = false

hops_decide : (V : List ℕ) (h : Heap) (x v : ℕ) (o : MaybeHop V h x) → Contains V x
    → Decides (hops_to V h x v o) (Hop V h x v)
hops_decide V h x v (inl (w, t)) c =
    (λ e. subst (Hop V h x) (eqb-true w v e) t, λ u. eq-eqb w v (one_hop V h x w v t u))
hops_decide V h x v (inr none) c = (λ e. absurd (false≢true e), λ u. absurd (none c u.allocated))

pub some_decides : (o : Option ℕ) → Decides (is_some o) ((v : ℕ) × (o ≡ Some v))
some_decides (Some v) = (λ e. (v, refl), λ u. refl)
some_decides None = (λ e. absurd (false≢true e), λ u. let there = u.1 in absurd cc)

pub representations_exist : RepresentationsExist
representations_exist V h null own = (
  record {
    between = is_between h;
    hop = λ x v. hops_to V h x v (maybe_hop V h null own x);
    alloc = λ x. is_some (get h x);
  },
  record {
    alloc = λ x cx. some_decides (get h x);
    hop = λ x v cx cv. hops_decide V h x v (maybe_hop V h null own x) cx;
    between = λ x y z cx cy cz. (tests_decide h null).1 x y z;
  },
)
