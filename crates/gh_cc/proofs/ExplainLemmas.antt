-- Why two terms have one class.
use Rattle.std.proofs.Common.{◌≡◌, ◌≢◌, inl, inr, ℕ, zero, suc, ◌-◌, ◌<◌, Bool, true, false, not, min, max, List, []}
use Rattle.std.proofs.Common.{◌∷◌, ◌++◌, All, Some, refl, sym, ap, ◌∙◌, subst, arith, append_assoc}
use Rattle.std.specs.Prelude.{slice_get, Contains, Result, Ok, Err, OnOk}
use Rattle.std.proofs.lemmas.Bool.{cases_lt, eqb-true}
use Rattle.std.proofs.lemmas.List.Elements.{All-append, All-cons}
use Rattle.gh_base.specs.declared.atom.Term.{Term}
use Rattle.gh_base.specs.declared.atom.Lit.{Lit}
use Rattle.gh_base.specs.Meaning.{Interpretation, lit_truth}
use Rattle.gh_cc.specs.declared.partition.Link.{Link}
use Rattle.gh_cc.specs.Partitions.{rep, relabel, disequality_of, ExplainsMore}
use Rattle.gh_cc.proofs.PartitionLemmas.{Crosses, relabel_crosses, rep_step, slice_get-contains}

abbrev pub IsLitFalse : Interpretation → Lit → Type 0
IsLitFalse m l = lit_truth m l ≡ false

abbrev pub IsLinkNegated : List Link → Lit → Type 0
IsLinkNegated links l = (k : Link) × Contains links k × (l ≡ disequality_of k)

pub All-front : {X : Type 0} (P : X → Type 0) (xs ys : List X) → All P (xs ++ ys) → All P xs
All-front P [] ys h k d below = absurd (omega arith)
All-front P (x ∷ xs) ys h zero d below = h zero d (omega arith)
All-front P (x ∷ xs) ys h (suc k) d below = All-front P xs ys (λ i e lt. h (suc i) e (omega arith)) k d (omega arith)

pub All-back : {X : Type 0} (P : X → Type 0) (xs ys : List X) → All P (xs ++ ys) → All P ys
All-back P [] ys h = h
All-back P (x ∷ xs) ys h = All-back P xs ys (λ k d lt. h (suc k) d (omega arith))

some_depth : (links : List Link) (d a b : ℕ) → a ≢ b → rep links d a ≡ rep links d b → 0 < d
some_depth links zero a b ne same = absurd (ne same)
some_depth links (suc d) a b ne same = omega arith

crosses_at : (links : List Link) (d : ℕ) (l : Link) (a b : ℕ) → a ≢ b → rep links d a ≡ rep links d b
    → rep links (d - 1) a ≢ rep links (d - 1) b
    → slice_get links (d - 1) ≡ Some l → Crosses (rep links (d - 1)) l a b
crosses_at links zero l a b ne same apart at = absurd (ne same)
crosses_at links (suc e) l a b ne same apart at =
    let less : suc e - 1 ≡ e = omega arith in
    let here : slice_get links e ≡ Some l = subst (λ n. slice_get links n ≡ Some l) less at in
    let now : relabel (rep links e) l a ≡ relabel (rep links e) l b = sym (rep_step links e l a here) ∙ same
    ∙ rep_step links e l b here in
    let ends = relabel_crosses (rep links e) l a b now
    (λ s. apart (subst (λ n. rep links n a ≡ rep links n b) (sym less) s)) in
    subst (λ n. Crosses (rep links n) l a b) (sym less) ends

crosses_from : (r : ℕ → ℕ) (l : Link) (a b : ℕ) → Crosses r l a b → r l.from.0 ≢ r l.to.0 → r a ≡ r l.from.0
    → r l.to.0 ≡ r b
crosses_from r l a b w apart e = elim w as (λ _. r l.to.0 ≡ r b) [ inl x ↦ x.1 | inr x ↦ absurd (apart (sym e ∙ x.0)) ]

crosses_to : (r : ℕ → ℕ) (l : Link) (a b : ℕ) → Crosses r l a b → r a ≢ r l.from.0 → (r a ≡ r l.to.0)
    × (r l.from.0 ≡ r b)
crosses_to r l a b w ne = elim w as (λ _. (r a ≡ r l.to.0) × (r l.from.0 ≡ r b)) [ inl x ↦ absurd (ne x.0) | inr x ↦ x ]

-- the last link joined two terms, whose representatives before it are known
pub record JoinsAt (links : List Link) (d : ℕ) (l : Link) (a b : ℕ) : Type 0 where
  pub some : 0 < d
  pub from : rep links (d - 1) l.from.0 ≢ rep links (d - 1) l.to.0 → rep links (d - 1) a ≡ rep links (d - 1) l.from.0
      → rep links (d - 1) l.to.0 ≡ rep links (d - 1) b
  pub to : rep links (d - 1) a ≢ rep links (d - 1) l.from.0
      → (rep links (d - 1) a ≡ rep links (d - 1) l.to.0) × (rep links (d - 1) l.from.0 ≡ rep links (d - 1) b)

pub joins_at : (links : List Link) (d : ℕ) (l : Link) (a b x y : ℕ) → a ≢ b → rep links d a ≡ rep links d b
    → x ≡ rep links (d - 1) a → y ≡ rep links (d - 1) b → x ≢ y → slice_get links (d - 1) ≡ Some l
    → JoinsAt links d l a b
joins_at links d l a b x y ne same x_is y_is apart at =
    let cross = crosses_at links d l a b ne same (λ e. apart (x_is ∙ e ∙ sym y_is)) at in
    record {
      some = some_depth links d a b ne same;
      from = crosses_from (rep links (d - 1)) l a b cross;
      to = crosses_to (rep links (d - 1)) l a b cross;
    }

-- where a negated link is false, its terms have one class
not_false : (b : Bool) → not b ≡ false → b ≡ true
not_false true e = refl
not_false false e = cc

-- an interpretation that gives a link's terms in order one class gives its terms one
pub link_joins : (m : Interpretation) (l : Link) → m.class (min l.from.0 l.to.0) ≡ m.class (max l.from.0 l.to.0)
    → m.class l.from.0 ≡ m.class l.to.0
link_joins m l same =
    elim (cases_lt l.from.0 l.to.0) as (λ _. m.class l.from.0 ≡ m.class l.to.0) [
      | inl lt ↦
          let low : min l.from.0 l.to.0 ≡ l.from.0 = omega arith in
          let high : max l.from.0 l.to.0 ≡ l.to.0 = omega arith in
          ap m.class (sym low) ∙ same ∙ ap m.class high
      | inr ge ↦
          let low : min l.from.0 l.to.0 ≡ l.to.0 = omega arith in
          let high : max l.from.0 l.to.0 ≡ l.from.0 = omega arith in
          ap m.class (sym high) ∙ sym same ∙ ap m.class low
    ]

pub link_holds : (m : Interpretation) (l : Link) → IsLitFalse m (disequality_of l) → m.class l.from.0 ≡ m.class l.to.0
link_holds m l h = link_joins m l (eqb-true _ _ (not_false _ h))

-- a link between two explained steps: the second starts at the link's other end
explains_step : (links : List Link) (l : Link) (a b x y : Term) (before start mid after : List Lit) → Contains links l
    → ((m : Interpretation) → m.class l.from.0 ≡ m.class l.to.0 → m.class x.0 ≡ m.class y.0)
    → start ≡ before ++ disequality_of l ∷ [] → ExplainsMore links a x start mid → ExplainsMore links y b mid after
    → ExplainsMore links a b before after
explains_step links l a b x y before start mid after there turn pushed first second =
    let step : Lit = disequality_of l in
    record {
      added = step ∷ (first.added ++ second.added);
      more = second.more
          ∙ ap (λ (c : List Lit). c ++ second.added) (first.more ∙ ap (λ (c : List Lit). c ++ first.added) pushed)
          ∙ append_assoc (before ++ step ∷ []) first.added second.added
          ∙ append_assoc before (step ∷ []) (first.added ++ second.added);
      explains = record {
        negated = All-cons (IsLinkNegated links) step (first.added ++ second.added) (l, there, refl)
            (All-append (IsLinkNegated links) first.added second.added first.explains.negated second.explains.negated);
        joins = λ m all.
            let tail : All (IsLitFalse m) (first.added ++ second.added) =
            All-back (IsLitFalse m) (step ∷ []) (first.added ++ second.added) all in
            let head : IsLitFalse m step = all 0 step (omega arith) in
            first.explains.joins m (All-front (IsLitFalse m) first.added second.added tail)
            ∙ turn m (link_holds m l head)
            ∙ second.explains.joins m (All-back (IsLitFalse m) first.added second.added tail);
      };
    }

pub explains_from : (links : List Link) (d : ℕ) (l : Link) (a b : Term) (before start mid after : List Lit)
    → slice_get links d ≡ Some l
    → start ≡ before ++ disequality_of l ∷ [] → ExplainsMore links a l.from start mid
    → ExplainsMore links l.to b mid after → ExplainsMore links a b before after
explains_from links d l a b before start mid after at pushed first second =
    explains_step links l a b l.from l.to before start mid after (slice_get-contains links d l at)
    (λ m h. h) pushed first second

pub explains_to : (links : List Link) (d : ℕ) (l : Link) (a b : Term) (before start mid after : List Lit)
    → slice_get links d ≡ Some l
    → start ≡ before ++ disequality_of l ∷ [] → ExplainsMore links a l.to start mid
    → ExplainsMore links l.from b mid after → ExplainsMore links a b before after
explains_to links d l a b before start mid after at pushed first second =
    explains_step links l a b l.to l.from before start mid after (slice_get-contains links d l at)
    (λ m h. sym h) pushed first second

pub OnOk_then : {T E P Q : Type 0} (r : Result T E) → OnOk r P → (P → Q) → OnOk r Q
OnOk_then (Ok x) h f = f h
OnOk_then (Err e) h f = h
