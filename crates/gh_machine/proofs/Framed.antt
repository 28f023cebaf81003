-- A step beside a frame is a step of the part alone, with the frame carried.
use Rattle.std.specs.Prelude.{◌≡◌, ℕ, List, [], ◌∷◌, map, Option, Some, None}
use Rattle.std.specs.FinMap.{get, insert, remove}
use Rattle.std.proofs.Common.{refl, sym, ◌∙◌, ap, subst, inl, inr}
use Rattle.gh_ast.specs.declared.Expr.{Expr}
use Rattle.gh_ast.specs.Plain.{set, new, write, free, call, if, while, return, Statements, no_statements}
use Rattle.gh_ast.specs.Plain.{statement_first, Procedure, Program}
use Rattle.gh_assert.specs.Heaps.{Heap, Splits}
use Rattle.gh_assert.specs.Meaning.{Store}
use Rattle.gh_assert.specs.Values.{result, Give, outcome, HasUnread}
use Rattle.gh_machine.specs.Machine.{Activation, Config, HandsBack, Pops, StepOn, FaultOn}
use Rattle.gh_machine.specs.Framed.{holding}
use Rattle.gh_machine.specs.Laws.{StepsKeepFrames}
use Rattle.gh_ast.proofs.Lists.{same_values, cons_both, one_value}
use Rattle.gh_assert.proofs.Frames.{in_neither, not_in_frame, put_beside, remove_beside, reads_whole, gives_whole}
use Rattle.gh_assert.proofs.Frames.{outcome_whole}
use Rattle.gh_assert.proofs.Given.{unread_first, unread_later}

pub there_is : {A : Type 0} (o : Option A) → (o ≡ None → ⊥) → (v : A) × (o ≡ Some v)
there_is None f = absurd (f refl)
there_is (Some v) f = (v, refl)

pub all_there : (s : Store) (a : Heap) (es : List Expr) → (HasUnread s a es → ⊥) → (vs : List ℕ) × Give s a es vs
all_there s a [] f = ([], refl)
all_there s a (e ∷ es) f =
    let first = there_is (result s a e) (λ none. f (unread_first s a e es none)) in
    let others = all_there s a es (λ unread. f (unread_later s a e es unread)) in
    (first.0 ∷ others.0, cons_both (result s a e) first.0 (map (result s a) es) others.0 first.1 others.1)

answers_framed : (rest : Statements) (b : Activation) (bs : List Activation) (p : Procedure) (t : Store) (h a F : Heap)
    (d : Config) → Splits h a F → HandsBack rest b bs p t h d
    → Splits d.heap a F × HandsBack rest b bs p t a (holding d a)
answers_framed (statement_first (call xs f es) rest) b bs p t h a F d split (u, gets, to) =
    (subst (λ z. Splits z.heap a F) (sym to) split, (u, gets, ap (λ z. holding z a) to))
answers_framed rest b bs p t h a F d split w = absurd w

pops_framed : (bs : List Activation) (p : Procedure) (t : Store) (h a F : Heap) (d : Config) → Splits h a F
    → Pops bs p t h d → Splits d.heap a F × Pops bs p t a (holding d a)
pops_framed [] p t h a F d split w = absurd w
pops_framed (b ∷ bs) p t h a F d split w = answers_framed b.rest b bs p t h a F d split w

-- the part takes the step to the heap k
abbrev Carried : Program → Statements → Config → Config → Heap → Heap → Type 0
Carried P rest c d a F = (k : Heap) × Splits d.heap k F × StepOn P rest (holding c a) (holding d k)

framed : (P : Program) (rest : Statements) (c d : Config) (a F : Heap) → Splits c.heap a F
    → (FaultOn rest c.top.store a → ⊥) → StepOn P rest c d → Carried P rest c d a F
framed P no_statements c d a F split sound st =
    let w = pops_framed c.below c.top.procedure c.top.store c.heap a F d split st in (a, w.0, w.1)
framed P (statement_first (set x e) rest) c d a F split sound (v, t, reads, gets, to) =
    let here = there_is (result c.top.store a e) sound in
    let same : here.0 ≡ v =
    one_value (result c.top.store c.heap e) here.0 v (reads_whole c.top.store c.heap a F split e here.0 here.1)
    reads in
    (a, subst (λ z. Splits z.heap a F) (sym to) split, (v, t, here.1 ∙ ap Some same, gets, ap (λ z. holding z a) to))
framed P (statement_first (new x) rest) c d a F split sound (l, v, t, some, out, gets, to) =
    let both = in_neither c.heap a F split l out in (
      insert a l v,
      subst (λ z. Splits z.heap (insert a l v) F) (sym to) (put_beside c.heap a F l v split both.1),
      (l, v, t, some, both.0, gets, ap (λ z. holding z (insert a l v)) to),
    )
framed P (statement_first (write x e) rest) c d a F split sound (v, reads, there, to) =
    let here = there_is (result c.top.store a e) (λ none. sound (inl none)) in
    let at = there_is (get a (c.top.store x.name)) (λ none. sound (inr none)) in
    let same : here.0 ≡ v =
    one_value (result c.top.store c.heap e) here.0 v (reads_whole c.top.store c.heap a F split e here.0 here.1)
    reads in
    let k = insert a (c.top.store x.name) v in (
      k,
      subst (λ z. Splits z.heap k F) (sym to)
          (put_beside c.heap a F (c.top.store x.name) v split (not_in_frame c.heap a F split (c.top.store x.name) at)),
      (v, here.1 ∙ ap Some same, at, ap (λ z. holding z k) to),
    )
framed P (statement_first (free x) rest) c d a F split sound (there, to) =
    let at = there_is (get a (c.top.store x.name)) sound in
    let k = remove a (c.top.store x.name) in (
      k,
      subst (λ z. Splits z.heap k F) (sym to)
          (remove_beside c.heap a F (c.top.store x.name) split (not_in_frame c.heap a F split (c.top.store x.name) at)),
      (at, ap (λ z. holding z k) to),
    )
framed P (statement_first (call xs f es) rest) c d a F split sound (proc, vs, t, decl, gives, params, to) =
    let here = all_there c.top.store a es sound in
    let same : here.0 ≡ vs =
    same_values here.0 vs (sym (gives_whole c.top.store c.heap a F split es here.0 here.1) ∙ gives) in (
      a,
      subst (λ z. Splits z.heap a F) (sym to) split,
      (proc, vs, t, decl, subst (Give c.top.store a es) same here.1, params, ap (λ z. holding z a) to),
    )
framed P (statement_first (if test r1 c1 r2 c2) rest) c d a F split sound (way, gives, to) =
    let here = there_is (outcome c.top.store a test) sound in
    let same : here.0 ≡ way =
    one_value (outcome c.top.store c.heap test) here.0 way
    (outcome_whole c.top.store c.heap a F split test here.0 here.1) gives in
    (a, subst (λ z. Splits z.heap a F) (sym to) split, (way, here.1 ∙ ap Some same, ap (λ z. holding z a) to))
framed P (statement_first (while at test inv body close) rest) c d a F split sound (way, gives, to) =
    let here = there_is (outcome c.top.store a test) sound in
    let same : here.0 ≡ way =
    one_value (outcome c.top.store c.heap test) here.0 way
    (outcome_whole c.top.store c.heap a F split test here.0 here.1) gives in
    (a, subst (λ z. Splits z.heap a F) (sym to) split, (way, here.1 ∙ ap Some same, ap (λ z. holding z a) to))
framed P (statement_first (return at es) rest) c d a F split sound (vs, t, gives, gets, ends) =
    let here = all_there c.top.store a es sound in
    let same : here.0 ≡ vs =
    same_values here.0 vs (sym (gives_whole c.top.store c.heap a F split es here.0 here.1) ∙ gives) in
    let local : Give c.top.store a es vs = subst (Give c.top.store a es) same here.1 in
    elim ends [
      | inl (alone, to) ↦ (
        a,
        subst (λ z. Splits z.heap a F) (sym to) split,
        (vs, t, local, gets, inl (alone, ap (λ z. holding z a) to)),
      )
      | inr pops ↦ let w = pops_framed c.below c.top.procedure t c.heap a F d split pops in
          (a, w.0, (vs, t, local, gets, inr w.1))
    ]

pub steps_keep_frames : StepsKeepFrames
steps_keep_frames P c d a F split sound st = framed P c.top.rest c d a F split sound st
