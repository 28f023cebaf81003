-- A run goes on until it ends or faults.
use Rattle.std.specs.Prelude.{◌≡◌, ◌≢◌, ◌⊎◌, ℕ, suc, ◌+◌, ◌<◌, List, [], ◌∷◌, map, length, Bool, true, false, cond}
use Rattle.std.specs.Prelude.{Some, None, Contains}
use Rattle.std.specs.Ordering.{nat_cmp}
use Rattle.std.specs.Str.{bytes_eq}
use Rattle.std.specs.FinMap.{get, entries, find, get-entries, insert, remove}
use Rattle.std.proofs.lemmas.Bool.{cases_Bool}
use Rattle.std.proofs.lemmas.Slice.Eq.{bytes_eq-Decides}
use Rattle.std.proofs.Common.{refl, sym, ◌∙◌, ap, subst, inl, inr, arith}
use Rattle.gh_ast.specs.declared.Occ.{Occ}
use Rattle.gh_ast.specs.declared.Expr.{Expr}
use Rattle.gh_ast.specs.Plain.{set, new, write, free, call, if, while, return, Statements, no_statements}
use Rattle.gh_ast.specs.Plain.{statement_first, Procedure, Program}
use Rattle.gh_assert.specs.Heaps.{Heap}
use Rattle.gh_assert.specs.Meaning.{Store}
use Rattle.gh_assert.proofs.Unique.{apart}
use Rattle.gh_assert.specs.Values.{result, Give, outcome, Gets}
use Rattle.gh_ast.specs.Programs.{Name, names, parameters_of, results_of, joined}
use Rattle.gh_machine.specs.Machine.{Activation, Config, starting, continuing, HandsBack, Pops, StepOn, FaultOn}
use Rattle.gh_machine.specs.Fits.{AreAllDistinct, AllFit, ProgramFits, Awaits, StackFits, ConfigFits}
use Rattle.gh_machine.specs.Laws.{StepsFit, RunsGoOn}
use Rattle.gh_ast.proofs.Lists.{member_first, member_later}
use Rattle.gh_ast.proofs.Declared.{is_member}
use Rattle.gh_machine.proofs.Framed.{there_is, all_there}

-- a store with one other value
abbrev with_value : Store → Name → ℕ → Store
with_value s x v = λ y. cond (bytes_eq y x) v (s y)

value_there : (s : Store) (x : Name) (v : ℕ) → with_value s x v x ≡ v
value_there s x v = ap (λ b. cond b v (s x)) ((bytes_eq-Decides x x).1 refl)

value_beside : (s : Store) (x : Name) (v : ℕ) (y : Name) → (y ≡ x → ⊥) → with_value s x v y ≡ s y
value_beside s x v y away = elim (cases_Bool (bytes_eq y x)) [
  | inl same ↦ absurd (away ((bytes_eq-Decides y x).0 same))
  | inr other ↦ ap (λ b. cond b v (s y)) other
]

maps_beside : (s : Store) (x : Name) (v : ℕ) (ys : List Name) → (Contains ys x → ⊥)
    → map (with_value s x v) ys ≡ map s ys
maps_beside s x v [] out = refl
maps_beside s x v (y ∷ ys) out =
    ap (λ w. w ∷ map (with_value s x v) ys)
    (value_beside s x v y (λ e. out (subst (Contains (y ∷ ys)) e (member_first y ys)))) ∙
    ap (λ ws. s y ∷ ws) (maps_beside s x v ys (λ i. out (member_later y x ys i)))

-- distinct names can get values together
pub some_gets : (s : Store) (xs : List Name) (vs : List ℕ) → AreAllDistinct xs → length xs ≡ length vs
    → (t : Store) × Gets s xs vs t
some_gets s [] [] d e = (s, record { given = refl; kept = λ y n. refl })
some_gets s [] (v ∷ vs) d e = absurd (omega (arith, e))
some_gets s (x ∷ xs) [] d e = absurd (omega (arith, e))
some_gets s (x ∷ xs) (v ∷ vs) d e =
    let rest = some_gets s xs vs d.1 (omega (arith, e)) in (
      with_value rest.0 x v,
      record {
        given =
            ap (λ w. w ∷ map (with_value rest.0 x v) xs) (value_there rest.0 x v)
            ∙ ap (λ ws. v ∷ ws) (maps_beside rest.0 x v xs d.0 ∙ rest.1.given);
        kept = λ y out. value_beside rest.0 x v y
            (λ same. out (subst (Contains (x ∷ xs)) (sym same) (member_first x xs)))
            ∙ rest.1.kept y (λ i. out (member_later x y xs i));
      },
    )

one_name : (x : Name) → AreAllDistinct (x ∷ [])
one_name x = (λ i. absurd (omega (arith, i.1)), tt)

pub same_length : (s : Store) (h : Heap) (es : List Expr) (vs : List ℕ) → Give s h es vs → length es ≡ length vs
same_length s h [] [] g = refl
same_length s h [] (v ∷ vs) g = absurd cc
same_length s h (e ∷ es) [] g = absurd cc
same_length s h (e ∷ es) (v ∷ vs) g = let more : Give s h es vs = cc in ap suc (same_length s h es vs more)

named_length : (xs : List Occ) → length (names xs) ≡ length xs
named_length [] = refl
named_length (x ∷ xs) = ap suc (named_length xs)

mapped_length : (t : Store) (xs : List Name) → length (map t xs) ≡ length xs
mapped_length t [] = refl
mapped_length t (x ∷ xs) = ap suc (mapped_length t xs)

-- a place above all places is free
total : List (ℕ × ℕ) → ℕ
total [] = 0
total (d ∷ es) = d.0 + total es

above : (es : List (ℕ × ℕ)) (l : ℕ) → total es < l → find nat_cmp l es ≡ None
unfolding total
above [] l w = refl
above (d ∷ es) l w =
    ap (λ b. cond b (Some d.1) (find nat_cmp l es)) (apart l d.0 (λ e. omega (arith, e, w)))
    ∙ above es l (omega (arith, w))

pub free_place : (h : Heap) → (l : ℕ) × (l ≢ 0) × (get h l ≡ None)
free_place h = (
  suc (total (entries h)),
  (λ e. omega (arith, e)),
  get-entries h (suc (total (entries h))) ∙ above (entries h) (suc (total (entries h))) (omega arith),
)

answered : (P : Program) (rest : Statements) (a : Activation) (below : List Activation) (q : Procedure) (t : Store)
    (h : Heap) → AllFit P a.procedure rest → Awaits rest q → (d : Config) × HandsBack rest a below q t h d
answered P (statement_first (call xs f es) rest) a below q t h fit wait =
    let u =
    some_gets a.store (names xs) (map t (results_of q)) fit.0.2
    (named_length xs ∙ wait ∙ sym (mapped_length t (results_of q))) in (
      record { heap = h; top = record { procedure = a.procedure; store = u.0; rest = rest }; below = below },
      (u.0, u.1, refl),
    )
answered P rest a below q t h fit wait = absurd wait

popped : (P : Program) (below : List Activation) (q : Procedure) (t : Store) (h : Heap) → StackFits P q below
    → (below ≡ []) ⊎ ((d : Config) × Pops below q t h d)
popped P [] q t h fit = inl refl
popped P (a ∷ below) q t h fit = inr (answered P a.rest a below q t h fit.1 fit.2)

goes_on : (P : Program) → ProgramFits P → (rest : Statements) (c : Config) → Contains P.procedures c.top.procedure
    → AllFit P c.top.procedure rest → StackFits P c.top.procedure c.below → (FaultOn rest c.top.store c.heap → ⊥)
    → ((rest ≡ no_statements) × (c.below ≡ []) → ⊥) → (d : Config) × StepOn P rest c d
goes_on P all no_statements c is fit stack sound open' =
    elim (popped P c.below c.top.procedure c.top.store c.heap stack)
    [ inl none ↦ absurd (open' (refl, none)) | inr some ↦ some ]
goes_on P all (statement_first (set x e) rest) c is fit stack sound open' =
    let v = there_is (result c.top.store c.heap e) sound in
    let t = some_gets c.top.store (x.name ∷ []) (v.0 ∷ []) (one_name x.name) refl in
    (continuing c t.0 c.heap rest, (v.0, t.0, v.1, t.1, refl))
goes_on P all (statement_first (new x) rest) c is fit stack sound open' =
    let l = free_place c.heap in
    let t = some_gets c.top.store (x.name ∷ []) (l.0 ∷ []) (one_name x.name) refl in
    (continuing c t.0 (insert c.heap l.0 0) rest, (l.0, 0, t.0, l.1, l.2, t.1, refl))
goes_on P all (statement_first (write x e) rest) c is fit stack sound open' =
    let v = there_is (result c.top.store c.heap e) (λ none. sound (inl none)) in
    let at = there_is (get c.heap (c.top.store x.name)) (λ none. sound (inr none)) in
    (continuing c c.top.store (insert c.heap (c.top.store x.name) v.0) rest, (v.0, v.1, at, refl))
goes_on P all (statement_first (free x) rest) c is fit stack sound open' =
    let at = there_is (get c.heap (c.top.store x.name)) sound in
    (continuing c c.top.store (remove c.heap (c.top.store x.name)) rest, (at, refl))
goes_on P all (statement_first (call xs f es) rest) c is fit stack sound open' =
    let q = fit.0.0.0 in
    let decl = fit.0.0.1 in
    let vs = all_there c.top.store c.heap es sound in
    let many : length (parameters_of q) ≡ length vs.0 =
    sym ((fit.0.1 q decl).0) ∙ same_length c.top.store c.heap es vs.0 vs.1 in
    let t =
    some_gets c.top.store (parameters_of q) vs.0 (all q (is_member P.procedures f.name q decl)).parameters many in
    (starting q t.0 c.heap (c.top ∷ c.below), (q, vs.0, t.0, decl, vs.1, t.1.given, refl))
goes_on P all (statement_first (if test r1 c1 r2 c2) rest) c is fit stack sound open' =
    let way = there_is (outcome c.top.store c.heap test) sound in
    (continuing c c.top.store c.heap (cond way.0 (joined r1 rest) (joined r2 rest)), (way.0, way.1, refl))
goes_on P all (statement_first (while at test inv body close) rest) c is fit stack sound open' =
    let way = there_is (outcome c.top.store c.heap test) sound in (
      continuing c c.top.store c.heap
          (cond way.0 (joined body (statement_first (while at test inv body close) rest)) rest),
      (way.0, way.1, refl),
    )
goes_on P all (statement_first (return at es) rest) c is fit stack sound open' =
    let vs = all_there c.top.store c.heap es sound in
    let many : length (results_of c.top.procedure) ≡ length vs.0 =
    sym fit.0 ∙ same_length c.top.store c.heap es vs.0 vs.1 in
    let t = some_gets c.top.store (results_of c.top.procedure) vs.0 (all c.top.procedure is).results many in
    elim (popped P c.below c.top.procedure t.0 c.heap stack) [
      | inl none ↦ (continuing c t.0 c.heap no_statements, (vs.0, t.0, vs.1, t.1, inl (none, refl)))
      | inr some ↦ (some.0, (vs.0, t.0, vs.1, t.1, inr some.1))
    ]

pub runs_go_on : RunsGoOn
runs_go_on P all c fits sound unended = goes_on P all c.top.rest c fits.0 fits.1 fits.2 sound unended

joined_fit : (P : Program) (proc : Procedure) (a b : Statements) → AllFit P proc a → AllFit P proc b
    → AllFit P proc (joined a b)
joined_fit P proc no_statements b f g = g
joined_fit P proc (statement_first s a) b f g = (f.0, joined_fit P proc a b f.1 g)

way_fits : (P : Program) (proc : Procedure) (way : Bool) (a b : Statements) → AllFit P proc a → AllFit P proc b
    → AllFit P proc (cond way a b)
way_fits P proc true a b f g = f
way_fits P proc false a b f g = g

answer_fits : (P : Program) (rest : Statements) (a : Activation) (below : List Activation) (q : Procedure) (t : Store)
    (h : Heap) (d : Config) → Contains P.procedures a.procedure → AllFit P a.procedure rest
    → StackFits P a.procedure below → HandsBack rest a below q t h d → ConfigFits P d
answer_fits P (statement_first (call xs f es) rest) a below q t h d is fit stack (u, gets, to) =
    subst (ConfigFits P) (sym to) (is, fit.1, stack)
answer_fits P rest a below q t h d is fit stack w = absurd w

pop_fits : (P : Program) (below : List Activation) (q : Procedure) (t : Store) (h : Heap) (d : Config)
    → StackFits P q below → Pops below q t h d → ConfigFits P d
pop_fits P [] q t h d stack w = absurd w
pop_fits P (a ∷ below) q t h d stack w = answer_fits P a.rest a below q t h d stack.0 stack.1 stack.3 w

step_fits : (P : Program) → ProgramFits P → (rest : Statements) (c d : Config) → c.top.rest ≡ rest
    → Contains P.procedures c.top.procedure → AllFit P c.top.procedure rest → StackFits P c.top.procedure c.below
    → StepOn P rest c d → ConfigFits P d
step_fits P all no_statements c d e is fit stack st = pop_fits P c.below c.top.procedure c.top.store c.heap d stack st
step_fits P all (statement_first (set x v) rest) c d e is fit stack st =
    subst (ConfigFits P) (sym st.4) (is, fit.1, stack)
step_fits P all (statement_first (new x) rest) c d e is fit stack st =
    subst (ConfigFits P) (sym st.6) (is, fit.1, stack)
step_fits P all (statement_first (write x v) rest) c d e is fit stack st =
    subst (ConfigFits P) (sym st.3) (is, fit.1, stack)
step_fits P all (statement_first (free x) rest) c d e is fit stack st =
    subst (ConfigFits P) (sym st.1) (is, fit.1, stack)
step_fits P all (statement_first (call xs f es) rest) c d e is fit stack st =
    let waits : Awaits (statement_first (call xs f es) rest) st.0 = (fit.0.1 st.0 st.3).1 in
    subst (ConfigFits P) (sym st.6) (
      is_member P.procedures f.name st.0 st.3,
      (all st.0 (is_member P.procedures f.name st.0 st.3)).body,
      (is, subst (AllFit P c.top.procedure) (sym e) fit, subst (λ r. Awaits r st.0) (sym e) waits, stack),
    )
step_fits P all (statement_first (if test r1 c1 r2 c2) rest) c d e is fit stack st =
    subst (ConfigFits P) (sym st.2) (
      is,
      way_fits P c.top.procedure st.0 (joined r1 rest) (joined r2 rest)
          (joined_fit P c.top.procedure r1 rest fit.0.0 fit.1) (joined_fit P c.top.procedure r2 rest fit.0.1 fit.1),
      stack,
    )
step_fits P all (statement_first (while at test inv body close) rest) c d e is fit stack st =
    subst (ConfigFits P) (sym st.2) (
      is,
      way_fits P c.top.procedure st.0 (joined body (statement_first (while at test inv body close) rest)) rest
          (joined_fit P c.top.procedure body (statement_first (while at test inv body close) rest) fit.0 fit) fit.1,
      stack,
    )
step_fits P all (statement_first (return at es) rest) c d e is fit stack st = elim st.4 [
  | inl (alone, to) ↦ subst (ConfigFits P) (sym to) (is, tt, stack)
  | inr pops ↦ pop_fits P c.below c.top.procedure st.1 c.heap d stack pops
]

pub steps_fit : StepsFit
steps_fit P all c d fits st = step_fits P all c.top.rest c d refl fits.0 fits.1 fits.2 st
