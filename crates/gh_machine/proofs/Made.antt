-- A configuration stays one of its program.
use Rattle.std.specs.Prelude.{◌≡◌, ◌≢◌, ℕ, zero, suc, ◌<◌, List, [], ◌∷◌, ◌++◌, length, map, get_or, Bool, true, false}
use Rattle.std.specs.Prelude.{cond, IfOk, OnErr, Result, Ok, Err, AllPairs, Contains}
use Rattle.std.specs.declared.alloc.AllocError.{AllocError}
use Rattle.std.proofs.lemmas.List.{length-map, get_or-map}
use Rattle.std.proofs.Common.{refl, sym, ◌∙◌, ap, subst, inl, inr, arith}
use Rattle.gh_ast.specs.declared.Occ.{Occ}
use Rattle.gh_ast.specs.Plain.{Statement, set, new, write, free, call, if, while, return, Statements, no_statements}
use Rattle.gh_ast.specs.Plain.{statement_first, statements_view, Procedure, Program}
use Rattle.gh_ast.specs.Programs.{Name, variable_names, body_statements, joined, Assigns, SomeAssigns}
use Rattle.gh_ast.specs.Occurrences.{in_cond, in_assertion, in_expr, in_exprs, mentioned, assigned, called, sites_in}
use Rattle.gh_ast.specs.Occurrences.{all_sites_in}
use Rattle.gh_ast.specs.Rules.{IsTyped}
use Rattle.gh_ast.proofs.Lists.{member_first, member_later}
use Rattle.gh_ast.proofs.Declared.{is_member}
use Rattle.gh_ast.proofs.Sites.{site_in_body, occurrence_of}
use Rattle.gh_ast.proofs.TypedPrograms.{mention_is_variable}
use Rattle.gh_assert.specs.Heaps.{Heap}
use Rattle.gh_assert.specs.Meaning.{Store}
use Rattle.gh_machine.specs.Machine as machine
use Rattle.gh_machine.specs.Machine.{HandsBack, Pops, StepOn, Step}
use Rattle.gh_machine.specs.Fits.{AreAllDistinct, ConfigFits}
use Rattle.gh_machine.specs.Choices.{Follows}
use Rattle.gh_machine.specs.Configs.{AllAssignVariables, AllListVariables, IsMadeFor, IsNext, IsReturn, Misfits, chosen}
use Rattle.gh_machine.specs.Configs.{config_of}
use Rattle.gh_machine.specs.Turns.{AlwaysNext, IsPopped}
use Rattle.gh_machine.specs.declared.config.Config.{Config}
use Rattle.gh_machine.specs.declared.step.Choice.{Choice}
use Rattle.gh_machine.specs.declared.step.Next.{Next}
use Rattle.gh_machine.specs.declared.step.Next.TheVariants.{Moved, Ended, Fault, NotAChoice}
use Rattle.gh_machine.proofs.TypedFits.{Within, within_left, within_right, typed_fit}
use Rattle.gh_machine.proofs.Progress.{steps_fit}

-- distinct names, pair by pair
pub pairs_apart : (xs : List Name) → AreAllDistinct xs → AllPairs (λ x y. x ≢ y) xs
pairs_apart [] apart i j d before within same = absurd (omega (arith, within))
pairs_apart (x ∷ xs) apart i zero d before within same = absurd (omega (arith, before))
pairs_apart (x ∷ xs) apart zero (suc j) d before within same =
    apart.0 (subst (Contains xs) (sym same)
    (j, omega (arith, within), again xs j d (get_or xs j d) (omega (arith, within))))
  where
    again : (ys : List Name) (k : ℕ) (d e : Name) → k < length ys → get_or ys k e ≡ get_or ys k d
    again [] k d e w = absurd (omega (arith, w))
    again (y ∷ ys) zero d e w = refl
    again (y ∷ ys) (suc k) d e w = again ys k d e (omega (arith, w))
pairs_apart (x ∷ xs) apart (suc i) (suc j) d before within same =
    pairs_apart xs apart.1 i j d (omega (arith, before)) (omega (arith, within)) same

mention_of : (o : Occ) (os : List Occ) → Contains os o → Contains (map mentioned os) (mentioned o)
mention_of o os there = (
  there.0,
  omega (arith, there.1, length-map os mentioned),
  get_or-map mentioned os there.0 o (mentioned o) there.1 ∙ ap mentioned there.2,
)

in_front : (o : Occ) (os ps : List Occ) → Contains os o → Contains (os ++ ps) o
in_front o [] ps there = absurd (omega (arith, there.1))
in_front o (q ∷ os) ps (zero, within, same) = (zero, omega arith, same)
in_front o (q ∷ os) ps (suc k, within, same) =
    member_later q o (os ++ ps) (in_front o os ps (k, omega (arith, within), same))

mutual
  -- what a statement assigns is a variable
  known : (P : Program) → IsTyped P → (q : Procedure) → Contains P.procedures q → (inside : Bool) (s : Statement)
      → Within (sites_in inside s) q → (y : Name) → Assigns s y → Contains (variable_names q) y
  known P typed q here inside (set x e) all y is =
      subst (Contains (variable_names q)) (sym is)
      (mention_is_variable P typed q here x
      (all (mentioned x) (member_later (assigned (x ∷ [])) (mentioned x) (map mentioned (x ∷ in_expr e))
      (member_first (mentioned x) (map mentioned (in_expr e))))))
  known P typed q here inside (new x) all y is =
      subst (Contains (variable_names q)) (sym is)
      (mention_is_variable P typed q here x
      (all (mentioned x) (member_later (assigned (x ∷ [])) (mentioned x) (mentioned x ∷ [])
      (member_first (mentioned x) []))))
  known P typed q here inside (write x e) all y is = absurd is
  known P typed q here inside (free x) all y is = absurd is
  known P typed q here inside (call ts f es) all y is =
      let found = occurrence_of ts y is in
      let mention : Contains (map mentioned (ts ++ in_exprs es)) (mentioned found.0) =
      mention_of found.0 (ts ++ in_exprs es) (in_front found.0 ts (in_exprs es) found.1) in
      subst (Contains (variable_names q)) found.2
      (mention_is_variable P typed q here found.0
      (all (mentioned found.0)
      (member_later (assigned ts) (mentioned found.0) (called ts f es ∷ map mentioned (ts ++ in_exprs es))
      (member_later (called ts f es) (mentioned found.0) (map mentioned (ts ++ in_exprs es)) mention))))
  known P typed q here inside (if t a c b d) all y is =
      let front : Within (map mentioned (in_cond t) ++ all_sites_in inside a) q =
      within_left (map mentioned (in_cond t) ++ all_sites_in inside a) (all_sites_in inside b) q all in
      elim is [
        | inl first ↦ all_known P typed q here inside a
            (within_right (map mentioned (in_cond t)) (all_sites_in inside a) q front) y first
        | inr other ↦ all_known P typed q here inside b
            (within_right (map mentioned (in_cond t) ++ all_sites_in inside a) (all_sites_in inside b) q all) y other
      ]
  known P typed q here inside (while at t i body close) all y is =
      all_known P typed q here true body
      (within_right (map mentioned (in_cond t ++ in_assertion i)) (all_sites_in true body) q all) y is
  known P typed q here inside (return at es) all y is = absurd is

  all_known : (P : Program) → IsTyped P → (q : Procedure) → Contains P.procedures q → (inside : Bool) (ss : Statements)
      → Within (all_sites_in inside ss) q → (y : Name) → SomeAssigns ss y → Contains (variable_names q) y
  all_known P typed q here inside no_statements all y is = absurd is
  all_known P typed q here inside (statement_first s ss) all y is = elim is [
    | inl first ↦ known P typed q here inside s (within_left (sites_in inside s) (all_sites_in inside ss) q all) y first
    | inr more ↦ all_known P typed q here inside ss (within_right (sites_in inside s) (all_sites_in inside ss) q all) y
        more
  ]

pub body_known : (P : Program) → IsTyped P → (q : Procedure) → Contains P.procedures q → (y : Name)
    → SomeAssigns (body_statements q) y → Contains (variable_names q) y
body_known P typed q here y is =
    all_known P typed q here false (body_statements q) (λ x there. site_in_body q x there) y is

-- a name that blocks in a row assign is assigned by one of them
in_row : (a b : Statements) (y : Name) (C : Type 0) → (SomeAssigns a y → C) → (SomeAssigns b y → C)
    → SomeAssigns (joined a b) y → C
in_row no_statements b y C f g is = g is
in_row (statement_first s a) b y C f g is =
    elim is [ inl first ↦ f (inl first) | inr more ↦ in_row a b y C (λ more'. f (inr more')) g more ]

in_way : (way : Bool) (a b : Statements) (y : Name) (C : Type 0) → (SomeAssigns a y → C) → (SomeAssigns b y → C)
    → SomeAssigns (cond way a b) y → C
in_way true a b y C f g is = f is
in_way false a b y C f g is = g is

abbrev All : machine.Config → Type 0
All c = AllAssignVariables (c.top ∷ c.below)

answer_assigns : (rest : Statements) (a : machine.Activation) (below : List machine.Activation) (q : Procedure)
    (t : Store) (h : Heap) (d : machine.Config)
    → ((y : Name) → SomeAssigns rest y → Contains (variable_names a.procedure) y) → AllAssignVariables below
    → HandsBack rest a below q t h d → All d
answer_assigns (statement_first (call xs f es) rest) a below q t h d top more (u, gets, to) =
    subst All (sym to) (λ y is. top y (inr is), more)
answer_assigns rest a below q t h d top more w = absurd w

pop_assigns : (below : List machine.Activation) (q : Procedure) (t : Store) (h : Heap) (d : machine.Config)
    → AllAssignVariables below → Pops below q t h d → All d
pop_assigns [] q t h d all w = absurd w
pop_assigns (a ∷ below) q t h d all w = answer_assigns a.rest a below q t h d all.0 all.1 w

step_assigns : (P : Program) → IsTyped P → (rest : Statements) (c d : machine.Config) → c.top.rest ≡ rest
    → ((y : Name) → SomeAssigns rest y → Contains (variable_names c.top.procedure) y) → All c → StepOn P rest c d
    → All d
step_assigns P typed no_statements c d e top all st = pop_assigns c.below c.top.procedure c.top.store c.heap d all.1 st
step_assigns P typed (statement_first (set x v) rest) c d e top all st =
    subst All (sym st.4) (λ y is. top y (inr is), all.1)
step_assigns P typed (statement_first (new x) rest) c d e top all st =
    subst All (sym st.6) (λ y is. top y (inr is), all.1)
step_assigns P typed (statement_first (write x v) rest) c d e top all st =
    subst All (sym st.3) (λ y is. top y (inr is), all.1)
step_assigns P typed (statement_first (free x) rest) c d e top all st =
    subst All (sym st.1) (λ y is. top y (inr is), all.1)
step_assigns P typed (statement_first (call xs f es) rest) c d e top all st =
    subst All (sym st.6) (body_known P typed st.0 (is_member P.procedures f.name st.0 st.3), all)
step_assigns P typed (statement_first (if test a ca b cb) rest) c d e top all st =
    subst All (sym st.2) (
      λ y is. in_way st.0 (joined a rest) (joined b rest) y (Contains (variable_names c.top.procedure) y)
          (λ w. in_row a rest y (Contains (variable_names c.top.procedure) y) (λ v. top y (inl (inl v)))
          (λ v. top y (inr v)) w)
          (λ w. in_row b rest y (Contains (variable_names c.top.procedure) y) (λ v. top y (inl (inr v)))
          (λ v. top y (inr v)) w) is,
      all.1,
    )
step_assigns P typed (statement_first (while at test inv body close) rest) c d e top all st =
    subst All (sym st.2) (
      λ y is. in_way st.0 (joined body (statement_first (while at test inv body close) rest)) rest y
          (Contains (variable_names c.top.procedure) y)
          (λ w. in_row body (statement_first (while at test inv body close) rest) y
          (Contains (variable_names c.top.procedure) y) (λ v. top y (inl v)) (λ v. top y v) w) (λ v. top y (inr v))
          is,
      all.1,
    )
step_assigns P typed (statement_first (return at es) rest) c d e top all st = elim st.4 [
  | inl (alone, to) ↦ subst All (sym to) (λ y is. absurd is, all.1)
  | inr pops ↦ pop_assigns c.below c.top.procedure st.1 c.heap d all.1 pops
]

pub made_same : (P : Program) (c d : Config) → IsMadeFor P c → config_of d ≡ config_of c → AllListVariables d
    → IsMadeFor P d
made_same P c d made same lists =
    record {
      typed = made.typed;
      fits = subst (ConfigFits P) (sym same) made.fits;
      assigns = subst All (sym same) made.assigns;
      lists = lists;
    }

pub made_step : (P : Program) (c d : Config) → IsMadeFor P c → Step P (config_of c) (config_of d) → AllListVariables d
    → IsMadeFor P d
made_step P c d made st lists = record {
  typed = made.typed;
  fits = steps_fit P (typed_fit P made.typed) (config_of c) (config_of d) made.fits st;
  assigns =
      step_assigns P made.typed (config_of c).top.rest (config_of c) (config_of d) refl made.assigns.0 made.assigns st;
  lists = lists;
}

pub made_next : (P : Program) (ch : Choice) (n : Next) (c d : Config) → IsMadeFor P c
    → IsNext P ch n (config_of c) (config_of d) → AllListVariables d → IsMadeFor P d
made_next P ch Moved c d made is lists = made_step P c d made is.0.0 lists
made_next P ch Ended c d made is lists =
    elim is [ inl (e, same) ↦ made_same P c d made same lists | inr (e, st) ↦ made_step P c d made st lists ]
made_next P ch Fault c d made is lists = made_same P c d made is.1 lists
made_next P ch NotAChoice c d made is lists = made_same P c d made is.2 lists

pub made_result : (P : Program) (ch : Choice) (r : Result Next AllocError) (c d : Config) → IsMadeFor P c
    → IfOk r (λ n. IsNext P ch n (config_of c) (config_of d)) → OnErr r (config_of d ≡ config_of c) → AllListVariables d
    → IsMadeFor P d
made_result P ch (Ok n) c d made is same lists = made_next P ch n c d made is lists
made_result P ch (Err e) c d made is same lists = made_same P c d made same lists

pub made_each : (P : Program) (ch : Choice) (r : Result Next AllocError) (c d : Config) → IsMadeFor P c
    → IfOk r (λ n. (Q : Program) → IsNext Q ch n (config_of c) (config_of d)) → OnErr r (config_of d ≡ config_of c)
    → AllListVariables d → IsMadeFor P d
made_each P ch (Ok n) c d made is same lists = made_next P ch n c d made (is P) lists
made_each P ch (Err e) c d made is same lists = made_same P c d made same lists

pub made_always : (P : Program) (ch : Choice) (r : Result Next AllocError) (c d : Config) → IsMadeFor P c
    → IfOk r (λ n. AlwaysNext n (config_of c) (config_of d)) → OnErr r (config_of d ≡ config_of c) → AllListVariables d
    → IsMadeFor P d
made_always P ch (Ok n) c d made is same lists = made_next P ch n c d made (is P ch) lists
made_always P ch (Err e) c d made is same lists = made_same P c d made same lists

pub made_popped : (P : Program) (n : Next) (c d : Config) → IsMadeFor P c → c.top.rest ≡ []
    → IsPopped n (config_of c) (config_of d) → AllListVariables d → IsMadeFor P d
made_popped P Moved c d made empty is lists =
    made_step P c d made (subst (λ r. StepOn P (statements_view r) (config_of c) (config_of d)) (sym empty) is) lists
made_popped P Ended c d made empty is lists = made_same P c d made is.1 lists
made_popped P Fault c d made empty is lists = absurd is
made_popped P NotAChoice c d made empty is lists = absurd is

pub popped_next : (P : Program) (ch : Choice) (n : Next) (c d : Config) → c.top.rest ≡ []
    → IsPopped n (config_of c) (config_of d) → IsNext P ch n (config_of c) (config_of d)
popped_next P ch Moved c d empty is = (
  (
    subst (λ r. StepOn P (statements_view r) (config_of c) (config_of d)) (sym empty) is,
    subst (λ r. Follows (chosen ch (config_of d).top.procedure) (statements_view r) (config_of c) (config_of d))
        (sym empty) tt,
  ),
  λ last. subst (λ r. IsReturn (statements_view r)) empty last.1,
  λ m. subst (λ r. Misfits P ch (statements_view r) c.heap) empty m,
)
popped_next P ch Ended c d empty is = inl ((ap statements_view empty, is.0), is.1)
popped_next P ch Fault c d empty is = absurd is
popped_next P ch NotAChoice c d empty is = absurd is
