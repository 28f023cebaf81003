-- The turns of statements, over configurations as they are kept.
use Rattle.std.specs.Prelude.{◌≡◌, ◌≢◌, ℕ, zero, suc, ◌+◌, ◌<◌, List, [], ◌∷◌, ◌++◌, length, map, reverse, drop, get_or}
use Rattle.std.specs.Prelude.{Bool, true, false, cond, Option, Some, None, is_some, Vec, All, AllPairs, Contains}
use Rattle.std.specs.FinMap.{get, insert, remove}
use Rattle.std.specs.declared.alloc.Global.{Global}
use Rattle.std.proofs.lemmas.List.{reverse-append, length-append, length-map, get_or-map, get_or_append_left}
use Rattle.std.proofs.Math.Seq.{get_or-append_seam}
use Rattle.std.proofs.lemmas.List.Elements.{All-append, Contains-append_left, Contains-append_right}
use Rattle.std.proofs.Common.{refl, sym, ◌∙◌, ap, subst, inl, inr, arith}
use Rattle.gh_ast.specs.declared.Occ.{Occ}
use Rattle.gh_ast.specs.declared.Expr.{Expr}
use Rattle.gh_ast.specs.declared.Stmt.{Stmt}
use Rattle.gh_ast.specs.declared.Procedure as whole
use Rattle.gh_ast.specs.declared.Program.{Program as Whole}
use Rattle.gh_ast.specs.Plain.{set, new, write, free, call, if, while, Statement, Statements, statement_first}
use Rattle.gh_ast.specs.Plain.{statements_view, Cond, Block, statement_of, Procedure, Program, procedure_of, program_of}
use Rattle.gh_ast.specs.Programs.{Name, names, parameters_of, results_of, variable_names, body_statements, joined}
use Rattle.gh_ast.specs.Programs.{Declares, Assigns, SomeAssigns}
use Rattle.gh_ast.specs.Occurrences.{locals_of}
use Rattle.gh_ast.specs.Rules.{IsTyped}
use Rattle.gh_ast.proofs.Declared.{is_member, is_one}
use Rattle.gh_ast.proofs.TypedPrograms.{variables_split}
use Rattle.gh_assert.specs.Heaps.{Heap}
use Rattle.gh_assert.specs.Stores.{store_of, listed_names, IsSet}
use Rattle.gh_assert.specs.Values.{result, outcome, Give}
use Rattle.gh_assert.specs.declared.store.Entry.{Entry}
use Rattle.gh_machine.specs.Machine.{continuing, FaultOn}
use Rattle.gh_machine.specs.Fits.{Fits, AllFit, Awaits, StackFits}
use Rattle.gh_machine.specs.Configs.{activation_of, config_of, beginning, starts_of, IsMadeFor, IsNext, Misfits}
use Rattle.gh_machine.specs.Configs.{ListsVariables, AssignsVariables, AllAssignVariables}
use Rattle.gh_machine.specs.Turns.{ComesFirst, CallComes, IfComes, WhileComes, Calls, AlwaysNext}
use Rattle.gh_machine.specs.declared.config.Activation.{Activation}
use Rattle.gh_machine.specs.declared.config.Config.{Config}
use Rattle.gh_machine.specs.declared.step.Choice.{Choice}
use Rattle.gh_machine.specs.declared.step.Next.TheVariants.{Moved, NotAChoice}
use Rattle.gh_machine.proofs.Stepping.{moves, joined_view}
use Rattle.gh_machine.proofs.Begun.{set_gets, names_beside, arguments_given, starts_chosen}
use Rattle.gh_assert.proofs.Given.{not_given}
use Rattle.gh_machine.proofs.Progress.{same_length}
use Rattle.gh_machine.proofs.TypedFits.{typed_fit}
use Rattle.gh_machine.proofs.Made.{pairs_apart, body_known}

-- the top activation goes on
abbrev pub going : Config → Heap → List Entry → List Stmt → Config
going c h es r = record {
  heap = h;
  top = record { procedure = c.top.procedure; store = es; rest = r };
  below = c.below;
}

goes : (c : Config) (h k : Heap) (es : List Entry) (r : List Stmt) (ss : Statements) → h ≡ k → statements_view r ≡ ss
    → config_of (going c h es r) ≡ continuing (config_of c) (store_of es) k ss
goes c h k es r ss same left =
    ap (λ x. config_of (going c x es r)) same ∙ ap (continuing (config_of c) (store_of es) k) left

some_there : (o : Option ℕ) → is_some o ≡ true → (v : ℕ) × (o ≡ Some v)
some_there None is = absurd cc
some_there (Some v) is = (v, refl)

pub set_moves : (c : Config) (x : Occ) (e : Expr) (es : List Entry) (r : List Stmt) (v : ℕ) → ComesFirst (set x e) c
    → Some v ≡ result (store_of c.top.store) c.heap e → IsSet c.top.store es x.name v → r ≡ drop 1 c.top.rest
    → AlwaysNext Moved (config_of c) (config_of (going c c.heap es r))
set_moves c x e es r v comes reads is left P ch =
    moves P ch (config_of c) (config_of (going c c.heap es r))
    (statement_first (set x e) (statements_view (drop 1 c.top.rest))) comes (
      v,
      store_of es,
      sym reads,
      set_gets c.top.store es x.name v is,
      goes c c.heap c.heap es r (statements_view (drop 1 c.top.rest)) refl (ap statements_view left),
    ) tt (λ b. b)
    (λ b. b)

pub new_moves : (c : Config) (x : Occ) (ch : Choice) (h : Heap) (es : List Entry) (r : List Stmt) → ComesFirst (new x) c
    → ch.location ≢ 0 → get c.heap ch.location ≡ None → h ≡ insert c.heap ch.location ch.content
    → IsSet c.top.store es x.name ch.location → r ≡ drop 1 c.top.rest
    → (P : Program) → IsNext P ch Moved (config_of c) (config_of (going c h es r))
new_moves c x ch h es r comes some out put is left P =
    moves P ch (config_of c) (config_of (going c h es r))
    (statement_first (new x) (statements_view (drop 1 c.top.rest))) comes (
      ch.location,
      ch.content,
      store_of es,
      some,
      out,
      set_gets c.top.store es x.name ch.location is,
      goes c h (insert c.heap ch.location ch.content) es r (statements_view (drop 1 c.top.rest)) put
          (ap statements_view left),
    ) put (λ b. b)
    (λ m. elim m [ inl null ↦ some null | inr there ↦ there out ])

pub write_moves : (c : Config) (x : Occ) (e : Expr) (h : Heap) (r : List Stmt) (v at : ℕ) → ComesFirst (write x e) c
    → Some v ≡ result (store_of c.top.store) c.heap e → at ≡ store_of c.top.store x.name
    → is_some (get c.heap at) ≡ true → h ≡ insert c.heap at v → r ≡ drop 1 c.top.rest
    → AlwaysNext Moved (config_of c) (config_of (going c h c.top.store r))
write_moves c x e h r v at comes reads place there put left P ch =
    moves P ch (config_of c) (config_of (going c h c.top.store r))
    (statement_first (write x e) (statements_view (drop 1 c.top.rest))) comes (
      v,
      sym reads,
      some_there (get c.heap (store_of c.top.store x.name)) (subst (λ at. is_some (get c.heap at) ≡ true) place there),
      goes c h (insert c.heap (store_of c.top.store x.name) v) c.top.store r (statements_view (drop 1 c.top.rest))
          (put ∙ ap (λ at. insert c.heap at v) place) (ap statements_view left),
    ) tt (λ b. b) (λ b. b)

pub free_moves : (c : Config) (x : Occ) (h : Heap) (r : List Stmt) (at : ℕ) → ComesFirst (free x) c
    → at ≡ store_of c.top.store x.name → is_some (get c.heap at) ≡ true → h ≡ remove c.heap at → r ≡ drop 1 c.top.rest
    → AlwaysNext Moved (config_of c) (config_of (going c h c.top.store r))
free_moves c x h r at comes place there taken left P ch =
    moves P ch (config_of c) (config_of (going c h c.top.store r))
    (statement_first (free x) (statements_view (drop 1 c.top.rest))) comes (
      some_there (get c.heap (store_of c.top.store x.name)) (subst (λ at. is_some (get c.heap at) ≡ true) place there),
      goes c h (remove c.heap (store_of c.top.store x.name)) c.top.store r (statements_view (drop 1 c.top.rest))
          (taken ∙ ap (remove c.heap) place) (ap statements_view left),
    ) tt (λ b. b) (λ b. b)

pub way_moves : (c : Config) (t : Cond) (a b : Block) (way : Bool) (xs r : List Stmt) → IfComes t a b c
    → outcome (store_of c.top.store) c.heap t ≡ Some way → statements_view xs ≡ cond way a.statements b.statements
    → r ≡ xs ++ drop 1 c.top.rest
    → AlwaysNext Moved (config_of c) (config_of (going c c.heap c.top.store r))
way_moves c t a b way xs r comes gives block left P ch =
    moves P ch (config_of c) (config_of (going c c.heap c.top.store r))
    (statement_first (if t a.statements a.close b.statements b.close) (statements_view (drop 1 c.top.rest))) comes (
      way,
      gives,
      goes c c.heap c.heap c.top.store r
          (cond way (joined a.statements (statements_view (drop 1 c.top.rest)))
          (joined b.statements (statements_view (drop 1 c.top.rest)))) refl
          (ap statements_view left ∙ joined_view xs (drop 1 c.top.rest)
          ∙ ap (λ ss. joined ss (statements_view (drop 1 c.top.rest))) block ∙ one_way way),
    ) tt (λ b. b) (λ b. b)
  where
    one_way : (w : Bool) → joined (cond w a.statements b.statements) (statements_view (drop 1 c.top.rest))
        ≡ cond w (joined a.statements (statements_view (drop 1 c.top.rest)))
        (joined b.statements (statements_view (drop 1 c.top.rest)))
    one_way true = refl
    one_way false = refl

pub turn_moves : (c : Config) (t : Cond) (body : Block) (xs r : List Stmt) → WhileComes t body c
    → outcome (store_of c.top.store) c.heap t ≡ Some true → statements_view xs ≡ body.statements → r ≡ xs ++ c.top.rest
    → AlwaysNext Moved (config_of c) (config_of (going c c.heap c.top.store r))
turn_moves c t body xs r (at, inv, comes) gives block left P ch =
    let whole = statement_first (while at t inv body.statements body.close) (statements_view (drop 1 c.top.rest)) in
    moves P ch (config_of c) (config_of (going c c.heap c.top.store r)) whole comes (
      true,
      gives,
      goes c c.heap c.heap c.top.store r (joined body.statements whole) refl
          (ap statements_view left ∙ joined_view xs c.top.rest ∙ ap (λ ss. joined ss (statements_view c.top.rest)) block
          ∙ ap (joined body.statements) comes),
    ) tt (λ b. b) (λ b. b)

-- the choice has too few or too many values
pub call_misfits : (P : Program) (ch : Choice) (c : Config) (f : Occ) (es : List Expr) (vs : List ℕ) (q : Procedure)
    → CallComes f es c → Give (store_of c.top.store) c.heap es vs → Declares P f.name q
    → length ch.starts.items ≢ length (starts_of q)
    → IsNext P ch NotAChoice (config_of c) (config_of c)
call_misfits P ch c f es vs q (xs, comes) gives decl other = (
  λ fault. not_given (store_of c.top.store) c.heap es vs
      (subst (λ ss. FaultOn ss (store_of c.top.store) c.heap) comes fault) gives,
  subst (λ ss. Misfits P ch ss c.heap) (sym comes) (q, decl, other),
  refl,
)

pub arguments_count : (P : Program) (c : Config) (f : Occ) (es : List Expr) (vs : List ℕ) (q : Procedure)
    → CallComes f es c → IsMadeFor P c → Give (store_of c.top.store) c.heap es vs → Declares P f.name q
    → length vs ≡ length (parameters_of q)
arguments_count P c f es vs q (xs, comes) made gives decl =
    let fit : AllFit P (procedure_of c.top.procedure.now)
    (statement_first (call xs f es) (statements_view (drop 1 c.top.rest))) =
    subst (AllFit P (procedure_of c.top.procedure.now)) comes made.fits.1 in
    sym (same_length (store_of c.top.store) c.heap es vs gives) ∙ (fit.0.1 q decl).0

pub stacked : (ys : List Activation) (a : Activation)
    → map activation_of (reverse (ys ++ a ∷ [])) ≡ activation_of a ∷ map activation_of (reverse ys)
stacked ys a = ap (map activation_of) (reverse-append ys (a ∷ []))

enters : (P : Program) (ch : Choice) (c : Config) (a : Activation) (below : Vec Activation Global) (f : Occ)
    (es : List Expr) (vs : List ℕ) → CallComes f es c → IsMadeFor P c → Declares P f.name (procedure_of a.procedure.now)
    → Give (store_of c.top.store) c.heap es vs
    → length ch.starts.items ≡ length (starts_of (procedure_of a.procedure.now))
    → a.store ≡ beginning (procedure_of a.procedure.now) vs ch.starts.items
    → statements_view a.rest ≡ body_statements (procedure_of a.procedure.now)
    → below.items ≡ c.below.items ++ c.top ∷ []
    → IsNext P ch Moved (config_of c) (config_of (record { heap = c.heap; top = a; below = below }))
enters P ch c a below f es vs (xs, comes) made decl gives count store rest pushed =
    let q = procedure_of a.procedure.now in
    let many : length vs ≡ length (parameters_of q) = arguments_count P c f es vs q (xs, comes) made gives decl in
    moves P ch (config_of c) (config_of (record { heap = c.heap; top = a; below = below }))
    (statement_first (call xs f es) (statements_view (drop 1 c.top.rest))) comes (
      q,
      vs,
      store_of a.store,
      decl,
      gives,
      ap (λ es. map (store_of es) (parameters_of q)) store
          ∙ arguments_given q vs ch.starts.items
          (typed_fit P made.typed q (is_member P.procedures f.name q decl)).parameters many,
      ap (λ ss. record {
        heap = c.heap;
        top = record { procedure = q; store = store_of a.store; rest = ss };
        below = map activation_of (reverse below.items);
      }) rest ∙
          ap (λ ws. record {
            heap = c.heap;
            top = record { procedure = q; store = store_of a.store; rest = body_statements q };
            below = ws;
          })
          (ap (λ bs. map activation_of (reverse bs)) pushed ∙ stacked c.below.items c.top),
    )
    (λ y out. ap (λ es. store_of es y) store ∙ starts_chosen q vs ch.starts.items many y out)
    (λ b. b)
    (λ (proc, other, differs). differs
    (count ∙ ap (λ z. length (starts_of z)) (is_one P.procedures f.name q proc decl other)))

pub call_moves : (P : Program) (ch : Choice) (c : Config) (a top : Activation) (below : Vec Activation Global) (f : Occ)
    (es : List Expr) (vs : List ℕ) (q : whole.Procedure) → top ≡ a → a.procedure.now ≡ q → CallComes f es c
    → IsMadeFor P c → Declares P f.name (procedure_of q)
    → Give (store_of c.top.store) c.heap es vs → length ch.starts.items ≡ length (starts_of (procedure_of q))
    → a.store ≡ beginning (procedure_of q) vs ch.starts.items
    → statements_view a.rest ≡ body_statements (procedure_of q) → below.items ≡ c.below.items ++ c.top ∷ []
    → IsNext P ch Moved (config_of c) (config_of (record { heap = c.heap; top = top; below = below }))
call_moves P ch c a top below f es vs q is of comes made decl gives count store rest pushed =
    subst (λ z. IsNext P ch Moved (config_of c) (config_of (record { heap = c.heap; top = z; below = below }))) (sym is)
    (enters P ch c a below f es vs comes made (subst (λ z. Declares P f.name (procedure_of z)) (sym of) decl) gives
    (subst (λ z. length ch.starts.items ≡ length (starts_of (procedure_of z))) (sym of) count)
    (subst (λ z. a.store ≡ beginning (procedure_of z) vs ch.starts.items) (sym of) store)
    (subst (λ z. statements_view a.rest ≡ body_statements (procedure_of z)) (sym of) rest) pushed)

-- a procedure that begins lists its variables
pub begins_listed : (q : Procedure) (vs ss : List ℕ) → length vs ≡ length (parameters_of q)
    → length ss ≡ length (starts_of q) → listed_names (beginning q vs ss) ≡ variable_names q
begins_listed q vs ss few more =
    names_beside (variable_names q) (vs ++ ss)
    (ap length (variables_split q) ∙ length-append (parameters_of q ++ results_of q) (names (locals_of q)) ∙ sums
    ∙ sym (length-append vs ss))
  where
    sums : length (parameters_of q ++ results_of q) + length (names (locals_of q)) ≡ length vs + length ss
    sums =
        let front : length (parameters_of q ++ results_of q) ≡ length (parameters_of q) + length (results_of q) =
        length-append (parameters_of q) (results_of q) in
        let back : length (starts_of q) ≡ length (results_of q) + length (names (locals_of q)) =
        length-append (results_of q) (names (locals_of q)) in
        omega (arith, front, back, few, more)

pub started_lists : (a : Activation) (q : whole.Procedure) (vs ss : List ℕ) → a.procedure.now ≡ q
    → a.store ≡ beginning (procedure_of q) vs ss → length vs ≡ length (parameters_of (procedure_of q))
    → length ss ≡ length (starts_of (procedure_of q)) → ListsVariables a
started_lists a q vs ss of store few more =
    ap listed_names store ∙ begins_listed (procedure_of q) vs ss few more
    ∙ ap (λ z. variable_names (procedure_of z)) (sym of)

pub pushed_lists : (ws : List Activation) (a : Activation) (bs : List Activation) → All ListsVariables ws
    → ListsVariables a → bs ≡ ws ++ a ∷ [] → All ListsVariables bs
pushed_lists ws a bs all one same =
    subst (All ListsVariables) (sym same) (All-append ListsVariables ws (a ∷ []) all only)
  where
    only : All ListsVariables (a ∷ [])
    only zero d within = one
    only (suc k) d within = absurd (omega (arith, within))

results_fit : (P : Program) (c : Config) → IsMadeFor P c
    → AllPairs (λ x y. x ≢ y) (results_of (procedure_of c.top.procedure.now))
results_fit P c made =
    pairs_apart (results_of (procedure_of c.top.procedure.now))
    (typed_fit P made.typed (procedure_of c.top.procedure.now) made.fits.0).results

pub results_apart : (P : Program) (c : Config) (os : List Occ) → IsMadeFor P c → os ≡ c.top.procedure.now.results.items
    → AllPairs (λ x y. x ≢ y) (names os)
results_apart P c os made same =
    subst (λ (ps : List Occ). AllPairs (λ x y. x ≢ y) (names ps)) (sym same) (results_fit P c made)

pub results_listed : (P : Program) (c : Config) (os : List Occ) → IsMadeFor P c → os ≡ c.top.procedure.now.results.items
    → (y : Name) → Contains (names os) y → Contains (listed_names c.top.store) y
results_listed P c os made same y there =
    let q = procedure_of c.top.procedure.now in
    subst (λ (ns : List Name). Contains ns y) (sym (made.lists.0 ∙ variables_split q))
    (Contains-append_left (parameters_of q ++ results_of q) (names (locals_of q)) y
    (Contains-append_right (parameters_of q) (results_of q) y
    (subst (λ (ps : List Occ). Contains (names ps) y) same there)))

-- a procedure that waits is one of the stack
waits_for : (P : Program) (c : Config) (ys : List Activation) (a : Activation) → IsMadeFor P c
    → c.below.items ≡ ys ++ a ∷ []
    → StackFits P (procedure_of c.top.procedure.now) (activation_of a ∷ map activation_of (reverse ys))
waits_for P c ys a made last =
    subst (StackFits P (procedure_of c.top.procedure.now))
    (ap (λ bs. map activation_of (reverse bs)) last ∙ stacked ys a) made.fits.2

pub caller_waits : (P : Program) (c : Config) (ys : List Activation) (a : Activation) → IsMadeFor P c
    → c.below.items ≡ ys ++ a ∷ [] → (q : Procedure) × Awaits (statements_view a.rest) q
caller_waits P c ys a made last = (procedure_of c.top.procedure.now, (waits_for P c ys a made last).2)

call_fits : (P : Program) (c : Config) (ys : List Activation) (a : Activation) (xs : List Occ) → IsMadeFor P c
    → c.below.items ≡ ys ++ a ∷ [] → (calls : Calls xs a.rest)
    → Fits P (procedure_of a.procedure.now) (call xs calls.0 calls.1)
call_fits P c ys a xs made last (f, es, comes) =
    (subst (AllFit P (procedure_of a.procedure.now)) comes (waits_for P c ys a made last).1).0

pub targets_apart : (P : Program) (c : Config) (ys : List Activation) (a : Activation) (xs : List Occ) → IsMadeFor P c
    → c.below.items ≡ ys ++ a ∷ [] → Calls xs a.rest → AllPairs (λ x y. x ≢ y) (names xs)
targets_apart P c ys a xs made last calls = pairs_apart (names xs) (call_fits P c ys a xs made last calls).2

pub targets_count : (P : Program) (c : Config) (ys : List Activation) (a : Activation) (xs os : List Occ)
    → IsMadeFor P c → c.below.items ≡ ys ++ a ∷ [] → Calls xs a.rest → os ≡ c.top.procedure.now.results.items
    → length xs ≡ length os
targets_count P c ys a xs os made last (f, es, comes) same =
    subst (λ ss. Awaits ss (procedure_of c.top.procedure.now)) comes (waits_for P c ys a made last).2
    ∙ length-map c.top.procedure.now.results.items (λ (o : Occ). o.name) ∙ ap length (sym same)

last_lists : (ys : List Activation) (a : Activation) → All ListsVariables (ys ++ a ∷ []) → ListsVariables a
last_lists ys a all =
    subst ListsVariables (get_or-append_seam ys a [] a) (all (length ys) a (omega (arith, length-append ys (a ∷ []))))

front_lists : (ys : List Activation) (a : Activation) → All ListsVariables (ys ++ a ∷ []) → All ListsVariables ys
front_lists ys a all k d within =
    subst ListsVariables (get_or_append_left ys (a ∷ []) d k within)
    (all k d (omega (arith, within, length-append ys (a ∷ []))))

pub targets_listed : (P : Program) (c : Config) (ys : List Activation) (a : Activation) (xs : List Occ) → IsMadeFor P c
    → c.below.items ≡ ys ++ a ∷ [] → Calls xs a.rest → (y : Name) → Contains (names xs) y
    → Contains (listed_names a.store) y
targets_listed P c ys a xs made last (f, es, comes) y there =
    let assigns : AllAssignVariables (activation_of a ∷ map activation_of (reverse ys)) =
    subst AllAssignVariables (ap (λ bs. map activation_of (reverse bs)) last ∙ stacked ys a) made.assigns.1 in
    let variable : Contains (variable_names (procedure_of a.procedure.now)) y =
    assigns.0 y (subst (λ ss. SomeAssigns ss y) (sym comes) (inl there)) in
    subst (λ (ns : List Name). Contains ns y) (sym (last_lists ys a (subst (All ListsVariables) last made.lists.1)))
    variable

pub popped_lists : (P : Program) (c : Config) (ys : List Activation) (a : Activation) (es : List Entry) (r : List Stmt)
    → IsMadeFor P c → c.below.items ≡ ys ++ a ∷ [] → listed_names es ≡ listed_names a.store
    → ListsVariables (record { procedure = a.procedure; store = es; rest = r }) × All ListsVariables ys
popped_lists P c ys a es r made last same = (
  same ∙ last_lists ys a (subst (All ListsVariables) last made.lists.1),
  front_lists ys a (subst (All ListsVariables) last made.lists.1),
)

-- what the next statement assigns is listed
pub assigns_listed : (P : Program) (c : Config) (s : Stmt) (ss : List Stmt) (t : Statement) (y : Name) → IsMadeFor P c
    → c.top.rest ≡ s ∷ ss → statement_of s ≡ t → Assigns t y → Contains (listed_names c.top.store) y
assigns_listed P c s ss t y made next is assigns =
    let all : AssignsVariables (activation_of c.top) = made.assigns.0 in
    let some : SomeAssigns (statement_first (statement_of s) (statements_view ss)) y =
    inl (subst (λ u. Assigns u y) (sym is) assigns) in
    subst (λ (ns : List Name). Contains ns y) (sym made.lists.0)
    (all y (subst (λ us. SomeAssigns (statements_view us) y) (sym next) some))

-- the procedure of a number
pub at_number : (p : Whole) (n : ℕ) (r : whole.Procedure) → n < length p.procedures.items
    → r ≡ get_or p.procedures.items n r → (d : Procedure) → get_or (program_of p).procedures n d ≡ procedure_of r
at_number p n r within is d = get_or-map procedure_of p.procedures.items n r d within ∙ ap procedure_of (sym is)

pub number_there : (p : Whole) (n : ℕ) (r : whole.Procedure) → n < length p.procedures.items
    → r ≡ get_or p.procedures.items n r → Contains (program_of p).procedures (procedure_of r)
number_there p n r within is =
    (n, omega (arith, within, length-map p.procedures.items procedure_of), at_number p n r within is (procedure_of r))

pub start_made : (P : Program) (c : Config) (r : whole.Procedure) (vs ss : List ℕ) → IsTyped P
    → Contains P.procedures (procedure_of r) → c.top.procedure.now ≡ r → c.top.store ≡ beginning (procedure_of r) vs ss
    → statements_view c.top.rest ≡ body_statements (procedure_of r) → c.below.items ≡ []
    → length vs ≡ length (parameters_of (procedure_of r)) → length ss ≡ length (starts_of (procedure_of r))
    → IsMadeFor P c
start_made P c r vs ss typed here of store rest alone few more =
    let q = procedure_of c.top.procedure.now in
    let here' : Contains P.procedures q = subst (λ z. Contains P.procedures (procedure_of z)) (sym of) here in
    let body : statements_view c.top.rest ≡ body_statements q =
    rest ∙ ap (λ z. body_statements (procedure_of z)) (sym of) in
    record {
      typed = typed;
      fits = (
        here',
        subst (AllFit P q) (sym body) (typed_fit P typed q here').body,
        subst (λ bs. StackFits P q (map activation_of (reverse bs))) (sym alone) tt,
      );
      assigns = (
        λ y is. body_known P typed q here' y (subst (λ us. SomeAssigns us y) body is),
        subst (λ bs. AllAssignVariables (map activation_of (reverse bs))) (sym alone) tt,
      );
      lists = (
        started_lists c.top r vs ss of store few more,
        λ k d within. absurd (omega (arith, within, ap length alone)),
      );
    }
