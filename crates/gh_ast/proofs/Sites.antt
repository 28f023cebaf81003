-- Where occurrences stand: in formulas, in bodies, and among the sites of a procedure.
use Rattle.std.specs.Prelude.{◌≡◌, ◌⊎◌, ℕ, zero, suc, ◌<◌, List, [], ◌∷◌, ◌++◌, map, length, get_or, Bool, true, false}
use Rattle.std.specs.Prelude.{Option, Some, None, Any, Contains}
use Rattle.std.proofs.Common.{refl, sym, subst, inl, inr, arith}
use Rattle.std.proofs.lemmas.List.Elements.{Contains-append_left, Contains-append_right}
use Rattle.gh_ast.specs.declared.Occ.{Occ}
use Rattle.gh_ast.specs.declared.Operand.{Operand}
use Rattle.gh_ast.specs.declared.Operand.TheVariants.{Null, Var}
use Rattle.gh_ast.specs.declared.Expr.{Expr}
use Rattle.gh_ast.specs.declared.Expr.TheVariants.{Plain, Read}
use Rattle.gh_ast.specs.Plain.{Cond, compare, negation, conjunction, disjunction, Conds, no_conds, cond_first}
use Rattle.gh_ast.specs.Plain.{Assertion, empty, comparison, points_to, cell, segment, star, cases, Assertions}
use Rattle.gh_ast.specs.Plain.{no_assertions, assertion_first, Statement, set, new, write, free, call, if, while}
use Rattle.gh_ast.specs.Plain.{return, Statements, no_statements, statement_first, Body, Procedure}
use Rattle.gh_ast.specs.Programs.{Name, names, statements_in, body_statements, Assigns, SomeAssigns}
use Rattle.gh_ast.specs.Names.{OperandIn, ExprIn, CondIn, CondsIn, AssertionIn, AssertionsIn}
use Rattle.gh_ast.specs.Occurrences.{in_operand, in_expr, in_exprs, in_cond, in_conds, in_assertion, in_assertions}
use Rattle.gh_ast.specs.Occurrences.{in_alternatives, Site, mentioned, assigned, called, sites_in, all_sites_in}
use Rattle.gh_ast.specs.Occurrences.{sites_in_body, sites_of}
use Rattle.gh_ast.specs.Rules.{HasName}
use Rattle.gh_ast.proofs.Lists.{member_first, member_later, member_cases, no_member}

pub any_of : {X : Type 0} (P : X → Type 0) (xs : List X) (x : X) → Contains xs x → P x → Any P xs
any_of P xs x there holds = (there.0, x, there.1, there.2, holds)

pub member_map : {X Y : Type 0} (f : X → Y) (xs : List X) (x : X) → Contains xs x → Contains (map f xs) (f x)
member_map f [] x there = absurd (no_member x there)
member_map f (d ∷ es) x there = elim (member_cases d es x there) [
  | inl same ↦ subst (λ y. Contains (map f (d ∷ es)) (f y)) same (member_first (f d) (map f es))
  | inr more ↦ member_later (f d) (f x) (map f es) (member_map f es x more)
]

-- an element that stands at a place
pub element_at : {X : Type 0} (xs : List X) (k : ℕ) → k < length xs → (x : X) × (get_or xs k x ≡ x)
element_at [] k within = absurd (omega (arith, within))
element_at (d ∷ es) zero within = (d, refl)
element_at (d ∷ es) (suc k) within = element_at es k (omega (arith, within))

-- an occurrence of a name that is among the names
pub occurrence_of : (os : List Occ) (y : Name) → Contains (names os) y → (o : Occ) × Contains os o × (o.name ≡ y)
occurrence_of [] y there = absurd (no_member y there)
occurrence_of (o ∷ os) y there = elim (member_cases o.name (names os) y there) [
  | inl same ↦ (o, member_first o os, same)
  | inr more ↦ let found = occurrence_of os y more in (found.0, member_later o found.0 os found.1, found.2)
]

pub has_name : (os : List Occ) (y : Name) → Contains (names os) y → HasName os y
has_name os y there = let found = occurrence_of os y there in any_of (λ o. o.name ≡ y) os found.0 found.1 found.2

pub name_had : (os : List Occ) (y : Name) → HasName os y → Contains (names os) y
name_had os y has = subst (Contains (names os)) has.4 (member_map (λ o. o.name) os has.1 (has.0, has.2, has.3))

-- of a list of occurrences each has its name among the names
abbrev pub AllIn : List Occ → List Name → Type 0
AllIn os xs = (o : Occ) → Contains os o → Contains xs o.name

pub all_left : (os ps : List Occ) (xs : List Name) → AllIn (os ++ ps) xs → AllIn os xs
all_left os ps xs all o there = all o (Contains-append_left os ps o there)

pub all_right : (os ps : List Occ) (xs : List Name) → AllIn (os ++ ps) xs → AllIn ps xs
all_right os ps xs all o there = all o (Contains-append_right os ps o there)

pub operand_in : (p : Operand) (xs : List Name) → AllIn (in_operand p) xs → OperandIn p xs
operand_in (Null s) xs all = tt
operand_in (Var o) xs all = all o (member_first o [])

pub expr_in : (e : Expr) (xs : List Name) → AllIn (in_expr e) xs → ExprIn e xs
expr_in (Plain p) xs all = operand_in p xs all
expr_in (Read o) xs all = all o (member_first o [])

mutual
  pub test_in : (t : Cond) (xs : List Name) → AllIn (in_cond t) xs → CondIn t xs
  test_in (compare l e r) xs all =
      (expr_in l xs (all_left (in_expr l) (in_expr r) xs all), expr_in r xs (all_right (in_expr l) (in_expr r) xs all))
  test_in (negation t) xs all = test_in t xs all
  test_in (conjunction ts) xs all = tests_in ts xs all
  test_in (disjunction ts) xs all = tests_in ts xs all

  pub tests_in : (ts : Conds) (xs : List Name) → AllIn (in_conds ts) xs → CondsIn ts xs
  tests_in no_conds xs all = tt
  tests_in (cond_first t ts) xs all = (
    test_in t xs (all_left (in_cond t) (in_conds ts) xs all),
    tests_in ts xs (all_right (in_cond t) (in_conds ts) xs all),
  )

mutual
  pub formula_in : (f : Assertion) (xs : List Name) → AllIn (in_assertion f) xs → AssertionIn f xs
  formula_in empty xs all = tt
  formula_in (comparison l e r) xs all = (
    operand_in l xs (all_left (in_operand l) (in_operand r) xs all),
    operand_in r xs (all_right (in_operand l) (in_operand r) xs all),
  )
  formula_in (points_to a t) xs all = (
    all a (member_first a (in_operand t)),
    operand_in t xs (λ o there. all o (member_later a o (in_operand t) there)),
  )
  formula_in (cell a) xs all = all a (member_first a [])
  formula_in (segment f t) xs all = (
    operand_in f xs (all_left (in_operand f) (in_operand t) xs all),
    operand_in t xs (all_right (in_operand f) (in_operand t) xs all),
  )
  formula_in (star fs) xs all = formulas_in fs xs all
  formula_in (cases t a b) xs all =
      let early : AllIn (in_cond t ++ in_assertion a) xs =
      all_left (in_cond t ++ in_assertion a) (in_assertion b) xs all in (
        test_in t xs (all_left (in_cond t) (in_assertion a) xs early),
        formula_in a xs (all_right (in_cond t) (in_assertion a) xs early),
        formula_in b xs (all_right (in_cond t ++ in_assertion a) (in_assertion b) xs all),
      )

  pub formulas_in : (fs : Assertions) (xs : List Name) → AllIn (in_assertions fs) xs → AssertionsIn fs xs
  formulas_in no_assertions xs all = tt
  formulas_in (assertion_first f fs) xs all = (
    formula_in f xs (all_left (in_assertion f) (in_assertions fs) xs all),
    formulas_in fs xs (all_right (in_assertion f) (in_assertions fs) xs all),
  )

-- an occurrence in one alternative is one of the alternatives
pub in_alternative : (fs : List Assertion) (f : Assertion) (o : Occ) → Contains fs f → Contains (in_assertion f) o
    → Contains (in_alternatives fs) o
in_alternative [] f o there inside = absurd (no_member f there)
in_alternative (d ∷ fs) f o there inside = elim (member_cases d fs f there) [
  | inl same ↦ Contains-append_left (in_assertion d) (in_alternatives fs) o
      (subst (λ x. Contains (in_assertion x) o) (sym same) inside)
  | inr more ↦ Contains-append_right (in_assertion d) (in_alternatives fs) o (in_alternative fs f o more inside)
]

-- each occurrence in what a procedure needs or gives is mentioned at a site of it
pub needs_mentioned : (q : Procedure) (o : Occ) → Contains (in_assertion q.needs) o
    → Contains (sites_of q) (mentioned o)
needs_mentioned q o there =
    Contains-append_left (map mentioned (in_assertion q.needs ++ in_alternatives q.gives)) (sites_in_body q.body)
    (mentioned o)
    (member_map mentioned (in_assertion q.needs ++ in_alternatives q.gives) o
    (Contains-append_left (in_assertion q.needs) (in_alternatives q.gives) o there))

pub gives_mentioned : (q : Procedure) (o : Occ) → Contains (in_alternatives q.gives) o
    → Contains (sites_of q) (mentioned o)
gives_mentioned q o there =
    Contains-append_left (map mentioned (in_assertion q.needs ++ in_alternatives q.gives)) (sites_in_body q.body)
    (mentioned o)
    (member_map mentioned (in_assertion q.needs ++ in_alternatives q.gives) o
    (Contains-append_right (in_assertion q.needs) (in_alternatives q.gives) o there))

-- a site of a body is a site of its procedure
pub site_in_body : (q : Procedure) (x : Site) → Contains (all_sites_in false (body_statements q)) x
    → Contains (sites_of q) x
site_in_body q x there =
    Contains-append_right (map mentioned (in_assertion q.needs ++ in_alternatives q.gives)) (sites_in_body q.body) x
    (by_body q.body x there)
  where
    by_body : (b : Option Body) (x : Site) → Contains (all_sites_in false (statements_in b)) x
        → Contains (sites_in_body b) x
    by_body None x there = there
    by_body (Some b) x there = there

-- the site at which a variable is assigned, and the target
pub record AssignedAt (xs : List Site) (y : Name) : Type 0 where
  pub targets : List Occ
  pub target : Occ
  pub site : Contains xs (assigned targets)
  pub listed : Contains targets target
  pub named : target.name ≡ y

pub assigned_within : (xs ys : List Site) (y : Name) → ((x : Site) → Contains xs x → Contains ys x) → AssignedAt xs y
    → AssignedAt ys y
assigned_within xs ys y within at =
    record {
      targets = at.targets;
      target = at.target;
      site = within (assigned at.targets) at.site;
      listed = at.listed;
      named = at.named;
    }

assigned_first : (t : Occ) (rest : List Site) (y : Name) → y ≡ t.name → AssignedAt (assigned (t ∷ []) ∷ rest) y
assigned_first t rest y same =
    record {
      targets = t ∷ [];
      target = t;
      site = member_first (assigned (t ∷ [])) rest;
      listed = member_first t [];
      named = sym same;
    }

in_row : {A B : Type 0} (xs ys : List Site) (y : Name) → (A → AssignedAt xs y) → (B → AssignedAt ys y) → A ⊎ B
    → AssignedAt (xs ++ ys) y
in_row xs ys y first rest is = elim is [
  | inl h ↦ assigned_within xs (xs ++ ys) y (λ x there. Contains-append_left xs ys x there) (first h)
  | inr h ↦ assigned_within ys (xs ++ ys) y (λ x there. Contains-append_right xs ys x there) (rest h)
]

in_choice : {A B : Type 0} (ms xs ys : List Site) (y : Name) → (A → AssignedAt xs y) → (B → AssignedAt ys y) → A ⊎ B
    → AssignedAt (ms ++ xs ++ ys) y
in_choice ms xs ys y first rest is =
    in_row (ms ++ xs) ys y (λ h. assigned_within xs (ms ++ xs) y (λ x there. Contains-append_right ms xs x there)
    (first h)) rest is

mutual
  pub assigned_site : (inside : Bool) (s : Statement) (y : Name) → Assigns s y → AssignedAt (sites_in inside s) y
  assigned_site inside (set t e) y is = assigned_first t (map mentioned (t ∷ in_expr e)) y is
  assigned_site inside (new t) y is = assigned_first t (mentioned t ∷ []) y is
  assigned_site inside (write a e) y is = absurd is
  assigned_site inside (free a) y is = absurd is
  assigned_site inside (call ts c es) y is =
      let found = occurrence_of ts y is in
      record {
        targets = ts;
        target = found.0;
        site = member_first (assigned ts) (called ts c es ∷ map mentioned (ts ++ in_exprs es));
        listed =
            found.1;
        named = found.2;
      }
  assigned_site inside (if t a ca b cb) y is =
      in_choice (map mentioned (in_cond t)) (all_sites_in inside a) (all_sites_in inside b) y
      (λ h. assigned_sites inside a y h) (λ h. assigned_sites inside b y h) is
  assigned_site inside (while at t i body close) y is =
      assigned_within (all_sites_in true body) (sites_in inside (while at t i body close)) y
      (λ x there. Contains-append_right (map mentioned (in_cond t ++ in_assertion i)) (all_sites_in true body) x there)
      (assigned_sites true body y is)
  assigned_site inside (return at es) y is = absurd is

  pub assigned_sites : (inside : Bool) (ss : Statements) (y : Name) → SomeAssigns ss y
      → AssignedAt (all_sites_in inside ss) y
  assigned_sites inside no_statements y is = absurd is
  assigned_sites inside (statement_first s ss) y is =
      in_row (sites_in inside s) (all_sites_in inside ss) y (λ h. assigned_site inside s y h)
      (λ h. assigned_sites inside ss y h) is
