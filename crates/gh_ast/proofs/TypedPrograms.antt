-- What a program that breaks no type rule keeps.
use Rattle.std.specs.Prelude.{◌≡◌, ◌≢◌, ◌⊎◌, ℕ, ◌+◌, ◌<◌, List, ◌++◌, length, get_or, true, false, [], ◌∷◌, Bool, Any}
use Rattle.std.specs.Prelude.{AllPairs, Contains}
use Rattle.std.proofs.Common.{refl, sym, ◌∙◌, ap, subst, inl, inr, arith, append_assoc}
use Rattle.std.proofs.lemmas.List.{get_or-map, get_or-take, length-take-le, length-map, length-append, map-append}
use Rattle.std.proofs.lemmas.List.{get_or-append-add, get_or_append_left}
use Rattle.std.proofs.lemmas.List.Elements.{Contains-append_left, Contains-append_cases}
use Rattle.std.specs.Str.{bytes_eq}
use Rattle.std.proofs.lemmas.Bool.{cases_Bool, cases_eq}
use Rattle.std.proofs.lemmas.Slice.Eq.{bytes_eq-Decides}
use Rattle.gh_base.specs.declared.place.Span.{Span}
use Rattle.gh_ast.specs.declared.Occ.{Occ}
use Rattle.gh_ast.specs.declared.Expr.{Expr}
use Rattle.gh_ast.specs.Plain.{Assertion, Procedure, Program}
use Rattle.gh_ast.specs.Programs.{Name, names, parameters_of, results_of, body_statements, variable_names, name_of}
use Rattle.gh_ast.specs.Programs.{SomeAssigns, IsFirstNamed, Declares}
use Rattle.gh_ast.specs.Names.{AssertionIn}
use Rattle.gh_ast.specs.Occurrences.{Site, mentioned, assigned, called, returned, in_assertion, in_alternatives}
use Rattle.gh_ast.specs.Occurrences.{all_sites_in, sites_of, locals_of, variables_of}
use Rattle.gh_ast.specs.Rules.{HasName, RepeatedAt, UnknownName, AssignToParameter, WrongCount, ReturnInLoop}
use Rattle.gh_ast.specs.Rules.{UnknownProcedure, RepeatedResult, AtSome, NameOutOfContract, unknown_name}
use Rattle.gh_ast.specs.Rules.{duplicate_name, assign_to_parameter, wrong_count, return_in_loop, unknown_procedure}
use Rattle.gh_ast.specs.Rules.{repeated_result, name_out_of_contract, IsTyped}
use Rattle.gh_ast.proofs.Lists.{member_cases}
use Rattle.gh_ast.proofs.Members.{name_or}
use Rattle.gh_ast.proofs.Sites.{any_of, element_at, has_name, name_had, formula_in, needs_mentioned, gives_mentioned}
use Rattle.gh_ast.proofs.Sites.{in_alternative, site_in_body, AssignedAt, assigned_sites}

at_some : (P : Program) (R : Procedure → Site → Span → Type 0) (s : Span) (q : Procedure) (x : Site)
    → Contains P.procedures q → Contains (sites_of q) x → R q x s → AtSome P R s
at_some P R s q x here there broken =
    any_of (λ q. Any (λ x. R q x s) (sites_of q)) P.procedures q here
    (any_of (λ x. R q x s) (sites_of q) x there broken)

-- each occurrence of a variable names a variable of its procedure
pub mention_is_variable : (P : Program) → IsTyped P → (q : Procedure) → Contains P.procedures q → (o : Occ)
    → Contains (sites_of q) (mentioned o) → Contains (variable_names q) o.name
mention_is_variable P typed q here o there = elim (name_or (variable_names q) o.name) [
  | inl known ↦ known
  | inr unknown ↦ absurd (typed 1 o.span
      (unknown_name refl (at_some P UnknownName o.span q (mentioned o) here there
      (refl, λ has. unknown (name_had (variables_of q) o.name has)))))
]

pub needs_are_variables : (P : Program) → IsTyped P → (q : Procedure) → Contains P.procedures q
    → AssertionIn q.needs (variable_names q)
needs_are_variables P typed q here =
    formula_in q.needs (variable_names q) (λ o there. mention_is_variable P typed q here o (needs_mentioned q o there))

pub gives_are_variables : (P : Program) → IsTyped P → (q : Procedure) → Contains P.procedures q → (f : Assertion)
    → Contains q.gives f → AssertionIn f (variable_names q)
gives_are_variables P typed q here f one =
    formula_in f (variable_names q)
    (λ o there. mention_is_variable P typed q here o (gives_mentioned q o (in_alternative q.gives f o one there)))

-- an occurrence whose name stands earlier is a repeated one
repeated : (os : List Occ) (i j : ℕ) (o p : Occ) → i < j → j < length os → get_or os i o ≡ o → get_or os j p ≡ p
    → o.name ≡ p.name → RepeatedAt os p.span
repeated os i j o p before within first later same = record {
  here = p;
  place = j;
  within = within;
  element = later;
  earlier = (
    i,
    o,
    rw (length-take-le j os (omega (arith, within))) before,
    rw (get_or-take j os i o before) first,
    same,
  );
  span = refl;
}

-- where no occurrence is repeated, the names are distinct
pub no_repeats : (os : List Occ) → ((s : Span) → RepeatedAt os s → ⊥) → AllPairs (λ x y. x ≢ y) (names os)
no_repeats os none i j d before within same =
    let count : length (names os) ≡ length os = length-map os (λ (o : Occ). o.name) in
    let j_in : j < length os = omega (arith, within, count) in
    let i_in : i < length os = omega (arith, before, j_in) in
    apart (element_at os i i_in) (element_at os j j_in) i_in j_in
  where
    apart : (first : (o : Occ) × (get_or os i o ≡ o)) (later : (o : Occ) × (get_or os j o ≡ o)) → i < length os
        → j < length os → ⊥
    apart (o, first) (p, later) i_in j_in =
        let i_named : get_or (names os) i d ≡ o.name =
        get_or-map (λ o. o.name) os i o d i_in ∙ ap (λ (o : Occ). o.name) first in
        let j_named : get_or (names os) j d ≡ p.name =
        get_or-map (λ o. o.name) os j p d j_in ∙ ap (λ (o : Occ). o.name) later in
        none p.span (repeated os i j o p before j_in first later (sym i_named ∙ same ∙ j_named))

-- no two variables of a procedure have one name
pub variables_are_distinct : (P : Program) → IsTyped P → (q : Procedure) → Contains P.procedures q
    → AllPairs (λ x y. x ≢ y) (variable_names q)
variables_are_distinct P typed q here =
    no_repeats (variables_of q)
    (λ s repeats. typed 2 s (duplicate_name refl
    (inr (any_of (λ q. RepeatedAt (variables_of q) s) P.procedures q here repeats))))

-- no two targets of a statement have one name
pub targets_are_distinct : (P : Program) → IsTyped P → (q : Procedure) → Contains P.procedures q → (ts : List Occ)
    → Contains (sites_of q) (assigned ts) → AllPairs (λ x y. x ≢ y) (names ts)
targets_are_distinct P typed q here ts there =
    no_repeats ts (λ s repeats. typed 10 s
    (repeated_result refl (at_some P RepeatedResult s q (assigned ts) here there repeats)))

-- the first procedure of a name, or there is none
first_named : (ps : List Procedure) (f : Name)
    → ((q : Procedure) × IsFirstNamed ps f q) ⊎ (Any (λ r. r.name.name ≡ f) ps → ⊥)
first_named [] f = inr (λ any. absurd (omega (arith, any.2)))
first_named (q ∷ qs) f = elim (cases_Bool (bytes_eq (name_of q) f)) [
  | inl same ↦ inl (q, inl ((bytes_eq-Decides (name_of q) f).0 same, refl))
  | inr other ↦
      let differs : name_of q ≢ f =
      λ e. let same : bytes_eq (name_of q) f ≡ true = (bytes_eq-Decides (name_of q) f).1 e in absurd cc in
      elim (first_named qs f) [
        | inl found ↦ inl (found.0, inr (differs, found.1))
        | inr none ↦ inr (λ any. elim (member_cases q qs any.1 (any.0, any.2, any.3)) [
          | inl e ↦ differs (subst (λ r. name_of r ≡ f) (sym e) any.4)
          | inr more ↦ none (any_of (λ r. r.name.name ≡ f) qs any.1 more any.4)
        ])
      ]
]

-- a call's callee is some procedure
pub callee_is_known : (P : Program) → IsTyped P → (q : Procedure) → Contains P.procedures q
    → (ts : List Occ) (f : Occ) (es : List Expr) → Contains (sites_of q) (called ts f es)
    → (r : Procedure) × Declares P f.name r
callee_is_known P typed q here ts f es there = elim (first_named P.procedures f.name) [
  | inl found ↦ found
  | inr none ↦ absurd (typed 6 f.span
      (unknown_procedure refl (at_some P (UnknownProcedure P.procedures) f.span q (called ts f es) here there
      (refl, none))))
]

-- a call has as many arguments and targets as its callee parameters and results
pub counts_agree : (P : Program) → IsTyped P → (q : Procedure) → Contains P.procedures q
    → (ts : List Occ) (f : Occ) (es : List Expr) → Contains (sites_of q) (called ts f es) → (r : Procedure)
    → Declares P f.name r
    → (length es ≡ length (parameters_of r)) × (length ts ≡ length (results_of r))
counts_agree P typed q here ts f es there r declares = (
  elim (cases_eq (length es) (length r.parameters)) [
    | inl same ↦ same ∙ sym (length-map r.parameters (λ (o : Occ). o.name))
    | inr other ↦ absurd (wrong (inl other))
  ],
  elim (cases_eq (length ts) (length r.results))
      [ inl same ↦ same ∙ sym (length-map r.results (λ (o : Occ). o.name)) | inr other ↦ absurd (wrong (inr other)) ],
)
  where
    wrong : (length es ≢ length r.parameters) ⊎ (length ts ≢ length r.results) → ⊥
    wrong differs =
        typed 4 f.span (wrong_count refl
        (at_some P (WrongCount P.procedures) f.span q (called ts f es) here there (refl, (r, declares, differs))))

-- a return has as many values as there are results
pub values_are_counted : (P : Program) → IsTyped P → (q : Procedure) → Contains P.procedures q
    → (inside : Bool) (w : Span) (es : List Expr) → Contains (sites_of q) (returned inside w es)
    → length es ≡ length (results_of q)
values_are_counted P typed q here inside w es there = elim (cases_eq (length es) (length q.results)) [
  | inl same ↦ same ∙ sym (length-map q.results (λ (o : Occ). o.name))
  | inr other ↦ absurd (typed 4 w
      (wrong_count refl (at_some P (WrongCount P.procedures) w q (returned inside w es) here there (refl, other))))
]

-- no name of an earlier part of the variables stands in a later part
pub parts_are_apart : (P : Program) → IsTyped P → (q : Procedure) → Contains P.procedures q → (xs ys : List Name)
    → variable_names q ≡ xs ++ ys → (y : Name) → Contains xs y → Contains ys y → ⊥
parts_are_apart P typed q here xs ys split y in_first in_later =
    let early : get_or (xs ++ ys) in_first.0 y ≡ y = get_or_append_left xs ys y in_first.0 in_first.1 ∙ in_first.2 in
    let late : get_or (xs ++ ys) (length xs + in_later.0) y ≡ y = get_or-append-add xs ys in_later.0 y ∙ in_later.2 in
    let count : length (xs ++ ys) ≡ length xs + length ys = length-append xs ys in
    let distinct : AllPairs (λ x y. x ≢ y) (xs ++ ys) =
    subst (λ zs. AllPairs (λ x y. x ≢ y) zs) split (variables_are_distinct P typed q here) in
    distinct in_first.0 (length xs + in_later.0) y (omega (arith, in_first.1)) (omega (arith, in_later.1, count))
    (early ∙ sym late)

names_append : (os ps : List Occ) → names (os ++ ps) ≡ names os ++ names ps
names_append os ps = map-append (λ o. o.name) os ps

-- the variables are the parameters, the results and the locals
pub variables_split : (q : Procedure) → variable_names q ≡ (parameters_of q ++ results_of q) ++ names (locals_of q)
variables_split q =
    names_append (q.parameters ++ q.results) (locals_of q)
    ∙ ap (λ front. front ++ names (locals_of q)) (names_append q.parameters q.results)

pub parameters_first : (q : Procedure) → variable_names q ≡ parameters_of q ++ (results_of q ++ names (locals_of q))
parameters_first q = variables_split q ∙ append_assoc (parameters_of q) (results_of q) (names (locals_of q))

-- what a procedure needs names its parameters only
pub needs_are_parameters : (P : Program) → IsTyped P → (q : Procedure) → Contains P.procedures q
    → AssertionIn q.needs (parameters_of q)
needs_are_parameters P typed q here = formula_in q.needs (parameters_of q) parameter
  where
    parameter : (o : Occ) → Contains (in_assertion q.needs) o → Contains (parameters_of q) o.name
    parameter o there =
        elim (Contains-append_cases (parameters_of q) (results_of q ++ names (locals_of q)) o.name
        (subst (λ xs. Contains xs o.name) (parameters_first q)
        (mention_is_variable P typed q here o (needs_mentioned q o there)))) [
          | inl fine ↦ fine
          | inr other ↦ absurd (typed 9 o.span
              (name_out_of_contract refl (any_of (λ q. NameOutOfContract q o.span) P.procedures q here
              (inl (any_of (λ o'. (o'.span ≡ o.span) × HasName (q.results ++ locals_of q) o'.name)
              (in_assertion q.needs) o there (
                refl,
                has_name (q.results ++ locals_of q) o.name
                    (subst (λ xs. Contains xs o.name) (sym (names_append q.results (locals_of q))) other),
              ))))))
        ]

-- each alternative that a procedure gives names its parameters and results only
pub gives_are_contract : (P : Program) → IsTyped P → (q : Procedure) → Contains P.procedures q → (f : Assertion)
    → Contains q.gives f → AssertionIn f (parameters_of q ++ results_of q)
gives_are_contract P typed q here f one =
    formula_in f (parameters_of q ++ results_of q) (λ o inside. named o (in_alternative q.gives f o one inside))
  where
    named : (o : Occ) → Contains (in_alternatives q.gives) o → Contains (parameters_of q ++ results_of q) o.name
    named o there =
        elim (Contains-append_cases (parameters_of q ++ results_of q) (names (locals_of q)) o.name
        (subst (λ xs. Contains xs o.name) (variables_split q)
        (mention_is_variable P typed q here o (gives_mentioned q o there)))) [
          | inl fine ↦ fine
          | inr local ↦ absurd (typed 9 o.span
              (name_out_of_contract refl (any_of (λ q. NameOutOfContract q o.span) P.procedures q here
              (inr (any_of (λ o'. (o'.span ≡ o.span) × HasName (locals_of q) o'.name) (in_alternatives q.gives) o there
              (refl, has_name (locals_of q) o.name local))))))
        ]

-- no statement assigns a parameter
pub parameters_stay : (P : Program) → IsTyped P → (q : Procedure) → Contains P.procedures q → (y : Name)
    → Contains (parameters_of q) y → SomeAssigns (body_statements q) y → ⊥
parameters_stay P typed q here y parameter assigns =
    let at : AssignedAt (all_sites_in false (body_statements q)) y =
    assigned_sites false (body_statements q) y assigns in
    let has : HasName q.parameters at.target.name =
    has_name q.parameters at.target.name (subst (Contains (parameters_of q)) (sym at.named) parameter) in
    typed 3 at.target.span (assign_to_parameter refl
    (at_some P AssignToParameter at.target.span q (assigned at.targets) here
    (site_in_body q (assigned at.targets) at.site)
    (any_of (λ t. (t.span ≡ at.target.span) × HasName q.parameters t.name) at.targets at.target at.listed (refl, has))))

-- no name is both parameter and result
pub results_are_not_parameters : (P : Program) → IsTyped P → (q : Procedure) → Contains P.procedures q → (y : Name)
    → Contains (parameters_of q) y → Contains (results_of q) y → ⊥
results_are_not_parameters P typed q here y parameter result =
    parts_are_apart P typed q here (parameters_of q) (results_of q ++ names (locals_of q)) (parameters_first q) y
    parameter (Contains-append_left (results_of q) (names (locals_of q)) y result)

-- no return stands inside a loop's body
pub no_return_inside : (P : Program) → IsTyped P → (q : Procedure) → Contains P.procedures q
    → (w : Span) (es : List Expr) → Contains (all_sites_in false (body_statements q)) (returned true w es) → ⊥
no_return_inside P typed q here w es there =
    typed 5 w (return_in_loop refl
    (at_some P ReturnInLoop w q (returned true w es) here (site_in_body q (returned true w es) there) refl))
