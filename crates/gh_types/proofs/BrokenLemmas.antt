-- What the check looks for, part by part, is what breaks a rule.
use Rattle.std.proofs.Common.{◌≡◌, ℕ, ◌<◌, length, get_or, ◌⊎◌, inl, inr, List, ◌++◌, map, subst, true}
use Rattle.std.specs.Prelude.{Any, Option, None, Some}
use Rattle.gh_base.specs.declared.place.Span.{Span}
use Rattle.gh_ast.specs.declared.Occ.{Occ}
use Rattle.gh_ast.specs.Plain.{Procedure, Program}
use Rattle.gh_ast.specs.Occurrences.{Site, mentioned, assigned, called, returned, sites_of, sites_in_body, in_assertion}
use Rattle.gh_ast.specs.Occurrences.{in_alternatives}
use Rattle.gh_ast.specs.Rules.{IsTyped, IsFirstBroken, UnknownName, AssignToParameter, WrongCount, ReturnInLoop}
use Rattle.gh_ast.specs.Rules.{UnknownProcedure, RepeatedResult, NameOutOfContract, Broken, unknown_name}
use Rattle.gh_ast.specs.Rules.{duplicate_name, assign_to_parameter, wrong_count, return_in_loop, unknown_procedure}
use Rattle.gh_ast.specs.Rules.{second_link, data_field, name_out_of_contract, repeated_result, no_body, no_link}
use Rattle.gh_types.specs.Checks.{SiteErrors, ProcedureErrors, ProgramErrors}
use Rattle.gh_types.specs.declared.fault.Fault.{Fault}
use Rattle.gh_types.specs.Faults.{IsFirstOf}
use Rattle.gh_types.proofs.FirstLemmas.{any_left, any_right, any_parts, any_map, any_mapped, any_weaker}

-- a site of a body, and an occurrence in a contract, are sites of the procedure
in_body : (P : Site → Type 0) (q : Procedure) → Any P (sites_in_body q.body) → Any P (sites_of q)
in_body P q a = any_right P (map mentioned (in_assertion q.needs ++ in_alternatives q.gives)) (sites_in_body q.body) a

in_needs : (P : Site → Type 0) (q : Procedure) → Any (λ o. P (mentioned o)) (in_assertion q.needs) → Any P (sites_of q)
in_needs P q a =
    any_left P (map mentioned (in_assertion q.needs ++ in_alternatives q.gives)) (sites_in_body q.body)
    (any_mapped P mentioned (in_assertion q.needs ++ in_alternatives q.gives)
    (any_left (λ o. P (mentioned o)) (in_assertion q.needs) (in_alternatives q.gives) a))

in_gives : (P : Site → Type 0) (q : Procedure) → Any (λ o. P (mentioned o)) (in_alternatives q.gives)
    → Any P (sites_of q)
in_gives P q a =
    any_left P (map mentioned (in_assertion q.needs ++ in_alternatives q.gives)) (sites_in_body q.body)
    (any_mapped P mentioned (in_assertion q.needs ++ in_alternatives q.gives)
    (any_right (λ o. P (mentioned o)) (in_assertion q.needs) (in_alternatives q.gives) a))

-- a site of a procedure stands in its contract or in its body
parts_of : (P : Site → Type 0) (q : Procedure) → Any P (sites_of q)
    → (Any (λ o. P (mentioned o)) (in_assertion q.needs) ⊎ Any (λ o. P (mentioned o)) (in_alternatives q.gives))
    ⊎ Any P (sites_in_body q.body)
parts_of P q a = elim (any_parts P (map mentioned (in_assertion q.needs ++ in_alternatives q.gives))
    (sites_in_body q.body) a) [
      | inl b ↦ inl (any_parts (λ o. P (mentioned o)) (in_assertion q.needs) (in_alternatives q.gives)
          (any_map P mentioned (in_assertion q.needs ++ in_alternatives q.gives) b))
      | inr b ↦ inr b
    ]

-- a rule that isn't on occurrences is broken in the body
body_of : (P : Site → Type 0) (q : Procedure) → ((o : Occ) → P (mentioned o) → ⊥) → Any P (sites_of q)
    → Any P (sites_in_body q.body)
body_of P q never a = elim (parts_of P q a) [
  | inl b ↦ absurd (elim b [ inl c ↦ no (in_assertion q.needs) c | inr c ↦ no (in_alternatives q.gives) c ])
  | inr b ↦ b
]
  where
    no : (os : List Occ) → Any (λ o. P (mentioned o)) os → ⊥
    no os (k, o, l, e, holds) = never o holds

-- from the parts to the rules
module _ (p : Program) (n : ℕ) (s : Span) where
  site_breaks : (q : Procedure) (x : Site) → SiteErrors p.procedures q x n s
      → ((n ≡ 1) × UnknownName q x s)
      ⊎ (((n ≡ 3) × AssignToParameter q x s)
      ⊎ (((n ≡ 4) × WrongCount p.procedures q x s)
      ⊎ (((n ≡ 5) × ReturnInLoop q x s)
      ⊎ (((n ≡ 6) × UnknownProcedure p.procedures q x s) ⊎ ((n ≡ 10) × RepeatedResult q x s)))))
  site_breaks q (mentioned o) (inl (e, a, b)) = inl (e, (a, b))
  site_breaks q (mentioned o) (inr (e, a, b)) = absurd b
  site_breaks q (assigned ts) (inl (k, t, l, at_t, (e, a, b))) = inr (inl (e, (k, t, l, at_t, (a, b))))
  site_breaks q (assigned ts) (inr (e, a)) = inr (inr (inr (inr (inr (e, a)))))
  site_breaks q (called ts c es) (inl (e, a)) = inr (inr (inl (e, a)))
  site_breaks q (called ts c es) (inr (e, a)) = inr (inr (inr (inr (inl (e, a)))))
  site_breaks q (returned inside w es) (inl (e, a)) = inr (inr (inl (e, a)))
  site_breaks q (returned inside w es) (inr (e, a)) = inr (inr (inr (inl (e, a))))

  procedure_breaks : (k : ℕ) (q : Procedure) → k < length p.procedures → get_or p.procedures k q ≡ q
      → ProcedureErrors p.procedures q n s → Broken p n s
  procedure_breaks k q l here (inl (e, h)) = duplicate_name e (inr (k, q, l, here, h))
  procedure_breaks k q l here (inr (inl (inl (j, o, m, there, inl (e, a, b))))) =
      unknown_name e (k, q, l, here, in_needs (λ x. UnknownName q x s) q (j, o, m, there, (a, b)))
  procedure_breaks k q l here (inr (inl (inl (j, o, m, there, inr (e, a, b))))) =
      name_out_of_contract e (k, q, l, here, inl (j, o, m, there, (a, b)))
  procedure_breaks k q l here (inr (inl (inr (j, o, m, there, inl (e, a, b))))) =
      unknown_name e (k, q, l, here, in_gives (λ x. UnknownName q x s) q (j, o, m, there, (a, b)))
  procedure_breaks k q l here (inr (inl (inr (j, o, m, there, inr (e, a, b))))) =
      name_out_of_contract e (k, q, l, here, inr (j, o, m, there, (a, b)))
  procedure_breaks k q l here (inr (inr (inl (j, x, m, there, h)))) = elim (site_breaks q x h) [
    | inl (e, a) ↦ unknown_name e (k, q, l, here, in_body (λ x. UnknownName q x s) q (j, x, m, there, a))
    | inr (inl (e, a)) ↦ assign_to_parameter e
        (k, q, l, here, in_body (λ x. AssignToParameter q x s) q (j, x, m, there, a))
    | inr (inr (inl (e, a))) ↦ wrong_count e
        (k, q, l, here, in_body (λ x. WrongCount p.procedures q x s) q (j, x, m, there, a))
    | inr (inr (inr (inl (e, a)))) ↦ return_in_loop e
        (k, q, l, here, in_body (λ x. ReturnInLoop q x s) q (j, x, m, there, a))
    | inr (inr (inr (inr (inl (e, a))))) ↦ unknown_procedure e
        (k, q, l, here, in_body (λ x. UnknownProcedure p.procedures q x s) q (j, x, m, there, a))
    | inr (inr (inr (inr (inr (e, a))))) ↦ repeated_result e
        (k, q, l, here, in_body (λ x. RepeatedResult q x s) q (j, x, m, there, a))
  ]
  procedure_breaks k q l here (inr (inr (inr (e, h)))) = no_body e (k, q, l, here, h)

  pub part_breaks : ProgramErrors p n s → Broken p n s
  part_breaks (inl (inl (inl (e, h)))) = second_link e h
  part_breaks (inl (inl (inr (e, h)))) = data_field e h
  part_breaks (inl (inr (e, h))) = no_link e h
  part_breaks (inr (inl (e, h))) = duplicate_name e (inl h)
  part_breaks (inr (inr (k, q, l, here, h))) = procedure_breaks k q l here h

  -- from the rules to the parts
  in_procedure : (k : ℕ) (q : Procedure) → k < length p.procedures → get_or p.procedures k q ≡ q
      → ProcedureErrors p.procedures q n s → ProgramErrors p n s
  in_procedure k q l here h = inr (inr (k, q, l, here, h))

  at_site : (q : Procedure) → Any (λ x. SiteErrors p.procedures q x n s) (sites_in_body q.body)
      → ProcedureErrors p.procedures q n s
  at_site q a = inr (inr (inl a))

  unknown_at : (q : Procedure) → n ≡ 1 → (x : Site) → UnknownName q x s → SiteErrors p.procedures q x n s
  unknown_at q e (mentioned o) (a, b) = inl (e, a, b)
  unknown_at q e _ a = absurd a

  assigned_at : (q : Procedure) → n ≡ 3 → (x : Site) → AssignToParameter q x s → SiteErrors p.procedures q x n s
  assigned_at q e (assigned ts) (k, t, l, here, (a, b)) = inl (k, t, l, here, (e, a, b))
  assigned_at q e _ a = absurd a

  count_at : (q : Procedure) → n ≡ 4 → (x : Site) → WrongCount p.procedures q x s → SiteErrors p.procedures q x n s
  count_at q e (called ts c es) a = inl (e, a)
  count_at q e (returned inside w es) a = inl (e, a)
  count_at q e _ a = absurd a

  return_at : (q : Procedure) → n ≡ 5 → (x : Site) → ReturnInLoop q x s → SiteErrors p.procedures q x n s
  return_at q e (returned true w es) a = inr (e, a)
  return_at q e _ a = absurd a

  callee_at : (q : Procedure) → n ≡ 6 → (x : Site) → UnknownProcedure p.procedures q x s
      → SiteErrors p.procedures q x n s
  callee_at q e (called ts c es) a = inr (e, a)
  callee_at q e _ a = absurd a

  repeated_at : (q : Procedure) → n ≡ 10 → (x : Site) → RepeatedResult q x s → SiteErrors p.procedures q x n s
  repeated_at q e (assigned ts) a = inr (e, a)
  repeated_at q e _ a = absurd a

  unknown_part : (q : Procedure) → n ≡ 1 → Any (λ x. UnknownName q x s) (sites_of q)
      → ProcedureErrors p.procedures q n s
  unknown_part q e a = elim (parts_of (λ x. UnknownName q x s) q a) [
    | inl (inl (j, o, l, here, (b, c))) ↦ inr (inl (inl (j, o, l, here, inl (e, b, c))))
    | inl (inr (j, o, l, here, (b, c))) ↦ inr (inl (inr (j, o, l, here, inl (e, b, c))))
    | inr b ↦ at_site q (any_weaker (λ x. UnknownName q x s) (λ x. SiteErrors p.procedures q x n s) (unknown_at q e)
        (sites_in_body q.body) b)
  ]

  body_part : (q : Procedure) (R : Site → Type 0) → ((o : Occ) → R (mentioned o) → ⊥)
      → ((x : Site) → R x → SiteErrors p.procedures q x n s) → Any R (sites_of q) → ProcedureErrors p.procedures q n s
  body_part q R never f a =
      at_site q (any_weaker R (λ x. SiteErrors p.procedures q x n s) f (sites_in_body q.body) (body_of R q never a))

  contract_part : (q : Procedure) → n ≡ 9 → NameOutOfContract q s → ProcedureErrors p.procedures q n s
  contract_part q e (inl (j, o, l, here, (b, c))) = inr (inl (inl (j, o, l, here, inr (e, b, c))))
  contract_part q e (inr (j, o, l, here, (b, c))) = inr (inl (inr (j, o, l, here, inr (e, b, c))))

  pub breaks_part : Broken p n s → ProgramErrors p n s
  breaks_part (unknown_name e (k, q, l, here, a)) = in_procedure k q l here (unknown_part q e a)
  breaks_part (duplicate_name e (inl h)) = inr (inl (e, h))
  breaks_part (duplicate_name e (inr (k, q, l, here, h))) = in_procedure k q l here (inl (e, h))
  breaks_part (assign_to_parameter e (k, q, l, here, a)) =
      in_procedure k q l here (body_part q (λ x. AssignToParameter q x s) (λ o b. b) (assigned_at q e) a)
  breaks_part (wrong_count e (k, q, l, here, a)) =
      in_procedure k q l here (body_part q (λ x. WrongCount p.procedures q x s) (λ o b. b) (count_at q e) a)
  breaks_part (return_in_loop e (k, q, l, here, a)) =
      in_procedure k q l here (body_part q (λ x. ReturnInLoop q x s) (λ o b. b) (return_at q e) a)
  breaks_part (unknown_procedure e (k, q, l, here, a)) =
      in_procedure k q l here (body_part q (λ x. UnknownProcedure p.procedures q x s) (λ o b. b) (callee_at q e) a)
  breaks_part (second_link e h) = inl (inl (inl (e, h)))
  breaks_part (data_field e h) = inl (inl (inr (e, h)))
  breaks_part (name_out_of_contract e (k, q, l, here, h)) = in_procedure k q l here (contract_part q e h)
  breaks_part (repeated_result e (k, q, l, here, a)) =
      in_procedure k q l here (body_part q (λ x. RepeatedResult q x s) (λ o b. b) (repeated_at q e) a)
  breaks_part (no_body e (k, q, l, here, h)) = in_procedure k q l here (inr (inr (inr (e, h))))
  breaks_part (no_link e h) = inl (inr (e, h))

-- what the first of all parts' errors says of the rules
pub first_of_some : (p : Program) (found : Option Fault) (f : Fault) → found ≡ Some f
    → IsFirstOf (ProgramErrors p) found → IsFirstBroken p f.number f.span
first_of_some p found f e h =
    let first : IsFirstOf (ProgramErrors p) (Some f) = subst (IsFirstOf (ProgramErrors p)) e h in
    record {
      here = part_breaks p f.number f.span first.says.here;
      first = λ n s b. first.says.first n s (breaks_part p n s b);
    }

pub none_broken : (p : Program) (found : Option Fault) → found ≡ None → IsFirstOf (ProgramErrors p) found → IsTyped p
none_broken p found e h =
    let none : IsFirstOf (ProgramErrors p) None = subst (IsFirstOf (ProgramErrors p)) e h in
    λ n s b. none.says n s (breaks_part p n s b)
