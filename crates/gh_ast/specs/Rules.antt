-- The type rules. For each rule a relation says at which places it is broken.
use Rattle.std.specs.Prelude.{◌≡◌, ◌≢◌, ℕ, ◌<◌, ◌≤◌, ◌⊎◌, List, ◌++◌, map, length, true, None, Any, slice_index_or}
use Rattle.std.specs.Prelude.{take, codes}
use Rattle.gh_base.specs.declared.place.Span.{Span}
use Rattle.gh_ast.specs.declared.Occ.{Occ}
use Rattle.gh_ast.specs.declared.Field.{Field}
use Rattle.gh_ast.specs.Plain.{Procedure, Program}
use Rattle.gh_ast.specs.Occurrences.{Site, mentioned, assigned, called, returned, sites_of, in_assertion}
use Rattle.gh_ast.specs.Occurrences.{in_alternatives, locals_of, variables_of}
use Rattle.gh_ast.specs.Programs.{IsFirstNamed}

-- one of these occurrences has this name
abbrev pub HasName : List Occ → List ℕ → Type 0
HasName os name = Any (λ o. o.name ≡ name) os

-- the list has at s an occurrence whose name stands earlier in it
pub record RepeatedAt (os : List Occ) (s : Span) : Type 0 where
  pub here : Occ
  pub place : ℕ
  pub within : place < length os
  pub element : slice_index_or os place here ≡ here
  pub earlier : HasName (take place os) here.name
  pub span : here.span ≡ s

-- 1: an occurrence of a variable that names no variable of the procedure
abbrev pub UnknownName : Procedure → Site → Span → Type 0
UnknownName q (mentioned o) s = (o.span ≡ s) × (HasName (variables_of q) o.name → ⊥)
UnknownName q _ s = ⊥

-- 2: a procedure's name that an earlier procedure has; a variable's name that an earlier variable of the procedure has
abbrev pub DuplicateName : Program → Span → Type 0
DuplicateName p s =
    RepeatedAt (map (λ q. q.name) p.procedures) s ⊎ Any (λ q. RepeatedAt (variables_of q) s) p.procedures

-- 3: a target that is a parameter
abbrev pub AssignToParameter : Procedure → Site → Span → Type 0
AssignToParameter q (assigned ts) s = Any (λ t. (t.span ≡ s) × HasName q.parameters t.name) ts
AssignToParameter q _ s = ⊥

-- 4: a call whose arguments or targets, or a return whose values, aren't as many as they should be
abbrev pub WrongCount : List Procedure → Procedure → Site → Span → Type 0
WrongCount ps q (called ts c es) s =
    (c.span ≡ s) × ((r : Procedure) × IsFirstNamed ps c.name r
    × ((length es ≢ length r.parameters) ⊎ (length ts ≢ length r.results)))
WrongCount ps q (returned inside w es) s = (w ≡ s) × (length es ≢ length q.results)
WrongCount ps q _ s = ⊥

-- 5: a return inside a loop's body
abbrev pub ReturnInLoop : Procedure → Site → Span → Type 0
ReturnInLoop q (returned true w es) s = w ≡ s
ReturnInLoop q _ s = ⊥

-- 6: a callee's name that no procedure has
abbrev pub UnknownProcedure : List Procedure → Procedure → Site → Span → Type 0
UnknownProcedure ps q (called ts c es) s = (c.span ≡ s) × (Any (λ r. r.name.name ≡ c.name) ps → ⊥)
UnknownProcedure ps q _ s = ⊥

-- the one field that is allowed: `next`, of type `Node`
abbrev pub IsLink : Field → Type 0
IsLink f = (f.name.name ≡ codes "next") × (f.kind ≡ codes "Node")

-- 7: a field of type `Node` that isn't `next`, or that is a later `next`
pub record SecondLink (fs : List Field) (s : Span) : Type 0 where
  pub here : Field
  pub place : ℕ
  pub within : place < length fs
  pub element : slice_index_or fs place here ≡ here
  pub kind : here.kind ≡ codes "Node"
  pub second : (here.name.name ≢ codes "next") ⊎ Any IsLink (take place fs)
  pub span : here.name.span ≡ s

-- 8: a field of another type
abbrev pub DataField : List Field → Span → Type 0
DataField fs s = Any (λ f. (f.name.span ≡ s) × (f.kind ≢ codes "Node")) fs

-- 9: in what a procedure requires, a result or a local; in an alternative of what it ensures, a local
abbrev pub NameOutOfContract : Procedure → Span → Type 0
NameOutOfContract q s =
    Any (λ o. (o.span ≡ s) × HasName (q.results ++ locals_of q) o.name) (in_assertion q.needs)
    ⊎ Any (λ o. (o.span ≡ s) × HasName (locals_of q) o.name) (in_alternatives q.gives)

-- 10: a target that stands earlier among the same targets
abbrev pub RepeatedResult : Procedure → Site → Span → Type 0
RepeatedResult q (assigned ts) s = RepeatedAt ts s
RepeatedResult q _ s = ⊥

-- 11: the semicolon in the place of a body
abbrev pub NoBody : Procedure → Span → Type 0
NoBody q s = (q.close ≡ s) × (q.body ≡ None)

-- 12: the last brace of a struct without its link
abbrev pub NoLink : List Field → Span → Span → Type 0
NoLink fs close s = (close ≡ s) × (Any IsLink fs → ⊥)

-- a rule on procedures is broken in some procedure
abbrev pub InSome : Program → (Procedure → Span → Type 0) → Span → Type 0
InSome p R s = Any (λ q. R q s) p.procedures

-- a rule on sites is broken at some site of some procedure
abbrev pub AtSome : Program → (Procedure → Site → Span → Type 0) → Span → Type 0
AtSome p R s = InSome p (λ q t. Any (λ x. R q x t) (sites_of q)) s

-- the rule with this number is broken at this place
pub data Broken (p : Program) (number : ℕ) (s : Span) : Type 0 where
  unknown_name : number ≡ 1 → AtSome p UnknownName s → Broken p number s
  duplicate_name : number ≡ 2 → DuplicateName p s → Broken p number s
  assign_to_parameter : number ≡ 3 → AtSome p AssignToParameter s → Broken p number s
  wrong_count : number ≡ 4 → AtSome p (WrongCount p.procedures) s → Broken p number s
  return_in_loop : number ≡ 5 → AtSome p ReturnInLoop s → Broken p number s
  unknown_procedure : number ≡ 6 → AtSome p (UnknownProcedure p.procedures) s → Broken p number s
  second_link : number ≡ 7 → SecondLink p.fields s → Broken p number s
  data_field : number ≡ 8 → DataField p.fields s → Broken p number s
  name_out_of_contract : number ≡ 9 → InSome p NameOutOfContract s → Broken p number s
  repeated_result : number ≡ 10 → AtSome p RepeatedResult s → Broken p number s
  no_body : number ≡ 11 → InSome p NoBody s → Broken p number s
  no_link : number ≡ 12 → NoLink p.fields p.close s → Broken p number s

-- no rule is broken anywhere
abbrev pub IsTyped : Program → Type 0
IsTyped p = (number : ℕ) (s : Span) → Broken p number s → ⊥

-- one place stands before another
abbrev pub Before : Span → Span → Type 0
Before s t = (s.line < t.line) ⊎ ((s.line ≡ t.line) × (s.col < t.col))

-- an error goes before another by its place, or at one place by its number, or is the same
abbrev pub GoesFirst : ℕ → Span → ℕ → Span → Type 0
GoesFirst m s n t = Before s t ⊎ ((s ≡ t) × (m ≤ n))

-- the first of some errors: by place, and at one place by number
pub record IsFirstError (E : ℕ → Span → Type 0) (number : ℕ) (s : Span) : Type 0 where
  pub here : E number s
  pub first : (n : ℕ) (t : Span) → E n t → GoesFirst number s n t

-- the first of all errors of a program
abbrev pub IsFirstBroken : Program → ℕ → Span → Type 0
IsFirstBroken p number s = IsFirstError (Broken p) number s
