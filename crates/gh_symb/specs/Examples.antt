-- Six programs, and how many versions and terms their conditions have.
use Rattle.std.specs.Prelude.{◌≡◌, ℕ, List, [], ◌∷◌, map, length, Option, Some, None, true, false, codes, slice_get}
use Rattle.std.specs.List.{flat_map}
use Rattle.gh_ast.specs.declared.Expr.TheVariants.{Plain}
use Rattle.gh_ast.specs.Programs.{variable_names}
use Rattle.gh_ast.specs.Plain.{Assertion, empty, cell, points_to, segment, comparison, star, no_assertions}
use Rattle.gh_ast.specs.Plain.{assertion_first, set, new, free, call, no_statements, statement_first, Procedure}
use Rattle.gh_ast.specs.Plain.{Program}
use Rattle.gh_path.specs.Conditions.{Condition, conditions}
use Rattle.gh_path.specs.Examples.{at, named, var, null, reversal, concatenation}
use Rattle.gh_path.specs.Terms.{terms_of, versions_of}
use Rattle.gh_symb.specs.Symbolic.{access_step, free_step, new_step, symbolic_of}

-- nothing is done
abbrev pub nop : Procedure
nop =
    record {
      name = named (codes "nop") (at 2 11);
      parameters = [];
      results = [];
      needs = empty;
      gives = empty ∷ [];
      body = Some (record { locals = []; statements = no_statements; close = at 5 3 });
      close = at 5 3;
    }

abbrev pub smallest : Program
smallest = record { fields = []; close = at 1 32; procedures = nop ∷ [] }

-- free x; y := new Node;
abbrev pub reuse : Procedure
reuse =
    record {
      name = named (codes "reuse") (at 2 11);
      parameters = named (120 ∷ []) (at 2 17) ∷ [];
      results = named (121 ∷ []) (at 2 35) ∷ [];
      needs = cell (named (120 ∷ []) (at 3 16));
      gives = star (assertion_first (cell (named (121 ∷ []) (at 4 15)))
          (assertion_first (comparison (var 120 4 22) false (var 121 4 27)) no_assertions)) ∷ [];
      body = Some (record {
        locals = [];
        statements =
            statement_first (free (named (120 ∷ []) (at 6 8)))
            (statement_first (new (named (121 ∷ []) (at 7 3))) no_statements);
        close = at 8 1;
      });
      close = at 8 1;
    }

abbrev pub freed_again : Program
freed_again = record { fields = []; close = at 1 32; procedures = reuse ∷ [] }

-- y := x; where the first of two alternatives is `y == null &*& x == null`
abbrev pub pick : Assertion → Procedure
pick other =
    record {
      name = named (codes "pick") (at 1 11);
      parameters = named (120 ∷ []) (at 1 16) ∷ [];
      results = named (121 ∷ []) (at 1 34) ∷ [];
      needs = segment (var 120 2 17) (null 2 20);
      gives = star (assertion_first (comparison (var 121 3 11) true (null 3 16))
          (assertion_first (comparison (var 120 3 25) true (null 3 30)) no_assertions)) ∷ other ∷ [];
      body = Some (record {
        locals = [];
        statements =
            statement_first (set (named (121 ∷ []) (at 5 3)) (Plain (var 120 5 8))) no_statements;
        close = at 6 1;
      });
      close = at 6 1;
    }

-- `y != null &*& lseg(y, null)`
abbrev pub some_list : Assertion
some_list = star (assertion_first (comparison (var 121 3 38) false (null 3 43))
    (assertion_first (segment (var 121 3 57) (null 3 60)) no_assertions))

-- y := pick(x);
abbrev pub use_pick : Procedure
use_pick =
    record {
      name = named (codes "use") (at 7 11);
      parameters = named (120 ∷ []) (at 7 15) ∷ [];
      results = named (121 ∷ []) (at 7 33) ∷ [];
      needs = segment (var 120 8 17) (null 8 20);
      gives = segment (var 121 9 16) (null 9 19) ∷ [];
      body = Some (record {
        locals = [];
        statements =
            statement_first (call (named (121 ∷ []) (at 11 3) ∷ []) (named (codes "pick") (at 11 8))
            (Plain (var 120 11 13) ∷ [])) no_statements;
        close = at 12 1;
      });
      close = at 12 1;
    }

abbrev pub picked : Program
picked = record { fields = []; close = at 1 32; procedures = pick some_list ∷ use_pick ∷ [] }

-- `pick` alone, whose second alternative is `x.next |-> null`
abbrev pub picked_first : Program
picked_first = record {
  fields = [];
  close = at 1 32;
  procedures = pick (points_to (named (120 ∷ []) (at 3 38)) (null 3 49)) ∷ [];
}

pub record Size : Type 0 where
  pub versions : ℕ
  pub terms : ℕ

abbrev pub size : ℕ → ℕ → Size
size v t = record { versions = v; terms = t }

-- what f tells of a condition and its procedure
abbrev pub told : {A : Type 0} → (Procedure → Condition → A) → Condition → Option Procedure → List A
told f c None = []
told f c (Some p) = f p c ∷ []

-- .. of all conditions of a program, in order
abbrev pub all_told : {A : Type 0} → (Procedure → Condition → A) → Program → List A
all_told f P = flat_map (λ c. told f c (slice_get P.procedures c.procedure)) (conditions P)

abbrev pub size_of : Program → Procedure → Condition → Size
size_of P proc c = size (versions_of P proc c.start c.way) (length (terms_of P proc c.start c.way))

abbrev pub sizes : Program → List Size
sizes P = all_told (size_of P) P

-- the sizes of the conditions of six programs, in order
pub record ExamplesHold : Type 0 where
  pub of_nothing : sizes smallest ≡ size 1 1 ∷ []
  pub with_a_loop : sizes reversal ≡ size 1 2 ∷ size 2 5 ∷ size 1 3 ∷ size 1 4 ∷ size 2 4 ∷ []
  pub with_a_call : sizes concatenation ≡ size 1 3 ∷ size 1 3 ∷ size 1 4 ∷ size 2 5 ∷ size 3 6 ∷ []
  pub with_a_new_cell : sizes freed_again ≡ size 1 3 ∷ size 3 6 ∷ []
  pub with_alternatives : sizes picked ≡ size 1 2 ∷ size 1 2 ∷ size 2 3 ∷ []
  pub with_a_later_cell : sizes picked_first ≡ size 1 3 ∷ []

-- y := x; y := c;
abbrev pub late : Procedure
late =
    record {
      name = named (codes "late") (at 2 11);
      parameters = named (120 ∷ []) (at 2 16) ∷ [];
      results = named (121 ∷ []) (at 2 34) ∷ [];
      needs = empty;
      gives = empty ∷ [];
      body = Some (record {
        locals = named (99 ∷ []) (at 4 7) ∷ [];
        statements =
            statement_first (set (named (121 ∷ []) (at 5 3)) (Plain (var 120 5 8)))
            (statement_first (set (named (121 ∷ []) (at 6 3)) (Plain (var 99 6 8))) no_statements);
        close = at 7 1;
      });
      close = at 7 1;
    }

abbrev pub used_late : Program
used_late = record { fields = []; close = at 1 32; procedures = late ∷ [] }

-- the terms of the variables of its procedure at each state of a condition
abbrev pub states_of : Program → Procedure → Condition → List (List (Option ℕ))
states_of P proc c = map (λ b. map b (variable_names proc)) (symbolic_of P proc c).bindings

abbrev pub all_states : Program → List (List (List (Option ℕ)))
all_states P = all_told (states_of P) P

-- a local that is never assigned has its term from the start; a result has none before it is first assigned
pub record StatesHold : Type 0 where
  pub used_later : all_states used_late
      ≡ ((Some 1 ∷ None ∷ Some 2 ∷ []) ∷ (Some 1 ∷ Some 1 ∷ Some 2 ∷ []) ∷ (Some 1 ∷ Some 2 ∷ Some 2 ∷ []) ∷ []) ∷ []
  pub made_later : all_states freed_again ≡
      ((Some 1 ∷ None ∷ []) ∷ [])
      ∷ ((Some 1 ∷ None ∷ []) ∷ (Some 1 ∷ None ∷ []) ∷ (Some 1 ∷ None ∷ []) ∷ (Some 1 ∷ Some 3 ∷ []) ∷ [])
      ∷ []
  pub over_terms : all_told (λ p c. (symbolic_of freed_again p c).steps) freed_again
      ≡ [] ∷ (access_step 1 ∷ free_step 1 ∷ new_step 3 4 ∷ []) ∷ []
