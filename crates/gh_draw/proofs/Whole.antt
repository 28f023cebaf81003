-- A whole file: the states for a condition, and a drawing after the lines that are skipped.
use Rattle.std.specs.Prelude.{◌≡◌, ◌≢◌, ◌⊎◌, ℕ, ◌-◌, ◌<◌, List, [], ◌∷◌, length, get_or, slice_get, Option, Some, None}
use Rattle.std.specs.Prelude.{true, false, ◌==◌, AllPairs}
use Rattle.std.proofs.Common.{refl, sym, ◌∙◌, ap, subst, inl, inr, arith}
use Rattle.std.proofs.lemmas.List.{length-map}
use Rattle.std.proofs.lemmas.List.Elements.{All-nil}
use Rattle.std.proofs.lemmas.Bool.Decides.{nat_tests}
use Rattle.std.proofs.lemmas.Option.{slice_get_within}
use Rattle.gh_ast.specs.declared.Program as read
use Rattle.gh_ast.specs.Plain.{Procedure, Program, program_of, procedure_of}
use Rattle.gh_ast.specs.Programs.{Name, variable_names}
use Rattle.gh_ast.specs.Rules.{IsTyped}
use Rattle.gh_ast.proofs.Lists.{one_value}
use Rattle.gh_ast.proofs.TypedPrograms.{variables_are_distinct}
use Rattle.gh_path.specs.Answers.{IsNumbered}
use Rattle.gh_path.specs.Conditions.{Condition, conditions, IsConditionAt, IsOf}
use Rattle.gh_path.specs.Kept.{condition_of}
use Rattle.gh_path.specs.declared.condition.Condition as kept
use Rattle.gh_trace.specs.declared.state.State.{State}
use Rattle.gh_trace.proofs.FirstRefuted.{placed}
use Rattle.gh_trace.proofs.Insides.{contained_at}
use Rattle.gh_draw.specs.Drawn.{drawing_text, IsDrawnFor, IsOtherLine, IsFileOf}
use Rattle.gh_draw.specs.Reading.{IsFrontRead, IsDrawingIn, IsDrawingOf, ShowsStates, ShowsTrace, ShowsCondition, Skips}
use Rattle.gh_draw.specs.declared.drawing.Drawing.{Drawing}
use Rattle.gh_draw.proofs.Fronts.{states_one, condition_one, skips_one}
use Rattle.gh_draw.proofs.Shown.{file_shown, shown_file, file_one, same_procedure}
use Rattle.gh_draw.proofs.Told.{image}

-- the text of a drawing is a file that has it
pub file_alone : (P : Program) (n : ℕ) (xs : List State) → IsDrawnFor P n xs → IsFileOf P (drawing_text n xs) n xs
file_alone P n xs drawn = record { skipped = []; others = All-nil IsOtherLine; whole = refl; drawn = drawn }

-- the condition of the number is the one that a trace is for
same_numbered : (P : Program) (n : ℕ) (t : List ℕ) (xs : List State) (c : Condition)
    → slice_get (conditions P) (n - 1) ≡ Some c → (s : ShowsTrace P n t xs) → s.condition ≡ c
same_numbered P n t xs c there s = one_value (slice_get (conditions P) (n - 1)) s.condition c s.at.1 there

pub trace_no_condition : (P : Program) (n : ℕ) (t : List ℕ) → IsNumbered P n None → (xs : List State)
    → ShowsTrace P n t xs → ⊥
trace_no_condition P n t (inl none) xs s = absurd (let low = s.at.0 in omega (arith, none, low))
trace_no_condition P n t (inr past) xs s =
    absurd (let low = s.at.0 in omega (arith, low, past, slice_get_within (conditions P) (n - 1) s.condition s.at.1))

-- names that are the variables of the condition of a number
pub record AreNamesFor (P : Program) (n : ℕ) (ns : List Name) : Type 0 where
  pub condition : Condition
  pub procedure : Procedure
  pub of : IsOf P condition procedure
  pub at : IsConditionAt P n condition
  pub names : ns ≡ variable_names procedure

pub names_for : (P : read.Program) (n : ℕ) (r : kept.Condition) (q : _) (ns : List Name)
    → IsNumbered (program_of P) n (Some r) → q ≡ get_or P.procedures.items r.procedure q
    → ns ≡ variable_names (procedure_of q)
    → AreNamesFor (program_of P) n ns
names_for P n r q ns (low, there) is named =
    let at = placed (program_of P) (n - 1) (condition_of r) there in
    record {
      condition = condition_of r;
      procedure = at.procedure;
      of = at.of;
      at = (low, there);
      names = named ∙ ap variable_names (image procedure_of P.procedures.items r.procedure q at.procedure is at.of);
    }

moved : (P : Program) (n : ℕ) (ns : List Name) (t : List ℕ) (xs : List State) → AreNamesFor P n ns → ShowsTrace P n t xs
    → ShowsStates ns 0 t xs []
moved P n ns t xs a s =
    let same =
    same_procedure P s.condition a.condition s.procedure a.procedure (same_numbered P n t xs a.condition a.at.1 s)
    s.of a.of in
    subst (λ z. ShowsStates z 0 t xs []) (sym a.names)
    (subst (λ (proc : Procedure). ShowsStates (variable_names proc) 0 t xs []) same s.states)

pub trace_no_states : (P : Program) (n : ℕ) (ns : List Name) (t left : List ℕ) → AreNamesFor P n ns
    → IsFrontRead (ShowsStates ns 0) t left None → (xs : List State) → ShowsTrace P n t xs → ⊥
trace_no_states P n ns t left a none xs s = none xs [] (moved P n ns t xs a s)

pub trace_no_more : (P : Program) (n : ℕ) (ns : List Name) (t left : List ℕ) (ys : List State) → AreNamesFor P n ns
    → ShowsStates ns 0 t ys left → (ys ≡ []) ⊎ (left ≡ [] → ⊥) → (xs : List State) → ShowsTrace P n t xs → ⊥
trace_no_more P n ns t left ys a shown bad xs s =
    by_case bad (states_one ns 0 t ys xs left [] shown (moved P n ns t xs a s))
  where
    by_case : (ys ≡ []) ⊎ (left ≡ [] → ⊥) → (ys ≡ xs) × (left ≡ []) → ⊥
    by_case (inl none) one = s.some (sym one.0 ∙ none)
    by_case (inr more) one = more one.1

pub trace_whole : (P : Program) (n : ℕ) (ns : List Name) (t left : List ℕ) (ys : List State) → AreNamesFor P n ns
    → ShowsStates ns 0 t ys left → ys ≢ [] → left ≡ [] → ShowsTrace P n t ys
trace_whole P n ns t left ys a shown some none = record {
  condition = a.condition;
  procedure = a.procedure;
  of = a.of;
  at = a.at;
  some = some;
  states = subst (λ z. ShowsStates z 0 t ys []) a.names (subst (λ z. ShowsStates ns 0 t ys z) none shown);
}

pub within : (P : read.Program) (n : ℕ) (r : kept.Condition) → IsNumbered (program_of P) n (Some r)
    → r.procedure < length P.procedures.items
within P n r (low, there) =
    let at = placed (program_of P) (n - 1) (condition_of r) there in
    omega (
      arith,
      slice_get_within (program_of P).procedures r.procedure at.procedure at.of,
      length-map P.procedures.items procedure_of,
    )

pub names_distinct : (P : Program) (n : ℕ) (ns : List Name) → IsTyped P → AreNamesFor P n ns
    → AllPairs (λ x y. x ≢ y) ns
names_distinct P n ns typed a =
    subst (λ zs. AllPairs (λ x y. x ≢ y) zs) (sym a.names)
    (variables_are_distinct P typed a.procedure (contained_at P.procedures a.condition.procedure a.procedure a.of))

is_other : (n : ℕ) → 0 < n → (n == 0) ≡ false
is_other n p = grind (arith, nat_tests)

no_zero : (n : ℕ) → 0 < n → true ≡ (n == 0) → ⊥
no_zero n p e = let other : (n == 0) ≡ false = is_other n p in let bad : true ≡ false = e ∙ other in absurd cc

pub is_nothing : {A : Type 0} (xs : List A) → true ≡ (length xs == 0) → xs ≡ []
is_nothing [] e = refl
is_nothing (x ∷ xs) e = absurd (no_zero (length (x ∷ xs)) (omega arith) e)

pub is_something : {A : Type 0} (xs : List A) → false ≡ (length xs == 0) → xs ≡ [] → ⊥
is_something [] e f = absurd cc
is_something (x ∷ xs) e f = absurd cc

-- the file

pub file_no_drawing : (P : Program) (t : List ℕ) → ((rest : List ℕ) → Skips t rest → ⊥) → (n : ℕ) (xs : List State)
    → IsFileOf P t n xs → ⊥
file_no_drawing P t none n xs f = none (file_shown P t n xs f).body (file_shown P t n xs f).skips

pub file_no_number : (P : Program) (t now left : List ℕ) → Skips t now → IsFrontRead ShowsCondition now left None
    → (n : ℕ) (xs : List State) → IsFileOf P t n xs → ⊥
file_no_number P t now left skips none n xs f =
    let s = file_shown P t n xs f in
    none n s.states_text (subst (λ z. ShowsCondition z n s.states_text) (skips_one t s.body now s.skips skips)
    s.condition)

pub file_no_trace : (P : Program) (t now left : List ℕ) (m : ℕ) → Skips t now → ShowsCondition now m left
    → ((xs : List State) → ShowsTrace P m left xs → ⊥) → (n : ℕ) (xs : List State) → IsFileOf P t n xs → ⊥
file_no_trace P t now left m skips shown none n xs f =
    let s = file_shown P t n xs f in
    let both =
    condition_one now n m s.states_text left
    (subst (λ z. ShowsCondition z n s.states_text) (skips_one t s.body now s.skips skips) s.condition) shown in
    none xs (subst (λ z. ShowsTrace P z left xs) both.0 (subst (λ z. ShowsTrace P n z xs) both.1 s.trace))

pub file_whole : (P : Program) (t now left : List ℕ) (n : ℕ) (xs : List State) → Skips t now → ShowsCondition now n left
    → ShowsTrace P n left xs → IsFileOf P t n xs
file_whole P t now left n xs skips shown trace =
    shown_file P t n xs (record { body = now; states_text = left; skips = skips; condition = shown; trace = trace })

-- what is read from the text of a drawing is that drawing
pub read_back : (P : Program) (n : ℕ) (xs : List State) (read : Option Drawing) → IsDrawnFor P n xs
    → IsDrawingIn P (drawing_text n xs) read → IsDrawingOf n xs read
read_back P n xs None drawn none = absurd (none n xs (file_alone P n xs drawn))
read_back P n xs (Some d) drawn found =
    file_one P (drawing_text n xs) d.condition n d.trace.states.items xs
    (file_shown P (drawing_text n xs) d.condition d.trace.states.items found)
    (file_shown P (drawing_text n xs) n xs (file_alone P n xs drawn))
