-- Procedures of one name are one, and the procedure of a number.
use Rattle.std.specs.Prelude.{◌≡◌, ◌≢◌, ◌⊎◌, ℕ, ◌<◌, List, length, map, get_or, Some, slice_get, Contains}
use Rattle.std.proofs.lemmas.List.{get_or-map, get_or-take, length-map, length-take-le}
use Rattle.std.proofs.lemmas.Option.{slice_get_within, get_or_from_slice_get}
use Rattle.std.proofs.lemmas.Bool.{cases_eq}
use Rattle.std.proofs.Common.{refl, sym, ◌∙◌, ap, inl, inr, arith}
use Rattle.gh_ast.specs.declared.Occ.{Occ}
use Rattle.gh_ast.specs.declared.Procedure as whole
use Rattle.gh_ast.specs.declared.Program.{Program as Whole}
use Rattle.gh_ast.specs.Plain.{Procedure, Program, procedure_of, program_of}
use Rattle.gh_ast.specs.Programs.{name_of}
use Rattle.gh_ast.specs.Rules.{IsTyped, RepeatedAt, duplicate_name}
use Rattle.gh_machine.proofs.Kept.{at_number}

repeated : (ps : List Procedure) (i j : ℕ) (p q : Procedure) → i < j → slice_get ps i ≡ Some p → slice_get ps j ≡ Some q
    → name_of p ≡ name_of q → RepeatedAt (map (λ (r : Procedure). r.name) ps) q.name.span
repeated ps i j p q before first later same =
    let f : Procedure → Occ = λ r. r.name in
    let count : length (map f ps) ≡ length ps = length-map ps f in
    let j_in : j < length ps = slice_get_within ps j q later in
    let i_in : i < length ps = omega (arith, before, j_in) in
    let at_j : get_or (map f ps) j q.name ≡ q.name =
    get_or-map f ps j q q.name j_in ∙ ap f (get_or_from_slice_get ps j q q later) in
    let at_i : get_or (map f ps) i p.name ≡ p.name =
    get_or-map f ps i p p.name i_in ∙ ap f (get_or_from_slice_get ps i p p first) in
    record {
      here = q.name;
      place = j;
      within = omega (arith, j_in, count);
      element = at_j;
      earlier = (
        i,
        p.name,
        rw (length-take-le j (map f ps) (omega (arith, j_in, count))) before,
        rw (get_or-take j (map f ps) i p.name before) at_i,
        same,
      );
      span = refl;
    }

-- two procedures of a typed program with one name have one number
pub one_number : (P : Program) → IsTyped P → (i j : ℕ) (proc q : Procedure) → slice_get P.procedures i ≡ Some proc
    → slice_get P.procedures j ≡ Some q → name_of proc ≡ name_of q → i ≡ j
one_number P typed i j proc q first later same =
    elim (cases_eq i j) [
      | inl one ↦ one
      | inr other ↦ absurd
          (elim (apart i j other) [
            | inl less ↦ by_order i j proc q less first later same
            | inr more ↦ by_order j i q proc
                more later first (sym same)
          ])
    ]
  where
    by_order : (i j : ℕ) (proc q : Procedure) → i < j → slice_get P.procedures i ≡ Some proc
        → slice_get P.procedures j ≡ Some q → name_of proc ≡ name_of q → ⊥
    by_order i j proc q less first later same =
        typed 2 q.name.span (duplicate_name refl (inl (repeated P.procedures i j proc q less first later same)))

    apart : (i j : ℕ) → i ≢ j → (i < j) ⊎ (j < i)
    apart i j other = grind arith

pub some_one : (p q : Procedure) → Some p ≡ Some q → p ≡ q
some_one p q e = cc

pub one_procedure : (P : Program) → IsTyped P → (i j : ℕ) (proc q : Procedure) → slice_get P.procedures i ≡ Some proc
    → slice_get P.procedures j ≡ Some q → name_of proc ≡ name_of q → proc ≡ q
one_procedure P typed i j proc q first later same =
    some_one proc q (sym first ∙ ap (slice_get P.procedures) (one_number P typed i j proc q first later same) ∙ later)

-- the procedure that stands at the number
pub is_at : (W : Whole) (n : ℕ) (r : whole.Procedure) (p : Procedure) → n < length W.procedures.items
    → r ≡ get_or W.procedures.items n r → slice_get (program_of W).procedures n ≡ Some p → procedure_of r ≡ p
is_at W n r p within is there =
    sym (at_number W n r within is p) ∙ get_or_from_slice_get (program_of W).procedures n p p there

pub number_within : (W : Whole) (n : ℕ) (p : Procedure) → slice_get (program_of W).procedures n ≡ Some p
    → n < length W.procedures.items
number_within W n p there =
    omega (arith, slice_get_within (program_of W).procedures n p there, length-map W.procedures.items procedure_of)

pub member_at : (P : Program) (n : ℕ) (proc : Procedure) → slice_get P.procedures n ≡ Some proc
    → Contains P.procedures proc
member_at P n proc there =
    (n, slice_get_within P.procedures n proc there, get_or_from_slice_get P.procedures n proc proc there)

-- the same where the program and the number are read first
pub read_at : (W V : Whole) (n m : ℕ) (r : whole.Procedure) (p : Procedure) → V ≡ W → m ≡ n
    → r ≡ get_or V.procedures.items m r → slice_get (program_of W).procedures n ≡ Some p → procedure_of r ≡ p
read_at W V n m r p same number is there =
    let at : r ≡ get_or W.procedures.items n r =
    is ∙ ap (λ (X : Whole). get_or X.procedures.items m r) same ∙ ap (λ k. get_or W.procedures.items k r) number in
    is_at W n r p (number_within W n p there) at there
