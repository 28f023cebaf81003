-- The number of the procedure of a name.
use Rattle.std.specs.Prelude.{◌≡◌, ◌⊎◌, ℕ, ◌+◌, ◌<◌, ◌≤◌, List, length, get_or, true, false, Some, slice_get}
use Rattle.std.specs.Str.{bytes_eq}
use Rattle.std.proofs.lemmas.Slice.Eq.{bytes_eq-Decides}
use Rattle.std.proofs.lemmas.List.{length-map}
use Rattle.std.proofs.lemmas.Option.{slice_get-map, slice_get_read, slice_get_within}
use Rattle.std.specs.Prelude.{option_map}
use Rattle.std.proofs.Common.{refl, sym, ◌∙◌, ap, inl, inr, arith}
use Rattle.gh_ast.specs.declared.Procedure as whole
use Rattle.gh_ast.specs.declared.Program.{Program as Whole}
use Rattle.gh_ast.specs.Plain.{procedure_of, program_of}
use Rattle.gh_ast.specs.Programs.{Name, name_of}
use Rattle.gh_run.specs.Lines.{IsNumberOf}
use Rattle.gh_run.proofs.Procedures.{some_one}

-- what is read at a place stands there
stands : (W : Whole) (ps : List whole.Procedure) (i : ℕ) (r : whole.Procedure) → ps ≡ W.procedures.items → i < length ps
    → r ≡ get_or ps i r → slice_get (program_of W).procedures i ≡ Some (procedure_of r)
stands W ps i r same within is =
    slice_get-map procedure_of W.procedures.items i
    ∙ ap (λ (qs : List whole.Procedure). option_map procedure_of (slice_get qs i)) (sym same)
    ∙ ap (option_map procedure_of) (slice_get_read ps (length ps) i r refl within is)

pub found_at : (W : Whole) (ps : List whole.Procedure) (i : ℕ) (r : whole.Procedure) (name bytes : Name)
    → ps ≡ W.procedures.items → i < length ps → r ≡ get_or ps i r → bytes ≡ r.name.name → bytes_eq bytes name ≡ true
    → IsNumberOf (program_of W) name i
found_at W ps i r name bytes same within is named equal =
    record {
      procedure = procedure_of r;
      numbered = stands W ps i r same within is;
      named = sym named ∙ (bytes_eq-Decides bytes name).0 equal;
    }

-- one more procedure has another name
pub other_name : (W : Whole) (ps : List whole.Procedure) (i : ℕ) (r : whole.Procedure) (name bytes : Name)
    → ps ≡ W.procedures.items → i < length ps → r ≡ get_or ps i r → bytes ≡ r.name.name → bytes_eq bytes name ≡ false
    → ((n : ℕ) → n < i → IsNumberOf (program_of W) name n → ⊥) → (n : ℕ) → n < i + 1 → IsNumberOf (program_of W) name n
    → ⊥
other_name W ps i r name bytes same within is named differs none n less found = elim (order n i less) [
  | inl before ↦ none n before found
  | inr at ↦
      let there : slice_get (program_of W).procedures i ≡ Some found.procedure =
      ap (λ k. slice_get (program_of W).procedures k) (sym at) ∙ found.numbered in
      let one : procedure_of r ≡ found.procedure =
      some_one (procedure_of r) found.procedure (sym (stands W ps i r same within is) ∙ there) in
      let names : bytes ≡ name = named ∙ ap name_of one ∙ found.named in
      let equal : bytes_eq bytes name ≡ true = (bytes_eq-Decides bytes name).1 names in
      absurd cc
]
  where
    order : (n i : ℕ) → n < i + 1 → (n < i) ⊎ (n ≡ i)
    order n i less = grind arith

pub none_of_name : (W : Whole) (ps : List whole.Procedure) (i : ℕ) (name : Name) → ps ≡ W.procedures.items
    → length ps ≤ i → ((n : ℕ) → n < i → IsNumberOf (program_of W) name n → ⊥) → (n : ℕ)
    → IsNumberOf (program_of W) name n → ⊥
none_of_name W ps i name same past none n found =
    let within = slice_get_within (program_of W).procedures n found.procedure found.numbered in
    let count : length (program_of W).procedures ≡ length ps =
    length-map W.procedures.items procedure_of ∙ ap length (sym same) in
    none n (omega (arith, within, count, past)) found
