-- The procedure of a number at its start.
use Rattle.std.specs.Prelude.{◌≡◌, ◌≢◌, ℕ, ◌<◌, List, length, get_or, AllPairs, Contains}
use Rattle.std.proofs.lemmas.List.{length-map}
use Rattle.std.proofs.Common.{◌∙◌, ap, subst}
use Rattle.gh_ast.specs.declared.Occ.{Occ}
use Rattle.gh_ast.specs.declared.Procedure as whole
use Rattle.gh_ast.specs.declared.Program.{Program as Whole}
use Rattle.gh_ast.specs.Plain.{Procedure, procedure_of, program_of}
use Rattle.gh_ast.specs.Programs.{variable_names, parameters_of}
use Rattle.gh_ast.specs.Rules.{IsTyped}
use Rattle.gh_ast.proofs.TypedPrograms.{variables_are_distinct}
use Rattle.gh_machine.specs.Configs.{starts_of}
use Rattle.gh_machine.proofs.Kept.{at_number, number_there}

-- the procedure of the number, as it is read
read_at : (p p' : Whole) (n n' : ℕ) (r : whole.Procedure) → p' ≡ p → n' ≡ n → r ≡ get_or p'.procedures.items n' r
    → r ≡ get_or p.procedures.items n r
read_at p p' n n' r same is at =
    at ∙ ap (λ z. get_or z.procedures.items n' r) same ∙ ap (λ k. get_or p.procedures.items k r) is

pub started_typed : (p p' : Whole) → p' ≡ p → IsTyped (program_of p') → IsTyped (program_of p)
started_typed p p' same typed = subst (λ z. IsTyped (program_of z)) same typed

pub started_there : (p p' : Whole) (n n' : ℕ) (r : whole.Procedure) → p' ≡ p → n' ≡ n → n < length p.procedures.items
    → r ≡ get_or p'.procedures.items n' r → Contains (program_of p).procedures (procedure_of r)
started_there p p' n n' r same is within at = number_there p n r within (read_at p p' n n' r same is at)

pub started_apart : (p p' : Whole) (n n' : ℕ) (r : whole.Procedure) → p' ≡ p → IsTyped (program_of p') → n' ≡ n
    → n < length p.procedures.items → r ≡ get_or p'.procedures.items n' r
    → AllPairs (λ x y. x ≢ y) (variable_names (procedure_of r))
started_apart p p' n n' r same typed is within at =
    variables_are_distinct (program_of p) (started_typed p p' same typed) (procedure_of r)
    (started_there p p' n n' r same is within at)

pub started_arguments : (p p' : Whole) (n n' : ℕ) (r : whole.Procedure) (vs : List ℕ) → p' ≡ p → n' ≡ n
    → n < length p.procedures.items → r ≡ get_or p'.procedures.items n' r
    → ((d : Procedure) → length vs ≡ length (parameters_of (get_or (program_of p).procedures n d)))
    → length vs ≡ length r.parameters.items
started_arguments p p' n n' r vs same is within at count =
    count (procedure_of r) ∙ ap (λ q. length (parameters_of q))
    (at_number p n r within (read_at p p' n n' r same is at) (procedure_of r))
    ∙ length-map r.parameters.items (λ (o : Occ). o.name)

pub started_starts : (p p' : Whole) (n n' : ℕ) (r : whole.Procedure) (ss : List ℕ) → p' ≡ p → n' ≡ n
    → n < length p.procedures.items → r ≡ get_or p'.procedures.items n' r
    → ((d : Procedure) → length ss ≡ length (starts_of (get_or (program_of p).procedures n d)))
    → length ss ≡ length (starts_of (procedure_of r))
started_starts p p' n n' r ss same is within at count =
    count (procedure_of r) ∙ ap (λ q. length (starts_of q))
    (at_number p n r within (read_at p p' n n' r same is at) (procedure_of r))
