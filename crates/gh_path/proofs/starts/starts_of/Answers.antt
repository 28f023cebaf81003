use Rattle.std.proofs.Common.{◌≡◌, ◌∙◌, ◌++◌, ◌≤◌, [], Some, List, length, map, drop, refl, sym, ap, subst, append-nil}
use Rattle.std.proofs.Common.{arith}
use Rattle.std.specs.Prelude.{slice_get, ℕ, ◌<◌, get_or}
use Rattle.std.proofs.Math.ListN.{drop_of_length-le}
use Rattle.std.proofs.lemmas.List.{length-map}
use Rattle.std.proofs.lemmas.List.Elements.{All-contains}
use Rattle.std.proofs.lemmas.Option.{slice_get_within, get_or_from_slice_get}
use Rattle.gh_ast.specs.declared.Procedure as whole
use Rattle.gh_ast.specs.Plain.{Procedure, program_of, procedure_of, Program}
use Rattle.gh_ast.specs.WellFormed.{IsFormedProcedure}
use Rattle.gh_path.specs.Conditions.{condition, from_procedures, courses_of, conditions}
use Rattle.gh_path.specs.Roots.{AreStarts}
use Rattle.gh_path.proofs.ListLemmas.{member}
use Rattle.gh_path.proofs.PlaceLemmas.{procedure_there, few_there}
use Rattle.gh_path.proofs.RootLemmas.{procedures_go}
use Rattle.gh_path.proofs.SuitLemmas.{body_calls}
use Rattle.gh_path.proofs.starts.starts_of.Goals as goal

pub loop-index-init : goal.loop-index-init
loop-index-init c = ([], c.new-starts.ensures (program_of c.args.program.now), refl)

pub overflow_cast-index : goal.overflow_cast-index
overflow_cast-index c =
    let P = program_of c.args.program.now in
    let qs = c.as_slice-procedure-items.result.now in
    let long : length P.procedures ≡ length qs =
    ap (λ (rs : List whole.Procedure). length (map procedure_of rs)) (sym c.as_slice-procedure-items.ensures.value)
    ∙ length-map qs procedure_of in
    omega (arith, long, c.loop-index-test.true, c.requires.procedures)

-- the procedure of a turn stands at its place in the program
stands : (P : Program) (qs : List whole.Procedure) (i : ℕ) (x : whole.Procedure) → map procedure_of qs ≡ P.procedures
    → i < length qs → x ≡ get_or qs i x
    → slice_get P.procedures i ≡ Some (procedure_of x)
stands P qs i x same within is =
    subst (λ (ps : List Procedure). slice_get ps i ≡ Some (procedure_of x)) same (procedure_there qs i x within is)

pub add_procedure-requires-clause-few : goal.add_procedure-requires-clause-few
add_procedure-requires-clause-few c =
    let P = program_of c.args.program.now in
    let qs = c.as_slice-procedure-items.result.now in
    let i = c.loop-index.index in
    let x = c.procedure-item.result in
    let same : map procedure_of qs ≡ P.procedures = ap (map procedure_of) c.as_slice-procedure-items.ensures.value in
    let there = stands P qs i x same c.loop-index-test.true c.procedure-item.is in
    few_there P i (procedure_of x) c.requires.paths there

pub add_procedure-requires-clause-callees : goal.add_procedure-requires-clause-callees
add_procedure-requires-clause-callees c =
    let P = program_of c.args.program.now in
    let qs = c.as_slice-procedure-items.result.now in
    let i = c.loop-index.index in
    let x = c.procedure-item.result in
    let same : map procedure_of qs ≡ P.procedures = ap (map procedure_of) c.as_slice-procedure-items.ensures.value in
    let there = stands P qs i x same c.loop-index-test.true c.procedure-item.is in
    body_calls P c.requires.typed (procedure_of x) (member P.procedures i (procedure_of x) there)

pub add_procedure-requires-clause-formed : goal.add_procedure-requires-clause-formed
add_procedure-requires-clause-formed c =
    let P = program_of c.args.program.now in
    let qs = c.as_slice-procedure-items.result.now in
    let i = c.loop-index.index in
    let x = c.procedure-item.result in
    let same : map procedure_of qs ≡ P.procedures = ap (map procedure_of) c.as_slice-procedure-items.ensures.value in
    let there = stands P qs i x same c.loop-index-test.true c.procedure-item.is in
    let formed : IsFormedProcedure (procedure_of x) =
    All-contains IsFormedProcedure P.procedures (procedure_of x) c.requires.formed
    (member P.procedures i (procedure_of x) there) in
    formed.body

pub loop-index-preserved : goal.loop-index-preserved
loop-index-preserved c =
    let P = program_of c.args.program.now in
    let qs = c.as_slice-procedure-items.result.now in
    let i = c.loop-index.index in
    let x = c.procedure-item.result in
    let proc = procedure_of x in
    let before = c.loop-index.invariant in
    let same : map procedure_of qs ≡ P.procedures = ap (map procedure_of) c.as_slice-procedure-items.ensures.value in
    let there : slice_get P.procedures i ≡ Some proc =
    subst (λ (ps : List Procedure). slice_get ps i ≡ Some proc) same
    (procedure_there qs i x c.loop-index-test.true c.procedure-item.is) in (
      before.0 ++ map (condition i) (courses_of P proc),
      c.in_ok-add_procedure.ensures before.0 before.1 there,
      procedures_go P P.procedures i proc before.0 (conditions P) (slice_get_within P.procedures i proc there)
          (sym (get_or_from_slice_get P.procedures i proc proc there)) before.2,
    )

pub returns : goal.returns
returns c =
    let P = program_of c.args.program.now in
    let qs = c.as_slice-procedure-items.result.now in
    let i = c.loop-index.index in
    let last = c.loop-index.invariant in
    let long : length P.procedures ≡ length qs =
    ap (λ (rs : List whole.Procedure). length (map procedure_of rs)) (sym c.as_slice-procedure-items.ensures.value)
    ∙ length-map qs procedure_of in
    let past : length P.procedures ≤ i = omega (arith, long, c.loop-index-test.false) in
    let none : drop i P.procedures ≡ [] = drop_of_length-le P.procedures past in
    let all : last.0 ≡ conditions P =
    sym (append-nil last.0) ∙ ap (λ ps. last.0 ++ from_procedures P i ps) (sym none) ∙ last.2 in
    subst (AreStarts P c.loop-index.starts) all last.1
