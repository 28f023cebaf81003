use Rattle.std.proofs.Common.{◌≡◌, ◌∙◌, ap, filter}
use Rattle.gh_ast.specs.Plain.{statements_view, procedure_of}
use Rattle.gh_ast.specs.Occurrences.{locals_of}
use Rattle.gh_ast.specs.Programs.{names}
use Rattle.gh_path.specs.Terms.{renewed, some_assigns}
use Rattle.gh_symb.specs.Tables.{state}
use Rattle.gh_symb.proofs.StepLemmas.{renewed_three}
use Rattle.gh_symb.proofs.scope.Scope.renew_all.Goals as goal

pub returns : goal.returns
returns c = λ v.
    let test = some_assigns (statements_view c.args.body.now) in
    let p = procedure_of c.args.procedure.now in
    let s = state c.args.kinds.now c.args.self.now v in
    let one : state c.renew_assigned.new.kinds c.renew_assigned.new.self v
    ≡ renewed (filter test (names p.parameters)) s =
    rw c.as_slice.ensures.value at c.in_ok-renew_assigned.ensures v in
    let two : state c.renew_assigned-2.new.kinds c.renew_assigned-2.new.self v
    ≡ renewed (filter test (names p.results)) (state c.renew_assigned.new.kinds c.renew_assigned.new.self v) =
    rw c.as_slice-2.ensures.value at c.in_ok-renew_assigned-2.ensures v in
    let last : state c.renew_assigned-3.new.kinds c.renew_assigned-3.new.self v
    ≡ renewed (filter test (names (locals_of p)))
    (state c.renew_assigned-2.new.kinds c.renew_assigned-2.new.self v) =
    rw c.locals_of.ensures at c.in_ok-renew_assigned-3.ensures v in
    last ∙ ap (renewed (filter test (names (locals_of p)))) (two ∙ ap (renewed (filter test (names p.results))) one)
    ∙ renewed_three test p.parameters p.results (locals_of p) s
