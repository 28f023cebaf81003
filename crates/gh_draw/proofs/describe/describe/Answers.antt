use Rattle.std.proofs.Common.{◌∙◌, ◌++◌, ap, sym, subst, arith}
use Rattle.gh_ast.specs.Plain.{procedure_of, program_of}
use Rattle.gh_path.specs.Kept.{IsScoped}
use Rattle.gh_draw.specs.Kept.{Describes}
use Rattle.gh_draw.proofs.Told.{procedure_within, all_there, described}
use Rattle.gh_draw.proofs.describe.describe.Goals as goal

pub index-procedure-requires : goal.index-procedure-requires
index-procedure-requires c =
    let Q = c.program-program.result.now in
    let r = c.args.condition.now in
    let fits : IsScoped (program_of Q) r =
    subst (λ x. IsScoped (program_of x) r) (sym c.program-program.ensures.same) c.requires in
    let within = procedure_within Q r fits in
    omega (arith, within, Q.procedures.ok)

pub push_start-requires : goal.push_start-requires
push_start-requires c =
    let Q = c.program-program.result.now in
    let r = c.args.condition.now in
    let fits : IsScoped (program_of Q) r =
    subst (λ x. IsScoped (program_of x) r) (sym c.program-program.ensures.same) c.requires in
    (all_there Q r c.index-procedure.result.now fits c.index-procedure.ensures).start

pub push_kind-requires : goal.push_kind-requires
push_kind-requires c =
    let Q = c.program-program.result.now in
    let r = c.args.condition.now in
    let q = c.index-procedure.result.now in
    let fits : IsScoped (program_of Q) r =
    subst (λ x. IsScoped (program_of x) r) (sym c.program-program.ensures.same) c.requires in
    (procedure_of q, r.check.span, (all_there Q r q fits c.index-procedure.ensures).check)

pub returns : goal.returns
returns c =
    let Q = c.program-program.result.now in
    let r = c.args.condition.now in
    let q = c.index-procedure.result.now in
    let fits : IsScoped (program_of Q) r =
    subst (λ x. IsScoped (program_of x) r) (sym c.program-program.ensures.same) c.requires in
    let a = c.new-text.result in
    let b = c.push.new.self in
    let e = c.push-3.new.self in
    let f = c.push_kind.new.text in
    let g = c.push-4.new.self in
    let h = c.push_place.new.text in
    subst (λ x. Describes (program_of x) r h) c.program-program.ensures.same
    (described Q r q a b c.push-2.new.self c.push_start.new.text e f g h (procedure_within Q r fits)
    c.index-procedure.ensures
    c.new-text.ensures (c.in_ok-push.ensures.ok ∙ ap (λ t. a ++ t) c.bytes.ensures.text) c.in_ok-push-2.ensures.ok
    c.in_ok-push_start.ensures
    c.in_ok-push-3.ensures.ok c.in_ok-push_kind.ensures c.in_ok-push-4.ensures.ok c.in_ok-push_place.ensures)
