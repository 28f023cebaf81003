use Rattle.std.proofs.Common.{◌≡◌, ◌∙◌, ◌++◌, sym, ap, subst, length}
use Rattle.gh_ast.specs.Plain.{program_of}
use Rattle.gh_path.specs.Conditions.{conditions}
use Rattle.gh_path.specs.Kept.{IsScoped}
use Rattle.gh_draw.specs.Kept.{Describes}
use Rattle.gh_path.proofs.Numbers.{one_is_scoped}
use Rattle.gh_trace.proofs.FirstRefuted.{numbered_one}
use Rattle.gh_top.proofs.SmallestLemmas.{section_spelled, reported}
use Rattle.gh_top.proofs.smallest.smallest_report.Goals as goal

pub bound_text-requires : goal.bound_text-requires
bound_text-requires c =
    section_spelled (program_of c.args.admitted.now) c.args.number c.args.condition.now c.args.found c.requires.numbered
    c.requires.smallest

pub describe-requires : goal.describe-requires
describe-requires c =
    let P = program_of c.args.admitted.now in
    let r = c.args.condition.now in
    subst (λ proc. IsScoped (program_of proc) r) (sym c.typed-typed.ensures.same)
    (one_is_scoped P r c.typed-typed.ensures.admitted.typed (numbered_one P c.args.number r c.requires.numbered))

pub returns-clause-text : goal.returns-clause-text
returns-clause-text c =
    let P = program_of c.args.admitted.now in
    let count : c.count.result ≡ length (conditions P) =
    c.count.ensures ∙ ap (λ proc. length (conditions (program_of proc))) c.conditions-conditions.ensures in
    let described : Describes P c.args.condition.now c.in_ok-description.description =
    subst (λ proc. Describes (program_of proc) c.args.condition.now c.in_ok-description.description)
    c.typed-typed.ensures.same c.in_ok-description.ensures in
    reported P c.args.number c.count.result c.args.found c.args.condition.now c.in_ok-text.text
    c.in_ok-description.description c.in_ok-drawn.drawn c.in_ok-bound.bound
    c.push.new.self c.push-2.new.self c.push-3.new.self c.push-4.new.self
    c.typed-typed.ensures.admitted.typed c.requires.first c.requires.numbered c.requires.smallest
    c.in_ok-drawn.ensures.values count c.in_ok-text.ensures described c.in_ok-drawn.ensures.text
    c.in_ok-bound.ensures
    (c.in_ok-push.ensures.ok ∙ ap (λ t. c.in_ok-text.text ++ t) c.bytes.ensures) c.in_ok-push-2.ensures.ok
    (c.in_ok-push-3.ensures.ok ∙ ap (λ t. c.push-2.new.self ++ t) c.bytes-2.ensures)
    (c.in_ok-push-4.ensures.ok ∙ ap (λ t. c.push-3.new.self ++ t) c.bytes-3.ensures)
