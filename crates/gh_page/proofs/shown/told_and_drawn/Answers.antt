use Rattle.std.proofs.Common.{◌∙◌, ◌++◌, ap, subst}
use Rattle.gh_ast.specs.Plain.{program_of}
use Rattle.gh_lens.specs.Stories.{IsExplained}
use Rattle.gh_scene.specs.Picturing.{IsPictured}
use Rattle.gh_page.proofs.Told.{told_one, drawn_one, both}
use Rattle.gh_page.proofs.shown.told_and_drawn.Goals as goal

pub unreachable-requires : goal.unreachable-requires
unreachable-requires c =
    told_one (program_of c.args.typed.now) c.args.number c.args.drawing.now c.in_ok-text.field-0 c.requires.smallest
    c.in_ok-text.ensures c.in_default.not-Told

pub unreachable-requires-in_default-2 : goal.unreachable-requires-in_default-2
unreachable-requires-in_default-2 c =
    drawn_one (program_of c.args.typed.now) c.args.number c.args.drawing.now c.in_ok-picture.field-0 c.requires.smallest
    c.in_ok-picture.ensures c.in_default-2.not-Drawn

pub returns : goal.returns
returns c =
    let P = program_of c.args.typed.now in
    let d = c.args.drawing.now in
    both P c.args.number d c.in-Told.text c.in-Drawn.picture c.push.new.self c.requires.smallest
    (subst (λ e. IsExplained P d.condition d.trace.states.items e) c.in-Told.is c.in_ok-text.ensures)
    (subst (λ e. IsPictured P d.condition d.trace.states.items e) c.in-Drawn.is c.in_ok-picture.ensures)
    (c.in_ok-push.ensures.ok ∙ ap (λ t. c.in-Told.text ++ t) c.bytes.ensures)
