use Rattle.std.specs.Prelude.{◌<◌, length}
use Rattle.gh_ast.specs.Plain.{statements_view}
use Rattle.gh_ast.proofs.PlainLemmas.{part_of-statements}
use Rattle.gh_path.specs.Graphs.{all_loops}
use Rattle.gh_symb.proofs.WhileLemmas.{one_round, no_round}
use Rattle.gh_symb.proofs.loops.while_of.Goals as goal

pub returns : goal.returns
returns c =
    let items = c.in-Some.body.block.statements.items in
    let found =
    one_round (all_loops (statements_view items)) c.args.number c.in-Ok.round
    (rw c.as_slice.ensures.value at c.in-Ok.ensures) in
    rw (c.in-Some.is, part_of-statements c.in-Some.body.block) found

pub unreachable-requires-in_default-while_among : goal.unreachable-requires-in_default-while_among
unreachable-requires-in_default-while_among c =
    let items = c.in-Some.body.block.statements.items in
    let here : c.args.number < length (all_loops (statements_view items)) =
    rw (c.in-Some.is, part_of-statements c.in-Some.body.block) at c.requires in
    no_round (all_loops (statements_view items)) c.args.number _
    (rw c.as_slice.ensures.value at c.in_default-while_among.ensures) here
