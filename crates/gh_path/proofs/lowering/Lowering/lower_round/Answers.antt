use Rattle.std.proofs.Common.{◌≡◌, ◌∙◌, ◌+◌, sym, ap}
use Rattle.gh_ast.specs.Plain.{program_of, statements_view}
use Rattle.gh_ast.proofs.PlainLemmas.{part_of-statements}
use Rattle.gh_path.specs.Graphs.{loop_end}
use Rattle.gh_path.specs.Walking.{loop_of}
use Rattle.gh_path.proofs.NumberLemmas.{close_of}
use Rattle.gh_path.proofs.RootLemmas.{round_added}
use Rattle.gh_path.proofs.lowering.Lowering.lower_round.Goals as goal

pub returns : goal.returns
returns c =
    let l = loop_of c.args.turn.now in
    let n = c.args.number in
    let body : statements_view c.as_slice-statements.result.now ≡ l.body =
    ap statements_view c.as_slice-statements.ensures.value ∙ sym (part_of-statements c.args.turn.now.body.now) in
    round_added (program_of c.args.self.now.program.now) c.args.nodes.now c.add.new.self c.lower_block.new.nodes
    c.add-2.new.self c.lower_test.new.nodes
    c.in_ok-end.end c.in_ok-inside.inside c.in_ok-dead.dead c.in_ok-place.place n _ _ l c.as_slice-statements.result.now
    c.in_ok-end.ensures.added c.in_ok-end.ensures.place
    (ap (λ at. loop_end at n) (sym (close_of c.args.turn.now.body.now))) body (ap (λ k. k + 1) c.from-first.ensures)
    c.in_ok-inside.ensures.adds c.in_ok-dead.ensures.added c.in_ok-dead.ensures.place c.in_ok-place.ensures.adds
