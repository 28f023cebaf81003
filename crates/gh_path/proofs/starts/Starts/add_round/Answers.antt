use Rattle.std.proofs.Common.{◌≡◌, ◌∙◌, length, sym, ap, subst}
use Rattle.gh_ast.specs.Plain.{program_of, procedure_of}
use Rattle.gh_path.specs.Graphs.{loop_graph, graph_from, once_around, at_loop}
use Rattle.gh_path.specs.Paths.{ways}
use Rattle.gh_path.specs.Shown.{AddsNodes}
use Rattle.gh_path.specs.declared.ahead.PathCounts.{PathCounts}
use Rattle.gh_path.specs.Walking.{loop_of}
use Rattle.gh_path.specs.declared.condition.Start.TheVariants as start
use Rattle.gh_path.proofs.PlaceLemmas.{round_count}
use Rattle.gh_path.proofs.RootLemmas.{started}
use Rattle.gh_path.proofs.starts.Starts.add_round.Goals as goal

pub returns : goal.returns
returns c = λ is cs are there.
    let P = program_of c.args.lowering.now.program.now in
    let proc = procedure_of c.args.lowering.now.procedure.now in
    let l = loop_of c.args.turn.now in
    let n = c.args.number in
    let count : c.loop_ahead-count.result.count ≡ length (ways (graph_from P proc (at_loop n))) =
    ap (λ (a : PathCounts). a.count) c.loop_ahead-count.ensures ∙ round_count P proc n l is c.requires.few in
    let same : graph_from P proc (at_loop n) ≡ once_around P n l = ap (loop_graph P n) is in
    let adds : AddsNodes c.args.self.now.nodes c.lower_round.new.nodes c.in_ok-node.node
    (graph_from P proc (at_loop n)) =
    subst (AddsNodes c.args.self.now.nodes c.lower_round.new.nodes c.in_ok-node.node) (sym same)
    c.in_ok-node.ensures in
    started P c.args.self.now (record { nodes = c.lower_round.new.nodes; roots = c.push.new.self })
    (record {
      procedure = c.args.procedure;
      start = start.Loop n;
      node = c.in_ok-node.node;
      count = c.loop_ahead-count.result.count;
    }) proc cs
    adds c.in_ok-push.ensures.items there count are
