use Rattle.std.proofs.Common.{◌≡◌, ◌∙◌, length, ap}
use Rattle.gh_ast.specs.Plain.{program_of, procedure_of}
use Rattle.gh_path.specs.Graphs.{graph_from, at_entry}
use Rattle.gh_path.specs.Paths.{ways}
use Rattle.gh_path.specs.declared.ahead.PathCounts.{PathCounts}
use Rattle.gh_path.specs.declared.condition.Start.TheVariants.{Entry}
use Rattle.gh_path.proofs.PlaceLemmas.{entry_count}
use Rattle.gh_path.proofs.RootLemmas.{started}
use Rattle.gh_path.proofs.starts.Starts.add_entry.Goals as goal

pub returns : goal.returns
returns c = λ cs are there.
    let P = program_of c.args.lowering.now.program.now in
    let proc = procedure_of c.args.lowering.now.procedure.now in
    let count : c.entry_ahead-count.result.count ≡ length (ways (graph_from P proc at_entry)) =
    ap (λ (a : PathCounts). a.count) c.entry_ahead-count.ensures ∙ entry_count P proc c.requires.few in
    started P c.args.self.now (record { nodes = c.lower_entry.new.nodes; roots = c.push.new.self })
    (record {
      procedure = c.args.procedure;
      start = Entry;
      node = c.in_ok-node.node;
      count = c.entry_ahead-count.result.count;
    }) proc cs
    c.in_ok-node.ensures c.in_ok-push.ensures.items there count are
