use Rattle.std.proofs.Common.{◌≡◌, ◌∙◌, ◌++◌, [], length, map, drop, sym, ap, arith, append_assoc, append-nil, subst}
use Rattle.std.proofs.Math.ListN.{drop_of_length-le}
use Rattle.std.proofs.lemmas.List.{length-map, map-append}
use Rattle.gh_ast.specs.Plain.{program_of, procedure_of}
use Rattle.gh_path.specs.Conditions.{condition, course, from_starts, courses_of}
use Rattle.gh_path.specs.Graphs.{graph_from, at_entry, loops_of, at_loop, loop_starts, IsLoopAt}
use Rattle.gh_path.specs.Paths.{ways}
use Rattle.gh_path.specs.Roots.{from_start, AreStarts}
use Rattle.gh_path.specs.Walking.{loop_of}
use Rattle.gh_path.proofs.NumberLemmas.{loop_there}
use Rattle.gh_path.proofs.FormedLemmas.{few_loops}
use Rattle.gh_path.proofs.SuitLemmas.{entry_suits, round_suits}
use Rattle.gh_path.proofs.RootLemmas.{loops_go}
use Rattle.gh_path.proofs.starts.Starts.add_procedure.Goals as goal

pub add_entry-requires-clause-suits : goal.add_entry-requires-clause-suits
add_entry-requires-clause-suits c =
    let P = program_of c.args.lowering.now.program.now in
    let proc = procedure_of c.args.lowering.now.procedure.now in
    entry_suits c.args.lowering.now proc c.requires.procedures c.requires.callees
    (few_loops P proc c.requires.formed c.requires.few)

pub add_round-requires-clause-suits : goal.add_round-requires-clause-suits
add_round-requires-clause-suits c =
    let P = program_of c.args.lowering.now.program.now in
    let proc = procedure_of c.args.lowering.now.procedure.now in
    let ts = c.as_slice-turn-items.result.now in
    let x = c.turn-item.result in
    let turns : map loop_of ts ≡ loops_of proc =
    ap (map loop_of) c.as_slice-turn-items.ensures.value ∙ c.in_ok-turns.ensures in
    let here : IsLoopAt proc c.loop-place.place (loop_of x) =
    loop_there proc ts c.loop-place.place x turns c.loop-place-test.true c.turn-item.is in
    round_suits c.args.lowering.now proc c.loop-place.place (loop_of x) here c.requires.procedures c.requires.callees
    (few_loops P proc c.requires.formed c.requires.few)

pub overflow_cast-place : goal.overflow_cast-place
overflow_cast-place c =
    let P = program_of c.args.lowering.now.program.now in
    let proc = procedure_of c.args.lowering.now.procedure.now in
    let ts = c.as_slice-turn-items.result.now in
    let turns : map loop_of ts ≡ loops_of proc =
    ap (map loop_of) c.as_slice-turn-items.ensures.value ∙ c.in_ok-turns.ensures in
    let count : length (map loop_of ts) ≡ length (loops_of proc) = ap length turns in
    omega (
      arith,
      c.loop-place-test.true,
      length-map ts loop_of,
      count,
      few_loops P proc c.requires.formed c.requires.few,
    )

pub loop-place-init : goal.loop-place-init
loop-place-init c = λ cs are there.
    let P = program_of c.args.lowering.now.program.now in
    let proc = procedure_of c.args.lowering.now.procedure.now in
    let turns : map loop_of c.as_slice-turn-items.result.now ≡ loops_of proc =
    ap (map loop_of) c.as_slice-turn-items.ensures.value ∙ c.in_ok-turns.ensures in
    let n = c.args.procedure in
    let first = from_start P proc n at_entry in
    let rest = loop_starts 0 (loops_of proc) in (
      cs ++ first,
      c.in_ok-add_entry.ensures cs are there,
      append_assoc cs first (map (condition n)
          (from_starts P proc (loop_starts 0 (map loop_of c.as_slice-turn-items.result.now))))
          ∙ ap (λ ls. cs ++ (first ++ map (condition n) (from_starts P proc (loop_starts 0 ls)))) turns
          ∙ ap (λ ds. cs ++ ds) (sym
          (map-append (condition n) (map (course at_entry) (ways (graph_from P proc at_entry)))
          (from_starts P proc rest))),
    )

pub loop-place-preserved : goal.loop-place-preserved
loop-place-preserved c = λ cs are there.
    let P = program_of c.args.lowering.now.program.now in
    let proc = procedure_of c.args.lowering.now.procedure.now in
    let ts = c.as_slice-turn-items.result.now in
    let i = c.loop-place.place in
    let x = c.turn-item.result in
    let before = c.loop-place.invariant cs are there in
    let turns : map loop_of ts ≡ loops_of proc =
    ap (map loop_of) c.as_slice-turn-items.ensures.value ∙ c.in_ok-turns.ensures in
    let here : IsLoopAt proc i (loop_of x) = loop_there proc ts i x turns c.loop-place-test.true c.turn-item.is in
    let n = c.args.procedure in
    let more = c.in_ok-add_round.ensures here before.0 before.1 there in (
      before.0 ++ from_start P proc n (at_loop i),
      more,
      loops_go P proc n ts i x before.0 (cs ++ map (condition n) (courses_of P proc)) c.loop-place-test.true
          c.turn-item.is before.2,
    )

pub returns : goal.returns
returns c = λ cs are there.
    let P = program_of c.args.lowering.now.program.now in
    let proc = procedure_of c.args.lowering.now.procedure.now in
    let ts = c.as_slice-turn-items.result.now in
    let i = c.loop-place.place in
    let last = c.loop-place.invariant cs are there in
    let none : drop i ts ≡ [] = drop_of_length-le ts c.loop-place-test.false in
    let n = c.args.procedure in
    let all : last.0 ≡ cs ++ map (condition n) (courses_of P proc) =
    sym (append-nil last.0) ∙ ap
    (λ ys. last.0 ++ map (condition n) (from_starts P proc (loop_starts i (map loop_of ys)))) (sym none) ∙ last.2 in
    subst (AreStarts P c.loop-place.self) all last.1
