-- Loops as the text has them.
use Rattle.std.specs.Prelude.{◌≡◌, ◌++◌, List, map}
use Rattle.gh_ast.specs.Plain.{cond_of, assertion_of, block_of}
use Rattle.gh_path.specs.Graphs.{While, while_of}
use Rattle.gh_path.specs.declared.loops.While.{While as CodeWhile}

abbrev pub loop_of : CodeWhile → While
loop_of w =
    while_of w.at (cond_of w.test.now) (assertion_of w.invariant.now) (block_of w.body.now).statements
    (block_of w.body.now).close

-- these loops are added to those that were found before
abbrev pub AddsLoops : List While → List CodeWhile → List CodeWhile → Type 0
AddsLoops ls old new = map loop_of new ≡ map loop_of old ++ ls
