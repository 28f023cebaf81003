use Rattle.std.proofs.Common.{◌++◌, map, length}
use Rattle.gh_ast.specs.Plain.{procedure_of}
use Rattle.gh_parse.specs.Views.{tokens_of}
use Rattle.gh_parse.specs.Stops.{IsEnd}
use Rattle.gh_parse.specs.Procedures.{SpellsAll}
use Rattle.gh_parse.proofs.Turns.{Goes}
use Rattle.gh_parse.proofs.cursor.Parser.procedures.Given as goal

abbrev pub invariant-procedures : goal.invariant-procedures
invariant-procedures l =
    Goes IsEnd SpellsAll SpellsAll (tokens_of l.self.rest.now) (tokens_of l.fn.self.rest.now)
    (λ ps. map procedure_of l.procedures.items ++ ps)

abbrev pub decreases-procedures : goal.decreases-procedures
decreases-procedures l = length (tokens_of l.self.rest.now)
