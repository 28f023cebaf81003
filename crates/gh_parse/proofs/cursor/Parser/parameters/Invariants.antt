use Rattle.std.proofs.Common.{◌++◌, length}
use Rattle.gh_ast.specs.Grammar.{SpellsParams}
use Rattle.gh_parse.specs.Views.{tokens_of}
use Rattle.gh_parse.specs.Stops.{EndsHere}
use Rattle.gh_parse.proofs.Turns.{Goes}
use Rattle.gh_parse.proofs.cursor.Parser.parameters.Given as goal

abbrev pub invariant-names : goal.invariant-names
invariant-names l =
    Goes EndsHere SpellsParams SpellsParams (tokens_of l.self.rest.now) (tokens_of l.fn.self.rest.now)
    (λ xs. l.names.items ++ xs)

abbrev pub decreases-names : goal.decreases-names
decreases-names l = length (tokens_of l.self.rest.now)
