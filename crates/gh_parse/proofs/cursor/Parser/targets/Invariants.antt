use Rattle.std.proofs.Common.{◌++◌, length}
use Rattle.gh_parse.specs.Views.{tokens_of}
use Rattle.gh_parse.specs.Stops.{EndsHere}
use Rattle.gh_parse.specs.Statements.{SpellsTargetsFrom}
use Rattle.gh_parse.proofs.Turns.{Goes}
use Rattle.gh_parse.proofs.cursor.Parser.targets.Given as goal

abbrev pub invariant-names : goal.invariant-names
invariant-names l =
    Goes EndsHere (SpellsTargetsFrom l.name) (SpellsTargetsFrom l.fn.first) (tokens_of l.self.rest.now)
    (tokens_of l.fn.self.rest.now) (λ xs. l.targets.items ++ xs)

abbrev pub decreases-names : goal.decreases-names
decreases-names l = length (tokens_of l.self.rest.now)
