use Rattle.std.proofs.Common.{◌++◌, length, map}
use Rattle.gh_ast.specs.Plain.{assertion_of}
use Rattle.gh_ast.specs.Grammar.{SpellsAlternatives}
use Rattle.gh_parse.specs.Views.{tokens_of}
use Rattle.gh_parse.specs.Stops.{EndsHere}
use Rattle.gh_parse.proofs.Turns.{Goes}
use Rattle.gh_parse.proofs.cursor.Parser.alternatives.Given as goal

abbrev pub invariant-members : goal.invariant-members
invariant-members l =
    Goes EndsHere SpellsAlternatives SpellsAlternatives (tokens_of l.self.rest.now) (tokens_of l.fn.self.rest.now)
    (λ fs. map assertion_of l.alternatives.items ++ fs)

abbrev pub decreases-members : goal.decreases-members
decreases-members l = length (tokens_of l.self.rest.now)
