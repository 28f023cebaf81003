use Rattle.std.proofs.Common.{◌++◌, length}
use Rattle.gh_ast.specs.Grammar.{SpellsExprs}
use Rattle.gh_parse.specs.Views.{tokens_of}
use Rattle.gh_parse.specs.Stops.{EndsHere}
use Rattle.gh_parse.proofs.Turns.{Goes}
use Rattle.gh_parse.proofs.cursor.Parser.exprs.Given as goal

abbrev pub invariant-members : goal.invariant-members
invariant-members l =
    Goes EndsHere (SpellsExprs l.close) (SpellsExprs l.close) (tokens_of l.self.rest.now) (tokens_of l.fn.self.rest.now)
    (λ es. l.exprs.items ++ es)

abbrev pub decreases-members : goal.decreases-members
decreases-members l = length (tokens_of l.self.rest.now)
