use Rattle.std.proofs.Common.{length}
use Rattle.gh_ast.specs.Grammar.{SpellsOpenBody}
use Rattle.gh_parse.specs.Views.{tokens_of}
use Rattle.gh_parse.specs.Stops.{EndsHere}
use Rattle.gh_parse.proofs.Turns.{Goes}
use Rattle.gh_parse.proofs.ProcedureForms.{inside_after}
use Rattle.gh_parse.proofs.cursor.Parser.inside.Given as goal

abbrev pub invariant-declarations : goal.invariant-declarations
invariant-declarations l =
    Goes EndsHere SpellsOpenBody SpellsOpenBody (tokens_of l.self.rest.now) (tokens_of l.fn.self.rest.now)
    (inside_after l.locals.items)

abbrev pub decreases-declarations : goal.decreases-declarations
decreases-declarations l = length (tokens_of l.self.rest.now)
