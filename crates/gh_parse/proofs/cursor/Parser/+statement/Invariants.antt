use Rattle.std.proofs.Common.{◌+◌, ◌*◌, length, map}
use Rattle.gh_ast.specs.Plain.{statement_of}
use Rattle.gh_parse.specs.Views.{tokens_of}
use Rattle.gh_parse.proofs.Runs.{Runs}
use Rattle.gh_parse.proofs.cursor.Parser.+statement.Given as goal

abbrev pub decreases-if_statement : goal.decreases-if_statement
decreases-if_statement l = 4 * length (tokens_of l.self.now.rest.now) + 1

abbrev pub decreases-otherwise : goal.decreases-otherwise
decreases-otherwise l = 4 * length (tokens_of l.self.now.rest.now) + 1

abbrev pub decreases-while_statement : goal.decreases-while_statement
decreases-while_statement l = 4 * length (tokens_of l.self.now.rest.now) + 1

abbrev pub decreases-repeated : goal.decreases-repeated
decreases-repeated l = 4 * length (tokens_of l.self.now.rest.now) + 1

abbrev pub decreases-statement : goal.decreases-statement
decreases-statement l = 4 * length (tokens_of l.self.now.rest.now) + 2

abbrev pub decreases-statements : goal.decreases-statements
decreases-statements l = 4 * length (tokens_of l.self.now.rest.now) + 3

abbrev pub decreases-block : goal.decreases-block
decreases-block l = 4 * length (tokens_of l.self.now.rest.now)

abbrev pub invariant-statements-run : goal.invariant-statements-run
invariant-statements-run l =
    Runs (tokens_of l.fn.self.rest.now) (tokens_of l.self.rest.now) (map statement_of l.statements.items)

abbrev pub decreases-statements-run : goal.decreases-statements-run
decreases-statements-run l = length (tokens_of l.self.rest.now)
