use Rattle.std.proofs.Common.{length}
use Rattle.gh_parse.specs.Views.{tokens_of}
use Rattle.gh_parse.specs.Stops.{EndsHere}
use Rattle.gh_parse.specs.Procedures.{SpellsShape}
use Rattle.gh_parse.proofs.Turns.{Goes}
use Rattle.gh_parse.proofs.ProgramForms.{shape_after}
use Rattle.gh_parse.proofs.cursor.Parser.fields.Given as goal

abbrev pub invariant-fields : goal.invariant-fields
invariant-fields l =
    Goes EndsHere SpellsShape SpellsShape (tokens_of l.self.rest.now) (tokens_of l.fn.self.rest.now)
    (shape_after l.fields.items)

abbrev pub decreases-fields : goal.decreases-fields
decreases-fields l = length (tokens_of l.self.rest.now)
