use Rattle.gh_ast.specs.Place.{IsProgram}
use Rattle.gh_ast.proofs.OnePlace.{one_place}
use Rattle.gh_ast.proofs.grammar_laws.have_one_place_law.Goals as goal

pub returns : goal.returns
returns c = one_place IsProgram
