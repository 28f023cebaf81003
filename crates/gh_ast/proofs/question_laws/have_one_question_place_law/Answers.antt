use Rattle.gh_ast.specs.QuestionGrammar.{IsQuestion}
use Rattle.gh_ast.proofs.OnePlace.{one_place}
use Rattle.gh_ast.proofs.question_laws.have_one_question_place_law.Goals as goal

pub returns : goal.returns
returns c = one_place IsQuestion
