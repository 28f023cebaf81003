use Rattle.std.proofs.Common.{◌+◌, ◌*◌, ◌<◌, length}
use Rattle.gh_ast.specs.Grammar.{SpellsConj, SpellsLits, SpellsCond, SpellsConjs}
use Rattle.gh_ast.specs.Plain.{conjunction, disjunction, cond_first, cond_of}
use Rattle.gh_parse.specs.Views.{tokens_of}
use Rattle.gh_parse.specs.Stops.{EndsHere}
use Rattle.gh_parse.proofs.Turns.{Goes, before}
use Rattle.gh_parse.proofs.cursor.Parser.+condition.Given as goal

abbrev pub decreases-test : goal.decreases-test
decreases-test l = 4 * length (tokens_of l.self.now.rest.now) + 3

abbrev pub decreases-conjunction : goal.decreases-conjunction
decreases-conjunction l = 4 * length (tokens_of l.self.now.rest.now) + 2

abbrev pub decreases-literal : goal.decreases-literal
decreases-literal l = 4 * length (tokens_of l.self.now.rest.now) + 1

abbrev pub decreases-enclosed_test : goal.decreases-enclosed_test
decreases-enclosed_test l = 4 * length (tokens_of l.self.now.rest.now)

abbrev pub invariant-conjunction-members : goal.invariant-conjunction-members
invariant-conjunction-members l = record {
  goes :
      Goes EndsHere (SpellsLits l.reads) (SpellsConj l.reads) (tokens_of l.self.rest.now) (tokens_of l.fn.self.rest.now)
      (λ ts. conjunction (before (λ c. cond_first (cond_of c)) l.members.items ts));
  shorter : length (tokens_of l.self.rest.now) < length (tokens_of l.fn.self.rest.now);
}

abbrev pub decreases-conjunction-members : goal.decreases-conjunction-members
decreases-conjunction-members l = length (tokens_of l.self.rest.now)

abbrev pub invariant-test-members : goal.invariant-test-members
invariant-test-members l = record {
  goes :
      Goes EndsHere (SpellsConjs l.reads) (SpellsCond l.reads) (tokens_of l.self.rest.now)
      (tokens_of l.fn.self.rest.now)
      (λ ts. disjunction (before (λ c. cond_first (cond_of c)) l.members.items ts));
  shorter : length (tokens_of l.self.rest.now) < length (tokens_of l.fn.self.rest.now);
}

abbrev pub decreases-test-members : goal.decreases-test-members
decreases-test-members l = length (tokens_of l.self.rest.now)
