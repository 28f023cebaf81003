use Rattle.std.proofs.Common.{◌+◌, ◌*◌, ◌<◌, length}
use Rattle.gh_ast.specs.Grammar.{SpellsAssertion, SpellsItems}
use Rattle.gh_ast.specs.Plain.{star, assertion_first, assertion_of}
use Rattle.gh_parse.specs.Views.{tokens_of}
use Rattle.gh_parse.specs.Stops.{EndsHere}
use Rattle.gh_parse.proofs.Turns.{Goes, before}
use Rattle.gh_parse.proofs.cursor.Parser.+assertion.Given as goal

abbrev pub decreases-assertion : goal.decreases-assertion
decreases-assertion l = 5 * length (tokens_of l.self.now.rest.now) + 4

abbrev pub decreases-item : goal.decreases-item
decreases-item l = 5 * length (tokens_of l.self.now.rest.now) + 3

abbrev pub decreases-item_by_word : goal.decreases-item_by_word
decreases-item_by_word l = 5 * length (tokens_of l.self.now.rest.now) + 2

abbrev pub decreases-cases : goal.decreases-cases
decreases-cases l = 5 * length (tokens_of l.self.now.rest.now) + 1

abbrev pub decreases-braced : goal.decreases-braced
decreases-braced l = 5 * length (tokens_of l.self.now.rest.now) + 1

abbrev pub decreases-enclosed_assertion : goal.decreases-enclosed_assertion
decreases-enclosed_assertion l = 5 * length (tokens_of l.self.now.rest.now)

abbrev pub invariant-assertion-members : goal.invariant-assertion-members
invariant-assertion-members l = record {
  goes :
      Goes EndsHere SpellsItems SpellsAssertion (tokens_of l.self.rest.now) (tokens_of l.fn.self.rest.now)
      (λ ts. star (before (λ c. assertion_first (assertion_of c)) l.members.items ts));
  shorter : length (tokens_of l.self.rest.now) < length (tokens_of l.fn.self.rest.now);
}

abbrev pub decreases-assertion-members : goal.decreases-assertion-members
decreases-assertion-members l = length (tokens_of l.self.rest.now)
