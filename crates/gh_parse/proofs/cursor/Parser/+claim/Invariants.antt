use Rattle.std.proofs.Common.{◌+◌, ◌*◌, ◌<◌, length}
use Rattle.gh_ast.specs.QuestionGrammar.{SpellsBoth, SpellsDenials, SpellsClaim, SpellsBoths}
use Rattle.gh_ast.specs.Questions.{every, either, claim_first, claim_of}
use Rattle.gh_parse.specs.Views.{tokens_of}
use Rattle.gh_parse.specs.Questions.{IsApart}
use Rattle.gh_parse.proofs.Turns.{Goes, before}
use Rattle.gh_parse.proofs.cursor.Parser.+claim.Given as goal

abbrev pub decreases-claim : goal.decreases-claim
decreases-claim l = 5 * length (tokens_of l.self.now.rest.now) + 4

abbrev pub decreases-claims_together : goal.decreases-claims_together
decreases-claims_together l = 5 * length (tokens_of l.self.now.rest.now) + 3

abbrev pub decreases-denial : goal.decreases-denial
decreases-denial l = 5 * length (tokens_of l.self.now.rest.now) + 2

abbrev pub decreases-claim_part : goal.decreases-claim_part
decreases-claim_part l = 5 * length (tokens_of l.self.now.rest.now) + 1

abbrev pub decreases-enclosed_claim : goal.decreases-enclosed_claim
decreases-enclosed_claim l = 5 * length (tokens_of l.self.now.rest.now)

abbrev pub invariant-claims_together-members : goal.invariant-claims_together-members
invariant-claims_together-members l = record {
  goes :
      Goes IsApart SpellsDenials SpellsBoth (tokens_of l.self.rest.now) (tokens_of l.fn.self.rest.now)
      (λ ts. every (before (λ c. claim_first (claim_of c)) l.members.items ts));
  shorter : length (tokens_of l.self.rest.now) < length (tokens_of l.fn.self.rest.now);
}

abbrev pub decreases-claims_together-members : goal.decreases-claims_together-members
decreases-claims_together-members l = length (tokens_of l.self.rest.now)

abbrev pub invariant-claim-members : goal.invariant-claim-members
invariant-claim-members l = record {
  goes :
      Goes IsApart SpellsBoths SpellsClaim (tokens_of l.self.rest.now) (tokens_of l.fn.self.rest.now)
      (λ ts. either (before (λ c. claim_first (claim_of c)) l.members.items ts));
  shorter : length (tokens_of l.self.rest.now) < length (tokens_of l.fn.self.rest.now);
}

abbrev pub decreases-claim-members : goal.decreases-claim-members
decreases-claim-members l = length (tokens_of l.self.rest.now)
