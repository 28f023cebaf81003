use Rattle.gh_path.proofs.RouteLemmas.{begun}
use Rattle.gh_path.proofs.route.Route.begin.Goals as goal

pub returns : goal.returns
returns c = λ nodes g shows. begun nodes c.clear.new.self.items c.args.place g c.clear.ensures.items shows
