use Rattle.std.proofs.Common.{◌≡◌, ◌∙◌, [], sym, ap, subst, map}
use Rattle.gh_path.specs.Graphs.{meets_at}
use Rattle.gh_path.specs.Kept.{condition_of}
use Rattle.gh_path.specs.Terms.{Terms, walked}
use Rattle.gh_symb.specs.Contexts.{program_in, procedure_in}
use Rattle.gh_symb.specs.Fitting.{EncodesUnder}
use Rattle.gh_symb.specs.Following.{IsFollowed}
use Rattle.gh_symb.specs.Symbolic.{under, begins}
use Rattle.gh_symb.specs.Tables.{bound_by}
use Rattle.gh_symb.specs.Walkers.{terms_at}
use Rattle.gh_symb.proofs.FollowLemmas.{begun}
use Rattle.gh_symb.proofs.passed.PathSoFar.begin.Goals as goal

pub returns-clause-passed : goal.returns-clause-passed
returns-clause-passed c =
    let P = program_in c.args.context in
    let proc = procedure_in c.args.context in
    let d = condition_of c.args.condition.now in
    let s = terms_at c.ask_start.new.self in
    let f = meets_at proc d.start in
    let started : s ≡ begins proc d.start = c.in_ok-start.ensures.begins.0 ∙ ap (walked f) c.requires.first in
    record {
      start =
          subst (λ (q : Terms). EncodesUnder c.in_ok-start.start (under f q)) c.requires.first
          c.in_ok-start.ensures.begins.1;
      rest =
          subst (λ ss. IsFollowed P proc d.way.steps d s (bound_by c.new.result) ss c.new-3.result.items)
          (sym (ap (map bound_by) c.new-2.ensures.items))
          (subst (λ ts. IsFollowed P proc d.way.steps d s (bound_by c.new.result) [] ts) (sym c.new-3.ensures.items)
          (begun P proc d s (bound_by c.new.result) started (λ y. ap (λ es. bound_by es y) c.new.ensures)));
    }
