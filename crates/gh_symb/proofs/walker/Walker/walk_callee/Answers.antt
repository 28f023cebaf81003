use Rattle.std.proofs.Common.{◌≡◌, ◌∙◌, ◌+◌, ap}
use Rattle.gh_ast.specs.Plain.{procedure_of}
use Rattle.gh_path.specs.Terms.{Terms, moved_on, walked}
use Rattle.gh_symb.specs.Reads.{gives_walked}
use Rattle.gh_symb.specs.Tables.{state}
use Rattle.gh_symb.specs.Walkers.{terms_inside}
use Rattle.gh_symb.proofs.EncodingLemmas.{call_encoded}
use Rattle.gh_symb.proofs.walker.Walker.walk_callee.Goals as goal

pub returns-clause-done : goal.returns-clause-done
returns-clause-done c =
    c.in_ok-after.ensures.made
    ∙ ap (λ (q : Terms). gives_walked c.args.callee.now (moved_on q)) c.in_ok-before.ensures.made

pub returns-clause-read : goal.returns-clause-read
returns-clause-read c =
    let v = c.args.self.now.version in
    let p = procedure_of c.args.callee.now in
    let i = terms_inside c.args.self.now c.args.inside.now in
    let r = state c.walk_bound.new.kinds c.walk_bound.new.self (v + 1) in
    let moves : r ≡ moved_on (walked p.needs i) = ap moved_on c.in_ok-before.ensures.made in
    call_encoded p i r c.in_ok-before.before c.in_ok-after.after c.in_ok-before.ensures.encodes moves
    c.in_ok-after.ensures.encode
