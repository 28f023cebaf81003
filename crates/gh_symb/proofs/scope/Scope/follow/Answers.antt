use Rattle.std.proofs.Common.{◌≡◌, ◌∙◌, ap, refl}
use Rattle.gh_path.specs.Terms.{followed}
use Rattle.gh_symb.specs.Tables.{state}
use Rattle.gh_symb.proofs.scope.Scope.follow.Goals as goal

pub returns : goal.returns
returns c =
    let x = c.args.name.now in
    let v = c.args.version in
    let s = state c.used_term.new.kinds c.used_term.new.self v in
    let on : state c.add_next.new.self c.used_term.new.self v ≡ followed x s =
    rw (c.in_ok-add_next.ensures, c.in_ok-term.ensures.term) refl in
    on ∙ ap (followed x) (c.in_ok-term.ensures.used v)
