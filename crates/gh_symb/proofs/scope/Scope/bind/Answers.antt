use Rattle.std.proofs.Common.{◌∙◌, ap, map}
use Rattle.gh_path.specs.Terms.{bound}
use Rattle.gh_symb.specs.Tables.{bound_by, pair_of, IsLastAt}
use Rattle.gh_symb.proofs.TableLemmas.{bound_push, bound_again}
use Rattle.gh_symb.proofs.scope.Scope.bind.Goals as goal

pub returns-in-Some : goal.returns-in-Some
returns-in-Some c =
    let es = c.self.inside.entries.items in
    let at : IsLastAt es c.args.name.now c.in-Some.place =
    rw (c.as_slice.ensures.value, c.bytes.ensures.text) at c.in-Some.ensures.found in
    bound_again es c.in-Some.place (record { name = c.args.name; term = c.args.term }) at
    ∙ ap (λ bs. bound (bound_by bs) c.args.name.now c.args.term) c.self.view_is

pub returns-in_ok-push-in-None : goal.returns-in_ok-push-in-None
returns-in_ok-push-in-None c =
    ap (λ es. bound_by (map pair_of es)) c.in_ok-push-in-None.ensures.items
    ∙ bound_push c.self.inside.entries.items (record { name = c.args.name; term = c.args.term })
    ∙ ap (λ es. bound (bound_by es) c.args.name.now c.args.term) c.self.view_is
