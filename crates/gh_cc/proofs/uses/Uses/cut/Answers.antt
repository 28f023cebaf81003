use Rattle.std.proofs.Common.{◌∙◌, ap}
use Rattle.gh_cc.specs.Uses.{terms_of}
use Rattle.gh_cc.proofs.UseLemmas.{terms_take}
use Rattle.gh_cc.proofs.uses.Uses.cut.Goals as goal

pub returns : goal.returns
returns c =
    let s = c.self.inside in
    let list = ap terms_of c.forget.ensures.mentions ∙ terms_take c.args.len s.mentions.items in
    rw (← c.self.view_is)
    (λ i. record { terms = c.forget.ensures.long i; room = c.forget.ensures.capacity i; list = list i })
