use Rattle.std.proofs.Common.{◌<◌, ◌^◌, arith}
use Rattle.gh_inst.proofs.WordLemmas.{positive_false, negative_false}
use Rattle.gh_inst.proofs.schema.Pattern.false_terms.Goals as goal

pub returns-then-self : goal.returns-then-self
returns-then-self c = λ m version n tuple first place few truths.
    let small : c.args.word < 2 ^ 32 = omega arith in
    positive_false m version n first place c.args.word tuple c.args.self.now truths c.if-self.true few small

pub returns : goal.returns
returns c =
    λ m version n tuple first place few truths. negative_false m version n first place c.args.word tuple c.args.self.now
    truths c.if-self.false
