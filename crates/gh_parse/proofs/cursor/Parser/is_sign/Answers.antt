use Rattle.gh_parse.proofs.Heads.{sign_tells, no_sign}
use Rattle.gh_parse.proofs.cursor.Parser.is_sign.Goals as goal

pub returns-in-Sign : goal.returns-in-Sign
returns-in-Sign c = sign_tells c.in-Sign.s c.args.wanted c.eq.result c.in-Sign.ensures c.eq.ensures

pub returns-in_default : goal.returns-in_default
returns-in_default c = no_sign c.ahead.result c.args.wanted c.ahead.ensures c.in_default.not-Sign
