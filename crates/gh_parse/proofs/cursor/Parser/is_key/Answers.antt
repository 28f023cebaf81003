use Rattle.gh_parse.proofs.Heads.{key_tells, no_key}
use Rattle.gh_parse.proofs.cursor.Parser.is_key.Goals as goal

pub returns-in-Key : goal.returns-in-Key
returns-in-Key c = key_tells c.in-Key.k c.args.wanted c.eq.result c.in-Key.ensures c.eq.ensures

pub returns-in_default : goal.returns-in_default
returns-in_default c = no_key c.ahead.result c.args.wanted c.ahead.ensures c.in_default.not-Key
