use Rattle.gh_parse.proofs.CallForms.{no_named}
use Rattle.gh_parse.proofs.cursor.Parser.named_statement.Goals as goal

pub returns : goal.returns
returns c = no_named c.if-is_sign.ensures c.if-is_sign-2.ensures c.if-is_sign-3.ensures c.if-is_sign-4.ensures
