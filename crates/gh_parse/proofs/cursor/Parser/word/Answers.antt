use Rattle.std.proofs.Common.{refl, ◌∙◌}
use Rattle.gh_parse.proofs.Rules.{by, begins_not}
use Rattle.gh_parse.proofs.Exits.{along_token}
use Rattle.gh_parse.proofs.ValueForms.{a_name}
use Rattle.gh_parse.proofs.ProgramForms.{make_word, part_word, word_named, word_reserved}
use Rattle.gh_parse.proofs.cursor.Parser.word.Goals as goal

pub returns-then-not-is_key : goal.returns-then-not-is_key
returns-then-not-is_key c =
    along_token _ a_name refl (λ x e. word_named x _ e)
    (λ s. by make_word (λ xs r d h. part_word xs r (begins_not c.if-not-is_key.ensures d) h) s)
    c.expect_name.ensures

pub returns : goal.returns
returns c = word_reserved c.in_ok-span.ensures (c.in_ok-name.ensures ∙ c.text.ensures)
