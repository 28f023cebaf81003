use Rattle.std.proofs.Common.{ap, subst, sym, IfOk, IfErr}
use Rattle.gh_ast.specs.Grammar.{SpellsProgram}
use Rattle.gh_ast.specs.Plain.{program_of}
use Rattle.gh_ast.specs.WellFormed.{IsWellFormed}
use Rattle.gh_ast.proofs.Formed.{program_is_formed}
use Rattle.gh_parse.specs.Parsing.{IsParseRefusal, IsScanned}
use Rattle.gh_parse.specs.Views.{tokens_of}
use Rattle.gh_parse.proofs.Parsed.{answer_keeps, answer_refused}
use Rattle.gh_parse.proofs.parse.parse.Goals as goal

pub returns-clause-formed : goal.returns-clause-formed
returns-clause-formed c =
    subst (λ r. IfOk r (λ p. IsWellFormed (program_of p))) (sym c.answer.ensures)
    (answer_keeps SpellsProgram _ _ _ c.in_ok-lexed.lexed.whole program_of c.program-read.result
    (λ p. IsWellFormed (program_of p)) (λ p s. program_is_formed s) c.program-read.ensures)

pub returns-clause-refused : goal.returns-clause-refused
returns-clause-refused c =
    let lexed = c.in_ok-lexed.lexed in
    subst (λ r. IfErr r (IsParseRefusal c.args.text.now)) (sym c.answer.ensures)
    (answer_refused SpellsProgram _ lexed.whole program_of c.program-read.result
    (subst (λ ts. IsScanned c.args.text.now ts lexed.end lexed.whole) (sym (ap tokens_of c.as_slice.ensures.value))
    c.in_ok-lexed.ensures) c.program-read.ensures)
