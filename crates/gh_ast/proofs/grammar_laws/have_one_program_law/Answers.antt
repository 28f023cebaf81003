use Rattle.std.proofs.Common.{subst, sym}
use Rattle.gh_ast.specs.Grammar.{SpellsProgram}
use Rattle.gh_ast.proofs.TokenLemmas.{one_whole}
use Rattle.gh_ast.proofs.OneProgram.{one_program}
use Rattle.gh_ast.proofs.grammar_laws.have_one_program_law.Goals as goal

pub returns : goal.returns
returns c text p q a b =
    one_program a.0 p q a.2 (subst (λ z. SpellsProgram z q) (sym (one_whole text a.0 b.0 a.1 b.1)) b.2)
