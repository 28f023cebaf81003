use Rattle.std.proofs.Common.{rules, ◌≡◌, sym, subst}
use Rattle.std.specs.Prelude.{slice_index}
use Rattle.gh_ast.specs.declared.Stmt.{Stmt}
use Rattle.gh_ast.specs.Plain.{statement_of}
use Rattle.gh_path.specs.Lowered.{Suits}
use Rattle.gh_path.proofs.lowering.Lowering.number_at.Goals as goal

pub returns-clause-suits : goal.returns-clause-suits
returns-clause-suits c = λ d at.
    let w = c.args.self.now in
    let is : c.unwrap_or.result ≡ slice_index c.args.numbers.now c.args.place = search rules in
    let there = c.requires.each c.args.place d c.requires.within in
    subst (λ n. Suits w n (statement_of d)) (sym is)
    (subst (λ (s : Stmt). Suits w (slice_index c.args.numbers.now c.args.place) (statement_of s)) (sym at) there)
