use Rattle.std.proofs.Common.{ℕ, List, [], ◌∷◌, ◌++◌, ◌∙◌, ap, sym}
use Rattle.std.specs.Prelude.{slice_get}
use Rattle.gh_base.specs.declared.atom.Lit.{Lit}
use Rattle.gh_log.specs.Lines as line
use Rattle.gh_ground.proofs.KeptLemmas.{keeps_none, keeps_lemma}
use Rattle.gh_ground.proofs.solver.Solver.propagate.Goals as goal

pub returns-in-None-clause-keeps : goal.returns-in-None-clause-keeps
returns-in-None-clause-keeps c =
    let new = c.propagate.new.self in
    keeps_none c.args.self.now.search new c.args.self.now.lines c.in_ok-answer.answer c.in_ok-answer.ensures.moves
    (sym c.in-None.is ∙ c.in_ok-clause_at.ensures
    ∙ ap (λ (k : ℕ). slice_get new.clauses k) c.count-before.ensures.count)

pub returns-in_ok-push-in-Some-clause-keeps : goal.returns-in_ok-push-in-Some-clause-keeps
returns-in_ok-push-in-Some-clause-keeps c =
    let new = c.propagate.new.self in
    keeps_lemma c.args.self.now.search new c.args.self.now.lines c.push.new.self c.in-Some.lemma c.in_ok-answer.answer
    c.in_ok-answer.ensures.moves
    (sym c.in-Some.is ∙ c.in_ok-clause_at.ensures
    ∙ ap (λ (k : ℕ). slice_get new.clauses k) c.count-before.ensures.count)
    (c.in_ok-push-in-Some.ensures.ok
    ∙ ap (λ (x : List Lit). c.args.self.now.lines ++ line.Lemma x ∷ []) c.lits.ensures)
