use Rattle.std.proofs.Common.{◌≡◌, ◌∙◌, ℕ, zero, suc, List, [], ◌∷◌, Some, None, refl, sym, subst}
use Rattle.std.specs.Prelude.{slice_get, slice_index_or, unwrap_or}
use Rattle.std.proofs.lemmas.Option.{get_or_from_slice_get}
use Rattle.gh_base.specs.declared.atom.Lit.{Lit}
use Rattle.gh_log.specs.Sections.{line_clause}
use Rattle.gh_log.specs.Tables.{line_of}
use Rattle.gh_log.specs.declared.lines.LogLine.{LogLine}
use Rattle.gh_check.proofs.clauses.clause_of.Goals as goal

none_there : (clauses : List (List Lit)) (k : ℕ) → None ≡ slice_get clauses k → [] ≡ slice_index_or clauses k []
none_there [] k e = refl
none_there (c ∷ clauses) zero e = absurd (cc)
none_there (c ∷ clauses) (suc k) e = none_there clauses k e

some_there : (clauses : List (List Lit)) (k : ℕ) (c : List Lit) → Some c ≡ slice_get clauses k
    → c ≡ slice_index_or clauses k []
some_there clauses k c e = sym (get_or_from_slice_get clauses k c [] (sym e))

pub returns-in-None-clause : goal.returns-in-None-clause
returns-in-None-clause c =
    let p = c.args.ground.now in
    subst (λ (l : LogLine). [] ≡ unwrap_or (line_clause p (line_of l)) []) (sym c.in-Clause.is)
    (none_there p.clauses c.in-Clause.number c.in-None-clause.ensures.found)

pub returns-in-Some-clause : goal.returns-in-Some-clause
returns-in-Some-clause c =
    let p = c.args.ground.now in
    subst (λ (l : LogLine). c.lits.result.now ≡ unwrap_or (line_clause p (line_of l)) []) (sym c.in-Clause.is)
    (c.lits.ensures ∙ some_there p.clauses c.in-Clause.number c.in-Some-clause.clause.now
    c.in-Some-clause.ensures.found)
