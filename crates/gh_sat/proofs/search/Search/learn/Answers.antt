use Rattle.std.proofs.Common.{◌≡◌, List, Result, Ok, Err, sym, subst}
use Rattle.std.specs.Prelude.{IfOk, OnErr}
use Rattle.std.specs.declared.alloc.AllocError.{AllocError}
use Rattle.gh_base.specs.declared.atom.Lit.{Lit}
use Rattle.gh_base.specs.declared.sizes.Sizes.{Sizes}
use Rattle.gh_sat.specs.declared.clause_search.Learnt.{Learnt}
use Rattle.gh_sat.specs.Trail.{SearchState}
use Rattle.gh_sat.specs.Learn.{add_clause}
use Rattle.gh_sat.specs.Theory.{IsBeside}
use Rattle.gh_sat.proofs.search.Search.learn.Goals as goal

kept : (V : Sizes → List Lit → Type 0) (asserted : List Lit) (z : Sizes) (s new : SearchState)
    (r : Result Learnt AllocError) → IsBeside V asserted z s
    → IfOk r (λ l. new ≡ add_clause s l.clause) → OnErr r (new ≡ s) → IsBeside V asserted z new
kept V asserted z s new (Ok l) b ok err = subst (IsBeside V asserted z) (sym ok) b
kept V asserted z s new (Err e) b ok err = subst (IsBeside V asserted z) (sym err) b

pub invariant_of-self : goal.invariant_of-self
invariant_of-self g c =
    let T = g.T.Theory in
    let theory = c.self.inside.theory in
    kept T.valid (T.asserted theory) (T.sizes theory) c.self.inside.search c.learn.new.self c.learn.result
    c.self.invariant c.learn.ensures.added c.learn.ensures.err
