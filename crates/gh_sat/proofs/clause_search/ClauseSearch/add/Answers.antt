use Rattle.std.proofs.Common.{◌≡◌, ℕ, List, Result, Ok, Err, sym, subst, inl, inr, OnOk}
use Rattle.std.specs.declared.alloc.AllocError.{AllocError}
use Rattle.gh_base.specs.declared.atom.Lit.{Lit}
use Rattle.gh_sat.specs.Trail.{SearchState, IsFalseIn, cut}
use Rattle.gh_sat.specs.Watch.{WasOpen}
use Rattle.gh_sat.specs.Learn.{IsTop, add_clause}
use Rattle.gh_sat.specs.Whole.{AddsClause}
use Rattle.gh_sat.specs.contracts.clause_search.ClauseSearch.{the_view}
use Rattle.gh_sat.proofs.WholeLemmas.{open_unless, open_under}
use Rattle.gh_sat.proofs.clause_search.ClauseSearch.add.Goals as goal

added_other : (s now new : SearchState) (c : List Lit) (r : Result (Unit {0}) AllocError) → s ≡ now
    → (IsFalseIn s.trail c → ⊥) → OnOk r (new ≡ add_clause now c) → OnOk r (AddsClause now c new)
added_other s now new c (Ok x) is n e = inr ((λ f. n (subst (λ (t : SearchState). IsFalseIn t.trail c) (sym is) f)), e)
added_other s now new c (Err x) is n e = tt

added_false : (s now new : SearchState) (c : List Lit) (top : ℕ) (r : Result (Unit {0}) AllocError) → s ≡ now
    → IsFalseIn s.trail c → IsTop s.trail c top → OnOk r (new ≡ add_clause (cut now top) c)
    → OnOk r (AddsClause now c new)
added_false s now new c top (Ok x) is f t e =
    inl (
      top,
      subst (λ (w : SearchState). IsFalseIn w.trail c) is f,
      subst (λ (w : SearchState). IsTop w.trail c top) is
          t,
      e,
    )
added_false s now new c top (Err x) is f t e = tt

pub insert-requires-clause-was_open : goal.insert-requires-clause-was_open
insert-requires-clause-was_open c =
    let s = the_view c.self.inside in
    let n : IsFalseIn s.trail c.args.clause → ⊥ =
    λ f. c.in-None.ensures.none (subst (IsFalseIn s.trail) (sym c.lits.ensures) f) in
    subst (λ (t : SearchState). WasOpen t.trail t.starts c.args.clause) c.self.view_is
    (open_unless s.trail s.starts c.args.clause n)

pub insert_under-requires-clause-was_open : goal.insert_under-requires-clause-was_open
insert_under-requires-clause-was_open c =
    let s = the_view c.self.inside in
    let top = c.in-Some.top in
    let t : IsTop s.trail c.args.clause top =
    subst (λ (l : List Lit). IsTop s.trail l top) c.lits.ensures c.in-Some.ensures.top in
    subst (λ (w : SearchState). WasOpen (cut w top).trail (cut w top).starts c.args.clause) c.self.view_is
    (open_under s c.args.clause top c.self.invariant.0.sound t)

pub returns-in-None-clause-ok : goal.returns-in-None-clause-ok
returns-in-None-clause-ok c =
    let s = the_view c.self.inside in
    added_other s c.args.self.now c.insert.new.self c.args.clause c.insert.result c.self.view_is
    (λ f. c.in-None.ensures.none (subst (IsFalseIn s.trail) (sym c.lits.ensures) f)) c.insert.ensures.ok

pub returns-in-Some-clause-ok : goal.returns-in-Some-clause-ok
returns-in-Some-clause-ok c =
    let s = the_view c.self.inside in
    let t : IsTop s.trail c.args.clause c.in-Some.top =
    subst (λ (l : List Lit). IsTop s.trail l c.in-Some.top) c.lits.ensures c.in-Some.ensures.top in
    let f : IsFalseIn s.trail c.args.clause = subst (IsFalseIn s.trail) c.lits.ensures c.in-Some.ensures.is_false in
    added_false s c.args.self.now c.insert_under.new.self c.args.clause c.in-Some.top c.insert_under.result
    c.self.view_is f t c.insert_under.ensures.ok
