-- Checks that fail.
use Rattle.std.specs.Prelude.{◌≡◌, ℕ, ◌+◌, ◌<◌, List, [], ◌∷◌, ◌++◌, map, take, length, Option, Some, None, slice_get}
use Rattle.std.proofs.Common.{Vec, Global, refl, sym, ◌∙◌, ap, subst, get_or}
use Rattle.std.proofs.lemmas.List.{append_assoc, map-append, take_more}
use Rattle.gh_base.specs.declared.place.Span.{Span}
use Rattle.gh_ast.specs.declared.Expr.{Expr}
use Rattle.gh_ast.specs.declared.Assertion.{Assertion as CodeAssertion}
use Rattle.gh_ast.specs.Plain.{Assertion, assertion_of, Procedure, Program}
use Rattle.gh_ast.specs.Programs.{parameters_of}
use Rattle.gh_assert.specs.Heaps.{Heap}
use Rattle.gh_assert.specs.Meaning.{Store}
use Rattle.gh_path.specs.Graphs.{callee_entry}
use Rattle.gh_path.specs.declared.condition.CheckKind.TheVariants as kind
use Rattle.gh_trace.specs.Traces.{State}
use Rattle.gh_trace.proofs.CallLemmas.{IsCall}
use Rattle.gh_lens.specs.Misses.{IsMiss, AreMisses, IsFailing, IsCheckOr, IsEntryOr, IsInvariantOr, IsFailingOr}

-- where the entry of a callee fails
pub entry_fails : (P : Program) (proc : Procedure) (at : Span) (n : ℕ) (q : Procedure) (es : List Expr) (x : State)
    (given : List ℕ) (inside : Store) (text : List ℕ) → IsCall P n q es x given → map inside (parameters_of q) ≡ given
    → IsMiss q.needs inside x.heap text → IsFailing P proc (callee_entry at n es) x text
entry_fails P proc at n q es x given inside text call arguments miss =
    (q, given, call.callee, call.gives, record { inside = inside; arguments = arguments; miss = miss })

-- a callee that isn't there is passed
pub no_callee : (P : Program) (n : ℕ) (es : List Expr) (x : State) → slice_get P.procedures n ≡ None
    → IsEntryOr P n es x None
no_callee P n es x none proc at fails = fails (λ q vs inside is give params. absurd cc)

-- one alternative more
pub misses_more : (fs : List Assertion) (f : Assertion) (s : Store) (h : Heap) (old line new : List ℕ)
    → AreMisses fs s h old → IsMiss f s h line → new ≡ old ++ line → AreMisses (fs ++ f ∷ []) s h new
misses_more [] f s h old line new are is e = (line, [], e ∙ ap (λ t. t ++ line) are ∙ no_more line, is, refl)
  where
    no_more : (t : List ℕ) → [] ++ t ≡ t ++ []
    no_more [] = refl
    no_more (c ∷ cs) = ap (λ r. c ∷ r) (no_more cs)
misses_more (g ∷ gs) f s h old line new (a, b, whole, first, rest) is e = (
  a,
  b ++ line,
  e ∙ ap (λ t. t ++ line) whole ∙ append_assoc a b line,
  first,
  misses_more gs f s h b line (b ++ line) rest is refl,
)

-- the next alternative
pub misses_next : (xs : List CodeAssertion) (i : ℕ) (x : CodeAssertion) (s : Store) (h : Heap) (old line new : List ℕ)
    → i < length xs → x ≡ get_or xs i x → AreMisses (map assertion_of (take i xs)) s h old
    → IsMiss (assertion_of x) s h line → new ≡ old ++ line
    → AreMisses (map assertion_of (take (i + 1) xs)) s h new
misses_next xs i x s h old line new within is are one e =
    let taken : take (i + 1) xs ≡ take i xs ++ x ∷ [] =
    take_more xs i x within ∙ ap (λ y. take i xs ++ y ∷ []) (sym is) in
    let listed : map assertion_of (take (i + 1) xs) ≡ map assertion_of (take i xs) ++ assertion_of x ∷ [] =
    ap (map assertion_of) taken ∙ map-append assertion_of (take i xs) (x ∷ []) in
    subst (λ fs. AreMisses fs s h new) (sym listed)
    (misses_more (map assertion_of (take i xs)) (assertion_of x) s h old line new are one e)

-- the entry of a callee, by its kind
pub callee_or : (P : Program) (proc : Procedure) (n : ℕ) (es : Vec Expr Global) (given : List Expr) (x : State)
    (o : Option (List ℕ)) → given ≡ es.items → IsEntryOr P n given x o → IsFailingOr P proc (kind.CalleeEntry n es) x o
callee_or P proc n es given x o e is = λ at. subst (λ gs. IsCheckOr P proc (callee_entry at n gs) x o) e (is proc at)

-- the entry and the end of a loop
pub loop_entry_or : (P : Program) (proc : Procedure) (n : ℕ) (x : State) (o : Option (List ℕ))
    → IsInvariantOr proc n x o → IsFailingOr P proc (kind.LoopEntry n) x o
loop_entry_or P proc n x (Some t) some = λ at. some
loop_entry_or P proc n x None none = λ at fails. fails (λ l loop. absurd (none l loop))

pub loop_end_or : (P : Program) (proc : Procedure) (n : ℕ) (x : State) (o : Option (List ℕ)) → IsInvariantOr proc n x o
    → IsFailingOr P proc (kind.LoopEnd n) x o
loop_end_or P proc n x (Some t) some = λ at. some
loop_end_or P proc n x None none = λ at fails. fails (λ l loop. absurd (none l loop))
