-- What calls and loops hand over.
use Rattle.std.specs.Prelude.{◌≡◌, ℕ, ◌<◌, List, length, map, Option, Some, None, IfSome, IfNone, IfOk, Result, Ok, Err}
use Rattle.std.specs.Prelude.{slice_get}
use Rattle.std.proofs.Common.{refl, sym, ◌∙◌, ap, subst, inl, inr, arith}
use Rattle.std.proofs.lemmas.Option.{slice_get_cases}
use Rattle.gh_ast.specs.declared.Occ.{Occ}
use Rattle.gh_ast.specs.declared.Expr.{Expr}
use Rattle.gh_ast.specs.Plain.{Assertion, Procedure, Program}
use Rattle.gh_ast.specs.Programs.{parameters_of}
use Rattle.gh_ast.proofs.Lists.{same_values, one_value}
use Rattle.gh_assert.specs.Heaps.{Heap}
use Rattle.gh_assert.specs.Meaning.{Store, Meaning}
use Rattle.gh_assert.proofs.Agree.{maps_agree, same_meaning}
use Rattle.gh_path.specs.Graphs.{While, call_step, while_step, loops_of, IsLoopAt}
use Rattle.gh_trace.specs.Laws.{HasOwnNames}
use Rattle.gh_trace.specs.Traces.{State, Replaced}
use Rattle.gh_trace.proofs.CallLemmas.{IsCall}
use Rattle.gh_lens.specs.declared.exchange.Exchange.{Exchange}
use Rattle.gh_lens.specs.Exchanges.{IsExchange}
use Rattle.gh_lens.specs.Handed.{IsCallExchange, IsHanded, IsHandedOr}

-- where nothing gives way there is no exchange
pub no_exchange : (f : Assertion) (s : Store) (h k : Heap) → ((other : Heap) → Replaced f s h (λ z. z ≡ other) k → ⊥)
    → (e : Exchange) → IsExchange f s h k e → ⊥
no_exchange f s h k none e x =
    none e.back (record {
      part = x.part;
      frame = e.frame;
      other = e.back;
      splits = x.splits;
      met = x.meets;
      joins = x.joins;
      meets = refl;
    })

-- stores that give one meaning have the same exchanges
exchange_agrees : (f : Assertion) (s t : Store) (h k : Heap) (e : Exchange)
    → ((a : Heap) → Meaning f s a → Meaning f t a) → IsExchange f s h k e → IsExchange f t h k e
exchange_agrees f s t h k e means x =
    record { part = x.part; splits = x.splits; meets = means x.part x.meets; handed = x.handed; joins = x.joins }

-- the loop of a number hands over by its invariant
pub loop_hands : (P : Program) (proc : Procedure) (n : ℕ) (l : While) (x y : State) (o : Option Exchange)
    → IsLoopAt proc n l → IfSome o (IsExchange l.invariant x.store x.heap y.heap)
    → IfNone o ((other : Heap) → Replaced l.invariant x.store x.heap (λ z. z ≡ other) y.heap → ⊥)
    → IsHandedOr P proc (while_step n) x y o
loop_hands P proc n l x y (Some e) at some none = (l, at, some)
loop_hands P proc n l x y None at some none = λ e (m, there, ex).
    let same : m ≡ l = one_value (slice_get (loops_of proc) n) m l there at in
    no_exchange l.invariant x.store x.heap y.heap none e
    (subst (λ k. IsExchange k.invariant x.store x.heap y.heap e) same ex)

-- the callee of a number hands over by what it requires of its arguments
pub call_hands : (P : Program) (proc : Procedure) (n : ℕ) (q : Procedure) (xs : List Occ) (es : List Expr) (x y : State)
    (given : List ℕ) (inside : Store) (o : Option Exchange) → IsCall P n q es x given → HasOwnNames q
    → map inside (parameters_of q) ≡ given
    → IfSome o (IsExchange q.needs inside x.heap y.heap)
    → IfNone o ((other : Heap) → Replaced q.needs inside x.heap (λ z. z ≡ other) y.heap → ⊥)
    → IsHandedOr P proc (call_step xs n es) x y o
call_hands P proc n q xs es x y given inside (Some e) call own arguments some none =
    (q, given, call.callee, call.gives, record { inside = inside; arguments = arguments; exchange = some })
call_hands P proc n q xs es x y given inside None call own arguments some none = refused
  where
    moved : (e : Exchange) (r : Procedure) (vs : List ℕ) → r ≡ q → vs ≡ given → IsCallExchange r vs x y e
        → IsExchange q.needs inside x.heap y.heap e
    moved e r vs same values ex =
        let there : map ex.inside (parameters_of q) ≡ map inside (parameters_of q) =
        ap (λ z. map ex.inside (parameters_of z)) (sym same) ∙ ex.arguments ∙ values ∙ sym arguments in
        exchange_agrees q.needs ex.inside inside x.heap y.heap e
        (λ a. same_meaning q.needs (parameters_of q) ex.inside inside a
        (maps_agree (parameters_of q) ex.inside inside there) own.needs_in)
        (subst (λ z. IsExchange z.needs ex.inside x.heap y.heap e) same ex.exchange)

    refused : (e : Exchange) → IsHanded P proc (call_step xs n es) x y e → ⊥
    refused e (r, vs, is, give, ex) =
        no_exchange q.needs inside x.heap y.heap none e
        (moved e r vs (one_value (slice_get P.procedures n) r q is call.callee)
        (same_values vs given (sym give ∙ call.gives)) ex)

-- two clauses at once
pub with_both : {X E : Type 0} (r : Result X E) (A B C : X → Type 0) → ((x : X) → A x → B x → C x) → IfOk r A → IfOk r B
    → IfOk r C
with_both (Ok x) A B C f a b = f x a b
with_both (Err e) A B C f a b = tt

-- something stands at a number below the count
pub stands_there : {X : Type 0} (xs : List X) (n : ℕ) → n < length xs → slice_get xs n ≡ None → ⊥
stands_there xs n within none = elim ((slice_get_cases xs n).1) [
  | inl (x, inside, at, is) ↦ absurd cc
  | inr (past, at) ↦ omega (arith, within, past)
]
