-- In a typed program the calls of each body name procedures, and the loops of a body that has few have numbers of 16
-- bits.
use Rattle.std.specs.Prelude.{◌≡◌, ℕ, zero, suc, ◌+◌, ◌<◌, ◌≤◌, min, List, [], ◌∷◌, ◌++◌, map, length, get_or, drop}
use Rattle.std.specs.Prelude.{Bool, true, false, Option, Some, None, slice_get, Contains}
use Rattle.std.proofs.Common.{refl, subst, arith}
use Rattle.std.proofs.lemmas.List.{length-append}
use Rattle.std.proofs.lemmas.Option.{slice_get_within}
use Rattle.std.proofs.lemmas.List.Elements.{Contains-append_left, Contains-append_right}
use Rattle.gh_ast.proofs.Lists.{member_first, member_later}
use Rattle.gh_ast.proofs.TypedPrograms.{callee_is_known}
use Rattle.gh_ast.specs.Limits.{AreFew}
use Rattle.gh_ast.specs.Occurrences.{Site, mentioned, assigned, called, sites_in, all_sites_in, sites_in_body, sites_of}
use Rattle.gh_ast.specs.Occurrences.{in_cond, in_exprs, in_assertion, in_alternatives}
use Rattle.gh_ast.specs.Rules.{IsTyped}
use Rattle.gh_ast.specs.declared.Occ.{Occ}
use Rattle.gh_ast.specs.declared.Expr.{Expr}
use Rattle.gh_ast.specs.declared.Stmt.{Stmt}
use Rattle.gh_ast.specs.Plain.{Statement, set, new, write, free, call, if, while, return, Statements, no_statements}
use Rattle.gh_ast.specs.Plain.{statement_first, statement_of, statements_view, Body, Procedure, Program}
use Rattle.gh_ast.specs.Programs.{Name, body_statements, statements_in, Declares}
use Rattle.gh_path.specs.Admitted.{most_conditions}
use Rattle.gh_path.specs.Graphs.{While, loops, all_loops, loops_of, number_of, IsLoopAt}
use Rattle.gh_path.specs.Callees.{IsKnown, CallsAreKnown, AllCallsAreKnown}
use Rattle.gh_path.specs.Lowered.{Suits, AllSuit, program_in}
use Rattle.gh_path.specs.declared.lowering.Lowering.{Lowering}
use Rattle.gh_path.proofs.ListLemmas.{next, got, same_some, no_some}
use Rattle.gh_path.proofs.FormLemmas.{callees_are_numbered}
use Rattle.gh_path.proofs.NumberLemmas.{all_follow}

-- the first of some statements, and the others
pub suit_first : (w : Lowering) (n : ℕ) (ss : List Stmt) (i : ℕ) (x : Stmt) → i < length ss → x ≡ get_or ss i x
    → AllSuit w n (statements_view (drop i ss)) → Suits w n (statement_of x)
suit_first w n ss i x within is suit =
    let rest = statements_view (drop (i + 1) ss) in
    let all : AllSuit w n (statement_first (statement_of x) rest) =
    subst (λ ys. AllSuit w n (statements_view ys)) (next ss i x within is) suit in
    record {
      few = all.few;
      callees = all.callees.0;
      room = omega (arith, all.room, length-append (loops (statement_of x)) (all_loops rest));
    }

pub suit_next : (w : Lowering) (n m : ℕ) (ss : List Stmt) (i : ℕ) (x : Stmt) → i < length ss → x ≡ get_or ss i x
    → m ≡ min (n + min (length (loops (statement_of x))) 4294967295) 4294967295 →
    AllSuit w n (statements_view (drop i ss)) → AllSuit w m (statements_view (drop (i + 1) ss))
suit_next w n m ss i x within is sum suit =
    let rest = statements_view (drop (i + 1) ss) in
    let all : AllSuit w n (statement_first (statement_of x) rest) =
    subst (λ ys. AllSuit w n (statements_view ys)) (next ss i x within is) suit in
    record {
      few = all.few;
      callees = all.callees.1;
      room = omega (arith, sum, all.room, length-append (loops (statement_of x)) (all_loops rest));
    }

-- the loops of a body
abbrev AreCalled : Program → List While → Type 0
AreCalled P ls = (n : ℕ) (l : While) → slice_get ls n ≡ Some l → AllCallsAreKnown P l.body

both_called : (P : Program) (xs ys : List While) → AreCalled P xs → AreCalled P ys → AreCalled P (xs ++ ys)
both_called P [] ys one two n l at = two n l at
both_called P (x ∷ xs) ys one two zero l at = one zero l at
both_called P (x ∷ xs) ys one two (suc n) l at = both_called P xs ys (λ k m there. one (suc k) m there) two n l at

one_called : (P : Program) (x : While) (ls : List While) → AllCallsAreKnown P x.body → AreCalled P ls
    → AreCalled P (x ∷ ls)
one_called P x ls mine rest zero l at = subst (λ (q : While). AllCallsAreKnown P q.body) (same_some x l at) mine
one_called P x ls mine rest (suc n) l at = rest n l at

none_called : (P : Program) → AreCalled P []
none_called P n l at = absurd (no_some l at)

mutual
  loops_called : (P : Program) (s : Statement) → CallsAreKnown P s → AreCalled P (loops s)
  loops_called P (set x e) have = none_called P
  loops_called P (new x) have = none_called P
  loops_called P (write x e) have = none_called P
  loops_called P (free x) have = none_called P
  loops_called P (call xs f es) have = none_called P
  loops_called P (if t a c b d) have =
      both_called P (all_loops a) (all_loops b) (all_loops_called P a have.0) (all_loops_called P b have.1)
  loops_called P (while at t i body close) have =
      one_called P (record { at = at; test = t; invariant = i; body = body; close = close }) (all_loops body) have
      (all_loops_called P body have)
  loops_called P (return at es) have = none_called P

  pub all_loops_called : (P : Program) (ss : Statements) → AllCallsAreKnown P ss → AreCalled P (all_loops ss)
  all_loops_called P no_statements have = none_called P
  all_loops_called P (statement_first s ss) have =
      both_called P (loops s) (all_loops ss) (loops_called P s have.0) (all_loops_called P ss have.1)

-- the loops of a loop's body stand after it, so they are fewer than those that come
pub inside_few : (p : Procedure) (n : ℕ) (l : While) → IsLoopAt p n l
    → n + 1 + length (all_loops l.body) ≤ length (loops_of p)
inside_few p n l is = by_count (length (all_loops l.body)) refl
  where
    by_count : (m : ℕ) → m ≡ length (all_loops l.body) → n + 1 + length (all_loops l.body) ≤ length (loops_of p)
    by_count zero none = omega (arith, none, slice_get_within (loops_of p) n l is)
    by_count (suc m) some =
        let last = got (all_loops l.body) m (omega (arith, some)) in
        omega (
          arith,
          some,
          slice_get_within (loops_of p) (n + 1 + m) last.0
              (all_follow (body_statements p) n l is m last.0 last.1),
        )

pub entry_suits : (w : Lowering) (p : Procedure) → AreFew (program_in w)
    → AllCallsAreKnown (program_in w) (body_statements p) → length (loops_of p) ≤ most_conditions
    → AllSuit w 0 (body_statements p)
entry_suits w p procedures have few = record { few = procedures; callees = have; room = omega (arith, few) }

pub round_suits : (w : Lowering) (p : Procedure) (n : ℕ) (l : While) → IsLoopAt p n l → AreFew (program_in w)
    → AllCallsAreKnown (program_in w) (body_statements p) → length (loops_of p) ≤ most_conditions
    → AllSuit w (n + 1) l.body
round_suits w p n l is procedures have few =
    record {
      few = procedures;
      callees = all_loops_called (program_in w) (body_statements p) have n l is;
      room = omega (arith, few, inside_few p n l is);
    }

-- a procedure that is declared has a number
pub has_callee : (P : Program) (f : Name) (q : Procedure) → Declares P f q → IsKnown P f
has_callee P f q declares = slice_get_within P.procedures (number_of P f) q ((callees_are_numbered P f q).1 declares)

-- the calls of a body are sites of its procedure
abbrev AreKnown : Program → Procedure → Type 0
AreKnown P q = (ts : List Occ) (f : Occ) (es : List Expr) → Contains (sites_of q) (called ts f es) → IsKnown P f.name

abbrev AreSites : Procedure → List Site → Type 0
AreSites q xs = (x : Site) → Contains xs x → Contains (sites_of q) x

mutual
  statement_calls : (P : Program) (q : Procedure) → AreKnown P q → (b : Bool) (s : Statement)
      → AreSites q (sites_in b s) → CallsAreKnown P s
  statement_calls P q known b (set x e) sites = tt
  statement_calls P q known b (new x) sites = tt
  statement_calls P q known b (write x e) sites = tt
  statement_calls P q known b (free x) sites = tt
  statement_calls P q known b (call xs f es) sites =
      let rest = map mentioned (xs ++ in_exprs es) in
      known xs f es (sites (called xs f es)
      (member_later (assigned xs) (called xs f es) (called xs f es ∷ rest) (member_first (called xs f es) rest)))
  statement_calls P q known b (if t a ca d cd) sites =
      let front = map mentioned (in_cond t) in
      let one = all_sites_in b a in
      let two = all_sites_in b d in (
        block_calls P q known b a
            (λ x i. sites x (Contains-append_left (front ++ one) two x (Contains-append_right front one x i))),
        block_calls P q known b d (λ x i. sites x (Contains-append_right (front ++ one) two x i)),
      )
  statement_calls P q known b (while at t i body close) sites =
      let front = map mentioned (in_cond t ++ in_assertion i) in
      block_calls P q known true body (λ x j. sites x (Contains-append_right front (all_sites_in true body) x j))
  statement_calls P q known b (return at es) sites = tt

  block_calls : (P : Program) (q : Procedure) → AreKnown P q → (b : Bool) (ss : Statements)
      → AreSites q (all_sites_in b ss) → AllCallsAreKnown P ss
  block_calls P q known b no_statements sites = tt
  block_calls P q known b (statement_first s ss) sites = (
    statement_calls P q known b s (λ x i. sites x (Contains-append_left (sites_in b s) (all_sites_in b ss) x i)),
    block_calls P q known b ss (λ x i. sites x (Contains-append_right (sites_in b s) (all_sites_in b ss) x i)),
  )

in_body : (P : Program) (q : Procedure) → AreKnown P q → (o : Option Body) → AreSites q (sites_in_body o)
    → AllCallsAreKnown P (statements_in o)
in_body P q known None sites = tt
in_body P q known (Some i) sites = block_calls P q known false i.statements sites

pub body_calls : (P : Program) → IsTyped P → (q : Procedure) → Contains P.procedures q
    → AllCallsAreKnown P (body_statements q)
body_calls P typed q here =
    let front = map mentioned (in_assertion q.needs ++ in_alternatives q.gives) in
    in_body P q (λ ts f es there. let one = callee_is_known P typed q here ts f es there in
    has_callee P f.name one.0 one.1) q.body
    (λ x i. Contains-append_right front (sites_in_body q.body) x i)
