-- A condition has the counterexamples of its essence.
use Rattle.std.specs.Prelude.{◌≡◌, ◌↔◌, ℕ, zero, suc, ◌<◌, List, [], ◌∷◌, ◌++◌, map, flat_map, length, get_or}
use Rattle.std.specs.Prelude.{slice_get, option_map, Some, true, Contains}
use Rattle.std.proofs.Common.{refl, sym, ◌∙◌, ap, subst, inl, inr, arith}
use Rattle.std.proofs.lemmas.Option.{slice_get-map, get_or_from_slice_get}
use Rattle.std.proofs.lemmas.List.Elements.{Contains-append_left, Contains-append_right}
use Rattle.gh_base.specs.declared.place.Span.{Span}
use Rattle.gh_ast.specs.declared.Occ.{Occ}
use Rattle.gh_ast.specs.declared.Expr.{Expr}
use Rattle.gh_ast.specs.Plain.{Assertion, Procedure, Program}
use Rattle.gh_ast.specs.Programs.{Name, names, variable_names}
use Rattle.gh_ast.specs.Bare.{bare_expr, bare_assertion}
use Rattle.gh_ast.proofs.Lists.{member_first, member_later, member_cases, no_member}
use Rattle.gh_ast.proofs.Sites.{member_map}
use Rattle.gh_assert.specs.Heaps.{Heap}
use Rattle.gh_assert.specs.Meaning.{Store, Meaning, HasPart, MeetsOneOf}
use Rattle.gh_assert.specs.Values.{Give, compared, Gets}
use Rattle.gh_path.specs.Graphs as path
use Rattle.gh_path.specs.Graphs.{While, loops_of, IsLoopAt, IsProcedureAt, HasLoop, HasProcedure}
use Rattle.gh_path.specs.Conditions.{Condition, IsOf, StartIsThere, StepIsThere, CheckIsThere}
use Rattle.gh_path.proofs.LoopVariables.{NamesIn, assigned_listed, listed_assigned}
use Rattle.gh_trace.specs.Traces as trace
use Rattle.gh_trace.specs.Traces.{State, Replaced}
use Rattle.gh_session.specs.Numbering.{place}
use Rattle.gh_session.specs.Essences.{Contract, LoopContract, Essence, contract_of, loop_contract_of, no_contract}
use Rattle.gh_session.specs.Essences.{no_loop_contract, callees_in, callees_at, loops_from, loops_in, loops_at}
use Rattle.gh_session.specs.Essences.{procedures_of, loops_met, start_in, step_in, check_in, essence}
use Rattle.gh_session.specs.Meaning.{contract_at, loop_contract_at, own, StartsIn}
use Rattle.gh_session.specs.Meaning as of
use Rattle.gh_session.proofs.Placing.{front, at_place}
use Rattle.gh_session.proofs.Places.{result_stays, results_stay, meaning_stays}

-- E has the procedures ps of P and the loops ls of proc at their places
pub record Knows (P : Program) (proc : Procedure) (ps ls : List ℕ) (E : Essence) : Type 0 where
  pub own_is : own E ≡ contract_of proc
  pub callees : (n : ℕ) (q : Procedure) → Contains ps n → slice_get P.procedures n ≡ Some q
      → contract_at E (place n ps) ≡ contract_of q
  pub loops : (n : ℕ) (l : While) → Contains ls n → IsLoopAt proc n l
      → loop_contract_at E (place n ls) ≡ loop_contract_of (variable_names proc) l

looked : {A B : Type 0} (f : A → B) (d : B) (table : List A) (ns : List ℕ) (k n : ℕ) (a : A) → slice_get ns k ≡ Some n
    → slice_get table n ≡ Some a →
    get_or (map (λ m. get_or (map f table) m d) ns) k d ≡ f a
looked f d table ns k n a at is =
    get_or_from_slice_get (map (λ m. get_or (map f table) m d) ns) k (f a) d
    (slice_get-map (λ m. get_or (map f table) m d) ns k
    ∙ ap (option_map (λ m. get_or (map f table) m d)) at
    ∙ ap Some (get_or_from_slice_get (map f table) n (f a) d (slice_get-map f table n ∙ ap (option_map f) is)))

pub knows : (P : Program) (proc : Procedure) (c : Condition) → IsOf P c proc
    → Knows P proc (procedures_of c) (loops_met c) (essence P proc c)
knows P proc c is = record {
  own_is =
      looked contract_of no_contract P.procedures (procedures_of c) 0 c.procedure proc
      (front c.procedure (c.procedure ∷ []) (flat_map callees_in c.way.steps ++ callees_at c.way.check) refl) is;
  callees =
      λ n q there at. looked contract_of no_contract P.procedures (procedures_of c) (place n (procedures_of c)) n q
      (at_place n (procedures_of c) there) at;
  loops =
      λ n l there at. looked (loop_contract_of (variable_names proc)) no_loop_contract (loops_of proc) (loops_met c)
      (place n (loops_met c)) n l (at_place n (loops_met c) there) at;
}

-- two ways of one path
abbrev along : {A B : Type 0} → A ≡ B → A ↔ B
along e = (λ a. subst (λ (X : Type 0). X) e a, λ b. subst (λ (X : Type 0). X) (sym e) b)

meaning : (f : Assertion) (s : Store) (h : Heap) → Meaning f s h ↔ Meaning (bare_assertion f) s h
meaning f s h = along (sym (meaning_stays f s h))

part : (f : Assertion) (s : Store) (h : Heap) → HasPart f s h ↔ HasPart (bare_assertion f) s h
part f s h = (
  λ (a, b, split, m). (a, b, split, (meaning f s a).0 m),
  λ (a, b, split, m). (a, b, split, (meaning f s a).1 m),
)

mapped : {A B : Type 0} (f : A → B) (xs : List A) (y : B) → Contains (map f xs) y → (x : A) × Contains xs x × (f x ≡ y)
mapped f [] y there = absurd (no_member y there)
mapped f (x ∷ xs) y there = elim (member_cases (f x) (map f xs) y there) [
  | inl is ↦ (x, member_first x xs, is)
  | inr more ↦ let (z, has, is) = mapped f xs y more in (z, member_later x z xs has, is)
]

one_of : (fs : List Assertion) (s : Store) (h : Heap) → MeetsOneOf fs s h ↔ MeetsOneOf (map bare_assertion fs) s h
one_of fs s h = (
  λ (f, there, m). (bare_assertion f, member_map bare_assertion fs f there, (meaning f s h).0 m),
  λ (g, there, m). let (f, of, is) = mapped bare_assertion fs g there in
      (f, of, (meaning f s h).1 (subst (λ k. Meaning k s h) (sym is) m)),
)

replaced : (f : Assertion) (s : Store) (h : Heap) (Q R : Heap → Type 0) (k : Heap) → ((j : Heap) → Q j ↔ R j)
    → Replaced f s h Q k ↔ Replaced (bare_assertion f) s h R k
replaced f s h Q R k both = (
  λ r. record {
    part = r.part;
    frame = r.frame;
    other = r.other;
    splits = r.splits;
    met = (meaning f s r.part).0 r.met;
    joins = r.joins;
    meets = (both r.other).0 r.meets;
  },
  λ r. record {
    part = r.part;
    frame = r.frame;
    other = r.other;
    splits = r.splits;
    met = (meaning f s r.part).1 r.met;
    joins = r.joins;
    meets = (both r.other).1 r.meets;
  },
)

give : (s : Store) (h : Heap) (es : List Expr) (vs : List ℕ) → Give s h es vs ↔ Give s h (map bare_expr es) vs
give s h es vs = (λ g. results_stay s h es ∙ g, λ g. sym (results_stay s h es) ∙ g)

answered : (q : Procedure) (inside : Store) (x y : State)
    → Replaced q.needs inside x.heap (MeetsOneOf q.gives inside) y.heap
    ↔ Replaced (bare_assertion q.needs) inside x.heap (MeetsOneOf (map bare_assertion q.gives) inside) y.heap
answered q inside x y =
    replaced q.needs inside x.heap (MeetsOneOf q.gives inside) (MeetsOneOf (map bare_assertion q.gives) inside) y.heap
    (one_of q.gives inside)

called : (q : Procedure) (vs : List ℕ) (xs : List Name) (x y : State)
    → trace.CallLeads q vs xs x y ↔ of.CallLeads (contract_of q) vs xs x y
called q vs xs x y = (
  λ c. record {
    inside = c.inside;
    arguments = c.arguments;
    targets = c.targets;
    replaced = (answered q c.inside x y).0 c.replaced;
  },
  λ c. record {
    inside = c.inside;
    arguments = c.arguments;
    targets = c.targets;
    replaced = (answered q c.inside x y).1 c.replaced;
  },
)

abbrev pub Within : List ℕ → List ℕ → Type 0
Within ps ns = (n : ℕ) → Contains ns n → Contains ps n

-- the entry of a list at a place below its length
at_below : {A : Type 0} (xs : List A) (n : ℕ) → n < length xs → (x : A) × (slice_get xs n ≡ Some x)
at_below [] n low = absurd (omega (arith, low))
at_below (x ∷ xs) zero low = (x, refl)
at_below (x ∷ xs) (suc n) low = at_below xs n (omega (arith, low))

abbrev pub SameTakes : Program → Procedure → Essence → List ℕ → List ℕ → State → State → path.PathStep → Type 0
SameTakes P proc E ps ls x y s = trace.StepLeads P proc s x y ↔ of.StepLeads E (step_in ps ls s) x y

call_takes : (P : Program) (proc : Procedure) (ps ls : List ℕ) (E : Essence) → Knows P proc ps ls E
    → (x y : State) (xs : List Occ) (n : ℕ) (es : List Expr) → HasProcedure P n → Contains ps n
    → SameTakes P proc E ps ls x y (path.call_step xs n es)
call_takes P proc ps ls E K x y xs n es low there = (
  λ (r, vs, at, gives, c). (
    vs,
    (give x.store x.heap es vs).0 gives,
    subst (λ k. of.CallLeads k vs (names xs) x y) (sym (K.callees n r there at)) ((called r vs (names xs) x y).0 c),
  ),
  λ (vs, gives, c). (
    q.0,
    vs,
    q.1,
    (give x.store x.heap es vs).1 gives,
    (called q.0 vs (names xs) x y).1 (subst (λ k. of.CallLeads k vs (names xs) x y) (K.callees n q.0 there q.1) c),
  ),
)
  where
    q : (r : Procedure) × IsProcedureAt P n r
    q = at_below P.procedures n low

-- the loops of the procedure assign variables of it alone
abbrev pub LoopsAreOver : Procedure → Type 0
LoopsAreOver p = (n : ℕ) (l : While) → IsLoopAt p n l → NamesIn (variable_names p) l.body

abbrev RoundAround : LoopContract → State → State → Type 0
RoundAround k x y =
    Replaced k.invariant x.store x.heap (Meaning k.invariant y.store) y.heap
    × ((a : Name) → (Contains k.assigned a → ⊥) → y.store a ≡ x.store a)

around : (p : Procedure) (l : While) (x y : State) → NamesIn (variable_names p) l.body
    → trace.LoopLeads l x y ↔ RoundAround (loop_contract_of (variable_names p) l) x y
around p l x y over = (
  λ r. (both.0 r.replaced, λ a out. r.kept a (λ m. out (assigned_listed (variable_names p) l a over m))),
  λ t. record { replaced = both.1 t.0; kept = λ a out. t.1 a (λ m. out (listed_assigned (variable_names p) l a m)) },
)
  where
    both : Replaced l.invariant x.store x.heap (Meaning l.invariant y.store) y.heap
        ↔ Replaced (bare_assertion l.invariant) x.store x.heap (Meaning (bare_assertion l.invariant) y.store) y.heap
    both = replaced l.invariant x.store x.heap (Meaning l.invariant y.store)
        (Meaning (bare_assertion l.invariant) y.store) y.heap (meaning l.invariant y.store)

loop_takes : (P : Program) (proc : Procedure) (ps ls : List ℕ) (E : Essence) → Knows P proc ps ls E → LoopsAreOver proc
    → (x y : State) (n : ℕ) → HasLoop proc n → Contains ls n → SameTakes P proc E ps ls x y (path.while_step n)
loop_takes P proc ps ls E K over x y n low there = (
  λ (k, at, r). subst (λ m. RoundAround m x y) (sym (K.loops n k there at)) ((around proc k x y (over n k at)).0 r),
  λ t. (
    l.0,
    l.1,
    (around proc l.0 x y (over n l.0 l.1)).1
        (subst (λ m. RoundAround m x y) (K.loops n l.0 there l.1) t),
  ),
)
  where
    l : (k : While) × IsLoopAt proc n k
    l = at_below (loops_of proc) n low

pub takes : (P : Program) (proc : Procedure) (ps ls : List ℕ) (E : Essence) → Knows P proc ps ls E → LoopsAreOver proc
    → (x y : State) (s : path.PathStep) → StepIsThere P proc s → Within ps (callees_in s) → Within ls (loops_in s)
    → SameTakes P proc E ps ls x y s
takes P proc ps ls E K over x y (path.access_step a) there wp wl = (λ t. t, λ t. t)
takes P proc ps ls E K over x y (path.assume_step l e r) there wp wl =
    along (sym (λ i. (compared e (result_stays x.store x.heap l i) (result_stays x.store x.heap r i) ≡ Some true)
    × (y ≡ x)))
takes P proc ps ls E K over x y (path.set_step a e) there wp wl = (
  λ (v, gives, gets, stays). (v, result_stays x.store x.heap e ∙ gives, gets, stays),
  λ (v, gives, gets, stays). (v, sym (result_stays x.store x.heap e) ∙ gives, gets, stays),
)
takes P proc ps ls E K over x y (path.write_step a e) there wp wl = (
  λ (v, gives, here, to). (v, result_stays x.store x.heap e ∙ gives, here, to),
  λ (v, gives, here, to). (v, sym (result_stays x.store x.heap e) ∙ gives, here, to),
)
takes P proc ps ls E K over x y (path.new_step a) there wp wl = (λ t. t, λ t. t)
takes P proc ps ls E K over x y (path.free_step a) there wp wl = (λ t. t, λ t. t)
takes P proc ps ls E K over x y (path.call_step xs n es) there wp wl =
    call_takes P proc ps ls E K x y xs n es there (wp n (member_first n []))
takes P proc ps ls E K over x y (path.while_step n) there wp wl =
    loop_takes P proc ps ls E K over x y n there (wl n (member_first n []))
takes P proc ps ls E K over x y (path.return_step es) there wp wl = (
  λ (vs, gives, gets, stays). (
    vs,
    (give x.store x.heap es vs).0 gives,
    subst (λ (k : Contract). Gets x.store k.results vs y.store) (sym K.own_is) gets,
    stays,
  ),
  λ (vs, gives, gets, stays). (
    vs,
    (give x.store x.heap es vs).1 gives,
    subst (λ (k : Contract). Gets x.store k.results vs y.store) K.own_is gets,
    stays,
  ),
)

abbrev pub SamePasses : Program → Procedure → Essence → List ℕ → List ℕ → State → path.Check → Type 0
SamePasses P proc E ps ls x c = trace.Passes P proc c x ↔ of.Passes E (check_in ps ls c) x

abbrev Enters : Contract → List Expr → State → Type 0
Enters k es x =
    (vs : List ℕ) (inside : Store) → Give x.store x.heap es vs → map inside k.parameters ≡ vs
    → HasPart k.needs inside x.heap

entry_passes : (P : Program) (proc : Procedure) (ps ls : List ℕ) (E : Essence) → Knows P proc ps ls E
    → (x : State) (at : Span) (n : ℕ) (es : List Expr) → HasProcedure P n → Contains ps n
    → SamePasses P proc E ps ls x (path.callee_entry at n es)
entry_passes P proc ps ls E K x at n es low there = (
  λ passed. subst (λ k. Enters k (map bare_expr es) x) (sym (K.callees n q.0 there q.1))
      (λ vs inside gives arguments. (part q.0.needs inside x.heap).0
      (passed q.0 vs inside q.1 ((give x.store x.heap es vs).1 gives) arguments)),
  λ passed r vs inside is gives arguments.
      (part r.needs inside x.heap).1
      (subst (λ k. Enters k (map bare_expr es) x) (K.callees n r there is) passed vs inside
      ((give x.store x.heap es vs).0 gives) arguments),
)
  where
    q : (r : Procedure) × IsProcedureAt P n r
    q = at_below P.procedures n low

-- what is said of the loop of a number is said of it at its place in the essence
round_passes : (P : Program) (proc : Procedure) (ps ls : List ℕ) (E : Essence) → Knows P proc ps ls E
    → (Q : Assertion → Type 0) → ((f : Assertion) → Q f ↔ Q (bare_assertion f)) → (n : ℕ) → HasLoop proc n
    → Contains ls n →
    ((l : While) → IsLoopAt proc n l → Q l.invariant) ↔ Q (loop_contract_at E (place n ls)).invariant
round_passes P proc ps ls E K Q bare n low there = (
  λ all. subst (λ (k : LoopContract). Q k.invariant) (sym (K.loops n l.0 there l.1))
      ((bare l.0.invariant).0 (all l.0 l.1)),
  λ one k at. (bare k.invariant).1 (subst (λ (m : LoopContract). Q m.invariant) (K.loops n k there at) one),
)
  where
    l : (k : While) × IsLoopAt proc n k
    l = at_below (loops_of proc) n low

pub passes : (P : Program) (proc : Procedure) (ps ls : List ℕ) (E : Essence) → Knows P proc ps ls E
    → (x : State) (c : path.Check) → CheckIsThere P proc c → Within ps (callees_at c) → Within ls (loops_at c)
    → SamePasses P proc E ps ls x c
passes P proc ps ls E K x (path.access a) there wp wl = (λ t. t, λ t. t)
passes P proc ps ls E K x (path.callee_entry at n es) there wp wl =
    entry_passes P proc ps ls E K x at n es there (wp n (member_first n []))
passes P proc ps ls E K x (path.loop_entry at n) there wp wl =
    round_passes P proc ps ls E K (λ f. HasPart f x.store x.heap) (λ f. part f x.store x.heap) n there
    (wl n (member_first n []))
passes P proc ps ls E K x (path.return_check at) there wp wl =
    subst (λ (k : Contract). MeetsOneOf proc.gives x.store x.heap ↔ MeetsOneOf k.gives x.store x.heap) (sym K.own_is)
    (one_of proc.gives x.store x.heap)
passes P proc ps ls E K x (path.loop_end at n) there wp wl =
    round_passes P proc ps ls E K (λ f. Meaning f x.store x.heap) (λ f. meaning f x.store x.heap) n there
    (wl n (member_first n []))

abbrev pub SameStarts : Procedure → Essence → List ℕ → State → path.Start → Type 0
SameStarts p E ls x a = Meaning (path.meets_at p a) x.store x.heap ↔ StartsIn E (start_in ls a) x

pub starts : (P : Program) (proc : Procedure) (ps ls : List ℕ) (E : Essence) → Knows P proc ps ls E
    → (x : State) (a : path.Start) → StartIsThere proc a → Within ls (loops_from a) → SameStarts proc E ls x a
starts P proc ps ls E K x path.at_entry there wl =
    subst (λ (k : Contract). Meaning proc.needs x.store x.heap ↔ Meaning k.needs x.store x.heap) (sym K.own_is)
    (meaning proc.needs x.store x.heap)
starts P proc ps ls E K x (path.at_loop n) there wl =
    let l = at_below (loops_of proc) n there in
    let is : path.meets_at proc (path.at_loop n) ≡ l.0.invariant = ap path.invariant_of l.1 in
    subst (λ f. Meaning f x.store x.heap ↔ Meaning (loop_contract_at E (place n ls)).invariant x.store x.heap) (sym is)
    (subst (λ (k : LoopContract). Meaning l.0.invariant x.store x.heap ↔ Meaning k.invariant x.store x.heap)
    (sym (K.loops n l.0 (wl n (member_first n [])) l.1)) (meaning l.0.invariant x.store x.heap))

pub traces : (P : Program) (proc : Procedure) (ps ls : List ℕ) (E : Essence) → Knows P proc ps ls E → LoopsAreOver proc
    → (ss : List path.PathStep) (x : State) (ys : List State)
    → ((s : path.PathStep) → Contains ss s → StepIsThere P proc s) →
    Within ps (flat_map callees_in ss) → Within ls (flat_map loops_in ss)
    → trace.IsTrace P proc x ss ys ↔ of.IsTrace E x (map (step_in ps ls) ss) ys
traces P proc ps ls E K over [] x [] are wp wl = (λ t. t, λ t. t)
traces P proc ps ls E K over [] x (y ∷ ys) are wp wl = (λ t. t, λ t. t)
traces P proc ps ls E K over (s ∷ ss) x [] are wp wl = (λ t. t, λ t. t)
traces P proc ps ls E K over (s ∷ ss) x (y ∷ ys) are wp wl =
    let first =
    takes P proc ps ls E K over x y s (are s (member_first s ss))
    (λ n there. wp n (Contains-append_left (callees_in s) (flat_map callees_in ss) n there))
    (λ n there. wl n (Contains-append_left (loops_in s) (flat_map loops_in ss) n there)) in
    let more =
    traces P proc ps ls E K over ss y ys (λ t there. are t (member_later s t ss there))
    (λ n there. wp n (Contains-append_right (callees_in s) (flat_map callees_in ss) n there))
    (λ n there. wl n (Contains-append_right (loops_in s) (flat_map loops_in ss) n there)) in
    (λ t. (first.0 t.0, more.0 t.1), λ t. (first.1 t.0, more.1 t.1))
