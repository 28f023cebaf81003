-- The conditions that a walk has still to give.
use Rattle.std.specs.Prelude.{◌≡◌, ℕ, zero, suc, ◌+◌, ◌-◌, ◌<◌, ◌≤◌, List, [], ◌∷◌, ◌++◌, length, drop, Option, Some}
use Rattle.std.specs.Prelude.{None, Ok, Err, Bool, true, false, slice_get}
use Rattle.std.proofs.Common.{Vec, Global, refl, sym, ◌∙◌, ap, subst, arith}
use Rattle.std.proofs.lemmas.List.{drop_more}
use Rattle.std.proofs.lemmas.Option.{slice_get_within, get_or_from_slice_get}
use Rattle.std.proofs.Math.ListN.{drop_of_length-le}
use Rattle.std.specs.declared.alloc.AllocError.{AllocError}
use Rattle.std.specs.declared.result.Result.{Result}
use Rattle.gh_ast.specs.Plain.{Program}
use Rattle.gh_path.specs.Graphs.{Check, Graph, PathStep, Start}
use Rattle.gh_path.specs.Paths.{Way, ways}
use Rattle.gh_path.specs.Conditions.{Condition, condition, course}
use Rattle.gh_path.specs.Kept.{start_of, condition_of}
use Rattle.gh_path.specs.Shown.{AreHeld, Shows}
use Rattle.gh_path.specs.Routes.{way, AreToCome, IsReached}
use Rattle.gh_path.specs.Roots.{on_ways, graph_of, AreRoots, AreStarts, IsAfter}
use Rattle.gh_path.specs.Walks.{AreLeft, IsWalkBefore, come_to, IsAt, HasCome, Reaches, Gives, IsGiven, Lends, lent}
use Rattle.gh_path.specs.declared.condition.Condition as kept
use Rattle.gh_path.specs.declared.node.Asked.{Asked}
use Rattle.gh_path.specs.declared.node.Node.{Node}
use Rattle.gh_path.specs.declared.node.Origin.{Origin}
use Rattle.gh_path.specs.declared.route.Route.{Route}
use Rattle.gh_path.specs.declared.starts.Root.{Root}
use Rattle.gh_path.specs.declared.starts.Starts.{Starts}
use Rattle.gh_path.specs.declared.walk.Walk.{Walk}

-- at a start
pub at_left : (P : Program) (s : Walk) (cs : List Condition)
    → AreRoots P s.starts.now.nodes (s.present ∷ drop s.next s.starts.now.roots.items) cs →
    ((g : Graph) → Shows s.starts.now.nodes s.present.node g
    → AreToCome s.starts.now.nodes s.route.taken.items s.route.onward (ways g)) →
    AreHeld s.starts.now.nodes s.held.items s.condition.steps.items → AreLeft P s cs
at_left P s cs (proc, ds, root, rest, split) come held = record {
  ways = ways (graph_of P proc s.present);
  later = ds;
  here = come (graph_of P proc s.present) root.shows;
  after = rest;
  are = split;
  held = held;
}

-- at the first one
pub from_first : (P : Program) (s : Starts) (r : Root) (cs : List Condition) → AreStarts P s cs → 0 < length cs
    → ((q : Root) (rs : List Root) → s.roots.items ≡ q ∷ rs → r ≡ q) →
    AreRoots P s.nodes (r ∷ drop 1 s.roots.items) cs
from_first P s r cs roots some first = by_roots s.roots.items refl roots
  where
    by_roots : (rs : List Root) → rs ≡ s.roots.items → AreRoots P s.nodes rs cs
        → AreRoots P s.nodes (r ∷ drop 1 s.roots.items) cs
    by_roots [] same none = let empty : length cs ≡ 0 = ap length none in absurd (omega (arith, empty, some))
    by_roots (q ∷ rs) same are =
        let here : AreRoots P s.nodes (r ∷ rs) cs =
        subst (λ (x : Root). AreRoots P s.nodes (x ∷ rs) cs) (sym (first q rs (sym same))) are in
        subst (λ (qs : List Root). AreRoots P s.nodes (r ∷ drop 1 qs) cs) same here

-- only what is counted changes
pub left_too : (P : Program) (s : Walk) (cs : List Condition) (given end : ℕ) → AreLeft P s cs
    → AreLeft P (record s { given = given; end = end }) cs
left_too P s cs given end left = record {
  ways = left.ways;
  later = left.later;
  here = left.here;
  after = left.after;
  are = left.are;
  held = left.held;
}

-- a condition is passed
drop_one_more : {A : Type 0} (k : ℕ) (xs : List A) → drop 1 (drop k xs) ≡ drop (k + 1) xs
drop_one_more zero xs = refl
drop_one_more {A = A} (suc k) [] =
    let same : suc (k + 1) ≡ suc k + 1 = omega arith in
    let none : List A = [] in
    ap (λ n. drop n none) same
drop_one_more (suc k) (x ∷ xs) =
    let same : suc (k + 1) ≡ suc k + 1 = omega arith in
    drop_one_more k xs ∙ ap (λ n. drop n (x ∷ xs)) same

passed : (P : Program) (s t : Walk) (ds : List Condition) (found : Option Asked) → IsWalkBefore P s ds
    → Reaches s t found → t.given ≡ s.given → t.end ≡ s.end
    → IsWalkBefore P (record t { given = t.given + 1 }) (drop 1 ds)
passed P s t [] found before reach given end =
    record {
      count = omega (arith, before.count, given, end);
      left = λ less. absurd (omega (arith, before.count, given, end, less));
    }
passed P s t (d ∷ ds) found before reach given end =
    let more : length (d ∷ ds) ≡ length ds + 1 = omega arith in
    let less : s.given < s.end = omega (arith, more, before.count) in
    record {
      count = omega (arith, more, before.count, given, end, less);
      left = λ later. left_too P t ds (t.given + 1) t.end (rest found (reach P (d ∷ ds) (before.left less)));
    }
  where
    rest : (o : Option Asked) → HasCome P t o (d ∷ ds) → AreLeft P t ds
    rest None none = absurd cc
    rest (Some a) at = let same : at.rest ≡ ds = tail (come_to t a) at.rest (sym at.are) in
        subst (AreLeft P t) same at.left
      where
        tail : (c : Condition) (cs : List Condition) → c ∷ cs ≡ d ∷ ds → cs ≡ ds
        tail c cs e = cc

pub pass_one : (P : Program) (r s t : Walk) (cs : List Condition) (found : Option Asked) → r.given ≤ s.given
    → IsWalkBefore P s (drop (s.given - r.given) cs) → Reaches s t found → t.given ≡ s.given → t.end ≡ s.end →
    IsWalkBefore P (record t { given = t.given + 1 }) (drop (t.given + 1 - r.given) cs)
pass_one P r s t cs found low before reach given end =
    let k = s.given - r.given in
    let place : k + 1 ≡ t.given + 1 - r.given = omega (arith, low, given) in
    subst (λ ds. IsWalkBefore P (record t { given = t.given + 1 }) ds) (drop_one_more k cs ∙ ap (λ n. drop n cs) place)
    (passed P s t (drop k cs) found before reach given end)

-- what stands after a place in the last part of a list
pub drop_after : {A : Type 0} (xs ys : List A) (n m : ℕ) → IsAfter xs n ys m → drop m ys ≡ drop n xs
drop_after {A = A} xs ys n m is =
    sym (ap (λ k. drop k xs) is.place ∙ ap (drop (length is.front + m)) is.split ∙ behind is.front)
  where
    behind : (fs : List A) → drop (length fs + m) (fs ++ ys) ≡ drop m ys
    behind [] = let none : 0 + m ≡ m = omega arith in ap (λ k. drop k ys) none
    behind (f ∷ fs) =
        let one : length (f ∷ fs) + m ≡ suc (length fs + m) = omega arith in
        ap (λ k. drop k (f ∷ (fs ++ ys))) one ∙ behind fs

-- the present start has no way any more
pub over_left : (P : Program) (s : Walk) (cs : List Condition) → AreLeft P s cs →
    ((ws : List Way) → AreToCome s.starts.now.nodes s.route.taken.items s.route.onward ws → ws ≡ [])
    → AreRoots P s.starts.now.nodes (drop s.next s.starts.now.roots.items) cs
over_left P s cs left over =
    let none : left.ways ≡ [] = over left.ways left.here in
    let same : cs ≡ left.later =
    left.are ∙ ap (λ ws. on_ways s.present.procedure (start_of s.present.start) ws ++ left.later) none in
    subst (AreRoots P s.starts.now.nodes (drop s.next s.starts.now.roots.items)) (sym same) left.after

-- and no start comes any more
pub none_left : (P : Program) (ns : List Node) (rs : List Root) (n : ℕ) (cs : List Condition) → slice_get rs n ≡ None
    → AreRoots P ns (drop n rs) cs → cs ≡ []
none_left P ns rs n cs past roots =
    let none : drop n rs ≡ [] = drop_of_length-le rs (past_of rs n past) in
    subst (λ qs. AreRoots P ns qs cs) none roots
  where
    past_of : (rs : List Root) (n : ℕ) → slice_get rs n ≡ None → length rs ≤ n
    past_of [] n past = omega arith
    past_of (r ∷ rs) zero past = absurd cc
    past_of (r ∷ rs) (suc n) past = omega (arith, past_of rs n past)

-- the next start
pub next_left : (P : Program) (s : Walk) (cs : List Condition) (r : Root) (t : Route)
    → AreRoots P s.starts.now.nodes (drop s.next s.starts.now.roots.items) cs
    → slice_get s.starts.now.roots.items s.next ≡ Some r →
    ((g : Graph) → Shows s.starts.now.nodes r.node g → AreToCome s.starts.now.nodes t.taken.items t.onward (ways g)) →
    AreHeld s.starts.now.nodes s.held.items s.condition.steps.items
    → AreLeft P (record s { present = r; next = s.next + 1; route = t }) cs
next_left P s cs r t roots at come held =
    let rs = s.starts.now.roots.items in
    let split : drop s.next rs ≡ r ∷ drop (s.next + 1) rs =
    drop_more rs s.next r (slice_get_within rs s.next r at)
    ∙ ap (λ q. q ∷ drop (s.next + 1) rs) (get_or_from_slice_get rs s.next r r at) in
    let here = subst (λ qs. AreRoots P s.starts.now.nodes qs cs) split roots in
    record {
      ways = ways (graph_of P here.0 r);
      later = here.1;
      here = come (graph_of P here.0 r) here.2.shows;
      after = here.3;
      are = here.4;
      held = held;
    }

-- a condition is come to
pub found_at : (P : Program) (s : Walk) (cs : List Condition) (a : Asked) (t : Route) → AreLeft P s cs →
    ((ws : List Way) → AreToCome s.starts.now.nodes s.route.taken.items s.route.onward ws
    → IsReached s.starts.now.nodes t.taken.items t.onward a ws) →
    IsAt P (record s { route = t }) a cs
found_at P s cs a t left reach =
    let here = reach left.ways left.here in
    let n = s.present.procedure in
    let start = start_of s.present.start in
    record {
      rest = on_ways n start here.rest ++ left.later;
      are = left.are ∙ ap (λ ws. on_ways n start ws ++ left.later) here.are;
      left = record {
        ways = here.rest;
        later = left.later;
        here = here.later;
        after = left.after;
        are = refl;
        held = left.held;
      };
    }

-- as it is kept
pub kept_is : (n : ℕ) (a : Start) (xs ys : List PathStep) (c d : Check) → xs ≡ ys → c ≡ d
    → condition n (course a (way xs c)) ≡ condition n (course a (way ys d))
kept_is n a xs ys c d steps check =
    ap (λ zs. condition n (course a (way zs c))) steps ∙ ap (λ k. condition n (course a (way ys k))) check

-- another condition is lent, whose steps come from these origins
pub left_with : (P : Program) (s : Walk) (cs : List Condition) (held : Vec Origin Global) (r : kept.Condition)
    → AreLeft P s cs → AreHeld s.starts.now.nodes held.items r.steps.items →
    AreLeft P (record s { held = held; condition = r }) cs
left_with P s cs os r left held = record {
  ways = left.ways;
  later = left.later;
  here = left.here;
  after = left.after;
  are = left.are;
  held = held;
}

-- one item more
pub next_item : (s t : Walk) → s.given < s.end → t.given ≡ s.given → t.end ≡ s.end → Gives s t true
    → IsGiven s (Some (Ok t.condition)) (record t { given = t.given + 1 })
next_item s t less given end gives = λ P cs before.
    let next = gives P cs (before.left less) in
    let count : length cs ≡ length (condition_of t.condition ∷ next.0) = ap length next.1 in
    let more : length (condition_of t.condition ∷ next.0) ≡ length next.0 + 1 = omega arith in (
      next.0,
      next.1,
      record {
        count = omega (arith, count, more, before.count, given, end, less);
        left = λ later. left_too P t next.0 (t.given + 1) t.end next.2;
      },
    )

pub no_item : (s t : Walk) → s.end ≤ s.given → t.end ≤ t.given → IsGiven s None t
no_item s t past over = λ P cs before. (
  [],
  (empty cs (omega (arith, before.count, past)), refl),
  record { count = omega (arith, over); left = λ less. absurd (omega (arith, less, over)) },
)
  where
    empty : (cs : List Condition) → length cs ≡ 0 → cs ≡ []
    empty [] none = refl
    empty (c ∷ cs) none = absurd (omega (arith, none))

-- an answer that can't come: nothing is to come, though something was counted
pub none_item : (s t u : Walk) → s.given < s.end → Gives s u false → t.end ≤ t.given → IsGiven s None t
none_item s t u less gives over = λ P cs before.
    let none : cs ≡ [] = gives P cs (before.left less) in
    ([], (none, refl), record { count = omega (arith, over); left = λ less. absurd (omega (arith, less, over)) })

pub last_item : (s t : Walk) (e : AllocError) → s.given < s.end → t.end ≤ t.given → IsGiven s (Some (Err e)) t
last_item s t e less over = λ P cs before. (
  [],
  ((λ none. let empty : length cs ≡ 0 = ap length none in omega (arith, empty, before.count, less)), refl),
  record { count = omega (arith, over); left = λ less. absurd (omega (arith, less, over)) },
)

-- an item that is lent is given away
pub given_away : (s t u : Walk) (r : kept.Condition) → IsGiven s (Some (Ok r)) t
    → ((P : Program) (cs : List Condition) → AreLeft P t cs → AreLeft P u cs) → u.given ≡ t.given → u.end ≡ t.end
    → IsGiven s (Some (Ok r)) u
given_away s t u r given keeps same end = λ P cs before.
    let item = given P cs before in (
      item.0,
      item.1,
      record {
        count = omega (arith, item.2.count, same, end);
        left = λ less. keeps P item.0 (item.2.left (omega (arith, less, same, end)));
      },
    )

-- no condition is lent any more
pub none_lent : (s t : Walk) (r : Result Bool AllocError) (more : Bool) → r ≡ Ok more → more ≡ false → Lends s r t
    → IsGiven s None t
none_lent s t r more is none came =
    subst (λ (b : Bool). IsGiven s (lent (Ok b) t.condition) t) none
    (subst (λ (q : Result Bool AllocError). IsGiven s (lent q t.condition) t) is came)
