-- Nodes for lists of expressions, tests and statements, made from the last one on.
use Rattle.std.specs.Prelude.{◌≡◌, ◌⊎◌, ℕ, zero, suc, ◌+◌, ◌<◌, ◌≤◌, min, List, [], ◌∷◌, ◌++◌, length, get_or, drop}
use Rattle.std.proofs.Common.{refl, sym, ◌∙◌, ap, subst, inl, inr, arith, append_assoc}
use Rattle.std.proofs.lemmas.List.{get_or_default, length-append}
use Rattle.gh_ast.specs.declared.Cond.{Cond as CodeCond}
use Rattle.gh_ast.specs.declared.Expr.{Expr}
use Rattle.gh_ast.specs.declared.Stmt.{Stmt}
use Rattle.gh_ast.specs.Plain.{Program, Cond, Statement, cond_of, conds_view, statement_of, statements_view}
use Rattle.gh_path.specs.Graphs.{Graph, reads, all_reads, tested, all_tested, some_tested, loops, all_loops, lowered}
use Rattle.gh_path.specs.Graphs.{all_lowered}
use Rattle.gh_path.specs.Lowered.{first_loops}
use Rattle.gh_path.specs.Shown.{Shows, AddsNodes}
use Rattle.gh_path.specs.declared.node.Node.{Node}
use Rattle.gh_path.proofs.ShownLemmas.{then, still}
use Rattle.gh_path.proofs.ListLemmas.{next}

-- the rest of a list from one element earlier on
earlier : {A : Type 0} (xs : List A) (left i : ℕ) (x : A) → i + 1 ≡ left → i < length xs → x ≡ get_or xs i x
    → drop i xs ≡ x ∷ drop left xs
earlier xs left i x one within is = next xs i x within is ∙ ap (λ n. x ∷ drop n xs) one

pub reads_more : (ns ms ks : List Node) (xs : List Expr) (left i : ℕ) (x : Expr) (a b : ℕ) (g : Graph) → i + 1 ≡ left
    → i < length xs → x ≡ get_or xs i x →
    AddsNodes ns ms a (all_reads (drop left xs) g) → ((h : Graph) → Shows ms a h → AddsNodes ms ks b (reads x h))
    → AddsNodes ns ks b (all_reads (drop i xs) g)
reads_more ns ms ks xs left i x a b g one within is adds more =
    let h = all_reads (drop left xs) g in
    subst (λ ys. AddsNodes ns ks b (all_reads ys g)) (sym (earlier xs left i x one within is))
    (then ns ms ks a b h (reads x h) adds (more h adds.shows))

pub all_more : (ns ms ks : List Node) (xs : List CodeCond) (left i : ℕ) (x : CodeCond) (a b q : ℕ) (g k : Graph)
    → i + 1 ≡ left → i < length xs → x ≡ get_or xs i x →
    Shows ns q k → AddsNodes ns ms a (all_tested (conds_view (drop left xs)) g k) →
    ((h m : Graph) → Shows ms a h → Shows ms q m → AddsNodes ms ks b (tested (cond_of x) h m))
    → AddsNodes ns ks b (all_tested (conds_view (drop i xs)) g k)
all_more ns ms ks xs left i x a b q g k one within is other adds more =
    let h = all_tested (conds_view (drop left xs)) g k in
    subst (λ ys. AddsNodes ns ks b (all_tested (conds_view ys) g k)) (sym (earlier xs left i x one within is))
    (then ns ms ks a b h (tested (cond_of x) h k) adds (more h k adds.shows (still ns ms a q h k adds other)))

pub some_more : (ns ms ks : List Node) (xs : List CodeCond) (left i : ℕ) (x : CodeCond) (a b q : ℕ) (g k : Graph)
    → i + 1 ≡ left → i < length xs → x ≡ get_or xs i x →
    Shows ns q g → AddsNodes ns ms a (some_tested (conds_view (drop left xs)) g k) →
    ((m h : Graph) → Shows ms q m → Shows ms a h → AddsNodes ms ks b (tested (cond_of x) m h))
    → AddsNodes ns ks b (some_tested (conds_view (drop i xs)) g k)
some_more ns ms ks xs left i x a b q g k one within is other adds more =
    let h = some_tested (conds_view (drop left xs)) g k in
    subst (λ ys. AddsNodes ns ks b (some_tested (conds_view ys) g k)) (sym (earlier xs left i x one within is))
    (then ns ms ks a b h (tested (cond_of x) g h) adds (more g h (still ns ms a q h g adds other) adds.shows))

-- the first loop of the statement x has the number n, and that of those after it m
pub block_more : (P : Program) (ns ms ks : List Node) (xs : List Stmt) (left i : ℕ) (x : Stmt) (n m a b : ℕ) (g : Graph)
    → i + 1 ≡ left → i < length xs → x ≡ get_or xs i x →
    m ≡ n + length (loops (statement_of x)) → AddsNodes ns ms a (all_lowered P m (statements_view (drop left xs)) g)
    → ((h : Graph) → Shows ms a h → AddsNodes ms ks b (lowered P n (statement_of x) h)) →
    AddsNodes ns ks b (all_lowered P n (statements_view (drop i xs)) g)
block_more P ns ms ks xs left i x n m a b g one within is sum adds more =
    let k = n + length (loops (statement_of x)) in
    let h = all_lowered P k (statements_view (drop left xs)) g in
    let rest : AddsNodes ns ms a h =
    subst (λ j. AddsNodes ns ms a (all_lowered P j (statements_view (drop left xs)) g)) sum adds in
    subst (λ ys. AddsNodes ns ks b (all_lowered P n (statements_view ys) g)) (sym (earlier xs left i x one within is))
    (then ns ms ks a b h (lowered P n (statement_of x) h) rest (more h rest.shows))

-- at the front of a list
pub reads_whole : (ns ms : List Node) (xs : List Expr) (left a : ℕ) (g : Graph) → left ≡ 0
    → AddsNodes ns ms a (all_reads (drop left xs) g) → AddsNodes ns ms a (all_reads xs g)
reads_whole ns ms xs left a g none adds = subst (λ n. AddsNodes ns ms a (all_reads (drop n xs) g)) none adds

pub all_whole : (ns ms : List Node) (xs : List CodeCond) (left a : ℕ) (g k : Graph) → left ≡ 0
    → AddsNodes ns ms a (all_tested (conds_view (drop left xs)) g k)
    → AddsNodes ns ms a (all_tested (conds_view xs) g k)
all_whole ns ms xs left a g k none adds =
    subst (λ n. AddsNodes ns ms a (all_tested (conds_view (drop n xs)) g k)) none adds

pub some_whole : (ns ms : List Node) (xs : List CodeCond) (left a : ℕ) (g k : Graph) → left ≡ 0
    → AddsNodes ns ms a (some_tested (conds_view (drop left xs)) g k)
    → AddsNodes ns ms a (some_tested (conds_view xs) g k)
some_whole ns ms xs left a g k none adds =
    subst (λ n. AddsNodes ns ms a (some_tested (conds_view (drop n xs)) g k)) none adds

pub block_whole : (P : Program) (ns ms : List Node) (xs : List Stmt) (n left a : ℕ) (g : Graph) → left ≡ 0
    → AddsNodes ns ms a (all_lowered P n (statements_view (drop left xs)) g)
    → AddsNodes ns ms a (all_lowered P n (statements_view xs) g)
block_whole P ns ms xs n left a g none adds =
    subst (λ k. AddsNodes ns ms a (all_lowered P n (statements_view (drop k xs)) g)) none adds

-- a test and a statement by their plain forms
pub test_is : (ns ms : List Node) (i : ℕ) (x y : Cond) (g k : Graph) → x ≡ y → AddsNodes ns ms i (tested y g k)
    → AddsNodes ns ms i (tested x g k)
test_is ns ms i x y g k same adds = subst (λ z. AddsNodes ns ms i (tested z g k)) (sym same) adds

pub statement_is : (P : Program) (n : ℕ) (ns ms : List Node) (i : ℕ) (x y : Statement) (g : Graph) → x ≡ y
    → AddsNodes ns ms i (lowered P n y g) → AddsNodes ns ms i (lowered P n x g)
statement_is P n ns ms i x y g same adds = subst (λ z. AddsNodes ns ms i (lowered P n z g)) (sym same) adds

-- numbers of first loops: each of them, with how many loops come from its statement on, makes the same sum
abbrev pub loops_from : ℕ → List Stmt → ℕ
loops_from i ss = length (all_loops (statements_view (drop i ss)))

pub loops_at : (ss : List Stmt) (left i : ℕ) (x : Stmt) → i + 1 ≡ left → i < length ss → x ≡ get_or ss i x
    → loops_from i ss ≡ length (loops (statement_of x)) + loops_from left ss
loops_at ss left i x one within is =
    ap (λ ys. length (all_loops (statements_view ys))) (earlier ss left i x one within is)
    ∙ length-append (loops (statement_of x)) (all_loops (statements_view (drop left ss)))

pub first_loop : (n : ℕ) (ss : List Stmt) (i : ℕ) → i < length ss
    → get_or (first_loops n ss) i 0 + loops_from i ss ≡ n + length (all_loops (statements_view ss))
first_loop n [] i within = absurd (omega (arith, within))
first_loop n (d ∷ ds) zero within = refl
first_loop n (d ∷ ds) (suc i) within =
    let less : i < length ds = omega (arith, within) in
    let m = n + length (loops (statement_of d)) in
    let rest : get_or (first_loops m ds) i 0 + loops_from i ds ≡ m + length (all_loops (statements_view ds)) =
    first_loop m ds i less in
    omega (arith, rest, length-append (loops (statement_of d)) (all_loops (statements_view ds)))

pub sum_next : (n m t : ℕ) (ss : List Stmt) (i : ℕ) (x : Stmt) → i < length ss → x ≡ get_or ss i x
    → m ≡ min (n + min (length (loops (statement_of x))) 4294967295) 4294967295 →
    t ≤ 65536 → n + loops_from i ss ≡ t → m + loops_from (i + 1) ss ≡ t
sum_next n m t ss i x within is sum low all =
    let one : i + 1 ≡ i + 1 = refl in
    omega (arith, sum, low, all, loops_at ss (i + 1) i x one within is)

pub numbers_next : (n m t : ℕ) (ss : List Stmt) (i : ℕ) (x : Stmt) (ns ms all : List ℕ) → i < length ss
    → x ≡ get_or ss i x → m ≡ min (n + min (length (loops (statement_of x))) 4294967295) 4294967295 →
    t ≤ 65536 → n + loops_from i ss ≡ t → ms ≡ ns ++ n ∷ [] → ns ++ first_loops n (drop i ss) ≡ all
    → ms ++ first_loops m (drop (i + 1) ss) ≡ all
numbers_next n m t ss i x ns ms all within is sum low count pushed before =
    let one : i + 1 ≡ i + 1 = refl in
    let exact : m ≡ n + length (loops (statement_of x)) =
    omega (arith, sum, low, count, loops_at ss (i + 1) i x one within is) in
    ap (λ ks. ks ++ first_loops m (drop (i + 1) ss)) pushed
    ∙ append_assoc ns (n ∷ []) (first_loops m (drop (i + 1) ss))
    ∙ ap (λ k. ns ++ (n ∷ first_loops k (drop (i + 1) ss))) exact
    ∙ ap (λ ys. ns ++ first_loops n ys) (sym (next ss i x within is))
    ∙ before

front_at : {A : Type 0} (xs ys : List A) (k : ℕ) (d : A) → k < length xs → get_or (xs ++ ys) k d ≡ get_or xs k d
front_at [] ys k d less = absurd (omega (arith, less))
front_at (x ∷ xs) ys zero d less = refl
front_at (x ∷ xs) ys (suc k) d less = front_at xs ys k d (omega (arith, less))

last_at : {A : Type 0} (xs : List A) (y d : A) → get_or (xs ++ y ∷ []) (length xs) d ≡ y
last_at [] y d = refl
last_at (x ∷ xs) y d = last_at xs y d

pub each_more : (Q : ℕ → Stmt → Type 0) (ss : List Stmt) (ns ms : List ℕ) (i n : ℕ) (x : Stmt) → i < length ss
    → x ≡ get_or ss i x → length ns ≡ i → ms ≡ ns ++ n ∷ [] → Q n x →
    ((k : ℕ) (d : Stmt) → k < i → Q (get_or ns k 0) (get_or ss k d)) → (k : ℕ) (d : Stmt) → k < i + 1
    → Q (get_or ms k 0) (get_or ss k d)
each_more Q ss ns ms i n x within is long pushed mine before k d less = elim (last_or k i less) [
  | inl earlier ↦
      let same : get_or ns k 0 ≡ get_or ms k 0 =
      sym (ap (λ ys. get_or ys k 0) pushed ∙ front_at ns (n ∷ []) k 0 (omega (arith, earlier, long))) in
      subst (λ m. Q m (get_or ss k d)) same (before k d earlier)
  | inr last ↦
      let there : k ≡ length ns = omega (arith, last, long) in
      let number : n ≡ get_or ms k 0 =
      sym (ap (λ ys. get_or ys k 0) pushed ∙ ap (λ j. get_or (ns ++ n ∷ []) j 0) there ∙ last_at ns n 0) in
      let statement : x ≡ get_or ss k d =
      is ∙ sym (get_or_default ss i d x within) ∙ ap (λ j. get_or ss j d) (sym last) in
      subst (λ (s : Stmt). Q (get_or ms k 0) s) statement (subst (λ m. Q m x) number mine)
]
  where
    last_or : (k i : ℕ) → k < i + 1 → (k < i) ⊎ (k ≡ i)
    last_or k i less = grind arith
