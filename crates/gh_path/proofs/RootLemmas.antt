-- Starts that are added, one after the other.
use Rattle.std.specs.Prelude.{◌≡◌, ℕ, suc, ◌+◌, ◌<◌, List, [], ◌∷◌, ◌++◌, map, length, get_or, drop}
use Rattle.std.proofs.Common.{refl, sym, ◌∙◌, ap, subst, arith, append_assoc, append-nil}
use Rattle.std.proofs.lemmas.List.{map-append}
use Rattle.gh_ast.specs.declared.Stmt.{Stmt}
use Rattle.gh_ast.specs.Plain.{Procedure, Program, statements_view}
use Rattle.gh_ast.specs.Programs.{body_statements}
use Rattle.gh_path.specs.Graphs.{Graph, dead_end, ends, return_check, loop_end, tested, all_lowered, While, at_entry}
use Rattle.gh_path.specs.Graphs.{once_around, at_loop, loop_starts, graph_from}
use Rattle.gh_path.specs.Conditions.{Condition, condition, course, courses_of, from_starts, from_procedures}
use Rattle.gh_path.specs.Graphs.{IsProcedureAt}
use Rattle.gh_path.specs.Kept.{start_of}
use Rattle.gh_path.specs.Paths.{ways}
use Rattle.gh_path.specs.Roots.{IsRoot, graph_of, from_start, AreRoots, AreStarts}
use Rattle.gh_path.specs.Shown.{Shows, asked_of, AddsNodes}
use Rattle.gh_path.specs.Walking.{loop_of}
use Rattle.gh_path.specs.declared.loops.While.{While as CodeWhile}
use Rattle.gh_path.specs.declared.node.Asked.{Asked}
use Rattle.gh_path.specs.declared.node.Node.{Node}
use Rattle.gh_path.specs.declared.node.Node.TheVariants.{DeadEnd, Ends}
use Rattle.gh_path.specs.declared.starts.Root.{Root}
use Rattle.gh_path.specs.declared.starts.Starts.{Starts}
use Rattle.gh_path.proofs.ShownLemmas.{shows_more, add_end, add_dead, then, still}
use Rattle.gh_path.proofs.ListLemmas.{next}

root_more : (P : Program) (ns ms : List Node) (r : Root) (proc : Procedure) → IsRoot P ns r proc
    → IsRoot P (ns ++ ms) r proc
root_more P ns ms r proc root =
    record {
      procedure = root.procedure;
      shows = shows_more ns ms r.node (graph_of P proc r) root.shows;
      count = root.count;
    }

roots_more : (P : Program) (ns ms : List Node) (rs : List Root) (cs : List Condition) → AreRoots P ns rs cs
    → AreRoots P (ns ++ ms) rs cs
roots_more P ns ms [] cs none = none
roots_more P ns ms (r ∷ rs) cs (proc, ds, root, rest, split) =
    (proc, ds, root_more P ns ms r proc root, roots_more P ns ms rs ds rest, split)

-- the conditions from a start as it is kept
abbrev from_root : Program → Procedure → Root → List Condition
from_root P proc r = from_start P proc r.procedure (start_of r.start)

roots_push : (P : Program) (ns : List Node) (rs : List Root) (r : Root) (proc : Procedure) (cs : List Condition)
    → AreRoots P ns rs cs → IsRoot P ns r proc →
    AreRoots P ns (rs ++ r ∷ []) (cs ++ from_root P proc r)
roots_push P ns [] r proc cs none root =
    (proc, [], root, refl, ap (λ ds. ds ++ from_root P proc r) none ∙ sym (append-nil (from_root P proc r)))
roots_push P ns (q ∷ rs) r proc cs (p', ds, first, rest, split) root = (
  p',
  ds ++ from_root P proc r,
  first,
  roots_push P ns rs r proc ds rest root,
  ap (λ es. es ++ from_root P proc r) split ∙ append_assoc (from_root P p' q) ds (from_root P proc r),
)

-- a start more
pub started : (P : Program) (s t : Starts) (r : Root) (proc : Procedure) (cs : List Condition)
    → AddsNodes s.nodes t.nodes r.node (graph_of P proc r) → t.roots.items ≡ s.roots.items ++ r ∷ [] →
    IsProcedureAt P r.procedure proc → r.count ≡ length (ways (graph_of P proc r)) → AreStarts P s cs
    → AreStarts P t (cs ++ from_start P proc r.procedure (start_of r.start))
started P s t r proc cs adds pushed there count are =
    let old : AreRoots P t.nodes s.roots.items cs =
    subst (λ ns. AreRoots P ns s.roots.items cs) (sym adds.is)
    (roots_more P s.nodes adds.more s.roots.items cs are) in
    let root : IsRoot P t.nodes r proc = record { procedure = there; shows = adds.shows; count = count } in
    subst (λ rs. AreRoots P t.nodes rs (cs ++ from_root P proc r)) (sym pushed)
    (roots_push P t.nodes s.roots.items r proc cs old root)

-- the loops of the procedure of the number n
pub loops_go : (P : Program) (proc : Procedure) (n : ℕ) (ts : List CodeWhile) (i : ℕ) (x : CodeWhile)
    (es all : List Condition) → i < length ts → x ≡ get_or ts i x →
    es ++ map (condition n) (from_starts P proc (loop_starts i (map loop_of (drop i ts)))) ≡ all →
    (es ++ from_start P proc n (at_loop i))
    ++ map (condition n) (from_starts P proc (loop_starts (i + 1) (map loop_of (drop (i + 1) ts)))) ≡ all
loops_go P proc n ts i x es all within is before =
    let one = from_start P proc n (at_loop i) in
    let rest = map loop_of (drop (i + 1) ts) in
    let more : suc i ≡ i + 1 = omega arith in
    append_assoc es one (map (condition n) (from_starts P proc (loop_starts (i + 1) rest)))
    ∙ ap (λ k. es ++ (one ++ map (condition n) (from_starts P proc (loop_starts k rest)))) (sym more)
    ∙ ap (λ ds. es ++ ds) (sym
    (map-append (condition n) (map (course (at_loop i)) (ways (graph_from P proc (at_loop i))))
    (from_starts P proc (loop_starts (suc i) rest))))
    ∙ ap (λ ys. es ++ map (condition n) (from_starts P proc (loop_starts i (map loop_of ys))))
    (sym (next ts i x within is))
    ∙ before

-- the procedures of a program
pub procedures_go : (P : Program) (ps : List Procedure) (i : ℕ) (proc : Procedure) (es all : List Condition)
    → i < length ps → proc ≡ get_or ps i proc → es ++ from_procedures P i (drop i ps) ≡ all →
    (es ++ map (condition i) (courses_of P proc)) ++ from_procedures P (i + 1) (drop (i + 1) ps) ≡ all
procedures_go P ps i proc es all within is before =
    let one = map (condition i) (courses_of P proc) in
    let more : suc i ≡ i + 1 = omega arith in
    append_assoc es one (from_procedures P (i + 1) (drop (i + 1) ps))
    ∙ ap (λ k. es ++ (one ++ from_procedures P k (drop (i + 1) ps))) (sym more)
    ∙ ap (λ qs. es ++ from_procedures P i qs) (sym (next ps i proc within is))
    ∙ before

-- the first node of a procedure's entry, and of once around a loop
pub entry_added : (P : Program) (proc : Procedure) (a b c : List Node) (i j : ℕ) (q : Asked) (xs : List Stmt)
    → b ≡ a ++ Ends q ∷ [] → i ≡ length a → asked_of q ≡ return_check proc.close
    → statements_view xs ≡ body_statements proc →
    ((g : Graph) → Shows b i g → AddsNodes b c j (all_lowered P 0 (statements_view xs) g))
    → AddsNodes a c j (graph_from P proc at_entry)
entry_added P proc a b c i j q xs pushed place asked same more =
    let last : Graph = ends (return_check proc.close) in
    let one = add_end a b i q (return_check proc.close) pushed place asked in
    let two = more last one.shows in
    subst (λ ys. AddsNodes a c j (all_lowered P 0 ys last)) same
    (then a b c i j last (all_lowered P 0 (statements_view xs) last) one two)

pub round_added : (P : Program) (a b c d e : List Node) (i j k m n first : ℕ) (q : Asked) (l : While) (xs : List Stmt)
    → b ≡ a ++ Ends q ∷ [] → i ≡ length a → asked_of q ≡ loop_end l.close n →
    statements_view xs ≡ l.body → first ≡ n + 1
    → ((g : Graph) → Shows b i g → AddsNodes b c j (all_lowered P first (statements_view xs) g)) →
    d ≡ c ++ DeadEnd ∷ [] → k ≡ length c
    → ((g h : Graph) → Shows d j g → Shows d k h → AddsNodes d e m (tested l.test g h))
    → AddsNodes a e m (once_around P n l)
round_added P a b c d e i j k m n first q l xs pushed place asked same number more ended there turn =
    let last : Graph = ends (loop_end l.close n) in
    let g = all_lowered P first (statements_view xs) last in
    let one = add_end a b i q (loop_end l.close n) pushed place asked in
    let two = more last one.shows in
    let three = add_dead c d k ended there in
    let four = turn g dead_end (still c d k j dead_end g three two.shows) three.shows in
    let all = then a c e j m g (tested l.test g dead_end) (then a b c i j last g one two)
    (then c d e k m dead_end (tested l.test g dead_end) three four) in
    let after : first ≡ suc n = omega (arith, number) in
    subst (λ f. AddsNodes a e m (tested l.test (all_lowered P f l.body last) dead_end)) after
    (subst (λ ys. AddsNodes a e m (tested l.test (all_lowered P first ys last) dead_end)) same all)
