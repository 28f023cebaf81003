-- The description of a condition of a program that a text spells is a line: the names in it are words.
use Rattle.std.specs.Prelude.{◌≡◌, ℕ, zero, suc, ◌+◌, ◌<◌, List, [], ◌∷◌, ◌++◌, codes, length, true, Option, Some, None}
use Rattle.std.specs.Prelude.{Contains, slice_get}
use Rattle.std.specs.Fmt.{decimal}
use Rattle.std.proofs.Common.{refl, ap, subst, inl, inr, arith}
use Rattle.std.proofs.lemmas.List.{length-append}
use Rattle.gh_base.specs.declared.place.Span.{Span}
use Rattle.gh_ast.specs.declared.Expr.{Expr}
use Rattle.gh_ast.specs.declared.Expr.TheVariants.{Plain, Read}
use Rattle.gh_ast.specs.Grammar.{Spells}
use Rattle.gh_ast.specs.Plain.{Cond, compare, negation, conjunction, disjunction, Conds, no_conds, cond_first}
use Rattle.gh_ast.specs.Plain.{Statement, set, new, write, free, call, if, while, return, Statements, no_statements}
use Rattle.gh_ast.specs.Plain.{statement_first, Body, Procedure, Program}
use Rattle.gh_ast.specs.Programs.{name_of, body_statements, statements_in}
use Rattle.gh_ast.specs.Tokens.{first_place, cleared}
use Rattle.gh_ast.proofs.Good.{AllGood, GoodExpr, SomeGood, GoodTest, GoodTests, GoodStatement, GoodStatements}
use Rattle.gh_ast.proofs.Good.{GoodBody, GoodProcedure, tokens_are_good, program_is_good}
use Rattle.gh_ast.proofs.Lists.{member_cases, no_member}
use Rattle.gh_path.specs.Conditions.{Condition, conditions}
use Rattle.gh_path.specs.Graphs.{Check, access, callee_entry, loop_entry, return_check, loop_end, check_place, PathStep}
use Rattle.gh_path.specs.Graphs.{set_step, write_step, call_step, return_step, Graph, dead_end, ends, moves, guarded}
use Rattle.gh_path.specs.Graphs.{fork, visits, reads, all_reads, tested, all_tested, some_tested, number_of, lowered}
use Rattle.gh_path.specs.Graphs.{all_lowered, While, loops, all_loops, loops_of, Start, at_entry, at_loop, loop_graph}
use Rattle.gh_path.specs.Graphs.{once_around, graph_from}
use Rattle.gh_path.specs.Paths.{Path, at_end, arrived, past, on, on_true, on_false}
use Rattle.gh_path.proofs.Listed.{all_are_listed}
use Rattle.gh_trace.proofs.Insides.{contained_at}
use Rattle.gh_draw.specs.Descriptions.{place_text, name_in, loops_in, loop_text, start_text, check_text, description}
use Rattle.gh_draw.specs.Drawn.{IsOtherLine}
use Rattle.gh_draw.proofs.Lines.{IsOneLine, no_feed, line_both, word_line, name_line, decimal_line}

-- what is asked names a variable by a word
abbrev NamesWord : Check → Type 0
NamesWord (access o) = IsOneLine o.name
NamesWord (callee_entry at n es) = Unit {0}
NamesWord (loop_entry at n) = Unit {0}
NamesWord (return_check at) = Unit {0}
NamesWord (loop_end at n) = Unit {0}

abbrev NameWords : Graph → Type 0
NameWords dead_end = Unit {0}
NameWords (ends c) = NamesWord c
NameWords (moves p g) = NameWords g
NameWords (guarded c p g) = NamesWord c × NameWords g
NameWords (fork l e r g k) = NameWords g × NameWords k

read_words : (e : Expr) (g : Graph) → GoodExpr true e → NameWords g → NameWords (reads e g)
read_words (Plain o) g h w = w
read_words (Read o) g h w = (name_line o.name h.1, w)

all_read_words : (es : List Expr) (g : Graph) → SomeGood es → NameWords g → NameWords (all_reads es g)
all_read_words [] g h w = w
all_read_words (e ∷ es) g h w = read_words e (all_reads es g) h.0 (all_read_words es g h.1 w)

mutual
  test_words : (t : Cond) (g k : Graph) → GoodTest true t → NameWords g → NameWords k → NameWords (tested t g k)
  test_words (compare l e r) g k h v w =
      read_words l (reads r (fork l e r g k)) h.0 (read_words r (fork l e r g k) h.1 (v, w))
  test_words (negation t) g k h v w = test_words t k g h w v
  test_words (conjunction ts) g k h v w = all_test_words ts g k h.1 v w
  test_words (disjunction ts) g k h v w = some_test_words ts g k h.1 v w

  all_test_words : (ts : Conds) (g k : Graph) → GoodTests true ts → NameWords g → NameWords k
      → NameWords (all_tested ts g k)
  all_test_words no_conds g k h v w = v
  all_test_words (cond_first t ts) g k h v w = test_words t (all_tested ts g k) k h.0 (all_test_words ts g k h.1 v w) w

  some_test_words : (ts : Conds) (g k : Graph) → GoodTests true ts → NameWords g → NameWords k
      → NameWords (some_tested ts g k)
  some_test_words no_conds g k h v w = w
  some_test_words (cond_first t ts) g k h v w =
      test_words t g (some_tested ts g k) h.0 v (some_test_words ts g k h.1 v w)

mutual
  statement_words : (P : Program) (o : ℕ) (s : Statement) (g : Graph) → GoodStatement s → NameWords g
      → NameWords (lowered P o s g)
  statement_words P o (set x e) g h w = read_words e (moves (set_step x e) g) h.1 w
  statement_words P o (new x) g h w = w
  statement_words P o (write x e) g h w =
      read_words e (visits x (moves (write_step x e) g)) h.1 (name_line x.name h.0, w)
  statement_words P o (free x) g h w = (name_line x.name h, w)
  statement_words P o (call xs f es) g h w =
      all_read_words es (guarded (callee_entry f.span (number_of P f.name) es) (call_step xs (number_of P f.name) es) g)
      h.2 (tt, w)
  statement_words P o (if t a c b d) g h w =
      test_words t (all_lowered P o a g) (all_lowered P (o + length (all_loops a)) b g) h.0 (block_words P o a g h.1 w)
      (block_words P (o + length (all_loops a)) b g h.2 w)
  statement_words P o (while at t i body close) g h w = (tt, test_words t dead_end g h.0 tt w)
  statement_words P o (return at es) g h w = all_read_words es (moves (return_step es) (ends (return_check at))) h tt

  block_words : (P : Program) (o : ℕ) (ss : Statements) (g : Graph) → GoodStatements ss → NameWords g
      → NameWords (all_lowered P o ss g)
  block_words P o no_statements g h w = w
  block_words P o (statement_first s ss) g h w =
      statement_words P o s (all_lowered P (o + length (loops s)) ss g) h.0
      (block_words P (o + length (loops s)) ss g h.1 w)

-- the test and the body of a loop
abbrev GoodLoop : While → Type 0
GoodLoop l = GoodTest true l.test × GoodStatements l.body

both_good : (ls ms : List While) → AllGood GoodLoop ls → AllGood GoodLoop ms → AllGood GoodLoop (ls ++ ms)
both_good [] ms p q = q
both_good (l ∷ ls) ms p q = (p.0, both_good ls ms p.1 q)

mutual
  good_loops : (s : Statement) → GoodStatement s → AllGood GoodLoop (loops s)
  good_loops (set x e) h = tt
  good_loops (new x) h = tt
  good_loops (write x e) h = tt
  good_loops (free x) h = tt
  good_loops (call xs f es) h = tt
  good_loops (if t a c b d) h = both_good (all_loops a) (all_loops b) (all_good_loops a h.1) (all_good_loops b h.2)
  good_loops (while at t i body close) h = ((h.0, h.2), all_good_loops body h.2)
  good_loops (return at es) h = tt

  all_good_loops : (ss : Statements) → GoodStatements ss → AllGood GoodLoop (all_loops ss)
  all_good_loops no_statements h = tt
  all_good_loops (statement_first s ss) h =
      both_good (loops s) (all_loops ss) (good_loops s h.0) (all_good_loops ss h.1)

body_good : (b : Option Body) → GoodBody b → GoodStatements (statements_in b)
body_good None h = tt
body_good (Some b) h = h.1

-- the words of the checks once around a loop
once_words : (P : Program) (o : ℕ) (l : While) → GoodLoop l → NameWords (once_around P o l)
once_words P o l h =
    test_words l.test (all_lowered P (suc o) l.body (ends (loop_end l.close o))) dead_end h.0
    (block_words P (suc o) l.body (ends (loop_end l.close o)) h.1 tt) tt

-- the loop of a number, if there is one
good_at : (ls : List While) (o : ℕ) (l : While) → AllGood GoodLoop ls → slice_get ls o ≡ Some l → GoodLoop l
good_at [] o l h at = absurd cc
good_at (m ∷ ls) zero l h at = let same : m ≡ l = cc in subst GoodLoop same h.0
good_at (m ∷ ls) (suc o) l h at = good_at ls o l h.1 at

-- and of those around the loop of a number
around_words : (P : Program) (o : ℕ) (f : Option While) → ((l : While) → f ≡ Some l → GoodLoop l)
    → NameWords (loop_graph P o f)
around_words P o None h = tt
around_words P o (Some l) h = once_words P o l (h l refl)

start_words : (P : Program) (proc : Procedure) → GoodProcedure proc → (a : Start) → NameWords (graph_from P proc a)
start_words P proc h at_entry =
    block_words P 0 (body_statements proc) (ends (return_check proc.close)) (body_good proc.body h.body) tt
start_words P proc h (at_loop o) =
    around_words P o (slice_get (loops_of proc) o)
    (λ l at. good_at (loops_of proc) o l (all_good_loops (body_statements proc) (body_good proc.body h.body)) at)

path_words : {g : Graph} {ps : List PathStep} {c : Check} → Path g ps c → NameWords g → NamesWord c
path_words at_end w = w
path_words arrived w = w.0
path_words (past q) w = path_words q w.1
path_words (on q) w = path_words q w
path_words (on_true q) w = path_words q w.0
path_words (on_false q) w = path_words q w.1

one_good : (ps : List Procedure) (p : Procedure) → AllGood GoodProcedure ps → Contains ps p → GoodProcedure p
one_good [] p h there = absurd (no_member p there)
one_good (q ∷ ps) p h there =
    elim (member_cases q ps p there) [ inl same ↦ subst GoodProcedure same h.0 | inr later ↦ one_good ps p h.1 later ]

-- the texts

place_line : (s : Span) → IsOneLine (place_text s)
place_line s =
    line_both (decimal s.line ++ codes ":") (decimal s.col)
    (line_both (decimal s.line) (codes ":") (decimal_line s.line) (word_line (codes ":") refl)) (decimal_line s.col)

-- a loop's place, where there is one
loop_line : (f : Option While) → IsOneLine (loop_text f)
loop_line None = tt
loop_line (Some l) = place_line l.at

-- a start
start_line : (ls : List While) (a : Start) → IsOneLine (start_text ls a)
start_line ls at_entry = word_line (codes "entry") refl
start_line ls (at_loop n) =
    line_both (codes "loop at ") (loop_text (slice_get ls n)) (word_line (codes "loop at ") refl)
    (loop_line (slice_get ls n))

-- the name of the procedure of a number, if there is one
name_in_line : (ps : List Procedure) → AllGood GoodProcedure ps → (n : ℕ) → IsOneLine (name_in (slice_get ps n))
name_in_line [] h n = tt
name_in_line (p ∷ ps) h zero = name_line (name_of p) h.0.name
name_in_line (p ∷ ps) h (suc n) = name_in_line ps h.1 n

check_line : (P : Program) → AllGood GoodProcedure P.procedures → (c : Check) → NamesWord c → IsOneLine (check_text P c)
check_line P h (access o) w = line_both (codes "access to ") o.name (word_line (codes "access to ") refl) w
check_line P h (callee_entry at n es) w =
    line_both (codes "entry of ") (name_in (slice_get P.procedures n))
    (word_line (codes "entry of ") refl) (name_in_line P.procedures h n)
check_line P h (loop_entry at n) w = word_line (codes "loop entry") refl
check_line P h (return_check at) w = word_line (codes "return") refl
check_line P h (loop_end at n) w = word_line (codes "loop end") refl

-- the parts of a description
parts_line : (name origin check place : List ℕ) → IsOneLine name → IsOneLine origin → IsOneLine check → IsOneLine place
    → IsOneLine (name ++ codes " from " ++ origin ++ codes ": " ++ check ++ codes " at " ++ place)
parts_line name origin check place n o c p =
    line_both (name ++ codes " from " ++ origin ++ codes ": " ++ check ++ codes " at ") place
    (line_both (name ++ codes " from " ++ origin ++ codes ": " ++ check) (codes " at ")
    (line_both (name ++ codes " from " ++ origin ++ codes ": ") check
    (line_both (name ++ codes " from " ++ origin) (codes ": ")
    (line_both (name ++ codes " from ") origin (line_both name (codes " from ") n (word_line (codes " from ") refl))
    o) (word_line (codes ": ") refl))
    c)
    (word_line (codes " at ") refl))
    p

-- they are longer than the word
parts_long : (name origin check place : List ℕ)
    → 7 < length (name ++ codes " from " ++ origin ++ codes ": " ++ check ++ codes " at " ++ place)
parts_long name origin check place = simp length-append (omega arith)

parts_other : (name origin check place : List ℕ) → IsOneLine name → IsOneLine origin → IsOneLine check → IsOneLine place
    → IsOtherLine (name ++ codes " from " ++ origin ++ codes ": " ++ check ++ codes " at " ++ place)
parts_other name origin check place n o c p = record {
  one = no_feed (name ++ codes " from " ++ origin ++ codes ": " ++ check ++ codes " at " ++ place)
      (parts_line name origin check place n o c p);
  other = λ e. absurd (omega (arith, ap length e, parts_long name origin check place));
}

pub description_is_other : (source : List ℕ) (P : Program) (c : Condition) → Spells source P → Contains (conditions P) c
    → IsOtherLine (description P c)
description_is_other source P c (ts, has, spells) there =
    let is = (all_are_listed P c).0 there in
    let proc = is.procedure in
    let good = (program_is_good spells (tokens_are_good first_place has.0 (cleared source) [] ts has.1)).procedures in
    let words =
    path_words is.leads (start_words P proc
    (one_good P.procedures proc good (contained_at P.procedures c.procedure proc is.of)) c.start) in
    let o = slice_get P.procedures c.procedure in
    parts_other (name_in o) (start_text (loops_in o) c.start) (check_text P c.way.check)
    (place_text (check_place c.way.check)) (name_in_line P.procedures good c.procedure)
    (start_line (loops_in o) c.start) (check_line P good c.way.check words)
    (place_line (check_place c.way.check))
