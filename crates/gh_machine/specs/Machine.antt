-- Runs of a program.
use Rattle.std.specs.Prelude.{◌≡◌, ◌≢◌, ◌⊎◌, ℕ, List, [], ◌∷◌, map, Bool, cond, Some, None, Contains}
use Rattle.std.specs.FinMap.{get, insert, remove}
use Rattle.gh_ast.specs.Plain.{set, new, write, free, call, if, while, return, Statements, no_statements}
use Rattle.gh_ast.specs.Plain.{statement_first, Procedure, Program}
use Rattle.gh_assert.specs.Heaps.{Heap, Splits}
use Rattle.gh_assert.specs.Meaning.{Store, Meaning, MeetsOneOf}
use Rattle.gh_assert.specs.Walks.{Allocated}
use Rattle.gh_assert.specs.Values.{result, Give, outcome, Gets, HasUnread}
use Rattle.gh_ast.specs.Programs.{names, parameters_of, results_of, body_statements, Declares, joined}

-- a procedure at work: its variables, and what it has still to do
pub record Activation : Type 0 where
  pub procedure : Procedure
  pub store : Store
  pub rest : Statements

-- the heap, the activation at work, and those that wait, the caller first
pub record Config : Type 0 where
  pub heap : Heap
  pub top : Activation
  pub below : List Activation

abbrev pub starting : Procedure → Store → Heap → List Activation → Config
starting p s h below = record {
  heap = h;
  top = record { procedure = p; store = s; rest = body_statements p };
  below = below;
}

-- the top activation goes on
abbrev pub continuing : Config → Store → Heap → Statements → Config
continuing c t h rest = record {
  heap = h;
  top = record { procedure = c.top.procedure; store = t; rest = rest };
  below = c.below;
}

-- the caller's targets get the results' values from the store at the end, and the call is taken off
abbrev pub HandsBack : Statements → Activation → List Activation → Procedure → Store → Heap → Config → Type 0
HandsBack (statement_first (call xs f es) rest) a below p t h d =
    (u : Store) × Gets a.store (names xs) (map t (results_of p)) u
    × (d ≡ record { heap = h; top = record { procedure = a.procedure; store = u; rest = rest }; below = below })
HandsBack rest a below p t h d = ⊥

-- an empty rest above another activation is popped
abbrev pub Pops : List Activation → Procedure → Store → Heap → Config → Type 0
Pops [] p t h d = ⊥
Pops (a ∷ below) p t h d = HandsBack a.rest a below p t h d

-- a return leaves nothing of the rest, and pops where another activation waits
abbrev pub Returns : Config → Store → Config → Type 0
Returns c t d = ((c.below ≡ []) × (d ≡ continuing c t c.heap no_statements)) ⊎ Pops c.below c.top.procedure t c.heap d

-- one step by the first of these statements; where there are none, the activation is popped
abbrev pub StepOn : Program → Statements → Config → Config → Type 0
StepOn P no_statements c d = Pops c.below c.top.procedure c.top.store c.heap d
StepOn P (statement_first (set x e) rest) c d =
    (v : ℕ) × (t : Store) × (result c.top.store c.heap e ≡ Some v) × Gets c.top.store (x.name ∷ []) (v ∷ []) t
    × (d ≡ continuing c t c.heap rest)
StepOn P (statement_first (new x) rest) c d =
    (l : ℕ) × (v : ℕ) × (t : Store) × (l ≢ 0) × (get c.heap l ≡ None) × Gets c.top.store (x.name ∷ []) (l ∷ []) t
    × (d ≡ continuing c t (insert c.heap l v) rest)
StepOn P (statement_first (write x e) rest) c d =
    (v : ℕ) × (result c.top.store c.heap e ≡ Some v) × Allocated c.heap (c.top.store x.name)
    × (d ≡ continuing c c.top.store (insert c.heap (c.top.store x.name) v) rest)
StepOn P (statement_first (free x) rest) c d =
    Allocated c.heap (c.top.store x.name) × (d ≡ continuing c c.top.store (remove c.heap (c.top.store x.name)) rest)
StepOn P (statement_first (call xs f es) rest) c d =
    (proc : Procedure) × (vs : List ℕ) × (t : Store) × Declares P f.name proc × Give c.top.store c.heap es vs
    × (map t (parameters_of proc) ≡ vs) × (d ≡ starting proc t c.heap (c.top ∷ c.below))
StepOn P (statement_first (if test a ca b cb) rest) c d =
    (way : Bool) × (outcome c.top.store c.heap test ≡ Some way)
    × (d ≡ continuing c c.top.store c.heap (cond way (joined a rest) (joined b rest)))
StepOn P (statement_first (while at test inv body close) rest) c d =
    (way : Bool) × (outcome c.top.store c.heap test ≡ Some way)
    × (d ≡ continuing c c.top.store c.heap
    (cond way (joined body (statement_first (while at test inv body close) rest)) rest))
StepOn P (statement_first (return at es) rest) c d =
    (vs : List ℕ) × (t : Store) × Give c.top.store c.heap es vs × Gets c.top.store (results_of c.top.procedure) vs t
    × Returns c t d

-- one step, by the first statement of the topmost rest
abbrev pub Step : Program → Config → Config → Type 0
Step P c d = StepOn P c.top.rest c d

abbrev pub FaultOn : Statements → Store → Heap → Type 0
FaultOn no_statements s h = ⊥
FaultOn (statement_first (set x e) rest) s h = result s h e ≡ None
FaultOn (statement_first (new x) rest) s h = ⊥
FaultOn (statement_first (write x e) rest) s h = (result s h e ≡ None) ⊎ (get h (s x.name) ≡ None)
FaultOn (statement_first (free x) rest) s h = get h (s x.name) ≡ None
FaultOn (statement_first (call xs f es) rest) s h = HasUnread s h es
FaultOn (statement_first (if test a ca b cb) rest) s h = outcome s h test ≡ None
FaultOn (statement_first (while at test inv body close) rest) s h = outcome s h test ≡ None
FaultOn (statement_first (return at es) rest) s h = HasUnread s h es

-- what the first statement reads, writes or frees isn't allocated
abbrev pub Fault : Config → Type 0
Fault c = FaultOn c.top.rest c.top.store c.heap

abbrev pub HasEnded : Config → Type 0
HasEnded c = (c.top.rest ≡ no_statements) × (c.below ≡ [])

-- each configuration leads to the next
abbrev pub IsRun : Program → Config → List Config → Type 0
IsRun P c [] = Unit {0}
IsRun P c (d ∷ ds) = Step P c d × IsRun P d ds

abbrev pub last_of : Config → List Config → Config
last_of c [] = c
last_of c (d ∷ ds) = last_of d ds

-- the heap is the frame and a heap that meets one alternative of what the procedure gives
abbrev pub EndsWell : Procedure → Heap → Config → Type 0
EndsWell p frame c = (h : Heap) × Splits c.heap h frame × MeetsOneOf p.gives c.top.store h

-- no configuration of the run faults, and if the last one has ended, it ends well
pub record IsGoodRun (p : Procedure) (frame : Heap) (c : Config) (ds : List Config) : Type 0 where
  pub never_faults : (d : Config) → Contains (c ∷ ds) d → Fault d → ⊥
  pub ends_well : HasEnded (last_of c ds) → EndsWell p frame (last_of c ds)

-- a program is good: every run of each procedure, from each part that meets what it needs, with any frame beside it
abbrev pub IsGood : Program → Type 0
IsGood P =
    (proc : Procedure) → Contains P.procedures proc → (s : Store) (h part frame : Heap) → Splits h part frame
    → Meaning proc.needs s part →
    (ds : List Config) → IsRun P (starting proc s h []) ds → IsGoodRun proc frame (starting proc s h []) ds
