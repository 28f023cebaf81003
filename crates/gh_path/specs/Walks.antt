-- A walk over the conditions of a program, one at a time.
use Rattle.std.specs.Prelude.{◌≡◌, ◌≢◌, ℕ, ◌-◌, ◌<◌, List, [], ◌∷◌, ◌++◌, length, drop, Option, Some, None, Ok}
use Rattle.std.specs.Prelude.{Err, Bool, true, false}
use Rattle.std.specs.declared.result.Result.{Result}
use Rattle.std.specs.declared.alloc.AllocError.{AllocError}
use Rattle.gh_ast.specs.Plain.{Program}
use Rattle.gh_path.specs.Paths.{Way}
use Rattle.gh_path.specs.Conditions.{Condition, condition, course}
use Rattle.gh_path.specs.Kept.{start_of, condition_of}
use Rattle.gh_path.specs.Shown.{AreHeld, asked_of}
use Rattle.gh_path.specs.Routes.{way, steps_taken, AreToCome}
use Rattle.gh_path.specs.Roots.{on_ways, AreRoots, AreStarts, AreFrom}
use Rattle.gh_path.specs.declared.condition.Condition as kept
use Rattle.gh_path.specs.declared.node.Asked.{Asked}
use Rattle.gh_path.specs.declared.starts.Sought.{Sought}
use Rattle.gh_path.specs.declared.starts.Starts.{Starts}
use Rattle.gh_path.specs.declared.walk.Walk.{Walk}

-- the conditions that are still to come: from the present start, and from those after it. The steps of the condition
-- that is lent come from the origins that are held
pub record AreLeft (P : Program) (s : Walk) (cs : List Condition) : Type 0 where
  pub ways : List Way
  pub later : List Condition
  pub here : AreToCome s.starts.now.nodes s.route.taken.items s.route.onward ways
  pub after : AreRoots P s.starts.now.nodes (drop s.next s.starts.now.roots.items) later
  pub are : cs ≡ on_ways s.present.procedure (start_of s.present.start) ways ++ later
  pub held : AreHeld s.starts.now.nodes s.held.items s.condition.steps.items

-- these conditions of a program are still to come
pub record IsWalkBefore (P : Program) (s : Walk) (cs : List Condition) : Type 0 where
  pub count : length cs ≡ s.end - s.given
  pub left : s.given < s.end → AreLeft P s cs

-- at a start, where `given` of `end` conditions have been passed, the others are still to come
abbrev pub IsAtStart : Starts → Sought → ℕ → ℕ → Walk → Type 0
IsAtStart s f given end w = (P : Program) (cs : List Condition) → length cs ≡ end - given →
    (given < end → AreFrom P s f cs) → IsWalkBefore P w cs

-- all conditions of the starts are still to come, or those from the place n on
abbrev pub WalksOver : Starts → ℕ → Walk → Type 0
WalksOver s end w = (P : Program) (cs : List Condition) → AreStarts P s cs → length cs ≡ end → IsWalkBefore P w cs

abbrev pub WalksFrom : Starts → ℕ → ℕ → Walk → Type 0
WalksFrom s end n w =
    (P : Program) (cs : List Condition) → AreStarts P s cs → length cs ≡ end → IsWalkBefore P w (drop n cs)

-- those before the place n are passed
abbrev pub PassesTo : Walk → ℕ → Walk → Type 0
PassesTo s n t = (P : Program) (cs : List Condition) → IsWalkBefore P s cs → IsWalkBefore P t (drop (n - s.given) cs)

-- from the present start, over the steps that were taken, to a check
abbrev pub come_to : Walk → Asked → Condition
come_to s a =
    condition s.present.procedure
    (course (start_of s.present.start) (way (steps_taken s.starts.now.nodes s.route.taken.items) (asked_of a)))

-- it is the first of some conditions, and the others are still to come
pub record IsAt (P : Program) (s : Walk) (a : Asked) (cs : List Condition) : Type 0 where
  pub rest : List Condition
  pub are : cs ≡ come_to s a ∷ rest
  pub left : AreLeft P s rest

abbrev pub HasCome : Program → Walk → Option Asked → List Condition → Type 0
HasCome P s None cs = cs ≡ []
HasCome P s (Some a) cs = IsAt P s a cs

-- on to the next condition that is still to come
abbrev pub Reaches : Walk → Walk → Option Asked → Type 0
Reaches s t found = (P : Program) (cs : List Condition) → AreLeft P s cs → HasCome P t found cs

-- the condition that is lent is the first of some conditions, and the others are still to come
abbrev pub IsNextKept : Program → Walk → Bool → List Condition → Type 0
IsNextKept P s false cs = cs ≡ []
IsNextKept P s true cs =
    (ds : List Condition) × (cs ≡ condition_of s.condition ∷ ds) × AreLeft P s ds

-- the next condition that is still to come is kept, if there is one
abbrev pub Gives : Walk → Walk → Bool → Type 0
Gives s t more = (P : Program) (cs : List Condition) → AreLeft P s cs → IsNextKept P t more cs

-- what is to come stays as it is
abbrev pub KeepsLeft : Walk → Walk → Type 0
KeepsLeft s t = (P : Program) (cs : List Condition) → AreLeft P s cs → AreLeft P t cs

-- what is given where some conditions are to come, and what is to come then: none exactly where nothing is to come; an
-- error only where something is, and then nothing is to come any more
abbrev pub IsItem : List Condition → Option (Result kept.Condition AllocError) → List Condition → Type 0
IsItem cs None ds = (cs ≡ []) × (ds ≡ [])
IsItem cs (Some (Ok r)) ds = cs ≡ condition_of r ∷ ds
IsItem cs (Some (Err e)) ds = (cs ≢ []) × (ds ≡ [])

-- one item more
abbrev pub IsGiven : Walk → Option (Result kept.Condition AllocError) → Walk → Type 0
IsGiven s r t =
    (P : Program) (cs : List Condition) → IsWalkBefore P s cs
    → (ds : List Condition) × IsItem cs r ds × IsWalkBefore P t ds

-- an item that is lent: the condition itself, none, or an error
abbrev pub lent : Result Bool AllocError → kept.Condition → Option (Result kept.Condition AllocError)
lent (Ok true) r = Some (Ok r)
lent (Ok false) r = None
lent (Err e) r = Some (Err e)

-- one item more, where a condition is lent
abbrev pub Lends : Walk → Result Bool AllocError → Walk → Type 0
Lends s r t = IsGiven s (lent r t.condition) t

-- fewer items are to come, unless none came
abbrev pub ComesNearer : Walk → Result Bool AllocError → Walk → Type 0
ComesNearer s (Ok true) t = t.end - t.given < s.end - s.given
ComesNearer s (Ok false) t = Unit {0}
ComesNearer s (Err e) t = t.end - t.given < s.end - s.given
