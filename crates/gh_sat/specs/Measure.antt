-- Why a search ends: its measure is the list of the numbers of literals at level 0, 1, .., in lexicographic order.
use Rattle.std.specs.Prelude.{◌≡◌, ℕ, zero, suc, ◌+◌, ◌-◌, ◌*◌, ◌<◌, ◌≤◌, List, [], ◌∷◌, ◌++◌, length, Some}
use Rattle.gh_base.specs.declared.atom.Lit.{Lit}
use Rattle.gh_base.specs.declared.sizes.Sizes.{Sizes}
use Rattle.gh_base.specs.Atoms.{count_of}
use Rattle.gh_sat.specs.declared.trail.Step.{Step}
use Rattle.gh_sat.specs.Trail.{SearchState, cut, IsSound}
use Rattle.gh_sat.specs.Learn.{IsLearnt, one_if, add_clause}
use Rattle.gh_sat.specs.Whole.{GivesLast}

-- how many literals stand at a level
abbrev pub count_at : ℕ → List Step → ℕ
count_at level [] = 0
count_at level (x ∷ xs) = one_if x.level level + count_at level xs

-- the measure is greater: at the first level at which the numbers differ there are more
abbrev pub IsFurther : List Step → List Step → Type 0
IsFurther old new =
    (level : ℕ) × ((k : ℕ) → k < level → count_at k new ≡ count_at k old) × (count_at level old < count_at level new)

-- literals that are added, by a decision or by propagation, lead further
abbrev pub StepsLeadFurther : Type 0
StepsLeadFurther = (trail : List Step) (x : Step) (more : List Step) → IsFurther trail (trail ++ x ∷ more)

-- after the cut to a lesson's level the learnt unit is assigned first, at that level and by the learnt clause
abbrev pub UnitsAreAssigned : Type 0
UnitsAreAssigned =
    (s : SearchState) (k : ℕ) (clause : List Lit) (level : ℕ) (unit : Lit) (new : List Step) → IsSound s
    → IsLearnt s k clause level unit → GivesLast (cut (add_clause s clause) level) new
    → (more : List Step) × (new ≡ (cut s level).trail
    ++ (record { lit = unit; level = level; reason = Some (length s.clauses) }) ∷ [] ++ more)

-- after that cut and the propagation, the measure is greater than before the cut
abbrev pub JumpsLeadFurther : Type 0
JumpsLeadFurther =
    (s : SearchState) (k : ℕ) (clause : List Lit) (level : ℕ) (unit : Lit) (new : List Step) → IsSound s
    → IsLearnt s k clause level unit → GivesLast (cut (add_clause s clause) level) new → IsFurther s.trail new

abbrev pub power : ℕ → ℕ → ℕ
power b zero = 1
power b (suc k) = b * power b k

-- the numbers read as the digits of one number in base atoms + 1, that of level 0 the highest
abbrev pub weight : ℕ → List Step → ℕ
weight atoms [] = 0
weight atoms (x ∷ xs) = power (suc atoms) (atoms - x.level) + weight atoms xs

-- what is left falls where the measure rises
abbrev pub left : Sizes → List Step → ℕ
left sizes trail = power (suc (count_of sizes)) (suc (count_of sizes)) - weight (count_of sizes) trail

-- the search that comes after another leaves less
abbrev pub LeavesLess : SearchState → SearchState → Type 0
LeavesLess old new = left new.sizes new.trail < left old.sizes old.trail

-- literals that are added leave less
abbrev pub StepsLeaveLess : Type 0
StepsLeaveLess =
    (sizes : Sizes) (trail : List Step) (x : Step) (more : List Step) → length (trail ++ x ∷ more) ≤ count_of sizes
    → left sizes (trail ++ x ∷ more) < left sizes trail

-- after the cut to a lesson's level and the propagation, less is left than before the cut
abbrev pub JumpsLeaveLess : Type 0
JumpsLeaveLess =
    (s : SearchState) (k : ℕ) (clause : List Lit) (level : ℕ) (unit : Lit) (new : List Step) → IsSound s
    → IsLearnt s k clause level unit → GivesLast (cut (add_clause s clause) level) new → length new ≤ count_of s.sizes
    → left s.sizes new < left s.sizes s.trail
