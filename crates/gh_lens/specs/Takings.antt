-- Where an assertion fails: its conjuncts take their parts of a heap in turn.
use Rattle.std.specs.Prelude.{◌≡◌, ◌≢◌, ◌⊎◌, ℕ, zero, suc, Option, Some, None}
use Rattle.std.specs.FinMap.{get, remove}
use Rattle.gh_ast.specs.Plain.{assertion_of, Assertion, empty, comparison, points_to, cell, segment, star, cases}
use Rattle.gh_ast.specs.Plain.{Assertions, no_assertions, assertion_first}
use Rattle.gh_assert.specs.Heaps.{Heap, Splits}
use Rattle.gh_assert.specs.Meaning.{Store, Meaning, HasPart, value}
use Rattle.gh_lens.specs.declared.taking.Taking.{Taking}
use Rattle.gh_lens.specs.declared.taking.Taking.TheVariants.{Blocked, Whole}
use Rattle.gh_lens.specs.declared.taking.Reason.{Reason}
use Rattle.gh_lens.specs.declared.taking.Reason.TheVariants.{Untrue, Missing, Shared, Content}

-- the conjuncts of an assertion
abbrev pub conjuncts : Assertion → Assertions
conjuncts empty = assertion_first empty no_assertions
conjuncts (comparison l e r) = assertion_first (comparison l e r) no_assertions
conjuncts (points_to a t) = assertion_first (points_to a t) no_assertions
conjuncts (cell a) = assertion_first (cell a) no_assertions
conjuncts (segment f t) = assertion_first (segment f t) no_assertions
conjuncts (star fs) = fs
conjuncts (cases t a b) = assertion_first (cases t a b) no_assertions

-- the conjuncts before one, g, take their parts; no part of the rest meets g
abbrev pub IsBlockedAt : Assertions → Store → Heap → Assertion → Heap → Type 0
IsBlockedAt no_assertions s h g rest = ⊥
IsBlockedAt (assertion_first f fs) s h g rest =
    ((g ≡ f) × (rest ≡ h) × (HasPart f s h → ⊥))
    ⊎ ((a : Heap) × (b : Heap) × Splits h a b × Meaning f s a × IsBlockedAt fs s b g rest)

-- all conjuncts take their parts, and this is left over
abbrev pub LeavesOver : Assertions → Store → Heap → Heap → Type 0
LeavesOver no_assertions s h rest = rest ≡ h
LeavesOver (assertion_first f fs) s h rest =
    (a : Heap) × (b : Heap) × Splits h a b × Meaning f s a × LeavesOver fs s b rest

abbrev pub IsTaking : Assertions → Store → Heap → Taking → Type 0
IsTaking fs s h (Blocked a rest) = IsBlockedAt fs s h (assertion_of a.now) rest
IsTaking fs s h (Whole rest) = LeavesOver fs s h rest

-- n cells on the way from x, none of them y, and then, at v, there is none left
abbrev pub BreaksAfter : ℕ → ℕ → ℕ → Heap → ℕ → Type 0
BreaksAfter zero x y h v = (x ≢ y) × (get h x ≡ None) × (v ≡ x)
BreaksAfter (suc n) x y h v = (x ≢ y) × (z : ℕ) × (get h x ≡ Some z) × BreaksAfter n z y (remove h x) v

-- the way from x to y breaks at v
abbrev pub IsBrokenAt : ℕ → ℕ → Heap → ℕ → Type 0
IsBrokenAt x y h v = (n : ℕ) × BreaksAfter n x y h v

-- a cell that isn't left: the whole heap has none at the place, or an earlier conjunct, or the way itself, took it
abbrev pub gone_reason : Option ℕ → ℕ → Reason
gone_reason None v = Missing v
gone_reason (Some w) v = Shared v

-- the content that the place has among what is left, if the cell is left
abbrev pub content_reason : Option ℕ → Option ℕ → ℕ → Reason
content_reason None o v = gone_reason o v
content_reason (Some w) o v = Content v w

-- the way from x to y comes to a cell that isn't left; else the reason isn't told
abbrev pub IsNoSegment : ℕ → ℕ → Heap → Heap → Reason → Type 0
IsNoSegment x y h rest r =
    ((v : ℕ) × IsBrokenAt x y rest v × (r ≡ gone_reason (get h v) v))
    ⊎ (((v : ℕ) → IsBrokenAt x y rest v → ⊥) × (r ≡ Untrue))

-- why no part of what is left of a heap meets a conjunct
abbrev pub IsReason : Assertion → Store → Heap → Heap → Reason → Type 0
IsReason empty s h rest r = r ≡ Untrue
IsReason (comparison a e b) s h rest r = r ≡ Untrue
IsReason (points_to at to) s h rest r = r ≡ content_reason (get rest (s at.name)) (get h (s at.name)) (s at.name)
IsReason (cell at) s h rest r = r ≡ gone_reason (get h (s at.name)) (s at.name)
IsReason (segment x y) s h rest r = IsNoSegment (value s x) (value s y) h rest r
IsReason (star fs) s h rest r = r ≡ Untrue
IsReason (cases t a b) s h rest r = r ≡ Untrue
