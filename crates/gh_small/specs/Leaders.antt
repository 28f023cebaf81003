-- The allocated classes of version 0, each by its least term.
use Rattle.std.specs.Prelude.{ℕ, zero, suc, ◌+◌, Bool, true, false, not, cond, nat_eq}
use Rattle.gh_base.specs.Meaning.{Interpretation}
use Rattle.gh_small.specs.Fewer.{is_allocated}

abbrev pub one_if : Bool → ℕ
one_if b = cond b 1 0

-- how many of the numbers below n have a property
abbrev pub counted : (ℕ → Bool) → ℕ → ℕ
counted p zero = 0
counted p (suc n) = counted p n + one_if (p n)

-- one of the terms below u equals t
abbrev pub is_met : Interpretation → ℕ → ℕ → Bool
is_met m t zero = false
is_met m t (suc u) = cond (nat_eq (m.class u) (m.class t)) true (is_met m t u)

-- t is allocated and equal to no term before it
abbrev pub leads : Interpretation → ℕ → Bool
leads m t = cond (m.table (is_allocated t)) (not (is_met m t t)) false

-- how many classes of the first n terms are allocated
abbrev pub allocated_classes : Interpretation → ℕ → ℕ
allocated_classes m n = counted (leads m) n
