-- The lines of some conditions, one by one.
use Rattle.std.specs.Prelude.{◌≡◌, ℕ, suc, ◌+◌, ◌-◌, min, List, ◌++◌, length}
use Rattle.std.proofs.Common.{refl, subst, arith}
use Rattle.gh_ast.specs.Plain.{Program}
use Rattle.gh_draw.specs.Descriptions.{description}
use Rattle.gh_lens.specs.Judgements.{IsFoundFor}
use Rattle.gh_lens.specs.declared.judged.Finding.{Finding}
use Rattle.gh_path.specs.Conditions.{conditions, IsConditionAt}
use Rattle.gh_path.specs.Kept.{condition_of}
use Rattle.gh_path.specs.declared.condition.Condition as kept
use Rattle.gh_page.specs.Listings.{AddsLine, AreLines, IsListing, condition_line}

-- the line of a condition that was found out
pub line_added : (P : Program) (n : ℕ) (r : kept.Condition) (f : Finding) (old new text : List ℕ)
    → IsConditionAt P n (condition_of r) → IsFoundFor P r f → text ≡ description P (condition_of r)
    → new ≡ old ++ condition_line f n text → AddsLine P n old new
line_added P n r f old new text at found told is = record {
  one = condition_line f n (description P (condition_of r));
  is = record { condition = condition_of r; at = at; finding = f; found = found; text_is = refl };
  added = subst (λ t. new ≡ old ++ condition_line f n t) told is;
}

-- one line more
pub more : (P : Program) (skip k n : ℕ) (old new : List ℕ) → n ≡ skip + k + 1 → AreLines P skip k old
    → AddsLine P n old new → AreLines P skip (k + 1) new
more P skip k n old new number before adds =
    let next : suc k ≡ k + 1 = omega arith in
    subst (λ m. AreLines P skip m new) next (old, before, subst (λ m. AddsLine P m old new) number adds)

-- all of them
pub all_listed : (P : Program) (skip most k : ℕ) (text : List ℕ) → k ≡ min (length (conditions P) - skip) most
    → AreLines P skip k text → IsListing P skip most text
all_listed P skip most k text count lines = subst (λ m. AreLines P skip m text) count lines
