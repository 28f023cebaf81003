-- The kinds of a list of terms once one more is put in: null stays first, and no kind stands twice.
use Rattle.std.specs.Prelude.{◌≡◌, Contains, ℕ, List, [], ◌∷◌, ◌++◌, Bool, true, false, Some, slice_get, get_or, ◌<◌}
use Rattle.std.specs.Prelude.{length, if◌then◌else◌}
use Rattle.std.specs.List.{IsDistinct}
use Rattle.std.proofs.Common.{sym, ◌∙◌, ap, arith}
use Rattle.std.proofs.lemmas.List.{length-append}
use Rattle.std.proofs.lemmas.Option.{slice_get_within, get_or_from_slice_get}
use Rattle.std.proofs.lemmas.Map.Keys.{apart_from_distinct}
use Rattle.gh_base.specs.declared.atom.Term.{Term}
use Rattle.gh_base.specs.declared.term.TermKind.{TermKind}
use Rattle.gh_base.specs.declared.term.TermKind.TheVariants.{Null, Value, Next}
use Rattle.gh_grass.specs.Bindings.{AreDistinctKinds}

-- a test that holds of each kind and itself
pub record HoldsOfItself (eq : TermKind → TermKind → Bool) : Type 0 where
  pub null : eq Null Null ≡ true
  pub value : (n : ℕ) → eq (Value n) (Value n) ≡ true
  pub next : (i : ℕ) (x : Term) → eq (Next i x) (Next i x) ≡ true

pub distinct_kinds : (eq : TermKind → TermKind → Bool) → HoldsOfItself eq → (ks : List TermKind) → IsDistinct eq ks
    → AreDistinctKinds ks
distinct_kinds eq holds ks apart = λ i j d less within same.
    let differ = apart_from_distinct eq ks i j d apart less within in
    let alike : eq (get_or ks i d) (get_or ks j d) ≡ true =
    ap (eq (get_or ks i d)) (sym same) ∙ itself (get_or ks i d) in
    absurd cc
  where
    itself : (k : TermKind) → eq k k ≡ true
    itself Null = holds.null
    itself (Value n) = holds.value n
    itself (Next i x) = holds.next i x

pub few_kept : (ks : List TermKind) (k : TermKind) (there : Bool) → length ks < 255
    → length (if there then ks else ks ++ k ∷ []) < 256
few_kept ks k true few = omega (arith, few)
few_kept ks k false few = rw (length-append ks) (omega (arith, few))

pub first_kept : (ks : List TermKind) (k : TermKind) (there : Bool) → slice_get ks 0 ≡ Some Null
    → slice_get (if there then ks else ks ++ k ∷ []) 0 ≡ Some Null
first_kept [] k there first = absurd cc
first_kept (x ∷ ks) k true first = first
first_kept (x ∷ ks) k false first = first

-- a kind that is there afterwards and wasn't before stands last
pub new_is_last : (ks new : List TermKind) (k : TermKind) (i : ℕ) (there : Bool)
    → new ≡ (if there then ks else ks ++ k ∷ []) → slice_get new i ≡ Some k → (Contains ks k → ⊥) → new ≡ ks ++ k ∷ []
new_is_last ks new k i true made at none =
    let before : slice_get ks i ≡ Some k = ap (λ l. slice_get l i) (sym made) ∙ at in
    absurd (none (i, slice_get_within ks i k before, get_or_from_slice_get ks i k k before))
new_is_last ks new k i false made at none = made
