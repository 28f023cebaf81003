-- Lines of their kinds, as one more is added.
use Rattle.std.proofs.Common.{◌≡◌, ◌∙◌, List, [], ◌∷◌, ◌++◌, Some, inl, inr, sym, ap, subst, arith, length, take}
use Rattle.std.proofs.Common.{take_all}
use Rattle.std.specs.Prelude.{slice_get}
use Rattle.std.proofs.lemmas.Bool.{cases_lt}
use Rattle.std.proofs.lemmas.List.{take-append-le, length_push, get_or_push, get_or_append_left}
use Rattle.std.proofs.lemmas.Option.{slice_get-get_or, slice_get_within, get_or_from_slice_get}
use Rattle.gh_base.specs.Grounds.{Problem}
use Rattle.gh_log.specs.Lines.{LogLine}
use Rattle.gh_log.specs.Sections.{IsOfKind, AreOfKind}

-- one more line of its kind
pub kind_push : (p : Problem) (xs : List LogLine) (x : LogLine) → AreOfKind p xs → IsOfKind p xs x
    → AreOfKind p (xs ++ x ∷ [])
kind_push p xs x all one i l at =
    let read = get_or_from_slice_get (xs ++ x ∷ []) i l l at in
    elim (cases_lt i (length xs)) [
      | inl lt ↦
          let old : slice_get xs i ≡ Some l =
          slice_get-get_or xs i l lt ∙ ap Some (sym (get_or_append_left xs (x ∷ []) l i lt) ∙ read) in
          subst (λ (ys : List LogLine). IsOfKind p ys l) (sym (take-append-le i xs (x ∷ []) (omega arith)))
          (all i l old)
      | inr ge ↦
          let last : length xs ≡ i = omega (arith, slice_get_within (xs ++ x ∷ []) i l at, length_push xs x) in
          let whole : take i (xs ++ x ∷ []) ≡ xs =
          take-append-le i xs (x ∷ []) (omega arith) ∙ take_all i xs (omega arith) in
          subst (λ (ys : List LogLine). IsOfKind p ys l) (sym whole)
          (subst (IsOfKind p xs) (sym (get_or_push xs x l i last) ∙ read) one)
    ]
