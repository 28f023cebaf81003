-- What is defined by cases for the code and as a relation for the meaning agrees.
use Rattle.std.specs.Prelude.{◌≡◌, suc, List, [], ◌∷◌, Some, slice_get}
use Rattle.std.specs.Str.{bytes_eq}
use Rattle.std.proofs.Common.{sym, ◌∙◌, ap, inl, inr, arith}
use Rattle.std.proofs.lemmas.Bool.{cases_Bool, false≢true}
use Rattle.std.proofs.lemmas.Slice.Eq.{bytes_eq-Decides}
use Rattle.gh_ast.specs.Plain.{Procedure}
use Rattle.gh_ast.specs.Programs.{Name, name_of, IsFirstNamed}
use Rattle.gh_path.specs.Laws.{CalleesAreNumbered, AssignsDecides}
use Rattle.gh_path.proofs.ListLemmas.{same_some, no_some}
use Rattle.gh_path.proofs.CalleeLemmas.{number_in, number_here, number_later}
use Rattle.gh_path.proofs.LoopVariables.{assigns_is, assigns_true}

one_later : (p : Procedure) (ps : List Procedure) (f : Name) → (name_of p ≡ f → ⊥)
    → number_in (p ∷ ps) f ≡ suc (number_in ps f)
one_later p ps f other = omega (arith, number_later p ps f other)

first_at : (ps : List Procedure) (f : Name) (p : Procedure) → IsFirstNamed ps f p
    → slice_get ps (number_in ps f) ≡ Some p
first_at [] f p is = absurd is
first_at (q ∷ qs) f p is = elim is [
  | inl (named, same) ↦ ap (slice_get (q ∷ qs)) (number_here q qs f named) ∙ ap Some (sym same)
  | inr (other, more) ↦ ap (slice_get (q ∷ qs)) (one_later q qs f other) ∙ first_at qs f p more
]

at_first : (ps : List Procedure) (f : Name) (p : Procedure) → slice_get ps (number_in ps f) ≡ Some p
    → IsFirstNamed ps f p
at_first [] f p at = absurd (no_some p at)
at_first (q ∷ qs) f p at = elim (cases_Bool (bytes_eq (name_of q) f)) [
  | inl on ↦
      let named : name_of q ≡ f = (bytes_eq-Decides (name_of q) f).0 on in
      inl (named, sym (same_some q p (sym (ap (slice_get (q ∷ qs)) (number_here q qs f named)) ∙ at)))
  | inr off ↦
      let other : name_of q ≡ f → ⊥ = λ named. false≢true (sym off ∙ (bytes_eq-Decides (name_of q) f).1 named) in
      inr (other, at_first qs f p (sym (ap (slice_get (q ∷ qs)) (one_later q qs f other)) ∙ at))
]

pub callees_are_numbered : CalleesAreNumbered
callees_are_numbered P f proc = (at_first P.procedures f proc, first_at P.procedures f proc)

pub assigns_decides : AssignsDecides
assigns_decides s y = (assigns_is s y, assigns_true s y)
