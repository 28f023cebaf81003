-- The procedure that a name means.
use Rattle.std.specs.Prelude.{◌≡◌, List, [], ◌∷◌, Contains}
use Rattle.std.proofs.Common.{sym, ◌∙◌, subst, inl, inr}
use Rattle.gh_ast.specs.Plain.{Procedure}
use Rattle.gh_ast.specs.Programs.{Name, IsFirstNamed}
use Rattle.gh_ast.proofs.Lists.{member_first, member_later}

pub is_member : (ps : List Procedure) (f : Name) (p : Procedure) → IsFirstNamed ps f p → Contains ps p
is_member [] f p d = absurd d
is_member (q ∷ qs) f p d = elim d [
  | inl (named, same) ↦ subst (Contains (q ∷ qs)) (sym same) (member_first q qs)
  | inr (other, more) ↦ member_later q p qs (is_member qs f p more)
]

pub is_one : (ps : List Procedure) (f : Name) (p q : Procedure) → IsFirstNamed ps f p → IsFirstNamed ps f q → p ≡ q
is_one [] f p q d e = absurd d
is_one (r ∷ rs) f p q d e = elim d [
  | inl (named, same) ↦ elim e [ inl (named', same') ↦ same ∙ sym same' | inr (other, more) ↦ absurd (other named) ]
  | inr (other, more) ↦ elim e
      [ inl (named, same) ↦ absurd (other named) | inr (other', more') ↦ is_one rs f p q more more' ]
]
