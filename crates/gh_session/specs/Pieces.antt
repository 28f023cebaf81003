-- The pieces of a session, and the text that they make.
use Rattle.std.specs.Prelude.{ℕ, List, [], ◌∷◌, ◌++◌, map, cond}
use Rattle.std.specs.List.{concat}
use Rattle.std.proofs.Common.{Bor}
use Rattle.std.specs.Str.{bytes_eq}
use Rattle.gh_session.specs.declared.edits.Edit.{Edit}

abbrev pub value_of : Bor Edit → Edit
value_of b = b.now

-- a piece takes the place of the earlier one of its name, or stands last
abbrev pub placed : List Edit → Edit → List Edit
placed [] p = p ∷ []
placed (q ∷ qs) p = cond (bytes_eq q.name p.name) (p ∷ qs) (q ∷ placed qs p)

-- the pieces of the second list are placed one after the other
abbrev pub all_placed : List Edit → List Edit → List Edit
all_placed qs [] = qs
all_placed qs (p ∷ ps) = all_placed (placed qs p) ps

abbrev pub standing : List Edit → List Edit
standing = all_placed []

-- the head, then the pieces that stand
abbrev pub whole : List ℕ → List Edit → List ℕ
whole head edits = head ++ concat (map (λ e. e.text) (standing edits))
