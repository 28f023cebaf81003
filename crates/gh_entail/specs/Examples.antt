-- Three questions, and their terms.
use Rattle.std.specs.Prelude.{◌≡◌, ℕ, [], ◌∷◌, true, false}
use Rattle.gh_base.specs.declared.place.Span.{Span}
use Rattle.gh_ast.specs.declared.Occ.{Occ}
use Rattle.gh_ast.specs.declared.Operand.{Operand}
use Rattle.gh_ast.specs.declared.Operand.TheVariants.{Null, Var}
use Rattle.gh_ast.specs.Plain.{empty, comparison, cell, segment, star, no_assertions, assertion_first}
use Rattle.gh_path.specs.Terms.{null, value, next}
use Rattle.gh_ast.specs.Questions.{leaf, denial, every, no_claims, claim_first, Question}
use Rattle.gh_entail.specs.Terms.{question_walked}

abbrev pub somewhere : Span
somewhere = record { line = 1; col = 1 }

-- one letter is a name
abbrev pub letter : ℕ → Occ
letter n = record { name = n ∷ []; span = somewhere }

abbrev pub x : Operand
x = Var (letter 120)

abbrev pub y : Operand
y = Var (letter 121)

abbrev pub nil : Operand
nil = Null somewhere

-- `requires { lseg(x, y) &*& lseg(y, null) } ensures { lseg(x, null) }`
abbrev pub composed_segments : Question
composed_segments = record {
  variables = letter 120 ∷ letter 121 ∷ [];
  span = somewhere;
  left = leaf (star (assertion_first (segment x y) (assertion_first (segment y nil) no_assertions)));
  right =
      leaf (segment x nil);
}

-- `requires { lseg(x, null) } && !{ emp } ensures !{ x == null } && !{ x != null }`
abbrev pub not_empty : Question
not_empty =
    record {
      variables = letter 120 ∷ [];
      span = somewhere;
      left = every (claim_first (leaf (segment x nil)) (claim_first (denial (leaf empty)) no_claims));
      right = every (claim_first (denial (leaf (comparison x true nil)))
          (claim_first (denial (leaf (comparison x false nil))) no_claims));
    }

-- `requires { x == null } ensures { acc(x) }`
abbrev pub nowhere : Question
nowhere = record {
  variables = letter 120 ∷ [];
  span = somewhere;
  left = leaf (comparison x true nil);
  right = leaf (cell (letter 120));
}

-- the last value of each is a witness: that of the right claim, of `!{ emp }`, of the right claim
pub record ExamplesHold : Type 0 where
  pub joined_terms : (question_walked composed_segments).kinds ≡ null ∷ value 0 ∷ value 1 ∷ value 2 ∷ []
  pub not_empty_terms : (question_walked not_empty).kinds ≡ null ∷ value 0 ∷ value 1 ∷ []
  pub nowhere_terms : (question_walked nowhere).kinds ≡ null ∷ value 0 ∷ next 0 1 ∷ value 1 ∷ []
