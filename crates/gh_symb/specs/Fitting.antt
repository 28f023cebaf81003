-- What encodes a part of a condition over terms, where its terms and versions are numbers of 8 bits.
use Rattle.std.specs.Prelude.{◌≡◌, ℕ, ◌<◌, List, [], ◌∷◌}
use Rattle.gh_base.specs.declared.atom.Term.{Term}
use Rattle.gh_ast.specs.Programs.{Name}
use Rattle.gh_path.specs.Terms.{Bindings}
use Rattle.gh_grass.specs.declared.binding.Bond.{Bond}
use Rattle.gh_symb.specs.Symbolic as plain
use Rattle.gh_symb.specs.Symbolic.{either_term}
use Rattle.gh_symb.specs.Formulas.{variables}
use Rattle.gh_symb.specs.Encodings.{IsUnder, IsTermStep, IsTermCheck}
use Rattle.gh_symb.specs.Inside.{binding_of, IsUnderInside, IsStepInside, IsCheckInside}
use Rattle.gh_symb.specs.declared.over_terms.BoundAssertion.{BoundAssertion}
use Rattle.gh_symb.specs.declared.over_terms.TermStep.{TermStep}
use Rattle.gh_symb.specs.declared.over_terms.TermCheck.{TermCheck}

-- the term of a number
abbrev pub IsTermOf : Term → ℕ → Type 0
IsTermOf x n = n < 256 → x.0 ≡ n

abbrev pub EncodesBinding : List Bond → Bindings → Type 0
EncodesBinding bonds b = (x : Name) → (variables b x).0 < 256 → binding_of bonds x ≡ b x

-- .. and beside these terms those of other variables
abbrev pub EncodesBeside : List Bond → Bindings → Bindings → Type 0
EncodesBeside bonds b others = (x : Name) → (variables b x).0 < 256 → binding_of bonds x ≡ either_term (b x) (others x)

abbrev pub EncodesUnder : BoundAssertion → plain.Under → Type 0
EncodesUnder b u = IsUnderInside 256 256 u → IsUnder b u

abbrev pub EncodesStep : TermStep → plain.TermStep → Type 0
EncodesStep e s = IsStepInside 256 256 0 s → IsTermStep e s

abbrev pub EncodesCheck : TermCheck → plain.TermCheck → Type 0
EncodesCheck e k = IsCheckInside 256 256 k → IsTermCheck e k

-- the step has one part in the place of another, whatever parts `before` and `after` encode
abbrev pub JoinsParts : BoundAssertion → BoundAssertion → TermStep → Type 0
JoinsParts before after encoded =
    (u w : plain.Under) → EncodesUnder before u → EncodesUnder after w
    → EncodesStep encoded (plain.part_step u (w ∷ []))

-- the check asks that the whole heap meets the assertion that b encodes
abbrev pub AsksWhole : BoundAssertion → TermCheck → Type 0
AsksWhole b asked = (u : plain.Under) → EncodesUnder b u → EncodesCheck asked (plain.whole (u ∷ []))
