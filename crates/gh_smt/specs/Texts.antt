-- The text of a script: lines of ASCII, each with a line feed, numbers in decimal.
use Rattle.std.specs.Prelude.{◌≡◌, ℕ, List, [], ◌∷◌, ◌++◌, Bool, true, false, codes}
use Rattle.std.specs.List.{flat_map, range_with_len}
use Rattle.std.specs.Fmt.{decimal}
use Rattle.gh_base.specs.declared.atom.Term.{Term}
use Rattle.gh_base.specs.declared.atom.Atom.{Atom}
use Rattle.gh_base.specs.declared.atom.Atom.TheVariants.{Eq, Btwn, Hop, Alloc, Def}
use Rattle.gh_base.specs.declared.atom.Lit.{Lit}
use Rattle.gh_base.specs.Grounds.{Problem}

-- the text `added` was added last to the text `before`
pub record Adds (before after added : List ℕ) : Type 0 where
  pub same : after ≡ before ++ added

-- the sort and the logic
abbrev pub head_text : List ℕ
head_text = codes "(set-logic QF_UF)\n(declare-sort Loc 0)\n"

-- a constant for a term
abbrev pub term_declared : ℕ → List ℕ
term_declared i = codes "(declare-fun t" ++ (decimal i ++ codes " () Loc)\n")

-- the relations of a version
abbrev pub between_declared : ℕ → List ℕ
between_declared i = codes "(declare-fun b" ++ (decimal i ++ codes " (Loc Loc Loc) Bool)\n")

abbrev pub hop_declared : ℕ → List ℕ
hop_declared i = codes "(declare-fun h" ++ (decimal i ++ codes " (Loc Loc) Bool)\n")

abbrev pub alloc_declared : ℕ → List ℕ
alloc_declared i = codes "(declare-fun a" ++ (decimal i ++ codes " (Loc) Bool)\n")

abbrev pub version_declared : ℕ → List ℕ
version_declared i = between_declared i ++ (hop_declared i ++ alloc_declared i)

-- a constant for a definition
abbrev pub definition_declared : ℕ → List ℕ
definition_declared i = codes "(declare-fun d" ++ (decimal i ++ codes " () Bool)\n")

-- a term after a space
abbrev pub spaced_term : Term → List ℕ
spaced_term t = codes " t" ++ decimal t.0

-- a relation, or `=`, applied to some terms
abbrev pub applied : List ℕ → List Term → List ℕ
applied name terms = codes "(" ++ (name ++ (flat_map spaced_term terms ++ codes ")"))

abbrev pub atom_text : Atom → List ℕ
atom_text (Eq a b) = applied (codes "=") (a ∷ b ∷ [])
atom_text (Btwn v x y z) = applied (codes "b" ++ decimal v) (x ∷ y ∷ z ∷ [])
atom_text (Hop v x y) = applied (codes "h" ++ decimal v) (x ∷ y ∷ [])
atom_text (Alloc v x) = applied (codes "a" ++ decimal v) (x ∷ [])
atom_text (Def number) = codes "d" ++ decimal number

-- a text as it is, or negated
abbrev pub signed_text : Bool → List ℕ → List ℕ
signed_text true text = text
signed_text false text = codes "(not " ++ (text ++ codes ")")

abbrev pub lit_text : Lit → List ℕ
lit_text l = signed_text l.positive (atom_text l.atom)

-- a literal after a space
abbrev pub spaced_lit : Lit → List ℕ
spaced_lit l = codes " " ++ lit_text l

-- a clause is asserted: one literal stands alone, several stand in an `or`
abbrev pub assertion_text : List Lit → List ℕ
assertion_text (l ∷ []) = codes "(assert " ++ (lit_text l ++ codes ")\n")
assertion_text ls = codes "(assert (or" ++ (flat_map spaced_lit ls ++ codes "))\n")

-- the commands that ask for satisfiability and end the script
abbrev pub foot_text : List ℕ
foot_text = codes "(check-sat)\n(exit)\n"

abbrev pub script_text : Problem → List ℕ
script_text p =
    head_text
    ++ (flat_map term_declared (range_with_len 0 p.sizes.terms)
    ++ (flat_map version_declared (range_with_len 0 p.sizes.versions)
    ++ (flat_map definition_declared (range_with_len 0 p.sizes.defs)
    ++ (flat_map assertion_text p.clauses ++ foot_text))))
